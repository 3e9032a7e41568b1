-- The recurrence of 01 as one test of a whole table, each row by the one before it, which the checker computes over the constant.
use Rattle.std.specs.Prelude.{ℕ, zero, suc, ◌+◌, ◌*◌, ◌-◌, Bool, cond, List, leb, eqb, get_or, take, drop}
use Rattle.process.specs.Sums.{sum}
use Rattle.model.specs.Tests.{everywhere}

-- the 49 slacks of a largest speed and a number of positions left
unfoldable pub row : List ℕ → ℕ → ℕ → List ℕ
row table M r = take 49 (drop ((M - 1) * 294 + r * 49) table)

-- "the number of continuations is 1 when r is 0, else the sum of the continuations with r-1 positions over slacks 0 to g+M"
unfoldable pub rule : List ℕ → ℕ → ℕ → ℕ → ℕ
rule table M zero g = 1
rule table M (suc r) g = sum (λ h. get_or (row table M r) h 0) (suc (g + M))

-- "A place with g above (6-r) times M .. holds zero; at every other place the recurrence"
abbrev pub right : List ℕ → ℕ → ℕ → ℕ → ℕ
right table M r g = cond (leb g ((6 - r) * M)) (rule table M r g) 0

unfoldable pub row_ruled : List ℕ → ℕ → ℕ → List ℕ → Bool
row_ruled table M r this = everywhere (λ g. eqb (get_or this g 0) (right table M r g)) 49

unfoldable pub ruled : List ℕ → Bool
ruled table = everywhere (λ m. everywhere (λ r. row_ruled table (suc m) r (row table (suc m) r)) 6) 8
