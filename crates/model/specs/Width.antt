-- Document 01, "Energy and plans", of lent memory: how a value, a whole number or none, stands in a buffer of places of 64 bits. It is
-- defined for any width, which says how many places a value takes; 01's width is `narrow`.
use Rattle.std.specs.Prelude.{ℕ, zero, suc, ◌+◌, ◌*◌, ◌-◌, ◌^◌, cond, List, eqb, get_or}
use Rattle.std.proofs.Math.Option.{Option, none, some}
use Rattle.model.specs.Refusal.{value_limit}

-- how many places a value takes, the number that stands for none, and the limit that no value passes
pub record Width : Type 0 where
  pub places : ℕ
  pub none_code : ℕ
  pub limit : ℕ

-- "values, .. places of 64 bits", "none is written 2^64-1 in the values"; number 9 sees to it that no value passes its limit
abbrev pub narrow : Width
narrow = record { places = 1; none_code = 2 ^ 64 - 1; limit = value_limit }

-- the number that stands in n places from place `at` on, the lowest first
unfoldable pub number_from : List ℕ → ℕ → ℕ → ℕ
number_from l at zero = 0
number_from l at (suc n) = get_or l at 0 + 2 ^ 64 * number_from l (suc at) n

-- the number that stands at value place i: value places are counted in values
abbrev pub placed : Width → List ℕ → ℕ → ℕ
placed width l i = number_from l (i * width.places) width.places

-- what a number says: none where it is the code of none, else itself
abbrev pub decode : Width → ℕ → Option ℕ
decode width x = cond (eqb x width.none_code) none (some x)

-- both: the value that stands at value place i
abbrev pub value_in : Width → List ℕ → ℕ → Option ℕ
value_in width l i = decode width (placed width l i)
