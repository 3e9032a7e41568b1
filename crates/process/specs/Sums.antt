-- Sums, and what a list of events weighs: the arithmetic that the definition of a way's energy stands on.
use Rattle.std.specs.Prelude.{ℕ, zero, suc, ◌+◌, ◌*◌, ◌<◌, Bool, true, false, ◌&&◌, List, [], ◌∷◌, eqb}

-- f 0 + f 1 + .. + f (n - 1)
unfoldable pub sum : (ℕ → ℕ) → ℕ → ℕ
sum f zero = 0
sum f (suc n) = sum f n + f n

-- `l` is a list of k events, each below n
abbrev pub Events : ℕ → ℕ → List ℕ → Type 0
Events n zero [] = Unit {0}
Events n zero (i ∷ l) = ⊥
Events n (suc k) [] = ⊥
Events n (suc k) (i ∷ l) = (i < n) × Events n k l

-- the sum of f over ALL lists of k events below n: the first event is each of the n in turn, and the rest each list of one event fewer
unfoldable pub over_lists : ℕ → ℕ → (List ℕ → ℕ) → ℕ
over_lists n zero f = f []
over_lists n (suc k) f = sum (λ i. over_lists n k (λ l. f (i ∷ l))) n

-- the product of the weights of a list's events
unfoldable pub weight : (ℕ → ℕ) → List ℕ → ℕ
weight w [] = 1
weight w (i ∷ l) = w i * weight w l

-- whether two lists of numbers are the same
unfoldable pub same : List ℕ → List ℕ → Bool
same [] [] = true
same [] (j ∷ m) = false
same (i ∷ l) [] = false
same (i ∷ l) (j ∷ m) = eqb i j && same l m

-- 1 where a test passes, else 0: summed over all lists it counts those that pass
abbrev pub one_if : Bool → ℕ
one_if true = 1
one_if false = 0
