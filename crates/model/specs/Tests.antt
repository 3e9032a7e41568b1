-- How document 01's tests are put together: the lines of a call, which are its tests in order, each with its number; and the small loops,
-- over places 0 to n-1 and over lists, in which all the rules are written.
use Rattle.std.specs.Prelude.{ℕ, zero, suc, max, Bool, true, false, cond, ◌&&◌, ◌||◌, List, [], ◌∷◌, ◌++◌, leb, ltb, take, replicate}

-- The lines of a call: its numbers in the order of 01's last paragraphs of "Numbers returned", each with the test that 01's table gives it.
-- A number may stand in several lines
infixr 20 ◌⨾◌
pub data Lines : Type 0 where
  -- no test
  nothing : Lines
  -- one test, by its number and whether it passes
  line : ℕ → Bool → Lines
  -- tests and then others
  ◌⨾◌ : Lines → Lines → Lines
  -- for each place from 0 to n-1 its tests
  table : (ℕ → Lines) → ℕ → Lines

-- a test that passes gives 0, one that fails gives its number
abbrev pub check : Bool → ℕ → ℕ
check passes number = cond passes 0 number

-- tests in order: the number of the first that fails, 0 where all pass
infixr 20 ◌then◌
abbrev pub ◌then◌ : ℕ → ℕ → ℕ
zero then later = later
suc number then later = suc number

-- tests of places 0 to n-1 in order: the number of the first that fails, 0 where all pass
unfoldable pub in_order : (ℕ → ℕ) → ℕ → ℕ
in_order number zero = 0
in_order number (suc n) = in_order number n then number n

-- what a call returns: the number of its first line that fails, 0 where all pass
abbrev pub first_of : Lines → ℕ
first_of nothing = 0
first_of (line number passes) = check passes number
first_of (l ⨾ m) = first_of l then first_of m
first_of (table lines n) = in_order (λ i. first_of (lines i)) n

-- lowest ≤ x ≤ highest
abbrev pub within : ℕ → ℕ → ℕ → Bool
within lowest highest x = leb lowest x && leb x highest

-- the test holds at each place below n
unfoldable pub everywhere : (ℕ → Bool) → ℕ → Bool
everywhere test zero = true
everywhere test (suc n) = everywhere test n && test n

-- the test holds at some place below n
unfoldable pub anywhere : (ℕ → Bool) → ℕ → Bool
anywhere test zero = false
anywhere test (suc n) = anywhere test n || test n

-- the first place below n at which the test holds; n where there is none
unfoldable pub first_place : (ℕ → Bool) → ℕ → ℕ
first_place test zero = 0
first_place test (suc n) =
    let place = first_place test n in
    cond (ltb place n) place (cond (test n) n (suc n))

-- the greatest of f 0 to f (n - 1); 0 where n is 0
unfoldable pub greatest : (ℕ → ℕ) → ℕ → ℕ
greatest f zero = 0
greatest f (suc n) = max (greatest f n) (f n)

-- f 0, f 1, .., f (n - 1)
unfoldable pub listed {ℓ} : {A : Type ℓ} → (ℕ → A) → ℕ → List A
listed f zero = []
listed f (suc n) = f zero ∷ listed (λ i. f (suc i)) n

-- f 0, then f 1, .., then f (n - 1), as one list
unfoldable pub in_turn {ℓ} : {A : Type ℓ} → (ℕ → List A) → ℕ → List A
in_turn f zero = []
in_turn f (suc n) = in_turn f n ++ f n

-- a list in n places, the ones past its end filled with `zeros`
abbrev pub padded {ℓ} : {A : Type ℓ} → ℕ → A → List A → List A
padded n zeros l = take n (l ++ replicate n zeros)
