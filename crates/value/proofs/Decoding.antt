-- Laws of a value, none or a number: when it is none, and that one within a bound fits where the bound does; and of what a number says as a
-- value (`decode` of the model's Width.antt), at any width: when it is none, when one is less than another, and what a sum is.
use Prim.Native.Nat.{ℕ, ◌+◌, ◌*◌, ◌≤◌, ◌<◌}
use mathlib.Core.Path.{◌≡◌, refl, sym, ap, ◌∙◌, subst}
use mathlib.Core.Bool.{Bool, true, false, cond}
use mathlib.Core.Option.{Option, none, some}
use mathlib.Core.Logic.{⊎_elim}
use native.Mathlib.Nat.{eq-or-lt_of_le}
use native.Mathlib.Omega.{arith}
use borrow.Author.Tests.{lt-ltb, le-ltb, ne_eqb, eqb-true, eqb-false}
use lib.Dec.{T, eqb, ltb}
use Rattle.process.specs.Recursion.{UptoOr, plus, times}
use Rattle.process.proofs.Value.{plus_none}
use Rattle.model.specs.Width.{Width, decode}
use Rattle.value.specs.Values.{Fits, missing, less_than}

-- a value of which the test says so is none
pub missing_none : (r : Option ℕ) → missing r ≡ true → r ≡ none
missing_none none e = refl
missing_none (some v) e = absurd (subst T (sym e) tt)

-- a value within a bound fits where the bound does
pub bound_fits : (width : Width) (r : Option ℕ) {most : ℕ} → UptoOr (Unit {0}) r most → most ≤ width.limit → Fits width r
bound_fits width none t h = tt
bound_fits width (some v) t h = omega arith

-- a value that is within the limit wherever it is a number fits
pub fits_all : (width : Width) (r : Option ℕ) → ((v : ℕ) → r ≡ some v → v ≤ width.limit) → Fits width r
fits_all width none h = tt
fits_all width (some v) h = h v refl

-- and the other way round
pub fits_number : (width : Width) (r : Option ℕ) (v : ℕ) → r ≡ some v → Fits width r → v ≤ width.limit
fits_number width r v e fits = subst (Fits width) e fits

-- what a number says as a value, at any width

module _ (width : Width) where
  -- the test against the code tells whether there is none
  pub missing_is : (x : ℕ) → eqb x width.none_code ≡ missing (decode width x)
  missing_is x = go (eqb x width.none_code)
    where
      go : (b : Bool) → b ≡ missing (cond b none (some x))
      go true = refl
      go false = refl

  -- a number that does not stand for none is itself
  pub decode_some : (x : ℕ) → missing (decode width x) ≡ false → decode width x ≡ some x
  decode_some x e = ap (λ (b : Bool). cond b none (some x)) (missing_is x ∙ e)

  -- a number below the code is itself
  pub decode_below : (x : ℕ) → x < width.none_code → decode width x ≡ some x
  decode_below x h = ap (λ (b : Bool). cond b none (some x)) (ne_eqb x width.none_code (λ e. omega arith))

  -- numbers compare as the values do that they say, since the code is above every other
  pub less_is : (x y : ℕ) → x ≤ width.none_code → y ≤ width.none_code → ltb x y ≡ less_than (decode width x) (decode width y)
  less_is x y h k = go (eqb x width.none_code) refl (eqb y width.none_code) refl
    where
      go : (b : Bool) → eqb x width.none_code ≡ b → (c : Bool) → eqb y width.none_code ≡ c →
          ltb x y ≡ less_than (cond b none (some x)) (cond c none (some y))
      go true e c d = le-ltb x y (omega (arith, eqb-true x width.none_code e))
      go false e true d =
          lt-ltb x y (⊎_elim (λ q. absurd (eqb-false x width.none_code e q)) (λ l. omega (arith, eqb-true y width.none_code d)) (eq-or-lt_of_le h))
      go false e false d = refl

  -- the sum of two that are there, which fits
  module _ {first value : Option ℕ} (x by y : ℕ) (here : first ≡ some x) (there : value ≡ some y)
      (fits : Fits width (plus first (times by value))) where
    -- it is there
    sum_there : plus first (times by value) ≡ some (x + by * y)
    sum_there = ap (λ (p : Option ℕ). plus p (times by value)) here ∙ ap (λ (p : Option ℕ). plus (some x) (times by p)) there

    -- its number is within the limit
    pub sum_within : x + by * y ≤ width.limit
    sum_within = subst (Fits width) sum_there fits

    -- and says it, since no number within the limit stands for none
    pub sum_is : width.limit < width.none_code → decode width (x + by * y) ≡ plus first (times by value)
    sum_is h = decode_below (x + by * y) (omega (arith, sum_within)) ∙ sym sum_there

-- none is the sum where either is none

pub sum_first_none : (first value : Option ℕ) (by : ℕ) → first ≡ none → first ≡ plus first (times by value)
sum_first_none first value by e = e ∙ sym (ap (λ (p : Option ℕ). plus p (times by value)) e)

pub sum_other_none : (first value : Option ℕ) (by : ℕ) → value ≡ none → value ≡ plus first (times by value)
sum_other_none first value by e = e ∙ sym (ap (λ (p : Option ℕ). plus first (times by p)) e ∙ plus_none first)
