-- What a call that works out a number knows of the test that it asks first: where the test fails there is none, and 0 stands for it.
use Prim.Native.Nat.{ℕ}
use mathlib.Core.Path.{◌≡◌, sym, subst}
use mathlib.Core.Bool.{Bool, true, false, cond}
use lib.Dec.{T}
use Rattle.ranges.proofs.Answers.{passed_by, failed_by}

module _ {test answer : Bool} (asked : answer ≡ test) where
  -- the test passed, and so it holds
  pub holds_by : answer ≡ true → T test
  holds_by h = subst T (sym (passed_by asked h)) tt

  -- a number that stands where the test passes
  pub number_by : {number n : ℕ} → answer ≡ true → number ≡ n → number ≡ cond test n 0
  number_by h e = rw (passed_by asked h) e

  -- 0 stands where it fails
  pub none_by : (n : ℕ) → answer ≡ false → 0 ≡ cond test n 0
  none_by n h = rw (failed_by asked h)
