-- What a caller learns of a test from its answer.
use Prim.Native.Nat.{ℕ, ◌≤◌}
use mathlib.Core.Path.{◌≡◌, sym, ◌∙◌, subst}
use mathlib.Core.Bool.{Bool, true, false}
use native.Mathlib.Nat.{suc-ne-zero}
use lib.Dec.{T}
use Rattle.refusals.specs.Numbers.{number_of_refusal}
use Rattle.refusals.specs.declared.Refusal.{Refusal}
use Rattle.refusals.specs.declared.Refusal.TheVariants as refusal
use Rattle.model.specs.Tests.{within}
use Rattle.model.proofs.Refusal.{in_range}

-- the test passed
pub passed_by : {test answer : Bool} → answer ≡ test → answer ≡ true → test ≡ true
passed_by e h = sym e ∙ h

-- the test failed
pub failed_by : {test answer : Bool} → answer ≡ test → answer ≡ false → test ≡ false
failed_by e h = sym e ∙ h

-- a number that passed the test of its range is at most the highest
pub within_by : (lowest highest : ℕ) {x : ℕ} {answer : Bool} → answer ≡ within lowest highest x → answer ≡ true → x ≤ highest
within_by lowest highest {x = x} e h =
    (in_range lowest highest x (subst T (sym (passed_by e h)) tt)).1

-- a refusal's number is not 0
pub number_some : (r : Refusal) → number_of_refusal r ≡ 0 → ⊥
number_some refusal.BytesEnd e = suc-ne-zero 0 e
number_some refusal.NotShortest e = suc-ne-zero 1 e
number_some refusal.BytesFollow e = suc-ne-zero 2 e
number_some refusal.Bound e = suc-ne-zero 3 e
number_some refusal.Speeds e = suc-ne-zero 4 e
number_some refusal.Energy e = suc-ne-zero 5 e
number_some refusal.Horizon e = suc-ne-zero 6 e
number_some refusal.Jobs e = suc-ne-zero 7 e
number_some refusal.Values e = suc-ne-zero 8 e
number_some refusal.Queues e = suc-ne-zero 9 e
number_some refusal.Room e = suc-ne-zero 10 e
number_some refusal.NoWay e = suc-ne-zero 11 e
number_some refusal.State e = suc-ne-zero 12 e
number_some refusal.AtHorizon e = suc-ne-zero 13 e
number_some refusal.NoEntry e = suc-ne-zero 14 e
number_some refusal.PlanByte e = suc-ne-zero 15 e
number_some refusal.NextQueue e = suc-ne-zero 16 e
number_some refusal.EnergyTotal e = suc-ne-zero 17 e
