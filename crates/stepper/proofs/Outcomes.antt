-- What the functions answer, from what the model's definitions say.
use Prim.Native.Nat.{ℕ, ◌+◌, ◌≤◌, ◌<◌}
use mathlib.Core.Path.{◌≡◌, sym, ap, subst, ◌∙◌}
use mathlib.Core.Bool.{Bool, true, false, cond}
use mathlib.Core.List.{List}
use native.Mathlib.Omega.{arith}
use borrow.Author.Tests.{le-leb, lt-leb, ne_eqb}
use lib.Dec.{T, leb, eqb}
use Rattle.std.proofs.Common.{Result, Ok, Err}
use Rattle.std.specs.Result.{IfOk, MatchResult}
use Rattle.refusals.specs.Numbers.{number_of}
use Rattle.refusals.specs.declared.Refusal.{Refusal}
use Rattle.ranges.proofs.Answers.{number_some}
use Rattle.laws.proofs.Stepper.{moved_by}
use Rattle.model.proofs.Tests.{check_zero, check_true, check_false, then_left, then_passes, then_fails}
use Rattle.model.specs.declared.Sheet.{Sheet}
use Rattle.model.specs.View.{View, view_of, energy_of, M}
use Rattle.model.specs.Queue.{queue_in, places_of, bearable, one_slot}
use Rattle.model.specs.Stepper as model
use Rattle.model.specs.Tests.{check}
use Rattle.sheets.specs.Sizes.{Sized}
use Rattle.sheets.specs.declared.sizes.Sizes.{Sizes}
use Rattle.sheets.proofs.Measures.{sized_same}
use Rattle.stepper.specs.Calls.{state_of, IsStepped}
use Rattle.stepper.specs.declared.state.State.{State}
use Rattle.stepper.specs.declared.state.Stepped.{Stepped}

-- where a number is not 0, what a refusal gives is given
refused_gives : {A : Type 0} {number : ℕ} (done refused : A) → (number ≡ 0 → ⊥) → refused ≡ cond (eqb number 0) done refused
refused_gives {number = number} done refused some = sym (ap (λ (b : Bool). cond b done refused) (ne_eqb number 0 some))

-- a call answers what the model says, by its step: 0, the state to go on from and the speed; or a number that is not 0, the state that a
-- refusal gives, and speed 0
pub step_answered : (step : Result (State × ℕ) Refusal) (given refused : model.State) (speed : ℕ) {said : model.Stepped} →
    said ≡ model.stepped_by (number_of step) given speed refused → IfOk step (λ p. (state_of p.0 ≡ given) × (p.1 ≡ speed)) → (answer : Stepped) →
    {state : State} → answer.number ≡ number_of step →
    MatchResult step (λ p. (answer.state ≡ p.0) × (answer.speed ≡ p.1)) (λ _. (answer.state ≡ state) × (answer.speed ≡ 0)) → state_of state ≡ refused →
    IsStepped said answer.number answer.state answer.speed
step_answered (Ok p) given refused speed e (state_right, speed_right) answer number_is (state_is, speed_is) same =
    record {
      number_is = number_is ∙ sym (ap (λ (r : model.Stepped). r.number) e);
      state_is = ap state_of state_is ∙ state_right ∙ sym (ap (λ (r : model.Stepped). r.state) e);
      speed_is = speed_is ∙ speed_right ∙ sym (ap (λ (r : model.Stepped). r.speed) e);
    }
step_answered (Err r) given refused speed e _ answer number_is (state_is, speed_is) same =
    record {
      number_is = number_is ∙ sym (ap (λ (r : model.Stepped). r.number) e);
      state_is = ap state_of state_is ∙ same ∙ refused_gives given refused (number_some r) ∙ sym (ap (λ (r : model.Stepped). r.state) e);
      speed_is = speed_is ∙ refused_gives speed 0 (number_some r) ∙ sym (ap (λ (r : model.Stepped). r.speed) e);
    }

-- the next state

module _ (s : View) (x : model.State) (speed size deadline : ℕ) where
  abbrev next : model.State
  next = model.moved s x speed size deadline

  -- what the code asked of the queue that it worked out is what 17 asks
  pub asked_of_next : {sizes : Sizes} → Sized s sizes → {queue : List ℕ} {answer : Bool} →
      queue ≡ places_of (one_slot (queue_in s.bound x.queue) speed size deadline) →
      answer ≡ bearable sizes.largest (queue_in sizes.bound queue) → answer ≡ bearable (M s) (model.queue_of s next)
  asked_of_next sized {queue = queue} queue_is e =
      e ∙ sized_same sized (λ m D. bearable m (queue_in D queue)) ∙
      ap (λ (l : List ℕ). bearable (M s) (queue_in s.bound l))
      (queue_is ∙ sym (ap (λ (y : model.State). y.queue) (moved_by s x speed size deadline)))

  -- its energy
  next_energy : next.energy ≡ x.energy + energy_of s speed
  next_energy = ap (λ (y : model.State). y.energy) (moved_by s x speed size deadline)

  -- 17
  pub next_17 : bearable (M s) (model.queue_of s next) ≡ false → model.next_refusal s next ≡ 17
  next_17 wrong = then_fails (bearable (M s) (model.queue_of s next)) 16 _ wrong

  -- 18
  pub next_18 : bearable (M s) (model.queue_of s next) ≡ true → model.energy_limit < x.energy + energy_of s speed → model.next_refusal s next ≡ 18
  next_18 right over =
      then_passes (bearable (M s) (model.queue_of s next)) 17 _ right ∙
      check_false (leb next.energy model.energy_limit) 18 (lt-leb next.energy model.energy_limit (omega (arith, next_energy)))

  -- neither
  pub next_0 : bearable (M s) (model.queue_of s next) ≡ true → x.energy + energy_of s speed ≤ model.energy_limit → model.next_refusal s next ≡ 0
  next_0 right small =
      then_passes (bearable (M s) (model.queue_of s next)) 17 _ right ∙
      check_true (leb next.energy model.energy_limit) 18 (le-leb next.energy model.energy_limit (omega (arith, next_energy)))

-- where neither is told, the next queue is bearable
pub next_bearable : (s : View) (next : model.State) → model.next_refusal s next ≡ 0 → T (bearable (M s) (model.queue_of s next))
next_bearable s next e =
    let first = bearable (M s) (model.queue_of s next) in
    check_zero first 16 (then_left (check first 17) _ e)

-- what is known of a sheet and a plan that are those lent is known of those
pub at_lent : (P : View → List ℕ → Type 0) (sheet₀ sheet : Sheet) (plan₀ plan : List ℕ) → (sheet₀ ≡ sheet) × (plan₀ ≡ plan) →
    P (view_of sheet₀) plan₀ → P (view_of sheet) plan
at_lent P sheet₀ sheet plan₀ plan (same_sheet, same_plan) h =
    subst (λ (l : List ℕ). P (view_of sheet) l) same_plan (subst (λ (s : Sheet). P (view_of s) plan₀) same_sheet h)
