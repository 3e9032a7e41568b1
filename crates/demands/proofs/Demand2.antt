-- Demand 2, its planning half, over the planner's actual contract: what a `plan` that is not refused leaves in lent memory is right by the
-- published problem. For each slot and each bearable queue the value's place says the least scaled energy over all good ways, none exactly
-- where no way is good, and the plan byte is the slowest speed that begins a least way.
use Prim.Native.Nat.{ℕ, zero, suc, ◌-◌, ◌≤◌, ◌<◌}
use mathlib.Core.Path.{◌≡◌, refl, sym, ap, subst}
use mathlib.Core.List.{List}
use mathlib.Core.Logic.{◌↔◌}
use mathlib.Core.Option.{none}
use native.Mathlib.Nat.{le_of_lt, not-suc-le-zero}
use native.Mathlib.Omega.{arith}
use lib.Dec.{T}
use lib.ListN.{length}
use Rattle.process.specs.Ways.{Way, Good}
use Rattle.process.proofs.Definite.{value_unique}
use Rattle.model.specs.View.{View, view_of, weight_at, M}
use Rattle.model.specs.Plan.{process_of, IsValueAt, IsPlanByte, IsPlanByteAt, queue_at, byte_of_queue, value_places, plan_needed, plan_refusal, FromEmpty, Filled, LeavesBy, place_of_queue}
use Rattle.model.specs.Plan as model-plan
use Rattle.model.specs.Queue.{Queue, bearable, number_of}
use Rattle.model.specs.Refusal.{N, sheet_refusal, value_limit}
use Rattle.model.specs.declared.Sheet.{Sheet}
use Rattle.model.specs.Width.{narrow, value_in}
use Rattle.model.proofs.Queues.{number_below, number_place}
use Rattle.laws.proofs.Rooms.{plan_fits}
use Rattle.planner.specs.declared.calls.PlanAnswer.{PlanAnswer}
use Rattle.demands.specs.Calls.{Plans, IsUnrefused, answered}
use Rattle.demands.proofs.Determined.{plan_is}

-- when a plan is not refused

-- where the sheet is accepted and both tables have room
pub planned_by_room : (s : View) (values plan : ℕ) → sheet_refusal value_limit s ≡ 0 → value_places narrow s ≤ values → plan_needed s ≤ plan →
    plan_refusal narrow s values plan ≡ 0
planned_by_room s values plan e h k = sym (plan_fits s narrow values plan e h k)

module _ {sheet : Sheet} {values₀ plan₀ values bytes : List ℕ} {a : PlanAnswer} (call : Plans sheet values₀ plan₀ a values bytes) where
  -- where no refused plan could have answered this, the plan was not refused
  not_refused : (absurdity : (number : ℕ) → answered a ≡ record { number = suc number; queues = 0; least = 0 } → ⊥) →
      plan_refusal narrow (view_of sheet) (length values₀) (length plan₀) ≡ 0
  not_refused absurdity = go (plan_refusal narrow (view_of sheet) (length values₀) (length plan₀)) (plan_is call)
    where
      go : (number : ℕ) → LeavesBy number narrow (view_of sheet) values₀ plan₀ values bytes (answered a) → number ≡ 0
      go zero leaves = refl
      go (suc number) leaves = absurd (absurdity number leaves.answer)

  -- where the answer's number is 0
  pub planned_by_number : a.number ≡ 0 → plan_refusal narrow (view_of sheet) (length values₀) (length plan₀) ≡ 0
  planned_by_number e = not_refused (λ number r. omega (arith, ap (λ (x : model-plan.PlanAnswer). x.number) r))

  -- where it reports its queues, with 0 and with 12 alike
  pub planned_by_queues : 0 < a.queues → plan_refusal narrow (view_of sheet) (length values₀) (length plan₀) ≡ 0
  planned_by_queues h =
      not_refused (λ number r. not-suc-le-zero (subst (λ (n : ℕ). 0 < n) (ap (λ (x : model-plan.PlanAnswer). x.queues) r) h))

  -- a plan that is not refused fills the lent memory
  pub planned_filled : plan_refusal narrow (view_of sheet) (length values₀) (length plan₀) ≡ 0 →
      Filled narrow (view_of sheet) values₀ plan₀ values bytes (answered a)
  planned_filled e = subst (λ (number : ℕ). LeavesBy number narrow (view_of sheet) values₀ plan₀ values bytes (answered a)) e (plan_is call)

  -- and answers N, 12 exactly where the empty queue has none at slot 0, and its least energy there
  pub answer_right : plan_refusal narrow (view_of sheet) (length values₀) (length plan₀) ≡ 0 →
      (a.queues ≡ N (view_of sheet)) × FromEmpty (view_of sheet) (answered a)
  answer_right e = ((planned_filled e).queues, (planned_filled e).empty)

-- a plan that is not refused, at a bearable queue

module _ {sheet : Sheet} {values₀ plan₀ values bytes : List ℕ} {a : PlanAnswer} (call : Plans sheet values₀ plan₀ a values bytes)
    (planned : IsUnrefused sheet values₀ plan₀) (w : Queue)
    (is_bearable : T (bearable (M (view_of sheet)) w)) (positions : length w ≡ (view_of sheet).bound) where
  -- its number is below N
  below : number_of (M (view_of sheet)) w < N (view_of sheet)
  unfolding N
  below = number_below (M (view_of sheet)) w positions is_bearable

  -- and this queue is the one of that number
  here : queue_at (view_of sheet) (number_of (M (view_of sheet)) w) ≡ w
  here = number_place (M (view_of sheet)) w positions is_bearable

  -- where it has a value, that of the slot and this queue
  there : (t : ℕ) → t ≤ sheet.horizon →
      IsValueAt (view_of sheet) t w ((planned_filled call planned).r t (number_of (M (view_of sheet)) w))
  there t h =
      let i = number_of (M (view_of sheet)) w in
      let f = planned_filled call planned in
      subst (λ (q : Queue). IsValueAt (view_of sheet) t q (f.r t i)) here (f.are_values t i h below)

  -- the value's place says the least scaled energy over all good ways from this slot and queue, or none
  pub value_right : (t : ℕ) → t ≤ sheet.horizon → IsValueAt (view_of sheet) t w (value_in narrow values (place_of_queue (view_of sheet) t w))
  value_right t h =
      let f = planned_filled call planned in
      subst (IsValueAt (view_of sheet) t w) (sym (f.in_values.each t (number_of (M (view_of sheet)) w) h below)) (there t h)

  -- the plan byte is the slowest speed that begins a least way, or 255 where there is none
  pub byte_right_lem : (t : ℕ) → t < sheet.horizon → IsPlanByteAt (view_of sheet) t w (byte_of_queue (view_of sheet) bytes t w)
  byte_right_lem t h =
      let i = number_of (M (view_of sheet)) w in
      let f = planned_filled call planned in (
        f.r t i,
        there t (le_of_lt h),
        subst (λ (q : Queue). IsPlanByte (view_of sheet) t q (f.r t i) (byte_of_queue (view_of sheet) bytes t w)) here
            (f.in_plan.bytes t i h below),
      )

  -- "none" stands exactly where no way is good
  pub none_right : (t : ℕ) → t ≤ sheet.horizon →
      (value_in narrow values (place_of_queue (view_of sheet) t w) ≡ none) ↔
      ((σ : Way) → Good (process_of (view_of sheet)) (view_of sheet).job_count (sheet.horizon - t) w σ → ⊥)
  none_right t h = (
    λ e. subst (IsValueAt (view_of sheet) t w) e (value_right t h),
    λ none-good. value_unique (process_of (view_of sheet)) (view_of sheet).job_count (weight_at (view_of sheet)) (sheet.horizon - t) w
        (value_in narrow values (place_of_queue (view_of sheet) t w)) none (value_right t h) none-good,
  )
