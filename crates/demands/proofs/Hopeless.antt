-- What number 12 means: where the empty queue has no value at slot 0, no queue has one (`twelve_is_hopeless`). So after a plan that answers 12
-- no run can be started: a start from any bearable queue answers 16 (`twelve_is_16`); rows of later slots may still hold speeds.
use Prim.Native.Nat.{ℕ}
use mathlib.Core.Path.{◌≡◌, subst}
use mathlib.Core.List.{List}
use mathlib.Core.Option.{Option, none, some}
use native.Mathlib.Nat.{sub-zero}
use lib.Dec.{T}
use lib.ListN.{length}
use Rattle.process.specs.Ways.{Way, Good}
use Rattle.model.specs.View.{View, view_of, M}
use Rattle.model.specs.Plan.{process_of, IsValueAt, plan_lines, plan_refusal}
use Rattle.model.specs.Queue.{Queue, positions}
use Rattle.model.specs.Stepper.{queue_right, zero_state}
use Rattle.model.specs.declared.Sheet.{Sheet}
use Rattle.model.specs.Width.{narrow}
use Rattle.model.proofs.Queues.{held_bearable}
use Rattle.model.proofs.Refusal.{accepted}
use Rattle.laws.proofs.Rooms.{plan_accepted}
use Rattle.planner.specs.declared.calls.PlanAnswer.{PlanAnswer}
use Rattle.stepper.specs.Calls.{state_of}
use Rattle.stepper.specs.declared.state.State.{State}
use Rattle.stepper.specs.declared.state.Stepped.{Stepped}
use Rattle.pairs.proofs.Empty.{empty_has_value}
use Rattle.orders.proofs.InOrder.{all_zero}
use Rattle.demands.specs.Calls.{Plans, Starts}
use Rattle.demands.specs.Runs.{queue_of_state}
use Rattle.demands.proofs.Demand1.{plan_answers}
use Rattle.demands.proofs.Demand2.{byte_right_lem}
use Rattle.demands.proofs.NoWay.{state_long, start_is_16}

module _ {sheet : Sheet} {values₀ plan₀ values bytes : List ℕ} {a : PlanAnswer} (call : Plans sheet values₀ plan₀ a values bytes)
    (twelve : a.number ≡ 12) where
  abbrev s : View
  s = view_of sheet

  -- the plan was not refused
  planned : plan_refusal narrow s (length values₀) (length plan₀) ≡ 0
  planned = all_zero (plan_lines narrow s (length values₀) (length plan₀)) ((plan_answers call).twelve.0 twelve).0

  -- no queue has a value at slot 0
  pub twelve_is_hopeless : (w : Queue) → length w ≡ s.bound → (v : ℕ) → IsValueAt s 0 w (some v) → ⊥
  twelve_is_hopeless w long v value =
      let fits = plan_accepted s narrow (length values₀) (length plan₀) planned in
      let least = (empty_has_value s fits.0 w long 0 v value).1 in
      ((plan_answers call).twelve.0 twelve).1 least.way least.holds

  -- so each of them has none there
  none_at_start : (w : Queue) → length w ≡ s.bound → (r : Option ℕ) → IsValueAt s 0 w r → IsValueAt s 0 w none
  none_at_start w long none is_none = is_none
  none_at_start w long (some v) value = absurd (twelve_is_hopeless w long v value)

  -- and a start answers 16
  pub twelve_is_16 : (x : State) → length x.queue ≡ positions → T (queue_right s (state_of x)) →
      {b : Stepped} → Starts x sheet bytes b → (b.number ≡ 16) × (state_of b.state ≡ zero_state) × (b.speed ≡ 0)
  twelve_is_16 x six right starts =
      let w = queue_of_state sheet x in
      let long = state_long call planned x six in
      let slots = (accepted s (plan_accepted s narrow (length values₀) (length plan₀) planned).0).ranged.horizon_low in
      let (r, is_value, is_byte_lem) = byte_right_lem call planned w (held_bearable (M s) s.bound x.queue right) long 0 slots in
      start_is_16 call planned x six right
      (subst (λ (k : ℕ). (σ : Way) → Good (process_of s) s.job_count k w σ → ⊥) (sub-zero s.horizon) (none_at_start w long r is_value)) starts
