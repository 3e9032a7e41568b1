-- Demand 2, what stepping spends, over the actual contracts of the planner and the stepper: from any answer that a run may go on from
-- there is one least good way over the slots left such that every run to the horizon, along whatever entries, spends what that way
-- spends along them (`spends_least`). From start that is all that is spent (`started_spends_least`).
use Prim.Native.Nat.{ℕ, ◌+◌, ◌-◌, ◌≤◌, ◌<◌}
use mathlib.Core.Path.{◌≡◌, ap, ◌∙◌, subst}
use mathlib.Core.List.{List}
use native.Mathlib.Nat.{zero-add, sub-zero, le_refl, le_of_lt}
use native.Mathlib.Omega.{arith}
use lib.ListN.{length, get_or}
use Rattle.process.specs.Ways.{Way, spent, IsLeast}
use Rattle.model.specs.View.{View, view_of, weight_at}
use Rattle.model.specs.Plan.{process_of, plan_refusal}
use Rattle.model.specs.Refusal.{sheet_refusal, value_limit}
use Rattle.model.specs.declared.Sheet.{Sheet}
use Rattle.model.specs.Width.{narrow}
use Rattle.laws.proofs.Rooms.{plan_accepted}
use Rattle.laws.proofs.Stepping.{planned_way, planned_least, spends_planned}
use Rattle.planner.specs.declared.calls.PlanAnswer.{PlanAnswer}
use Rattle.stepper.specs.declared.state.State.{State}
use Rattle.stepper.specs.declared.state.Stepped.{Stepped}
use Rattle.demands.specs.Calls.{Plans}
use Rattle.demands.specs.Runs.{queue_of_state, Begins, GoesOn, state_after, told_after, queue_after, Run, NeverRefused, at_start, StartedRun}
use Rattle.demands.proofs.Stepping.{right_plan, going, long, never_refused, start_begins}

module _ {sheet : Sheet} {values₀ plan₀ values bytes : List ℕ} {a : PlanAnswer} (call : Plans sheet values₀ plan₀ a values bytes)
    (planned : plan_refusal narrow (view_of sheet) (length values₀) (length plan₀) ≡ 0) where
  abbrev s : View
  s = view_of sheet

  -- the sheet is accepted
  passed : sheet_refusal value_limit s ≡ 0
  passed = (plan_accepted s narrow (length values₀) (length plan₀) planned).0

  -- a run to the horizon spends what the planned way spends along its entries
  spends_planned_way : (from : Stepped) → GoesOn sheet bytes from → (arrivals : List ℕ) (run : Run sheet bytes from arrivals) →
      from.state.slot + length arrivals ≡ s.horizon → ((k : ℕ) → k < length arrivals → get_or arrivals k 0 < s.job_count) →
      let w = queue_of_state sheet from.state in
      (state_after from run.stepped (length arrivals)).energy ≡
      from.state.energy + spent (process_of s) w (planned_way s from.state.slot w) arrivals
  spends_planned_way from begins arrivals run last entries =
      (whole.stands (length arrivals) (le_refl (length arrivals))).energy_is ∙
      ap (λ (e : ℕ). from.state.energy + e)
      (spends_planned s passed bytes (right_plan call planned) from.state.slot arrivals last (queue_after sheet from run.stepped)
      (λ k. told_after from run.stepped k) (λ k h. (
        long call planned run short entries begins k (le_of_lt h),
        (going call planned run short entries begins k (le_of_lt h)).has_value,
        (whole.steps k h).speed_is,
        (whole.steps k h).queue_is,
      )))
    where
      short : from.state.slot + length arrivals ≤ s.horizon
      short = omega arith

      whole : NeverRefused sheet bytes run
      whole = never_refused call planned run short entries begins

  -- one least good way from the state's queue over the slots left, such that every run to the horizon from there spends what that way
  -- spends along the run's entries
  pub spends_least : (from : Stepped) → GoesOn sheet bytes from →
      let w = queue_of_state sheet from.state in
      (σ : Way) × IsLeast (process_of s) s.job_count (weight_at s) (s.horizon - from.state.slot) w σ ×
      ((arrivals : List ℕ) (run : Run sheet bytes from arrivals) → from.state.slot + length arrivals ≡ s.horizon →
      ((k : ℕ) → k < length arrivals → get_or arrivals k 0 < s.job_count) →
      (state_after from run.stepped (length arrivals)).energy ≡ from.state.energy + spent (process_of s) w σ arrivals)
  spends_least from goes =
      let x = from.state in
      let w = queue_of_state sheet x in
      (planned_way s x.slot w, planned_least s passed x.slot w goes.begins.has_value, spends_planned_way from goes)

  -- from start: over all T slots, and nothing was spent before
  pub started_spends_least : (from : State) → Begins sheet (at_start from) →
      (σ : Way) × IsLeast (process_of s) s.job_count (weight_at s) s.horizon (queue_of_state sheet from) σ ×
      ((arrivals : List ℕ) (run : StartedRun sheet bytes from arrivals) → length arrivals ≡ s.horizon →
      ((k : ℕ) → k < length arrivals → get_or arrivals k 0 < s.job_count) →
      (state_after run.started run.run.stepped (length arrivals)).energy ≡ spent (process_of s) (queue_of_state sheet from) σ arrivals)
  started_spends_least from begins =
      let w = queue_of_state sheet from in (
        planned_way s 0 w,
        subst (λ (k : ℕ). IsLeast (process_of s) s.job_count (weight_at s) k w (planned_way s 0 w)) (sub-zero s.horizon)
            (planned_least s passed 0 w begins.has_value),
        λ arrivals run last entries.
            let (answers, gives, goes) = start_begins call planned run.starts begins in
            spends_planned_way run.started goes arrivals run.run
            (ap (λ (x : State). x.slot + length arrivals) gives ∙ zero-add (length arrivals) ∙ last) entries ∙
            ap (λ (x : State). x.energy + spent (process_of s) (queue_of_state sheet x) (planned_way s x.slot (queue_of_state sheet x)) arrivals)
            gives ∙ zero-add _,
      )
