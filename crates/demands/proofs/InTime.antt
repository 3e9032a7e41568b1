-- Demand 2 said of single jobs, over the actual contracts: the value that `plan` leaves is the least scaled energy over all ways that, with
-- some order of service beside them, miss no job's deadline and keep every pool finishable, none exactly where there is no such way
-- (`value_in_time`, `none_in_time`), the byte the slowest speed that begins a least one (`byte_in_time`); and a run of the stepper with that
-- plan, the jobs served earliest deadline first, is in time for every job (`run_in_time`). All of it follows from what is proved of totals.
use Prim.Native.Nat.{ℕ, ◌-◌, ◌≤◌, ◌<◌}
use mathlib.Core.Path.{◌≡◌, sym, ap, ◌∙◌, subst}
use mathlib.Core.List.{List}
use mathlib.Core.Logic.{◌↔◌}
use mathlib.Core.Option.{Option, none}
use native.Mathlib.Nat.{le_trans, le_of_lt}
use native.Mathlib.Omega.{arith}
use lib.Dec.{T}
use lib.ListN.{length, get_or}
use Rattle.process.specs.Ways.{Way}
use Rattle.model.specs.View.{View, view_of, size_at, deadline_at, M}
use Rattle.model.specs.Plan.{place_of_queue, byte_of_queue, plan_refusal}
use Rattle.model.specs.Queue.{Queue, total, bearable}
use Rattle.model.specs.Stepper.{plan_byte}
use Rattle.model.specs.declared.Sheet.{Sheet}
use Rattle.model.specs.Width.{narrow, value_in}
use Rattle.model.proofs.Queues.{length_totals}
use Rattle.model.proofs.Refusal.{Ranged, accepted}
use Rattle.laws.proofs.Rooms.{plan_accepted}
use Rattle.laws.proofs.Stepper.{byte_at_lem, byte_enough, ending_accepted, advance_accepted, advance_number}
use Rattle.planner.specs.declared.calls.PlanAnswer.{PlanAnswer}
use Rattle.stepper.specs.Calls.{state_of}
use Rattle.stepper.specs.declared.state.Stepped.{Stepped}
use Rattle.jobs.specs.InTime.{InTime, IsValueOfPool, IsByteOfPool}
use Rattle.jobs.specs.Pool.{Pool, due_within, queue_of_pool, NoneLate, SlotsUpto}
use Rattle.jobs.specs.Runs.{earliest_run}
use Rattle.jobs.proofs.Finishable.{bearable_finishable}
use Rattle.jobs.proofs.Given.{misses_none_done}
use Rattle.jobs.proofs.Runs.{QueuesAlong, along_earliest, ends_on_time}
use Rattle.jobs.proofs.Ways.{good_in_time, value_of_pool, byte_of_pool}
use Rattle.demands.specs.Calls.{Plans}
use Rattle.demands.specs.InTime.{CanBeFinished, slot_at, first_slots, pool_now, InTimeAfter}
use Rattle.demands.specs.Runs.{queue_of_state, GoesOn, state_after, told_after, queue_after, Run, AreEntries, EndsByHorizon, NeverRefused}
use Rattle.demands.proofs.Demand2.{value_right, byte_right_lem, none_right}
use Rattle.demands.proofs.Determined.{advance_is}
use Rattle.demands.proofs.Stepping.{never_refused}

module _ {sheet : Sheet} {values₀ plan₀ values bytes : List ℕ} {a : PlanAnswer} (call : Plans sheet values₀ plan₀ a values bytes)
    (planned : plan_refusal narrow (view_of sheet) (length values₀) (length plan₀) ≡ 0) where
  abbrev s : View
  s = view_of sheet

  -- the sheet keeps every range
  ranged : Ranged s
  ranged = (accepted s (plan_accepted s narrow (length values₀) (length plan₀) planned).0).ranged

  -- jobs that wait, none of them late or with more than D slots left
  module _ (p : Pool) (slots : SlotsUpto s.bound p) (on_time : NoneLate p) where
    -- which can be finished
    module _ (finishable : CanBeFinished sheet p) where
      is_bearable : T (bearable (M s) (queue_of_pool s.bound p))
      is_bearable = (bearable_finishable s.bound ranged.bound_low p slots on_time (M s)).1 finishable

      long : length (queue_of_pool s.bound p) ≡ s.bound
      long = length_totals s.bound (due_within p)

      -- the value's place says the least scaled energy over all ways that are in time for these jobs, or none
      pub value_in_time : (t : ℕ) → t ≤ sheet.horizon →
          IsValueOfPool s t p (value_in narrow values (place_of_queue s t (queue_of_pool s.bound p)))
      value_in_time t h =
          value_of_pool s ranged p slots on_time t (value_in narrow values (place_of_queue s t (queue_of_pool s.bound p)))
          (value_right call planned (queue_of_pool s.bound p) is_bearable long t h)

      -- none exactly where no way is
      pub none_in_time : (t : ℕ) → t ≤ sheet.horizon →
          (value_in narrow values (place_of_queue s t (queue_of_pool s.bound p)) ≡ none) ↔ ((σ : Way) → InTime s (s.horizon - t) p σ → ⊥)
      none_in_time t h =
          let right = none_right call planned (queue_of_pool s.bound p) is_bearable long t h in
          let same = good_in_time s ranged p slots on_time (s.horizon - t) in
          (λ e σ served. right.0 e σ ((same σ).1 served), λ never. right.1 (λ σ good. never σ ((same σ).0 good)))

      -- the plan byte is the slowest speed that begins a least way that is in time, or 255
      pub byte_in_time : (t : ℕ) → t < sheet.horizon →
          (r : Option ℕ) × IsValueOfPool s t p r × IsByteOfPool s t p r (byte_of_queue s bytes t (queue_of_pool s.bound p))
      byte_in_time t h =
          let (r, is_value, is_byte_lem) = byte_right_lem call planned (queue_of_pool s.bound p) is_bearable long t h in
          (r, value_of_pool s ranged p slots on_time t r is_value, byte_of_pool s ranged p slots on_time t r _ is_byte_lem)

    -- a run from their queue, as in Stepping.antt
    module _ {from : Stepped} {arrivals : List ℕ} (run : Run sheet bytes from arrivals)
        (short : EndsByHorizon sheet from arrivals)
        (entries : AreEntries sheet arrivals) (goes : GoesOn sheet bytes from)
        (their-queue : queue_of_pool s.bound p ≡ queue_of_state sheet from.state) where
      whole : NeverRefused sheet bytes run
      whole = never_refused call planned run short entries goes

      -- after k slots
      abbrev queue : ℕ → Queue
      queue k = queue_after sheet from run.stepped k

      -- each speed told is at least w(1)
      enough : (k : ℕ) → k < length arrivals → total (queue k) 1 ≤ told_after from run.stepped k
      enough k h =
          let promised = advance_is (run.advances k h) in
          let x = state_of (state_after from run.stepped k) in
          let size = size_at s (get_or arrivals k 0) in
          let deadline = deadline_at s (get_or arrivals k 0) in
          let zero = sym (advance_number s bytes x size deadline).0 ∙ sym promised.number_is ∙ (whole.steps k h).advance_answers in
          let right = (ending_accepted s bytes x (advance_accepted s bytes x size deadline zero).0).3 in
          let told = (whole.steps k h).speed_is ∙
          ap (λ (t : ℕ). byte_of_queue s bytes t (queue k)) (sym (whole.stands k (le_of_lt h)).slot_is) ∙ sym (byte_at_lem s bytes x) in
          omega (arith, told, byte_enough s x (plan_byte s bytes x) right)

      -- the run's first k slots, and the queues
      along : (k : ℕ) → k ≤ length arrivals → QueuesAlong s.bound (slot_at sheet bytes run) queue k
      along k h =
          record {
            deadline_low = λ u l. ranged.deadline_low (get_or arrivals u 0) (entries u (le_trans l h));
            deadline_high = λ u l. ranged.deadline_high (get_or arrivals u 0) (entries u (le_trans l h));
            enough = λ u l. enough u (le_trans l h);
            next = λ u l. (whole.steps u (le_trans l h)).queue_is;
          }

      -- the run is in time for every job
      pub run_in_time : (k : ℕ) → k ≤ length arrivals → InTimeAfter sheet bytes run p k
      run_in_time k h =
          let (misses_none, queue_is, slots-upto) =
          along_earliest s.bound ranged.bound_low (slot_at sheet bytes run) queue k (along k h) p slots on_time their-queue in
          let services = earliest_run p (first_slots sheet bytes run k) in
          let right = subst (λ (w : Queue). T (bearable (M s) w)) (sym queue_is) (whole.stands k h).is_bearable in
          record {
            misses_none = misses_none;
            all_done = ((misses_none_done p (first_slots sheet bytes run k) services).0 misses_none).1;
            queue_is = queue_is;
            finishable =
                (bearable_finishable s.bound ranged.bound_low (pool_now sheet bytes run p k) slots-upto
                (ends_on_time p (first_slots sheet bytes run k) services misses_none) (M s)).0 right;
          }
