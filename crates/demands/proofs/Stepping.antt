-- Demand 2, its stepping half, over the actual contracts of the planner and the stepper: with any plan bytes that `plan` leaves, from any
-- state whose queue has a value at its slot, along any list of the sheet's entries, every advance before the horizon answers 0, the next
-- state and the plan's speed of the slot that begins, and 255 as it comes to the horizon (`never_refused`), where it answers 14
-- (`advance_at_end`). Any answer of a run may be saved, and another run go on from it (`goes_on`). A start from a queue that has a value at
-- slot 0 answers such a state and the plan's speed there (`start_begins`), so that a run from it is the case of slot 0
-- (`started_never_refused`).
use Prim.Native.Nat.{ℕ, zero, suc, ◌+◌, ◌*◌, ◌≤◌, ◌<◌}
use mathlib.Core.Path.{◌≡◌, refl, sym, ap, ◌∙◌, subst}
use mathlib.Core.List.{List}
use mathlib.Core.Option.{Option, some}
use native.Mathlib.Nat.{add-zero, le_refl, le_of_lt}
use native.Mathlib.Omega.{arith}
use lib.ListN.{length, get_or}
use Rattle.process.specs.Sums.{sum}
use Rattle.model.specs.View.{View, view_of, size_at, deadline_at, energy_of, greatest_energy, M}
use Rattle.model.specs.Plan.{IsPlanByte, HasValue, plan_refusal, row_refusal, byte_of_queue}
use Rattle.model.specs.Queue.{queue_in, one_slot}
use Rattle.model.specs.Refusal.{sheet_refusal, value_limit}
use Rattle.model.specs.Stepper as model
use Rattle.model.specs.declared.Sheet.{Sheet}
use Rattle.model.specs.Width.{narrow}
use Rattle.model.proofs.Queues.{held_bearable, held_unused, length_in, length_slot, in_first_places}
use Rattle.model.proofs.Leaves.{one_value}
use Rattle.model.proofs.Refusal.{accepted}
use Rattle.laws.proofs.Rooms.{plan_accepted, row_accepted, row_fits}
use Rattle.laws.proofs.Stepper.{byte_at_lem, begins_at_end, moved_by}
use Rattle.laws.proofs.Stepping as stepping
use Rattle.laws.proofs.Stepping.{RightPlan, Going}
use Rattle.planner.specs.declared.calls.PlanAnswer.{PlanAnswer}
use Rattle.stepper.specs.Calls.{state_of}
use Rattle.stepper.specs.declared.state.State.{State}
use Rattle.stepper.specs.declared.state.Stepped.{Stepped}
use Rattle.demands.specs.Calls.{Plans, Starts, Advances}
use Rattle.demands.specs.Runs.{speed_of_state, Begins, GoesOn, answer_after, state_after, told_after, Run, AreEntries, EndsByHorizon, Stands, Steps, NeverRefused, at_start, StartedRun, StartedNeverRefused}
use Rattle.demands.proofs.Demand2.{planned_filled, byte_right_lem}
use Rattle.demands.proofs.Determined.{state_same, start_is, advance_is}

module _ {sheet : Sheet} {values₀ plan₀ values bytes : List ℕ} {a : PlanAnswer} (call : Plans sheet values₀ plan₀ a values bytes)
    (planned : plan_refusal narrow (view_of sheet) (length values₀) (length plan₀) ≡ 0) where
  abbrev s : View
  s = view_of sheet

  -- what the plan gives

  -- the row call, and so the stepper, finds room in it
  pub has_room : row_refusal s (length bytes) ≡ 0
  has_room =
      let fits = plan_accepted s narrow (length values₀) (length plan₀) planned in
      let same = (planned_filled call planned).in_plan.same_length in
      sym (row_fits s (length bytes) fits.0 (omega (arith, fits.2)))

  -- and its bytes are right
  pub right_plan : RightPlan s bytes
  right_plan t l w long right h =
      let (r, is_value, is_byte_lem) = byte_right_lem call planned w right long t l in
      subst (λ (q : Option ℕ). IsPlanByte s t w q (byte_of_queue s bytes t w)) (one_value s t w r (some h.0) is_value h.1) is_byte_lem

  -- the sheet is accepted
  passed : sheet_refusal value_limit s ≡ 0
  passed = (row_accepted s (length bytes) has_room).0

  -- what the stepper's laws ask of a state is what a run asks of the one that it begins with
  begins_going : (x : State) → Begins sheet x → Going s x.slot (state_of x)
  begins_going x begins =
      record {
        six = begins.six;
        right = stepping.right_with_value s passed x.slot (state_of x) begins.unused begins.has_value;
        at_slot = refl;
        energy_upto = begins.energy_upto;
        has_value = begins.has_value;
      }

  -- a run from an answer that it may go on from, along a list of the sheet's entries that ends at the horizon or before it
  module _ {from : Stepped} {arrivals : List ℕ} (run : Run sheet bytes from arrivals)
      (short : EndsByHorizon sheet from arrivals)
      (entries : AreEntries sheet arrivals) (begins : GoesOn sheet bytes from) where
    -- the state after k slots, as the model says it, and the speed told
    abbrev state : ℕ → model.State
    state k = state_of (state_after from run.stepped k)

    abbrev told : ℕ → ℕ
    told k = told_after from run.stepped k

    -- the slot at which the run begins
    abbrev t₀ : ℕ
    t₀ = from.state.slot

    -- one slot

    module _ (k : ℕ) (h : k < length arrivals) (g : Going s (t₀ + k) (state k)) where
      -- the plan's speed for the state, and the arrival's size and deadline
      abbrev byte : ℕ
      byte = model.plan_byte s bytes (state k)

      abbrev size : ℕ
      size = size_at s (get_or arrivals k 0)

      abbrev deadline : ℕ
      deadline = deadline_at s (get_or arrivals k 0)

      before_end : t₀ + k < s.horizon
      before_end = omega arith

      -- the advance
      stepped_so : ((run.stepped k).number ≡ 0) × (state (suc k) ≡ model.moved s (state k) byte size deadline) ×
          (told (suc k) ≡ model.speed_now s bytes (state (suc k))) × Going s (t₀ + suc k) (state (suc k))
      stepped_so =
          let promised = advance_is (run.advances k h) in
          let law = stepping.stepped s bytes has_room right_plan (t₀ + k) before_end (state k) g (get_or arrivals k 0) (entries k h) in
          let state_is = promised.state_is ∙ ap (λ (r : model.Stepped). r.state) law.0 in
          let next : suc (t₀ + k) ≡ t₀ + suc k = omega arith in (
            promised.number_is ∙ ap (λ (r : model.Stepped). r.number) law.0,
            state_is,
            promised.speed_is ∙ ap (λ (r : model.Stepped). r.speed) law.0 ∙ ap (model.speed_now s bytes) (sym state_is),
            subst (λ (t : ℕ). Going s t (state (suc k))) next (subst (Going s (suc (t₀ + k))) (sym state_is) law.1),
          )

      -- the next queue is what the slot at the plan's speed, and the arrival, make of this one
      next_queue_lem : length (model.queue_of s (state k)) ≡ s.bound →
          model.queue_of s (state (suc k)) ≡ one_slot (model.queue_of s (state k)) byte size deadline
      next_queue_lem long =
          let w = model.queue_of s (state k) in
          ap (λ (x : model.State). queue_in s.bound x.queue) (stepped_so.1 ∙ moved_by s (state k) byte size deadline) ∙
          in_first_places s.bound (one_slot w byte size deadline) (length_slot w byte size deadline ∙ long)
          (accepted s passed).ranged.bound_high

    -- stepping goes on after any number of slots
    pub going : (k : ℕ) → k ≤ length arrivals → Going s (t₀ + k) (state k)
    going zero h = subst (λ (t : ℕ). Going s t (state 0)) (sym (add-zero t₀)) (begins_going from.state begins.begins)
    going (suc k) h = (stepped_so k h (going k (le_of_lt h))).3

    -- and what was told is the speed of the slot that begins
    told_now : (k : ℕ) → k ≤ length arrivals → told k ≡ model.speed_now s bytes (state k)
    told_now zero h = begins.speed_is
    told_now (suc k) h = (stepped_so k h (going k (le_of_lt h))).2

    -- before the horizon that is the plan's
    told_so : (k : ℕ) → k < length arrivals → told k ≡ model.plan_byte s bytes (state k)
    told_so k h =
        let g = going k (le_of_lt h) in
        told_now k (le_of_lt h) ∙
        (stepping.begins_planned s bytes has_room right_plan (t₀ + k) (before_end k h g) (state k) g).0

    -- the energy spent grows by the energies
    energy_sum : (k : ℕ) → k ≤ length arrivals → (state k).energy ≡ from.state.energy + sum (λ j. energy_of s (told j)) k
    unfolding sum
    energy_sum zero h = sym (add-zero from.state.energy)
    energy_sum (suc k) h =
        let g = going k (le_of_lt h) in
        let next = (stepped_so k h g).1 ∙ moved_by s (state k) (byte k h g) (size k h g) (deadline k h g) in
        let spent = ap (energy_of s) (told_so k h) in
        omega (arith, ap (λ (x : model.State). x.energy) next, energy_sum k (le_of_lt h), spent)

    -- the queue has D positions
    pub long : (k : ℕ) → k ≤ length arrivals → length (model.queue_of s (state k)) ≡ s.bound
    long k h = length_in s.bound (state k).queue (omega (arith, (going k h).six, (accepted s passed).ranged.bound_high))

    -- the state after k slots
    stands_so : (k : ℕ) → k ≤ length arrivals → Stands sheet bytes run k
    stands_so k h =
        let g = going k h in
        record {
          slot_is = g.at_slot;
          energy_is = energy_sum k h;
          is_bearable = held_bearable (M s) s.bound (state k).queue g.right;
          has_value = g.has_value;
        }

    -- the slot that follows
    steps_so : (k : ℕ) → k < length arrivals → Steps sheet bytes run k
    steps_so k h =
        let g = going k (le_of_lt h) in
        let w = model.queue_of s (state k) in
        let at_slot = byte_at_lem s bytes (state k) ∙ ap (λ (u : ℕ). byte_of_queue s bytes u w) g.at_slot in
        record {
          speed_is = told_so k h ∙ at_slot;
          advance_answers = (stepped_so k h g).0;
          queue_is =
              next_queue_lem k h g (long k (le_of_lt h)) ∙
              ap (λ (speed : ℕ). one_slot w speed (size k h g) (deadline k h g)) (sym (told_so k h));
        }

    -- every advance before the horizon answers 0
    pub never_refused : NeverRefused sheet bytes run
    never_refused =
        let n = length arrivals in
        record {
          stands = stands_so;
          steps = steps_so;
          told_last = λ last.
              told_now n (le_refl n) ∙ (begins_at_end s bytes (state n) ((going n (le_refl n)).at_slot ∙ last)).0;
        }

    -- what was answered after any number of slots may be gone on from
    pub goes_on : (k : ℕ) → k ≤ length arrivals → GoesOn sheet bytes (answer_after from run.stepped k)
    goes_on k h =
        let g = going k h in
        record {
          begins =
              record {
                six = g.six;
                unused = held_unused (M s) s.bound (state k).queue g.right;
                energy_upto = subst (λ (t : ℕ). (state k).energy ≤ t * greatest_energy s) (sym g.at_slot) g.energy_upto;
                has_value = subst (λ (t : ℕ). HasValue s t (model.queue_of s (state k))) (sym g.at_slot) g.has_value;
              };
          speed_is = told_now k h;
        }

    -- at the horizon, after a run along as many entries as there were slots left, an advance answers 14, whatever arrives, and hands back
    -- the state that it got
    pub advance_at_end : from.state.slot + length arrivals ≡ s.horizon → {size deadline : ℕ} {b : Stepped} →
        Advances (state_after from run.stepped (length arrivals)) sheet bytes size deadline b →
        (b.number ≡ 14) × (b.state ≡ state_after from run.stepped (length arrivals)) × (b.speed ≡ 0)
    advance_at_end last {size = size} {deadline = deadline} end =
        let n = length arrivals in
        let at_end_lem = subst (λ (t : ℕ). Going s t (state n)) last (going n (le_refl n)) in
        let law = stepping.ended s bytes (state n) has_room at_end_lem size deadline in
        let promised = advance_is end in (
          promised.number_is ∙ ap (λ (r : model.Stepped). r.number) law,
          state_same (promised.state_is ∙ ap (λ (r : model.Stepped). r.state) law),
          promised.speed_is ∙ ap (λ (r : model.Stepped). r.speed) law,
        )

  -- start, from a queue that has a value at slot 0, answers 0 and what a run may go on from: that queue at slot 0, and the plan's speed
  pub start_begins : {from : State} {b : Stepped} → Starts from sheet bytes b → Begins sheet (at_start from) →
      (b.number ≡ 0) × (b.state ≡ at_start from) × GoesOn sheet bytes b
  start_begins {from = from} {b = b} starts begins =
      let promised = start_is starts in
      let law = stepping.started s bytes has_room right_plan (state_of from) (begins_going (at_start from) begins) in
      let state_is = state_same (promised.state_is ∙ ap (λ (r : model.Stepped). r.state) law) in (
        promised.number_is ∙ ap (λ (r : model.Stepped). r.number) law,
        state_is,
        record {
          begins = subst (Begins sheet) (sym state_is) begins;
          speed_is =
              promised.speed_is ∙ ap (λ (r : model.Stepped). r.speed) law ∙
              ap (speed_of_state sheet bytes) (sym state_is);
        },
      )

  -- so a run from start is the case of slot 0
  pub started_never_refused : {from : State} {arrivals : List ℕ} (run : StartedRun sheet bytes from arrivals) →
      length arrivals ≤ s.horizon → ((k : ℕ) → k < length arrivals → get_or arrivals k 0 < s.job_count) → Begins sheet (at_start from) →
      StartedNeverRefused sheet bytes run
  started_never_refused {from = from} run short entries begins =
      let (answers, gives, goes) = start_begins run.starts begins in
      let at_zero = ap (λ (x : State). x.slot) gives in
      let slots = (accepted s passed).ranged.horizon_low in
      let now = stepping.begins_planned s bytes has_room right_plan 0 slots (state_of (at_start from)) (begins_going (at_start from) begins) in
      record {
        start_answers = answers;
        start_gives = gives;
        first_speed = goes.speed_is ∙ ap (speed_of_state sheet bytes) gives ∙ now.0 ∙ byte_at_lem s bytes (state_of (at_start from));
        never_refused = never_refused run.run (omega (arith, at_zero)) entries goes;
      }
