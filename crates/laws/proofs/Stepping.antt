-- Stepping with a right plan is never refused (the model's Stepper.antt): from a queue that has a value at its slot, start and each advance
-- by an entry of the sheet answer 0 and the plan's speed of the slot that begins, and the next queue has a value again; at the horizon the
-- answer is 14, and what was spent is what a least good way spends along the same entries. Callers' proofs cite these laws, and not the
-- stepper's definitions.
use Prim.Native.Nat.{ℕ, suc, ◌+◌, ◌*◌, ◌-◌, ◌≤◌, ◌<◌}
use mathlib.Core.Path.{◌≡◌, sym, ap, ◌∙◌, subst}
use mathlib.Core.Bool.{true, false}
use mathlib.Core.List.{List}
use mathlib.Core.Logic.{⊎_elim}
use native.Mathlib.Nat.{le_refl, le_of_lt, eq-or-lt_of_le, mul-le-mul}
use native.Mathlib.Omega.{arith}
use borrow.Author.Tests.{le-leb}
use lib.Dec.{T, leb, le→leb}
use lib.ListN.{length, get_or}
use Rattle.process.specs.Recursion as recursion
use Rattle.process.specs.Sums.{sum}
use Rattle.process.specs.Ways.{Way, spent, IsLeast, IsFirst, ruled}
use Rattle.process.proofs.Value.{first_step, plan_least, value_some_is, first_plan, SlotByRule, spent_by_rule}
use Rattle.model.specs.View.{View, speed_at, size_at, deadline_at, weight_at, on_sheet, energy_of, greatest_energy, M}
use Rattle.model.specs.Plan.{next_queue, process_of, HasValue, no_speed, byte_of_queue, row_refusal}
use Rattle.model.specs.Queue.{Queue, total, positions, queue_in, places_of, bearable, unused_zero, bearable_in, one_slot}
use Rattle.model.specs.Refusal.{sheet_refusal, value_limit}
use Rattle.model.specs.Stepper.{State, zero_state, begun, queue_of, queue_right, state_right, plan_byte, byte_right, speed_now, begins_right, start, ending_refusal, is_entry, moved, energy_limit, next_refusal, advance}
use Rattle.model.specs.Tests.{check}
use Rattle.model.proofs.Admissible.{good_bearable}
use Rattle.model.proofs.View.{on_sheet_lem, place_of, energy_of_upto}
use Rattle.model.proofs.Queues.{length_slot, held_bearable, length_in, length_places, in_first_places, places_hold}
use Rattle.model.proofs.Refusal.{Ranged, accepted, speeds_rise, greatest_energy_high}
use Rattle.laws.proofs.Rooms.{row_accepted}
use Rattle.laws.proofs.Stepper.{state_right_lem, energy_decides, start_by, advance_by, wrong_byte, byte_at_lem, first_decides, begins_at_end, begins_before, start_refusal_begins, ending_refusal_14, ending_refusal_16_or_0, entry_at, moved_by, advance_refusal_ending, advance_refusal_begins}
use Rattle.model.proofs.Tests.{holds_true, fails_false, and_both, check_passes, check_true, check_false, then_both}

-- plan bytes that are right: at every slot before the horizon, for every bearable queue that has a value, the byte begins a least way
abbrev pub RightPlan : View → List ℕ → Type 0
RightPlan s plan =
    (t : ℕ) → t < s.horizon → (w : Queue) → length w ≡ s.bound → T (bearable (M s) w) → HasValue s t w →
    IsFirst (process_of s) s.job_count (weight_at s) (s.horizon - t) w (byte_of_queue s plan t w)

-- a state at slot t from which stepping goes on
pub record Going (s : View) (t : ℕ) (x : State) : Type 0 where
  pub six : length x.queue ≡ positions
  pub right : T (queue_right s x)
  pub at_slot : x.slot ≡ t
  pub energy_upto : x.energy ≤ t * greatest_energy s
  pub has_value : HasValue s t (queue_of s x)

module _ (s : View) where
  -- of a right state of an accepted sheet, the energy and one slot's more of any sheet speed stay below 2^32, so that 18 cannot be met
  pub energy_small : sheet_refusal value_limit s ≡ 0 → (x : State) → T (state_right s x) → (a : ℕ) → T (on_sheet s a) →
      x.energy + energy_of s a ≤ energy_limit
  energy_small e x t a on =
      let ranges = (accepted s e).ranged in
      let most = greatest_energy_high s ranges in
      let state = state_right_lem s x t in
      let slot : x.slot ≤ 200 = omega (arith, state.1, ranges.horizon_high) in
      omega (arith, state.2, mul-le-mul slot most, most, energy_of_upto s a on)

  -- a queue that has a value is bearable
  value_bearable : sheet_refusal value_limit s ≡ 0 → (t : ℕ) (w : Queue) → HasValue s t w → T (bearable (M s) w)
  value_bearable e t w v = good_bearable s (accepted s e).ranged.jobs_low (s.horizon - t) w v.1.way v.1.holds

  -- so that what stands in the places is right where the unused ones are zero
  pub right_with_value : sheet_refusal value_limit s ≡ 0 → (t : ℕ) (x : State) → T (unused_zero s.bound x.queue) → HasValue s t (queue_of s x) →
      T (queue_right s x)
  unfolding bearable_in
  right_with_value e t x unused v = and_both (bearable (M s) (queue_of s x)) _ (value_bearable e t (queue_of s x) v) unused

  -- 13 passes of a state from which stepping goes on
  going_right : (t : ℕ) (x : State) → t ≤ s.horizon → Going s t x → state_right s x ≡ true
  going_right t x h g =
      let upto = subst (λ (u : ℕ). x.energy ≤ u * greatest_energy s) (sym g.at_slot) g.energy_upto in
      energy_decides s x (holds_true (queue_right s x) g.right) (omega (arith, g.at_slot)) ∙
      le-leb x.energy (x.slot * greatest_energy s) upto

  -- at the horizon: 14, whatever the plan holds and whatever arrives
  pub ended : (plan : List ℕ) (x : State) → row_refusal s (length plan) ≡ 0 → Going s s.horizon x →
      (size deadline : ℕ) → advance s plan x size deadline ≡ record { number = 14; state = x; speed = 0 }
  ended plan x e g size deadline =
      let last = ending_refusal_14 s plan x e (going_right s.horizon x (le_refl s.horizon) g) g.at_slot in
      advance_by s plan x size deadline (advance_refusal_ending s plan x size deadline (sym last) (λ q. omega arith))

  -- where the plan byte is the one of a queue that has no value, it is not right
  none_wrong : (plan : List ℕ) (x : State) → row_refusal s (length plan) ≡ 0 → plan_byte s plan x ≡ no_speed →
      byte_right s x (plan_byte s plan x) ≡ false
  none_wrong plan x e none =
      let ranges = (accepted s (row_accepted s (length plan) e).0).ranged in
      let apart : on_sheet s no_speed ≡ false = fails_false (on_sheet s no_speed) (λ on. too_fast ranges (place_of s no_speed on)) in
      wrong_byte s x (plan_byte s plan x) (ap (on_sheet s) none ∙ apart)
    where
      -- no speed of a sheet is above 8
      too_fast : Ranged s → (j : ℕ) × (j < s.speed_count) × (speed_at s j ≡ no_speed) → ⊥
      too_fast ranges (j, l, at) = omega (arith, ranges.speed_high j l, at)

  -- so a start is refused with 16
  pub no_way_start : (plan : List ℕ) (x : State) → row_refusal s (length plan) ≡ 0 → T (queue_right s x) → plan_byte s plan (begun x) ≡ no_speed →
      start s plan x ≡ record { number = 16; state = zero_state; speed = 0 }
  no_way_start plan x e right none =
      let slots = (accepted s (row_accepted s (length plan) e).0).ranged.horizon_low in
      let wrong = (begins_before s plan (begun x) (λ q. omega (arith, slots, q))).1 ∙ none_wrong plan (begun x) e none in
      start_by s plan x
      (start_refusal_begins s plan x e (holds_true (queue_right s x) right) ∙ check_false (begins_right s plan (begun x)) 16 wrong)

  -- and so is an advance before the horizon, whatever arrives
  pub no_way_advance : (plan : List ℕ) (x : State) → row_refusal s (length plan) ≡ 0 → T (state_right s x) → x.slot < s.horizon →
      plan_byte s plan x ≡ no_speed →
      (size deadline : ℕ) → advance s plan x size deadline ≡ record { number = 16; state = x; speed = 0 }
  no_way_advance plan x e right before none size deadline =
      let refusal = ending_refusal_16_or_0 s plan x e (holds_true (state_right s x) right) (λ q. omega arith) ∙
      check_false (byte_right s x (plan_byte s plan x)) 16 (none_wrong plan x e none) in
      advance_by s plan x size deadline (advance_refusal_ending s plan x size deadline (sym refusal) (λ q. omega arith))

  -- before the horizon, with a right plan

  module _ (plan : List ℕ) (e : row_refusal s (length plan) ≡ 0) (right_plan : RightPlan s plan)
      (t : ℕ) (h : t < s.horizon) (x : State) (g : Going s t x) where
    -- the sheet keeps every range
    ranges : Ranged s
    ranges = (accepted s (row_accepted s (length plan) e).0).ranged

    -- the queue has D positions
    long : length (queue_of s x) ≡ s.bound
    long = length_in s.bound x.queue (omega (arith, g.six, ranges.bound_high))

    -- what the plan holds for the state
    abbrev byte : ℕ
    byte = plan_byte s plan x

    -- the plan byte begins a least way
    first : IsFirst (process_of s) s.job_count (weight_at s) (s.horizon - t) (queue_of s x) byte
    first =
        let at_slot = byte_at_lem s plan x ∙ ap (λ (u : ℕ). byte_of_queue s plan u (queue_of s x)) g.at_slot in
        subst (IsFirst (process_of s) s.job_count (weight_at s) (s.horizon - t) (queue_of s x)) (sym at_slot)
        (right_plan t h (queue_of s x) long (held_bearable (M s) s.bound x.queue g.right) g.has_value)

    -- so it is a sheet speed and at least w(1), and after each entry the queue has a value again
    onward : T (on_sheet s byte) × T (leb (total (queue_of s x) 1) byte) ×
        ((i : ℕ) → i < s.job_count → HasValue s (suc t) (one_slot (queue_of s x) byte (size_at s i) (deadline_at s i)))
    unfolding process_of next_queue
    onward =
        let slots : s.horizon - t ≡ suc (s.horizon - suc t) = omega arith in
        let now = subst (λ (k : ℕ). IsFirst (process_of s) s.job_count (weight_at s) k (queue_of s x) byte) slots first in
        let step = first_step (process_of s) s.job_count (weight_at s) ranges.jobs_low (s.horizon - suc t) (queue_of s x) byte now in
        ((on_sheet_lem s byte).1 step.0, step.1, step.2)

    -- 16 passes
    byte_passes : byte_right s x byte ≡ true
    byte_passes =
        first_decides s x byte (holds_true (on_sheet s byte) onward.0) ∙ holds_true (leb (total (queue_of s x) 1) byte) onward.1

    -- so the speed of the slot that begins is the plan's
    pub begins_planned : (speed_now s plan x ≡ byte) × (begins_right s plan x ≡ true)
    begins_planned =
        let before = begins_before s plan x (λ q. omega (arith, g.at_slot)) in
        (before.0, before.1 ∙ byte_passes)

    -- and no test of the slot that ends fails
    ending_zero : ending_refusal s plan x ≡ 0
    ending_zero =
        ending_refusal_16_or_0 s plan x e (going_right t x (le_of_lt h) g) (λ q. omega (arith, g.at_slot)) ∙
        check_true (byte_right s x byte) 16 byte_passes

    -- one entry
    module _ (i : ℕ) (l : i < s.job_count) where
      -- the queue after the slot and the arrival
      abbrev next : Queue
      next = one_slot (queue_of s x) byte (size_at s i) (deadline_at s i)

      -- it has D positions too
      next_long : length next ≡ s.bound
      next_long = length_slot (queue_of s x) byte (size_at s i) (deadline_at s i) ∙ long

      -- the next queue stands in its places
      in_next : queue_in s.bound (places_of next) ≡ next
      in_next = in_first_places s.bound next next_long ranges.bound_high

      -- and is bearable
      next_bearable : T (bearable (M s) next)
      next_bearable = value_bearable (row_accepted s (length plan) e).0 (suc t) next (onward.2 i l)

      -- 17 and 18 pass
      next_zero : next_refusal s (moved s x byte (size_at s i) (deadline_at s i)) ≡ 0
      next_zero =
          let right = going_right t x (le_of_lt h) g in
          let small = energy_small (row_accepted s (length plan) e).0 x (subst T (sym right) tt) byte onward.0 in
          ap (next_refusal s) (moved_by s x byte (size_at s i) (deadline_at s i)) ∙
          then_both (check (bearable (M s) (queue_in s.bound (places_of next))) 17) _
          (check_passes (bearable (M s) (queue_in s.bound (places_of next))) 17
          (subst (λ (w : Queue). T (bearable (M s) w)) (sym in_next) next_bearable))
          (check_passes (leb (x.energy + energy_of s byte) energy_limit) 18 (le→leb (x.energy + energy_of s byte) energy_limit small))

      -- and stepping goes on
      next_going : Going s (suc t) (moved s x byte (size_at s i) (deadline_at s i))
      next_going =
          let few : length next ≤ 6 = omega (arith, next_long, ranges.bound_high) in
          subst (Going s (suc t)) (sym (moved_by s x byte (size_at s i) (deadline_at s i)))
          (record {
            six = length_places next;
            right = subst (λ (D : ℕ). T (bearable_in (M s) D (places_of next))) next_long (places_hold (M s) next few next_bearable);
            at_slot = ap suc g.at_slot;
            energy_upto = omega (arith, g.energy_upto, energy_of_upto s byte onward.0);
            has_value = subst (HasValue s (suc t)) (sym in_next) (onward.2 i l);
          })

      -- where the next slot's plan byte passes 16, or there is none, an advance by the entry answers 0 and the next state with its speed
      moves : begins_right s plan (moved s x byte (size_at s i) (deadline_at s i)) ≡ true →
          let after = moved s x byte (size_at s i) (deadline_at s i) in
          advance s plan x (size_at s i) (deadline_at s i) ≡ record { number = 0; state = after; speed = speed_now s plan after }
      moves right =
          advance_by s plan x (size_at s i) (deadline_at s i)
          (advance_refusal_begins s plan x (size_at s i) (deadline_at s i) ending_zero
          (holds_true (is_entry s (size_at s i) (deadline_at s i)) (entry_at s i l)) next_zero ∙
          check_true (begins_right s plan (moved s x byte (size_at s i) (deadline_at s i))) 16 right)

  -- start, from a queue that has a value at slot 0, answers 0, that queue at slot 0, and the plan's speed
  pub started : (plan : List ℕ) → row_refusal s (length plan) ≡ 0 → RightPlan s plan → (x : State) → Going s 0 (begun x) →
      start s plan x ≡ record { number = 0; state = begun x; speed = speed_now s plan (begun x) }
  started plan e right_plan x g =
      let slots = (accepted s (row_accepted s (length plan) e).0).ranged.horizon_low in
      start_by s plan x
      (start_refusal_begins s plan x e (holds_true (queue_right s x) g.right) ∙
      check_true (begins_right s plan (begun x)) 16 (begins_planned plan e right_plan 0 slots (begun x) g).1)

  -- advance by any entry of the sheet: number 0, the next state with the speed of the slot that begins, and stepping goes on from it
  pub stepped : (plan : List ℕ) (e : row_refusal s (length plan) ≡ 0) (right_plan : RightPlan s plan) (t : ℕ) (h : t < s.horizon)
      (x : State) (g : Going s t x) (i : ℕ) (l : i < s.job_count) →
      let after = moved s x (plan_byte s plan x) (size_at s i) (deadline_at s i) in
      (advance s plan x (size_at s i) (deadline_at s i) ≡ record { number = 0; state = after; speed = speed_now s plan after }) ×
      Going s (suc t) after
  stepped plan e right_plan t h x g i l =
      (moves plan e right_plan t h x g i l (⊎_elim last more (eq-or-lt_of_le h)), goes)
    where
      after : State
      after = moved s x (plan_byte s plan x) (size_at s i) (deadline_at s i)

      goes : Going s (suc t) after
      goes = next_going plan e right_plan t h x g i l

      last : suc t ≡ s.horizon → begins_right s plan after ≡ true
      last q = (begins_at_end s plan after (goes.at_slot ∙ q)).1

      more : suc t < s.horizon → begins_right s plan after ≡ true
      more before = (begins_planned plan e right_plan (suc t) before after goes).1

  -- stepping to the horizon with a right plan spends the least

  -- the speed that the recursion plans for a queue, with so many slots left
  abbrev planned : ℕ → Queue → ℕ
  planned = recursion.plan (process_of s) s.job_count (weight_at s)

  -- the way that takes these speeds from slot t to the horizon
  abbrev pub planned_way : ℕ → Queue → Way
  planned_way t w = ruled (process_of s) planned (s.horizon - t) w

  -- from a queue that has a value there it is a least good way
  pub planned_least : sheet_refusal value_limit s ≡ 0 → (t : ℕ) (w : Queue) → HasValue s t w →
      IsLeast (process_of s) s.job_count (weight_at s) (s.horizon - t) w (planned_way t w)
  planned_least e t w v =
      let jobs_low = (accepted s e).ranged.jobs_low in
      plan_least (process_of s) s.job_count (weight_at s) jobs_low (s.horizon - t) w v.0
      (value_some_is (process_of s) s.job_count (weight_at s) jobs_low (s.horizon - t) w v.0 v.1)

  -- a right plan holds these speeds
  pub right_planned : sheet_refusal value_limit s ≡ 0 → (plan : List ℕ) → RightPlan s plan →
      (t : ℕ) → t < s.horizon → (w : Queue) → length w ≡ s.bound → HasValue s t w →
      byte_of_queue s plan t w ≡ planned (s.horizon - t) w
  unfolding process_of
  right_planned e plan right_plan t h w long v =
      let byte = byte_of_queue s plan t w in
      let slots : suc (s.horizon - suc t) ≡ s.horizon - t = omega arith in
      let ranges = (accepted s e).ranged in
      subst (λ (k : ℕ). IsFirst (process_of s) s.job_count (weight_at s) k w byte → byte ≡ planned k w) slots
      (first_plan (process_of s) s.job_count (weight_at s) ranges.jobs_low (speeds_rise s ranges) (s.horizon - suc t) w byte)
      (right_plan t h w long (value_bearable e t w v) v)

  -- so, from slot t on, along entries up to the horizon, the energies of its speeds come to what that way spends along them; k slots
  -- after slot t the queue is `queue k` and the speed `speed_in k`
  pub spends_planned : sheet_refusal value_limit s ≡ 0 → (plan : List ℕ) → RightPlan s plan →
      (t : ℕ) (arrivals : List ℕ) → t + length arrivals ≡ s.horizon → (queue : ℕ → Queue) (speed_in : ℕ → ℕ) →
      ((k : ℕ) → k < length arrivals →
      (length (queue k) ≡ s.bound) × HasValue s (t + k) (queue k) ×
      (speed_in k ≡ byte_of_queue s plan (t + k) (queue k)) ×
      (queue (suc k) ≡ one_slot (queue k) (speed_in k) (size_at s (get_or arrivals k 0)) (deadline_at s (get_or arrivals k 0)))) →
      sum (λ k. energy_of s (speed_in k)) (length arrivals) ≡ spent (process_of s) (queue 0) (planned_way t (queue 0)) arrivals
  unfolding process_of next_queue sum
  spends_planned e plan right_plan t arrivals last queue speed_in slots =
      omega (
        arith,
        spent_by_rule (process_of s) planned arrivals queue energy_before slot,
        ap (λ (left : ℕ). spent (process_of s) (queue 0) (ruled (process_of s) planned left (queue 0)) arrivals) all_left,
      )
    where
      all_left : length arrivals ≡ s.horizon - t
      all_left = omega arith

      energy_before : ℕ → ℕ
      energy_before = sum (λ k. energy_of s (speed_in k))

      slot : (k : ℕ) → k < length arrivals →
          SlotByRule (process_of s) planned (length arrivals - k) (get_or arrivals k 0) (queue k) (queue (suc k))
          (energy_before k) (energy_before (suc k))
      slot k h =
          let here = slots k h in
          let left : s.horizon - (t + k) ≡ length arrivals - k = omega arith in
          let speed_is = here.2 ∙ right_planned e plan right_plan (t + k) (omega arith) (queue k) here.0 here.1 ∙
          ap (λ (slots-left : ℕ). planned slots-left (queue k)) left in (
            here.3 ∙ ap (λ (speed : ℕ). next_queue s (queue k) speed (get_or arrivals k 0)) speed_is,
            ap (λ (speed : ℕ). energy_before k + energy_of s speed) speed_is,
          )
