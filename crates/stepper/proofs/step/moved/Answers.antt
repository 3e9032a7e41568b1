-- `moved` meets its contract: the next queue is not bearable, or the energy would pass its limit, or the next state is the model's.
use Rattle.std.proofs.Common.{◌≡◌, ◌+◌, ◌<◌, ℕ, Option, sym, ap, ◌∙◌, subst, arith}
use native.Mathlib.Numerals.{add-one}
use lib.ListN.{length-take}
use Rattle.std.specs.Option.{SomeIff, ok_or}
use Rattle.std.proofs.lemmas.Result.{err_from_is_err_and}
use Rattle.refusals.specs.Numbers.{number_of}
use Rattle.refusals.specs.declared.Refusal.TheVariants as refusal
use Rattle.model.proofs.Queues.{held_bearable}
use Rattle.model.proofs.Refusal.{ranged, M_high}
use Rattle.laws.proofs.Stepper.{state_right_lem, moved_by}
use Rattle.model.specs.View.{view_of, M}
use Rattle.model.specs.Queue.{queue_in, places_of, bearable, one_slot}
use Rattle.model.specs.Stepper.{queue_of, moved, energy_limit}
use Rattle.ranges.proofs.Answers.{passed_by, failed_by}
use Rattle.sheets.proofs.Measures.{sized_ranges}
use Rattle.slot.proofs.Slots.{bearable_small}
use Rattle.slot.specs.Slot.{Small}
use Rattle.stepper.proofs.Outcomes.{asked_of_next, next_17, next_18, next_0}
use Rattle.stepper.specs.Calls.{state_of}
use Rattle.stepper.proofs.step.moved.Goals as goal
use Rattle.stepper.proofs.step.moved.Goals.{After-bearable, After-one_slot-queue, In_ok-energy}

-- the queue worked out is the next one
queue_is : (c : After-one_slot-queue) →
    let a = c.args in
    c.one_slot-queue.result ≡ places_of (one_slot (queue_in a.sheet.sheet.bound a.state.queue) a.speed a.size a.deadline)
queue_is c =
    let a = c.args in
    c.one_slot-queue.ensures ∙
    ap (λ (D : ℕ). places_of (one_slot (queue_in D a.state.queue) a.speed a.size a.deadline)) c.requires.0.bound_is

-- what was asked of it is what 17 asks
asked : (c : After-bearable) →
    let a = c.args in
    let s = view_of a.sheet.sheet in
    c.bearable.result ≡ bearable (M s) (queue_of s (moved s (state_of a.state) a.speed a.size a.deadline))
asked c =
    let a = c.args in
    asked_of_next (view_of a.sheet.sheet) (state_of a.state) a.speed a.size a.deadline c.requires.0
    (c.one_slot-queue.ensures ∙
    ap (λ (D : ℕ). places_of (one_slot (queue_in D a.state.queue) a.speed a.size a.deadline)) c.requires.0.bound_is)
    c.bearable.ensures

-- a sum that is not below 2^32 passes the limit
past : (energy spent : ℕ) {more : ℕ} → (energy + spent < 4294967296 → ⊥) → spent ≡ more → energy_limit < energy + more
past energy spent over e = omega arith

-- the sum worked out is the energy, which does not pass its limit
spent : (c : In_ok-energy) →
    let a = c.args in
    (a.state.energy + c.energy_of.result < 4294967296) × (c.in_ok-energy.energy ≡ a.state.energy + c.energy_of.result)
spent c =
    let a = c.args in
    subst (λ (o : Option ℕ). SomeIff o (a.state.energy + c.energy_of.result < 4294967296) (a.state.energy + c.energy_of.result)) c.in_ok-energy.ensures.ok_part
    c.checked_add.ensures

pub one_slot-queue-requires : goal.one_slot-queue-requires
one_slot-queue-requires c =
    let a = c.args in
    let s = view_of a.sheet.sheet in
    let right = ranged s c.args.sheet.fields in
    let w = queue_in s.bound a.state.queue in
    let held = held_bearable (M s) s.bound a.state.queue (state_right_lem s (state_of a.state) c.requires.1).0 in (
      (sized_ranges right c.requires.0).bound_high,
      c.requires.3,
      subst (λ (D : ℕ). Small (queue_in D a.state.queue)) (sym c.requires.0.bound_is)
          (bearable_small (M s) w (M_high s right) (omega (arith, length-take s.bound a.state.queue, right.bound_high)) held),
    )

pub bearable-requires : goal.bearable-requires
bearable-requires c =
    let ranges = sized_ranges (ranged (view_of c.args.sheet.sheet) c.args.sheet.fields) c.requires.0 in
    (ranges.speed_high, ranges.bound_high)

pub returns-then-not-bearable-clause-number : goal.returns-then-not-bearable-clause-number
returns-then-not-bearable-clause-number c =
    let a = c.args in
    sym
    (next_17 (view_of a.sheet.sheet) (state_of a.state) a.speed a.size a.deadline
    (failed_by (asked (goal.at.returns-then-not-bearable-clause-number c).After-bearable) c.if-not-bearable.true))

pub returns-in_err-energy-clause-number : goal.returns-in_err-energy-clause-number
returns-in_err-energy-clause-number c =
    let a = c.args in
    let none = c.in_err-energy.ensures in
    let over = subst (λ (o : Option ℕ). SomeIff o (a.state.energy + c.energy_of.result < 4294967296) (a.state.energy + c.energy_of.result)) none.ok_part
    c.checked_add.ensures in
    let exit = err_from_is_err_and c.from_residual.result c.from_residual.ensures.1 in
    rw (exit.1, exit.2)
    (ap number_of (none.value ∙ ap (λ (o : Option ℕ). ok_or o refusal.EnergyTotal) none.ok_part) ∙
    sym
    (next_18 (view_of a.sheet.sheet) (state_of a.state) a.speed a.size a.deadline
    (passed_by (asked (goal.at.returns-in_err-energy-clause-number c).After-bearable) c.if-not-bearable.false)
    (past _ _ over c.energy_of.ensures)))

pub overflow_add-result : goal.overflow_add-result
overflow_add-result c =
    let s = view_of c.args.sheet.sheet in
    omega (arith, (state_right_lem s (state_of c.args.state) c.requires.1).1, (ranged s c.args.sheet.fields).horizon_high)

pub returns-clause-number : goal.returns-clause-number
returns-clause-number c =
    let a = c.args in
    let sum = spent (goal.at.returns-clause-number c).In_ok-energy in
    sym
    (next_0 (view_of a.sheet.sheet) (state_of a.state) a.speed a.size a.deadline
    (passed_by (asked (goal.at.returns-clause-number c).After-bearable) c.if-not-bearable.false) (omega (arith, sum.0, c.energy_of.ensures)))

pub returns-clause-state : goal.returns-clause-state
returns-clause-state c =
    let a = c.args in
    let queue-now = queue_is (goal.at.returns-clause-state c).After-one_slot-queue in
    let sum = spent (goal.at.returns-clause-state c).In_ok-energy in
    let energy_is = sum.1 ∙ ap (λ (n : ℕ). a.state.energy + n) c.energy_of.ensures in
    (λ i. record { queue = queue-now i; slot = add-one a.state.slot i; energy = energy_is i }) ∙
    sym (moved_by (view_of a.sheet.sheet) (state_of a.state) a.speed a.size a.deadline)
