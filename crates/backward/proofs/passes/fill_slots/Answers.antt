-- `fill_slots` meets its contract. The loop's invariant: so many slots are planned, from the last one back.
use Prim.Native.Nat.{suc, ◌^◌}
use mathlib.Core.Option.{some}
use mathlib.Core.Path.{◌≡◌, refl, sym, ap, ◌∙◌, subst}
use native.Mathlib.Omega.{arith}
use Rattle.model.specs.View.{view_of, W}
use Rattle.model.proofs.Refusal.{accepted}
use Rattle.value.specs.Narrow.{width}
use Rattle.sheets.proofs.Measures.{measured}
use Rattle.rows.proofs.Room.{after_room}
use Rattle.backward.specs.declared.slots.Walk.{Walk}
use Rattle.backward.specs.Passes.{value_with, SlotRows, PlannedFrom}
use Rattle.backward.proofs.Backward.{slot_given, slot_in_plan, values_room, plan_room, next_there, planned_values, planned_more}
use Rattle.backward.proofs.passes.fill_slots.Goals as goal
use Rattle.backward.proofs.passes.fill_slots.Goals.{In-Some}

-- this turn's slot is the next one, and its scale is right
slot_is : (c : In-Some) →
    let slot = c.in-Some.slot in
    let s = view_of c.args.walk.now.tested.now.sheet in
    SlotRows s c.loop-slot.slot-iterator.left slot.left slot.this slot.next slot.row ×
    (slot.scale ≡ some (W s ^ suc c.loop-slot.slot-iterator.left))
slot_is c = let given = c.in-Some.ensures.steps.1 in slot_given (ap view_of c.loop-slot.invariant.1) given.0 given.1

pub loop-slot-init : goal.loop-slot-init
loop-slot-init c =
    let same = c.into_iter-slot-iterator.ensures.into_iter_gives in
    let begun = c.slots-slot-items.ensures in
    let s = view_of c.args.walk.now.tested.now.sheet in (
      tt,
      ap (λ q. q.walk.tested.now.sheet) same ∙ ap (λ (w : Walk). w.tested.now.sheet) begun.0,
      refl,
      subst (λ k. PlannedFrom width s k c.args.values.now c.args.plan.now c.args.values.now c.args.plan.now)
          (sym (ap (λ q. q.left) same ∙ begun.1)) c.requires.rooms.2,
    )

pub fill_slot-requires-clause-slot : goal.fill_slot-requires-clause-slot
fill_slot-requires-clause-slot c =
    let walk = c.args.walk.now in
    let s = view_of walk.tested.now.sheet in
    let k = c.loop-slot.slot-iterator.left in
    let slot = slot_is (goal.at.fill_slot-requires-clause-slot c).In-Some in
    let at = slot.0 in
    let sized = walk.prepared.sized in
    let past = c.loop-slot.invariant.3 in (
      slot_in_plan s k at slot.1,
      next_there width s (value_with s) k at (planned_values past) c.requires.rooms.1,
      omega (arith, after_room (measured s _ (accepted s walk.prepared.accepted) sized), c.loop-slot.invariant.2),
      omega (arith, values_room width s (value_with s) k at (planned_values past) c.requires.rooms.1, sized.queues_is),
      omega (arith, plan_room width s k at past c.requires.rooms.0, sized.queues_is),
    )

pub loop-slot-preserved : goal.loop-slot-preserved
loop-slot-preserved c =
    let s = view_of c.args.walk.now.tested.now.sheet in
    let it = c.loop-slot.slot-iterator in
    let slot = slot_is (goal.at.loop-slot-preserved c).In-Some in
    let given = c.in-Some.ensures.steps in (
      tt,
      ap (λ (w : Walk). w.tested.now.sheet) given.0 ∙ c.loop-slot.invariant.1,
      c.fill_slot.auto.ahead ∙ c.loop-slot.invariant.2,
      subst (λ k. PlannedFrom width s k c.args.values.now c.args.plan.now c.fill_slot.new.values c.fill_slot.new.plan)
          (omega (arith, given.1.2)) (planned_more width s it.left slot.0 c.loop-slot.invariant.3 c.fill_slot.ensures),
    )

pub returns : goal.returns
returns c =
    let given = c.in-None.ensures.steps in
    subst (λ k. PlannedFrom width (view_of c.args.walk.now.tested.now.sheet) k c.args.values.now c.args.plan.now c.loop-slot.values c.loop-slot.plan)
    (given.1 ∙ ap (λ t. t.horizon) c.loop-slot.invariant.1) c.loop-slot.invariant.3
