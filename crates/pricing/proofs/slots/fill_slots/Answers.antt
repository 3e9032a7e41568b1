-- `fill_slots` meets its contract. The loop's invariant: so many slots are priced, from the last one back.
use Prim.Native.Nat.{ℕ, suc, ◌^◌, ◌-◌}
use mathlib.Core.Option.{some}
use mathlib.Core.Path.{◌≡◌, refl, sym, ap, ◌∙◌, subst}
use native.Mathlib.Omega.{arith}
use Rattle.model.specs.View.{view_of, W}
use Rattle.model.specs.Plan.{place_at}
use Rattle.model.proofs.Refusal.{accepted}
use Rattle.value.specs.Narrow.{width}
use Rattle.sheets.proofs.Measures.{measured}
use Rattle.rows.proofs.Room.{after_room}
use Rattle.backward.specs.declared.slots.Walk.{Walk}
use Rattle.backward.specs.Passes.{SlotRows, FilledFrom}
use Rattle.pricing.specs.Prices.{price_with}
use Rattle.backward.proofs.Backward.{slot_given, slot_in_plan, plan_within, values_room, next_there, filled_more}
use Rattle.pricing.proofs.slots.fill_slots.Goals as goal
use Rattle.pricing.proofs.slots.fill_slots.Goals.{In-Some}

-- this turn's slot is the next one, and its scale is right
slot_is : (c : In-Some) →
    let slot = c.in-Some.slot in
    let s = view_of c.args.walk.now.tested.now.sheet in
    SlotRows s c.loop-slot.slot-iterator.left slot.left slot.this slot.next slot.row ×
    (slot.scale ≡ some (W s ^ suc c.loop-slot.slot-iterator.left))
slot_is c = let given = c.in-Some.ensures.steps.1 in slot_given (ap view_of c.loop-slot.invariant.1) given.0 given.1

pub loop-slot-init : goal.loop-slot-init
loop-slot-init c =
    let same = c.into_iter-slot-iterator.ensures.into_iter_gives in
    let begun = c.slots-slot-items.ensures in
    let s = view_of c.args.walk.now.tested.now.sheet in (
      tt,
      ap (λ q. q.walk.tested.now.sheet) same ∙ ap (λ (w : Walk). w.tested.now.sheet) begun.0,
      refl,
      subst (λ k. FilledFrom width s (price_with s c.args.plan.now) k c.args.values.now c.args.values.now)
          (sym (ap (λ q. q.left) same ∙ begun.1)) c.requires.rooms.2,
    )

pub fill_slot-requires-clause-slot : goal.fill_slot-requires-clause-slot
fill_slot-requires-clause-slot c =
    let walk = c.args.walk.now in
    let s = view_of walk.tested.now.sheet in
    let k = c.loop-slot.slot-iterator.left in
    let slot = slot_is (goal.at.fill_slot-requires-clause-slot c).In-Some in
    let at = slot.0 in
    let sized = walk.prepared.sized in
    let past = c.loop-slot.invariant.3 in
    let f = price_with s c.args.plan.now in
    let same : s.horizon - suc c.in-Some.slot.left ≡ s.horizon - suc k = omega (arith, at.left_is) in (
      slot_in_plan s k at slot.1,
      record {
        row_is = at.row_is ∙ ap (λ (t : ℕ). place_at s t 0) (sym same);
        room = omega (arith, plan_within s k at, c.requires.rooms.0);
      },
      next_there width s f k at past c.requires.rooms.1,
      omega (arith, after_room (measured s _ (accepted s walk.prepared.accepted) sized), c.loop-slot.invariant.2),
      omega (arith, values_room width s f k at past c.requires.rooms.1, sized.queues_is),
    )

pub loop-slot-preserved : goal.loop-slot-preserved
loop-slot-preserved c =
    let s = view_of c.args.walk.now.tested.now.sheet in
    let it = c.loop-slot.slot-iterator in
    let slot = slot_is (goal.at.loop-slot-preserved c).In-Some in
    let given = c.in-Some.ensures.steps in (
      tt,
      ap (λ (w : Walk). w.tested.now.sheet) given.0 ∙ c.loop-slot.invariant.1,
      c.fill_slot.auto.ahead ∙ c.loop-slot.invariant.2,
      subst (λ k. FilledFrom width s (price_with s c.args.plan.now) k c.args.values.now c.fill_slot.new.values)
          (omega (arith, given.1.2)) (filled_more width s (price_with s c.args.plan.now) it.left slot.0 c.loop-slot.invariant.3 c.fill_slot.ensures),
    )

pub returns : goal.returns
returns c =
    let given = c.in-None.ensures.steps in
    let s = view_of c.args.walk.now.tested.now.sheet in
    subst (λ k. FilledFrom width s (price_with s c.args.plan.now) k c.args.values.now c.loop-slot.values)
    (given.1 ∙ ap (λ t. t.horizon) c.loop-slot.invariant.1) c.loop-slot.invariant.3
