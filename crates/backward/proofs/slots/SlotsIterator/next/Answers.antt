-- `next` meets its contract: with one slot more the scale has one factor W more, and it fits.
use Prim.Native.Nat.{◌<◌}
use native.Mathlib.Omega.{arith}
use Rattle.model.specs.View.{view_of}
use Rattle.model.proofs.Refusal.{accepted}
use Rattle.value.specs.Narrow.{width}
use Rattle.sheets.proofs.Measures.{sizes_small}
use Rattle.backward.proofs.Backward.{scale_room}
use Rattle.backward.proofs.slots.SlotsIterator.next.Goals as goal
use Rattle.backward.proofs.slots.SlotsIterator.next.Goals.{Else-left-tested}

-- a slot is left
left_low : (c : Else-left-tested) → c.args.self.now.left < c.args.self.now.walk.tested.now.sheet.horizon
left_low c = omega (arith, c.args.self.now.passed.left_upto, c.if-left-tested.false)

pub plus_times-scale-requires : goal.plus_times-scale-requires
plus_times-scale-requires c =
    let it = c.args.self.now in
    let s = view_of it.walk.tested.now.sheet in
    scale_room width s (accepted s it.walk.prepared.accepted) it.left (left_low (goal.at.plus_times-scale-requires c).Else-left-tested) it.passed.weights_are
    c.from.ensures it.passed.scale_is

pub overflow_add-self : goal.overflow_add-self
overflow_add-self c =
    let it = c.args.self.now in
    let s = view_of it.walk.tested.now.sheet in
    omega (arith, left_low (goal.at.overflow_add-self c).Else-left-tested, (sizes_small s (accepted s it.walk.prepared.accepted) it.walk.prepared.sized).1)
