-- `fill_end` meets its contract. The loop's invariant: so many values of the end row stand there, and nothing else has changed.
use mathlib.Core.Path.{refl}
use native.Mathlib.Omega.{arith}
use Rattle.model.specs.View.{view_of}
use Rattle.model.specs.Width.{value_in}
use Rattle.model.proofs.Refusal.{accepted}
use Rattle.value.specs.Narrow.{width}
use Rattle.buffers.proofs.Filling.{value_local, fewer_fit, fills_more}
use Rattle.sheets.proofs.Measures.{sizes_small}
use Rattle.backward.proofs.Backward.{end_room, end_whole}
use Rattle.backward.proofs.slots.Walk.fill_end.Goals as goal

pub place-from-requires : goal.place-from-requires
place-from-requires c =
    let walk = c.args.self.now in
    let s = view_of walk.tested.now.sheet in
    let few = sizes_small s (accepted s walk.prepared.accepted) walk.prepared.sized in
    (few.0, omega (arith, few.1), omega arith)

pub store-requires : goal.store-requires
store-requires c =
    let walk = c.args.self.now in
    fewer_fit width (omega (arith, c.loop-number-test.true))
    (end_room width (view_of walk.tested.now.sheet) walk.prepared.sized c.place-from.ensures c.loop-number.values
    (omega (arith, c.requires, c.loop-number.invariant.same_length)))

pub loop-number-preserved : goal.loop-number-preserved
loop-number-preserved c = fills_more width.places (value_in width) (value_local width) refl c.from.ensures c.loop-number.invariant c.store.ensures

pub returns : goal.returns
returns c =
    let walk = c.args.self.now in
    end_whole width (view_of walk.tested.now.sheet) walk.prepared.sized c.place-from.ensures (omega (arith, c.loop-number-test.false)) c.loop-number.invariant
