-- `fill` meets its contract. The loop's invariant: the queues that come before the next one are filled.
use mathlib.Core.Path.{◌≡◌}
use Rattle.model.specs.Width.{value_in}
use Rattle.buffers.specs.Fills.{FillsWhere}
use Rattle.value.specs.Narrow.{width}
use Rattle.choose.specs.Pass.{Before, sheet_of, sizes_of}
use Rattle.follow.specs.Pass.{cost_left}
use Rattle.follow.proofs.row.fill.Given as goal

abbrev pub invariant-loop-queue : goal.invariant-loop-queue
invariant-loop-queue l =
    let it = l.queue-iterator in
    let pass = l.pass in
    let sizes = sizes_of pass.lanes.now.of in
    (goal.iterator-loop-queue).is_finite it × (it.pass.now.lanes.now.of ≡ pass.lanes.now.of) ×
    FillsWhere width.places (value_in width)
    (cost_left width (sheet_of pass.lanes.now.of) sizes pass.ahead.now pass.scale l.plan l.row) l.this
    (Before sizes it.queue.block it.queue.last) l.initial.values l.values
