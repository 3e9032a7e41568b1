-- `fill` meets its contract. The loop's invariant: the queues that come before the next one are filled.
use mathlib.Core.Path.{◌≡◌}
use Rattle.value.specs.Narrow.{width}
use Rattle.choose.specs.Pass.{sheet_of, sizes_of, Before, LeftWhere}
use Rattle.choose.proofs.pass.Pass.fill.Given as goal

abbrev pub invariant-loop-queue : goal.invariant-loop-queue
invariant-loop-queue l =
    let it = l.queue-iterator in
    let sizes = sizes_of l.self.lanes.now.of in
    (goal.iterator-loop-queue).is_finite it × (it.pass.now.lanes.now.of ≡ l.self.lanes.now.of) ×
    LeftWhere width (sheet_of l.self.lanes.now.of) sizes l.self.scale l.self.ahead.now l.this l.row
    (Before sizes it.queue.block it.queue.last) l.initial.values l.initial.plan l.values l.plan
