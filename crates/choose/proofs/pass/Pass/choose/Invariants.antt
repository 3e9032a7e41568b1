-- `choose` meets its contract. The loop's invariant: the least so far is the least over the speeds passed, and the cost of those before the
-- first that leads on is none.
use Prim.Native.Nat.{◌≤◌}
use Rattle.model.specs.View.{speed_at}
use Rattle.value.specs.Narrow.{width}
use Rattle.choose.specs.Choice.{cost_at, least_to, IsChoice}
use Rattle.choose.specs.Pass.{sheet_of, sizes_of, queue_of, slowest_of}
use Rattle.choose.proofs.pass.Pass.choose.Given as goal

abbrev pub invariant-loop-place : goal.invariant-loop-place
invariant-loop-place l =
    let s = sheet_of l.self.lanes.now.of in
    let sizes = sizes_of l.self.lanes.now.of in
    (slowest_of sizes s l.queue.block ≤ l.place) × (l.place ≤ s.speed_count) ×
    IsChoice (least_to (speed_at s) (cost_at width sizes.largest sizes.bound s l.self.ahead.now l.self.scale
    (queue_of sizes l.queue.block l.queue.last)) l.place) l.best.speed l.best.value
