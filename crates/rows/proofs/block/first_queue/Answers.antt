-- `first_queue` meets its contract: the queue of one position fewer, and its last total written behind it.
use Prim.Native.Nat.{pred}
use mathlib.Core.Path.{◌≡◌}
use native.Mathlib.Omega.{arith}
use Rattle.model.proofs.Queues.{listed_bearable}
use Rattle.queues.specs.Blocks.{queue_with}
use Rattle.rows.proofs.LastTwice.{twice_places}
use Rattle.rows.proofs.block.first_queue.Goals as goal

pub returns : goal.returns
returns c =
    let a = c.args in
    let d = c.saturating_sub-fewer.result in
    let fewer : d ≡ pred a.positions = omega (arith, c.saturating_sub-fewer.ensures) in
    rw (← fewer)
    (twice_places d (queue_with a.largest d a.block) (omega (arith, fewer, c.requires.0.bound_high))
    (listed_bearable a.largest d a.block (rw fewer c.requires.1)).0 c.queue_at-queue.ensures c.total.ensures)
