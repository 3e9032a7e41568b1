-- `first_queue` meets its contract: the block's first queue, and its last total written once more behind it.
use Prim.Native.Nat.{pred, ◌-◌, ◌<◌}
use native.Mathlib.Omega.{arith}
use Rattle.model.specs.Queue.{queue_count}
use Rattle.sheets.proofs.Measures.{one_fewer}
use Rattle.entry_lanes.proofs.Firsts.{after_places}
use Rattle.entry_lanes.proofs.entries.EntriesLanes.first_queue.Goals as goal
use Rattle.entry_lanes.proofs.entries.EntriesLanes.first_queue.Goals.{Start}

-- the block is one
block : (c : Start) →
    let sizes = c.args.self.now.tested.now.sizes in
    c.args.block < queue_count sizes.largest (pred (sizes.bound - 1))
block c = rw one_fewer (omega (arith, c.requires, c.args.self.now.tested.now.measured.blocks_is))

pub returns : goal.returns
returns c =
    let tested = c.args.self.now.tested.now in
    rw (← one_fewer tested.sizes.bound)
    (after_places tested.sizes.largest (tested.sizes.bound - 1) c.args.block (omega (arith, tested.measured.ranges.bound_high))
    (block (goal.at.returns c).Start) c.first_queue-queue.ensures c.total.ensures)
