-- `lane_of` meets its contract: 0 where the queue is not bearable, else its number.
use native.Mathlib.Omega.{arith}
use Rattle.queues.specs.Order.{Numbered}
use Rattle.rows.proofs.Answers.{holds_by}
use Rattle.rows.proofs.Room.{number_small}
use Rattle.entry_lanes.proofs.entries.Entries.lane_of.Goals as goal
use Rattle.entry_lanes.proofs.entries.Entries.lane_of.Goals.{Else-not-bearable}

-- a queue that is bearable has a number
numbered : (c : Else-not-bearable) →
    let sizes = c.args.self.now.tested.now.sizes in
    Numbered sizes.largest sizes.bound c.args.queue
numbered c =
    record { ranges = c.args.self.now.tested.now.measured.ranges; is_bearable = holds_by c.bearable.ensures c.if-not-bearable.false }

pub overflow_cast-result : goal.overflow_cast-result
overflow_cast-result c =
    omega (arith, number_small c.args.self.now.tested.now.measured (omega arith) (numbered (goal.at.overflow_cast-result c).Else-not-bearable) c.number.ensures)
