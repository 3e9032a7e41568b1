-- `byte_of_queue` meets its contract: the queue's number is below the count of queues, and there its byte stands in the row.
use Rattle.std.proofs.Common.{◌<◌, ◌∙◌, ap, arith}
use Rattle.model.proofs.Queues.{number_below, length_in}
use Rattle.model.specs.Queue.{queue_in}
use Rattle.layout.specs.Places.{byte_in}
use Rattle.layout.proofs.Within.{row_length, row_byte}
use Rattle.layout.proofs.bytes.byte_of_queue.Goals as goal
use Rattle.layout.proofs.bytes.byte_of_queue.Goals.{After-number}

-- the queue has a number
low : (c : After-number) → c.number.result < c.args.sizes.queues
low c =
    let a = c.args in
    let m = c.requires.0 in
    let long = length_in a.sizes.bound a.queue (omega (arith, m.ranges.bound_high)) in
    omega (arith, c.number.ensures, number_below a.sizes.largest (queue_in a.sizes.bound a.queue) long c.requires.2, m.queues_is)

pub bounds-row-number : goal.bounds-row-number
bounds-row-number c = omega (arith, low (goal.at.bounds-row-number c).After-number, row_length c.requires.1 c.row_of-row.ensures)

pub returns : goal.returns
returns c =
    let a = c.args in
    row_byte c.requires.1 c.row_of-row.ensures c.number.result (low (goal.at.returns c).After-number) ∙
    ap (byte_in a.sizes.queues a.plan.now a.slot) c.number.ensures
