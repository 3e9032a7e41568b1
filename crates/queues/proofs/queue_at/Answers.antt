-- `queue_at` meets its contract: what is fixed so far, followed by the queue at the place among what may follow, is the queue wanted.
use Rattle.queues.proofs.Finding.{fixing_begins, fixing_goes_on, fixing_ends}
use Rattle.queues.proofs.queue_at.Goals as goal

pub loop-fixed-init : goal.loop-fixed-init
loop-fixed-init c = fixing_begins c.args.largest c.args.bound c.args.number c.requires.1

pub loop-fixed-preserved : goal.loop-fixed-preserved
loop-fixed-preserved c =
    fixing_goes_on c.requires.0 c.loop-fixed.invariant c.loop-fixed-test.true c.next-found.ensures

pub returns : goal.returns
returns c = fixing_ends c.loop-fixed.invariant c.loop-fixed-test.false
