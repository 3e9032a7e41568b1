-- `next` meets its contract: the queue wanted is still at the place among those that begin with the total or a larger one.
use native.Mathlib.Omega.{arith}
use Rattle.queues.proofs.Finding.{search_begins, search_goes_on, search_ends}
use Rattle.queues.proofs.Found.next.Goals as goal

pub loop-self-init : goal.loop-self-init
loop-self-init c = search_begins c.requires

pub returns-then-self-here : goal.returns-then-self-here
returns-then-self-here c = search_ends c.loop-self.invariant (omega (arith, c.count-here.ensures))

pub overflow_sub-self-in-loop-self : goal.overflow_sub-self-in-loop-self
overflow_sub-self-in-loop-self c =
    (search_goes_on c.count-here.result c.loop-self.invariant c.count-here.ensures c.if-self-here.false).0

pub loop-self-smaller : goal.loop-self-smaller
loop-self-smaller c =
    omega (arith, (search_goes_on c.count-here.result c.loop-self.invariant c.count-here.ensures c.if-self-here.false).0)

pub loop-self-preserved : goal.loop-self-preserved
loop-self-preserved c =
    (search_goes_on c.count-here.result c.loop-self.invariant c.count-here.ensures c.if-self-here.false).1
