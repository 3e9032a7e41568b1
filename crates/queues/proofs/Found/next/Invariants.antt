-- `next` meets its contract: the queue wanted is still at the place among those that begin with the total or a larger one.
use Rattle.queues.proofs.Finding.{Searching}
use Rattle.queues.proofs.Found.next.Given as goal

abbrev pub invariant-loop-self : goal.invariant-loop-self
invariant-loop-self l = Searching l.largest l.left l.initial.self.total l.initial.self.slack l.initial.self.place l.self.total l.self.slack l.self.place

abbrev pub decreases-loop-self : goal.decreases-loop-self
decreases-loop-self l = l.self.slack
