-- `queue_at` meets its contract: what is fixed so far, followed by the queue at the place among what may follow, is the queue wanted.
use Rattle.queues.proofs.Finding.{Fixing}
use Rattle.queues.proofs.queue_at.Given as goal

abbrev pub invariant-loop-fixed : goal.invariant-loop-fixed
invariant-loop-fixed l =
    Fixing l.largest l.bound l.number l.queue l.found.total l.found.slack l.found.place l.fixed
