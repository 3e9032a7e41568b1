-- `queue_count` meets its contract: N sums the counts of the slacks 0 to M at the first position.
use mathlib.Core.Path.{◌∙◌}
use Rattle.queues.proofs.Numbering.{queues_none, queues_counted}
use Rattle.queues.proofs.queue_count.Goals as goal

pub returns-then-bound-eq0 : goal.returns-then-bound-eq0
returns-then-bound-eq0 c = queues_none c.args.largest c.args.bound c.if-bound-eq0.true

pub returns : goal.returns
returns c = c.sum_of_counts.ensures ∙ queues_counted _ _ c.if-bound-eq0.false
