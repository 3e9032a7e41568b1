-- `number` meets its contract: it sums what comes before the queue at each position; the whole of it is below N.
use mathlib.Core.Path.{◌∙◌}
use native.Mathlib.Omega.{arith}
use borrow.Author.Tests.{tests}
use Rattle.std.proofs.Common.{rules}
use Rattle.model.specs.Queue.{queue_in}
use Rattle.queues.specs.Order.{earlier_at}
use Rattle.queues.proofs.Numbering.{number_whole, number_fits}
use Rattle.queues.proofs.Ranges.{range_sum, range_sum_fits}
use Rattle.queues.proofs.number.Goals as goal

pub sum-requires-clause-fits : goal.sum-requires-clause-fits
sum-requires-clause-fits c =
    let a = c.args in
    range_sum_fits (earlier_at a.largest (queue_in a.bound a.queue)) 0 a.bound c.map.ensures.source c.map.ensures.closure
    (λ x r q k. search (rules, tests)) _ (omega (arith, number_whole c.requires (omega arith), number_fits c.requires (omega arith)))

pub returns : goal.returns
returns c =
    let a = c.args in
    range_sum (earlier_at a.largest (queue_in a.bound a.queue)) 0 a.bound c.map.ensures.source c.map.ensures.closure
    (λ x r q k. search (rules, tests)) c.sum.result c.sum.ensures.ran ∙
    number_whole c.requires (omega arith)
