-- `sum_of_counts` meets its contract: it sums the counts that are wanted. Each is at most 49 ^ 5, so that 2 ^ 32 of them fit.
use native.Mathlib.Omega.{arith}
use borrow.Author.Tests.{tests}
use Rattle.std.proofs.Common.{rules}
use Rattle.model.specs.Queue.{continuation_count}
use Rattle.queues.proofs.Bounds.{counts_small}
use Rattle.queues.proofs.Ranges.{range_sum, range_sum_fits}
use Rattle.queues.proofs.sum_of_counts.Goals as goal

pub sum-requires-clause-fits : goal.sum-requires-clause-fits
sum-requires-clause-fits c =
    let a = c.args in
    range_sum_fits (continuation_count a.largest a.left) a.slacks.start a.slacks.end c.map.ensures.source c.map.ensures.closure
    (λ x r q k. search (rules, tests)) _ (omega (arith, counts_small _ _ _ _ c.requires))

pub returns : goal.returns
returns c =
    let a = c.args in
    range_sum (continuation_count a.largest a.left) a.slacks.start a.slacks.end c.map.ensures.source c.map.ensures.closure
    (λ x r q k. search (rules, tests)) c.sum.result c.sum.ensures.ran
