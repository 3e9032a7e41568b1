-- `weights` meets its contract: W is the sum over the list of the jobs that count, and so small that no sum wraps.
use Rattle.std.proofs.Common.{arith, rules, ◌<◌, ◌^◌, ◌≡◌, ap, ◌∙◌, length}
use Rattle.std.proofs.iter.runs.Made.{chains}
use Rattle.std.specs.List.{sum_by}
use Rattle.model.specs.declared.Job.{Job}
use Rattle.limits.proofs.Places.{weights_listed, weights_small}
use Rattle.limits.proofs.weights.Goals as goal

pub sum-requires-clause-fits : goal.sum-requires-clause-fits
sum-requires-clause-fits c =
    let s = c.args.sheet.sheet in
    let long : length s.jobs ≡ 32 = search rules in
    let small : sum_by (λ (one : Job). one.weight) c.jobs.result.now < 2 ^ 32 =
    rw c.jobs.ensures.lent (omega (arith, weights_listed s long c.args.sheet.fields, weights_small s c.args.sheet.fields)) in
    search (rules, chains)

pub returns : goal.returns
returns c =
    let s = c.args.sheet.sheet in
    let long : length s.jobs ≡ 32 = search rules in
    let total : c.sum.result ≡ sum_by (λ (one : Job). one.weight) c.jobs.result.now = search rules in
    total ∙ ap (sum_by (λ (one : Job). one.weight)) c.jobs.ensures.lent ∙ weights_listed s long c.args.sheet.fields
