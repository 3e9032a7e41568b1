-- `jobs_refusal` meets its contract: the first job that is refused gives its number, and where none is refused there is none.
use Rattle.std.proofs.Common.{◌≡◌, ◌<◌, ℕ, List, refl, sym, ap, ◌∙◌, length, get_or, rules, arith}
use Rattle.model.proofs.Tests.{in_order_more, in_order_first}
use Rattle.model.specs.View.{View, view_of, zero_job}
use Rattle.model.specs.Refusal.{jobs_lines, refusal_of_job, job_refusal_at}
use Rattle.model.specs.Tests.{in_order}
use Rattle.model.specs.declared.Job.{Job}
use Rattle.refusals.specs.Numbers.{number_of, number_of_refusal}
use Rattle.ranges.proofs.Answers.{number_some}
use Rattle.limits.proofs.Places.{jobs_counted}
use Rattle.sheets.proofs.refusal.jobs_refusal.Goals as goal

-- the number of the job that the loop is at
number_here : (s : View) (i : ℕ) {jobs : List Job} → jobs ≡ s.jobs →
    refusal_of_job s.bound (get_or jobs i zero_job).weight (get_or jobs i zero_job).size (get_or jobs i zero_job).deadline ≡
    job_refusal_at s i
number_here s i e =
    ap (λ l. refusal_of_job s.bound (get_or l i zero_job).weight (get_or l i zero_job).size (get_or l i zero_job).deadline) e

pub loop-one-init : goal.loop-one-init
unfolding jobs_lines in_order
loop-one-init c = refl

pub returns-in_err-refusal_of_job : goal.returns-in_err-refusal_of_job
unfolding jobs_lines
returns-in_err-refusal_of_job c =
    let s = c.args.sheet in
    let l = c.loop-one in
    let refused = c.in_err-refusal_of_job in
    let same : number_of c.from_residual.result ≡ number_of_refusal refused.field-0.0 = search rules in
    let here = refused.ensures ∙ number_here (view_of s) l.one-index c.jobs-one-items.ensures.lent in
    let long : length s.jobs ≡ 32 = search rules in
    let counted = ap length c.jobs-one-items.ensures.lent ∙ jobs_counted s long c.requires in
    let below : l.one-index < s.job_count = omega (arith, c.loop-one-test.true, counted) in
    same ∙ sym (in_order_first _ l.one-index s.job_count l.invariant (sym here) (number_some refused.field-0.0) below)

pub loop-one-preserved : goal.loop-one-preserved
unfolding jobs_lines
loop-one-preserved c =
    let l = c.loop-one in
    in_order_more _ l.one-index l.invariant
    (sym (number_here (view_of c.args.sheet) l.one-index c.jobs-one-items.ensures.lent) ∙ sym c.in_ok-refusal_of_job.ensures)
