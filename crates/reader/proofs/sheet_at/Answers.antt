-- `sheet_at` meets its contract.
use Rattle.std.proofs.Common.{rules, ap, ◌∙◌}
use Rattle.fields.proofs.Told.{passed_on}
use Rattle.reader.specs.Answers.{number_and_sheet}
use Rattle.reader.proofs.Stages.{IsWhole, memory_of, whole, keeps_ranges, accepted, refused_by}
use Rattle.reader.proofs.sheet_at.Goals as goal
use Rattle.reader.proofs.sheet_at.Goals.{Else-next-bytes}

-- both tables and what stands before each were read, and no byte follows
is_whole : (c : Else-next-bytes) →
    let speeds = c.in_ok-speed_count in
    let jobs = c.in_ok-job_count in
    IsWhole c.args.bytes.now jobs.next
    (memory_of c.in-Ok.bound (speeds.speed_count, speeds.speeds) c.in-Ok-answer.horizon (jobs.job_count, jobs.jobs))
is_whole c =
    whole c.in-Ok.ensures (search rules) c.in_ok-speed_count.ensures c.in-Ok-answer.ensures (search rules) c.in_ok-job_count.ensures
    c.if-next-bytes.false

pub invariant_of-limits_refusal : goal.invariant_of-limits_refusal
invariant_of-limits_refusal c = record { fields = keeps_ranges (is_whole (goal.at.invariant_of-limits_refusal c).Else-next-bytes) }

pub returns-in_err-limits_refusal : goal.returns-in_err-limits_refusal
returns-in_err-limits_refusal c =
    let w = is_whole (goal.at.returns-in_err-limits_refusal c).Else-next-bytes in
    ap number_and_sheet (passed_on _ _ c.from_residual-in_err-limits_refusal.ensures.1) ∙ refused_by w _ c.in_err-limits_refusal.ensures

pub returns : goal.returns
returns c = accepted (is_whole (goal.at.returns c).Else-next-bytes) c.in_ok-limits_refusal.ensures
