-- `jobs_refusal` meets its contract. The loop's invariant: no job passed is refused.
use Rattle.std.proofs.Common.{◌≡◌}
use Rattle.model.specs.View.{view_of}
use Rattle.model.specs.Refusal.{jobs_refusal}
use Rattle.sheets.proofs.refusal.jobs_refusal.Given as goal

abbrev pub invariant-loop-one : goal.invariant-loop-one
invariant-loop-one l = jobs_refusal (view_of l.fn.sheet) l.one-index ≡ 0
