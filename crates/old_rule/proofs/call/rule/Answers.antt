-- `rule` meets its contract: the call is refused and nothing is touched, or the plan is filled.
use Rattle.std.proofs.Common.{sym, ap, arith, subst, ◌∙◌}
use Rattle.laws.proofs.Rooms.{row_accepted}
use Rattle.model.specs.declared.Sheet.{Sheet}
use Rattle.model.specs.Plan.{plan_needed}
use Rattle.model.specs.View.{view_of}
use Rattle.ranges.proofs.Answers.{number_some}
use Rattle.sheets.specs.Sizes.{Sized}
use Rattle.old_rule.specs.Rows.{FilledTo}
use Rattle.old_rule.proofs.Outcomes.{refused_rule, filled_rule}
use Rattle.old_rule.proofs.call.rule.Goals as goal

pub fill-requires : goal.fill-requires
fill-requires c =
    let (same, sized) = c.in-Ok.ensures.sized in (
      subst (λ (sheet : Sheet). Sized (view_of sheet) c.in-Ok.tested.sizes) (sym same) sized,
      omega (arith, ap (λ (sheet : Sheet). plan_needed (view_of sheet)) same, (row_accepted (view_of c.args.sheet) _ (sym c.in-Ok.ensures.number)).1),
    )

pub overflow_cast-result : goal.overflow_cast-result
overflow_cast-result c = omega (arith, c.in-Ok.tested.measured.queues_high)

pub returns-in-Ok : goal.returns-in-Ok
returns-in-Ok c =
    let (same, sized) = c.in-Ok.ensures.sized in
    filled_rule (view_of c.args.sheet) (sym c.in-Ok.ensures.number)
    (subst (λ (sheet : Sheet). FilledTo (view_of sheet) (plan_needed (view_of sheet)) c.args.plan.now c.fill.new.plan) same c.fill.ensures) sized.queues_is

pub returns-in-Err : goal.returns-in-Err
returns-in-Err c =
    refused_rule (view_of c.args.sheet) c.args.plan.now (c.number.ensures ∙ c.in-Err.ensures.number)
    (λ e. number_some c.in-Err.refusal (sym c.number.ensures ∙ e))
