-- `speeds_refusal` meets its contract: the first speed that is refused gives its number, and where none is refused there is none.
use Rattle.std.proofs.Common.{◌≡◌, ◌<◌, refl, sym, ap, ◌∙◌, length, rules, arith}
use Rattle.model.proofs.Tests.{in_order_more, in_order_first}
use Rattle.model.specs.View.{view_of}
use Rattle.model.specs.Refusal.{speeds_lines}
use Rattle.model.specs.Tests.{in_order}
use Rattle.refusals.specs.Numbers.{number_of, number_of_refusal}
use Rattle.ranges.proofs.Answers.{number_some}
use Rattle.limits.proofs.Places.{speeds_counted}
use Rattle.sheets.proofs.Speeds.{number_kept}
use Rattle.sheets.proofs.refusal.speeds_refusal.Goals as goal

pub loop-place-init : goal.loop-place-init
unfolding speeds_lines in_order
loop-place-init c = record { passed = refl; kept = λ some. absurd (some refl) }

pub returns-in_err-refusal_of_speed : goal.returns-in_err-refusal_of_speed
unfolding speeds_lines
returns-in_err-refusal_of_speed c =
    let s = c.args.sheet in
    let l = c.loop-place in
    let refused = c.in_err-refusal_of_speed in
    let same : number_of c.from_residual.result ≡ number_of_refusal refused.field-0.0 = search rules in
    let here = refused.ensures ∙ number_kept (view_of s) l.place c.speeds-one-items.ensures.lent l.invariant.kept in
    let long : length s.speeds ≡ 9 = search rules in
    let counted = ap length c.speeds-one-items.ensures.lent ∙ speeds_counted s long c.requires in
    let below : l.place < s.speed_count = omega (arith, c.loop-place-test.true, counted) in
    same ∙ sym (in_order_first _ l.place s.speed_count l.invariant.passed (sym here) (number_some refused.field-0.0) below)

pub loop-place-preserved : goal.loop-place-preserved
unfolding speeds_lines
loop-place-preserved c =
    let s = c.args.sheet in
    let l = c.loop-place in
    let items = c.speeds-one-items.ensures.lent in
    record {
      passed =
          in_order_more _ l.place l.invariant.passed
          (sym (number_kept (view_of s) l.place items l.invariant.kept) ∙ sym c.in_ok-refusal_of_speed.ensures);
      kept = λ some. grind (arith, items);
    }
