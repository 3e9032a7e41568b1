-- `greatest_of` meets its contract. The loop's invariant: the speed and the energy so far are the greatest of the places passed.
use Rattle.std.proofs.Common.{arith, rules, add-one, ap, ◌∙◌, length, ◌≡◌}
use Rattle.model.specs.View.{view_of, speed_at, energy_at, M, greatest_energy}
use Rattle.model.specs.Tests.{greatest}
use Rattle.limits.proofs.Places.{speeds_few, speeds_counted}
use Rattle.limits.proofs.greatest_of.Goals as goal

pub loop-one-init : goal.loop-one-init
unfolding greatest
loop-one-init c = search rules

pub loop-one-preserved : goal.loop-one-preserved
unfolding greatest
loop-one-preserved c = let items = c.speeds-one-items.ensures.lent in grind (arith, add-one, items)

pub returns : goal.returns
unfolding M greatest_energy
returns c =
    let s = c.args.sheet.sheet in
    let l = c.loop-one in
    let long : length s.speeds ≡ 9 = search rules in
    let counted = speeds_counted s long (speeds_few s c.args.sheet.fields) in
    let all : l.one-index ≡ s.speed_count = omega (arith, ap length c.speeds-one-items.ensures.lent, counted) in
    (l.invariant.0 ∙ ap (greatest (speed_at (view_of s))) all, l.invariant.1 ∙ ap (greatest (energy_at (view_of s))) all)
