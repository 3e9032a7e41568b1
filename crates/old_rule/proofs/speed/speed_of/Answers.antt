-- `speed_of` meets its contract: one speed at least is enough, and the first that is enough is the smallest.
use Rattle.std.proofs.Common.{◌≡◌, true, false, rules, tests, arith, length-take, subst, ap, Bor}
use Rattle.std.proofs.lemmas.Iterator.{first_from_find, YieldsList-from_slice}
use Rattle.std.proofs.lemmas.Iterator.Adapters.{serves_from_places}
use Rattle.model.proofs.Refusal.{ranged}
use Rattle.model.specs.declared.Speed.{Speed}
use Rattle.model.specs.View.{view_of}
use Rattle.model.specs.Pricing.{enough}
use Rattle.model.specs.Queue.{queue_in}
use Rattle.old_rule.proofs.Smallest.{IsFirstEnough, found_at, some_enough, enough_smallest}
use Rattle.old_rule.proofs.speed.speed_of.Goals as goal
use Rattle.old_rule.proofs.speed.speed_of.Goals.{After-find}

-- what was found is the first that is enough
first : (c : After-find) → IsFirstEnough (view_of c.args.sheet.sheet) (queue_in c.args.sheet.sheet.bound c.args.queue) c.find.result
first c =
    let w = queue_in c.args.sheet.sheet.bound c.args.queue in
    first_from_find _ _ _ (λ (one : Speed). enough w one.speed ≡ true) (λ (one : Speed). enough w one.speed ≡ false) c.find.ensures.ran
    (YieldsList-from_slice (view_of c.args.sheet.sheet).speeds (cc)) (λ x q k. search (rules, tests)) (λ x q k. search (rules, tests))

pub speeds-speeds-requires : goal.speeds-speeds-requires
speeds-speeds-requires c = omega (arith, (ranged (view_of c.args.sheet.sheet) c.args.sheet.fields).speeds_high)

pub find-requires-clause-callable : goal.find-requires-clause-callable
find-requires-clause-callable c =
    let s = view_of c.args.sheet.sheet in
    let right = ranged s c.args.sheet.fields in
    serves_from_places (YieldsList-from_slice s.speeds (cc)) (λ x q k. search rules)
    (λ x k low is y here _ _ _ _ _ _ _ _. (
      omega (arith, right.bound_high),
      omega (arith, found_at s k low is, right.speed_high k (omega (arith, length-take c.args.sheet.sheet.speed_count c.args.sheet.sheet.speeds)), ap (λ (one : Speed). one.speed) (ap (λ (z : Bor Speed). z.now) here)),
    ))

pub unwrap-smallest-requires : goal.unwrap-smallest-requires
unwrap-smallest-requires c =
    let s = view_of c.args.sheet.sheet in
    some_enough s (ranged s c.args.sheet.fields) (omega (arith, length-take c.args.sheet.sheet.speed_count c.args.sheet.sheet.speeds, (ranged s c.args.sheet.fields).speeds_high)) _ c.requires _ (first (goal.at.unwrap-smallest-requires c).After-find)

pub returns : goal.returns
returns c =
    let s = view_of c.args.sheet.sheet in
    enough_smallest s (ranged s c.args.sheet.fields) (omega (arith, length-take c.args.sheet.sheet.speed_count c.args.sheet.sheet.speeds, (ranged s c.args.sheet.fields).speeds_high)) _ c.unwrap-smallest.result (subst (IsFirstEnough s (queue_in c.args.sheet.sheet.bound c.args.queue)) c.unwrap-smallest.ensures (first (goal.at.returns c).After-find))
