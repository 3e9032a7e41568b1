-- `place_of` meets its contract: the search through the speeds that count is the definition's, which goes by their places.
use Rattle.std.proofs.Common.{◌≡◌, Bool, ap, ◌∙◌, length, eqb, rules, tests}
use Rattle.std.proofs.lemmas.Iterator.{YieldsList-from_slice}
use Rattle.std.proofs.lemmas.Iterator.Search.{position_from_yields_List}
use Rattle.model.specs.View.{view_of, zero_speed, is_speed_at}
use Rattle.model.specs.Tests.{first_place}
use Rattle.model.specs.declared.Speed.{Speed}
use Rattle.limits.proofs.Places.{speeds_few, speeds_counted}
use Rattle.lookups.proofs.Looking.{position_or, first_listed}
use Rattle.lookups.proofs.place_of.Goals as goal

pub returns : goal.returns
returns c =
    let s = c.args.sheet.sheet in
    let test : Speed → Bool = λ one. eqb one.speed c.args.speed in
    let speeds = (view_of s).speeds in
    let long : length s.speeds ≡ 9 = search rules in
    let counted = speeds_counted s long (speeds_few s c.args.sheet.fields) in
    let found =
    position_from_yields_List test _ _ c.position-place.result c.position-place.ensures.ran (YieldsList-from_slice speeds cc)
    (λ x b q k. search (rules, tests)) in
    c.unwrap_or.ensures ∙ position_or test speeds counted found ∙ first_listed test speeds zero_speed ∙
    ap (first_place (is_speed_at (view_of s) c.args.speed)) counted
