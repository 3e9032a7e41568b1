-- `slowest` meets its contract: the search through the speeds is the definition's, which goes by their places.
use Rattle.std.proofs.Common.{◌≡◌, ap, ◌∙◌, Bool, rules, tests, arith}
use Rattle.std.proofs.lemmas.Iterator.{YieldsList-from_slice}
use Rattle.std.proofs.lemmas.Iterator.Search.{position_from_yields_List}
use lib.ListN.{length, get_or}
use Rattle.model.specs.View.{view_of, zero_speed}
use Rattle.model.specs.Queue.{queue_in}
use Rattle.model.specs.Tests.{first_place}
use Rattle.model.specs.declared.Speed.{Speed}
use Rattle.lookups.proofs.Looking.{position_or, first_listed}
use Rattle.speed_lanes.specs.Lanes.{leads_on}
use Rattle.speed_lanes.proofs.speeds.Speeds.slowest.Goals as goal

pub returns : goal.returns
returns c =
    let tested = c.args.self.now.tested.now in
    let s = view_of tested.sheet in
    let test : Speed → Bool = λ one. leads_on tested.sizes.largest tested.sizes.bound (queue_in tested.sizes.bound c.args.queue) one.speed in
    let counted : length s.speeds ≡ tested.sheet.speed_count = rw (← c.speeds.ensures.speeds) c.speeds.ensures.counted in
    let found = position_from_yields_List test _ _ c.position-place.result c.position-place.ensures.ran (YieldsList-from_slice s.speeds cc) (λ x b q k. search (rules, tests)) in
    c.unwrap_or.ensures ∙ position_or test s.speeds (omega (arith, counted, c.count.ensures)) found ∙ first_listed test s.speeds zero_speed ∙
    ap (first_place (λ j. test (get_or s.speeds j zero_speed))) counted
