-- `head` meets its contract: the block's first queue has a number.
use mathlib.Core.Path.{ap, ◌∙◌}
use native.Mathlib.Omega.{arith}
use Rattle.model.specs.View.{view_of}
use Rattle.model.specs.Queue.{number_of}
use Rattle.rows.proofs.LastTwice.{FirstIn, first_in}
use Rattle.rows.proofs.Room.{number_small}
use Rattle.speed_lanes.specs.Lanes.{slowest_in}
use Rattle.speed_lanes.proofs.speeds.SpeedsLanes.head.Goals as goal
use Rattle.speed_lanes.proofs.speeds.SpeedsLanes.head.Goals.{Start}

first : (c : Start) →
    let sizes = c.args.self.now.tested.now.sizes in
    FirstIn sizes.largest sizes.bound c.args.block.place c.args.block.first
first c = first_in c.args.self.now.tested.now.measured c.requires.0 c.requires.1

pub number-number-requires : goal.number-number-requires
number-number-requires c = (first (goal.at.number-number-requires c).Start).numbered

pub overflow_cast-result : goal.overflow_cast-result
overflow_cast-result c =
    omega (arith, number_small c.args.self.now.tested.now.measured (omega (arith, c.well_formed)) (first (goal.at.overflow_cast-result c).Start).numbered c.number-number.ensures)

pub returns : goal.returns
returns c =
    let sizes = c.args.self.now.tested.now.sizes in
    let f = first (goal.at.returns c).Start in (
      c.number-number.ensures ∙ ap (number_of sizes.largest) f.first_is,
      f.lowest_is,
      c.slowest.ensures ∙ ap (slowest_in sizes.largest sizes.bound (view_of c.args.self.now.tested.now.sheet)) f.first_is,
    )
