-- `value_on` meets its contract: the lane tells the number of the queue with the arrival, and the row has its value there.
use Prim.Native.Nat.{◌+◌, ◌*◌}
use mathlib.Core.Path.{◌∙◌}
use native.Mathlib.Omega.{arith}
use lib.ListN.{get_or}
use Rattle.value.specs.Narrow.{width}
use Rattle.buffers.proofs.Filling.{fewer_fit}
use Rattle.ahead.specs.Steps.{sheet_of}
use Rattle.ahead.proofs.Passing.{Lifted, lane_lifted, value_there}
use Rattle.ahead.proofs.step.Step.value_on.Goals as goal
use Rattle.ahead.proofs.step.Step.value_on.Goals.{After-second}

-- what is read of the lane and of the lift
told : (c : After-second) →
    let at = c.args.self.now in
    Lifted at.pass.lanes.now.of.tested.now.sizes.queues (get_or at.line.lanes.now c.args.place 0 + at.far) (at.steps * c.second.result)
told c =
    let at = c.args.self.now in
    let tested = at.pass.lanes.now.of.tested.now in
    lane_lifted tested.measured at.at.within (sheet_of at.pass) tested.fields c.requires.0 c.requires.1 (at.at.line.lane_is c.args.place c.requires.1)
    c.second.ensures at.at.far_is

pub overflow_mul-lifted : goal.overflow_mul-lifted
overflow_mul-lifted c = omega (arith, told (goal.at.overflow_mul-lifted c).After-second)

pub overflow_add-on : goal.overflow_add-on
overflow_add-on c = omega (arith, told (goal.at.overflow_add-on c).After-second)

pub overflow_sub-on : goal.overflow_sub-on
overflow_sub-on c = omega (arith, told (goal.at.overflow_sub-on c).After-second)

pub load-requires : goal.load-requires
load-requires c = fewer_fit width (omega (arith, told (goal.at.load-requires c).After-second)) c.args.self.now.pass.given.room

pub returns : goal.returns
returns c =
    let at = c.args.self.now in
    let tested = at.pass.lanes.now.of.tested.now in
    c.load.ensures ∙
    value_there tested.measured at.at.within (sheet_of at.pass) tested.fields c.requires.0 c.requires.1 (at.at.line.lane_is c.args.place c.requires.1)
    c.second.ensures at.at.far_is width at.pass.next at.pass.values.now
