-- `lane_of` meets its contract: 0 where the speed does not lead on, else the number of the queue after the slot.
use Prim.Native.Nat.{◌-◌}
use mathlib.Core.Path.{◌≡◌, ap, ◌∙◌}
use native.Mathlib.Omega.{arith}
use Rattle.model.specs.Queue.{queue_in, number_of}
use Rattle.queues.specs.Order.{Numbered}
use Rattle.rows.proofs.Answers.{holds_by, number_by}
use Rattle.rows.proofs.Room.{numbered_before, number_before_small}
use Rattle.speed_lanes.specs.Lanes.{after_of}
use Rattle.speed_lanes.proofs.Lanes.{after_places, leads_parts}
use Rattle.speed_lanes.proofs.speeds.Speeds.lane_of.Goals as goal
use Rattle.speed_lanes.proofs.speeds.Speeds.lane_of.Goals.{After-after-left}

-- what is left of the queue, in the places that `after` answers, has a number, since the speed leads on
left : (c : After-after-left) →
    let sizes = c.args.self.now.tested.now.sizes in
    (queue_in (sizes.bound - 1) c.after-left.result ≡ after_of sizes.bound (queue_in sizes.bound c.args.queue) c.args.speed) ×
    Numbered sizes.largest (sizes.bound - 1) c.after-left.result
left c =
    let sizes = c.args.self.now.tested.now.sizes in
    let m = c.args.self.now.tested.now.measured in
    let D = sizes.bound in
    let leads = holds_by c.leads_on.ensures c.if-not-leads_on.false in
    let same = after_places D c.args.queue c.args.speed m.bound_low m.ranges.bound_high (omega (arith, c.well_formed)) c.after-left.ensures in
    (same, numbered_before m same (leads_parts sizes.largest D (queue_in D c.args.queue) c.args.speed leads).1)

pub number-requires : goal.number-requires
number-requires c = (left (goal.at.number-requires c).After-after-left).1

pub overflow_cast-result : goal.overflow_cast-result
overflow_cast-result c =
    omega (arith, number_before_small c.args.self.now.tested.now.measured (omega arith) (left (goal.at.overflow_cast-result c).After-after-left).1 c.number.ensures)

pub returns : goal.returns
returns c =
    number_by c.leads_on.ensures c.if-not-leads_on.false
    (c.number.ensures ∙ ap (number_of c.args.self.now.tested.now.sizes.largest) (left (goal.at.returns c).After-after-left).0)
