-- `lane` meets its contract: the lane of the speed at this place, from the block's first queue on.
use mathlib.Core.Path.{ap, ◌∙◌}
use mathlib.Core.List.{List}
use lib.ListN.{get_or}
use Rattle.model.specs.View.{view_of, zero_speed, speed_at}
use Rattle.model.specs.Queue.{Queue, queue_in}
use Rattle.model.specs.declared.Speed.{Speed}
use Rattle.rows.proofs.LastTwice.{first_in}
use Rattle.speed_lanes.specs.Lanes.{lane_of}
use Rattle.speed_lanes.proofs.speeds.SpeedsLanes.lane.Goals as goal

pub returns : goal.returns
returns c =
    let tested = c.args.self.now.tested.now in
    let M = tested.sizes.largest in
    let D = tested.sizes.bound in
    c.lane_of.ensures ∙
    ap (λ (l : List Speed). lane_of M D (queue_in D c.args.block.first) (get_or l c.args.place zero_speed).speed) c.speeds.ensures.speeds ∙
    ap (λ (w : Queue). lane_of M D w (speed_at (view_of tested.sheet) c.args.place)) (first_in tested.measured c.requires.0 c.requires.1).first_is
