-- `blocks` meets its contract: the queues come in few blocks.
use mathlib.Core.Path.{refl}
use native.Mathlib.Omega.{arith}
use Rattle.rows.proofs.Room.{after_room}
use Rattle.speed_lanes.proofs.speeds.SpeedsLanes.blocks.Goals as goal

pub returns : goal.returns
returns c = (refl, omega (arith, after_room c.args.self.now.tested.now.measured))
