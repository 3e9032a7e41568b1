-- `count` meets its contract: the sheet is tested.
use mathlib.Core.Path.{refl}
use Rattle.model.proofs.Refusal.{ranged}
use Rattle.speed_lanes.proofs.speeds.SpeedsLanes.count.Goals as goal

pub returns : goal.returns
returns c = (refl, (ranged _ c.args.self.now.tested.now.fields).speeds_high)
