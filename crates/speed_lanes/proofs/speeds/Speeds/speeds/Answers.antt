-- `speeds` meets its contract: the sheet is tested, so that its speeds are few.
use Rattle.model.proofs.Refusal.{ranged}
use Rattle.speed_lanes.proofs.speeds.Speeds.speeds.Goals as goal

pub speeds-requires : goal.speeds-requires
speeds-requires c = (ranged _ c.args.self.now.tested.now.fields).speeds_high
