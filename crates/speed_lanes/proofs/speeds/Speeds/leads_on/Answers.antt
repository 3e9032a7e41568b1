-- `leads_on` meets its contract: the speed is compared with w(1), and what is left after the slot is tested.
use mathlib.Core.Path.{sym, ap, ◌∙◌}
use native.Mathlib.Omega.{arith}
use Rattle.model.specs.Queue.{bearable}
use Rattle.speed_lanes.proofs.Lanes.{after_places, leads_fast}
use Rattle.speed_lanes.proofs.speeds.Speeds.leads_on.Goals as goal

pub returns-then-queue-speed : goal.returns-then-queue-speed
returns-then-queue-speed c =
    let m = c.args.self.now.tested.now.measured in
    let M = c.args.self.now.tested.now.sizes.largest in
    let D = c.args.self.now.tested.now.sizes.bound in
    c.bearable.ensures ∙
    ap (bearable M) (after_places D c.args.queue c.args.speed m.bound_low m.ranges.bound_high (omega (arith, c.well_formed)) c.after.ensures) ∙
    sym (leads_fast M D c.args.queue c.args.speed m.bound_low (omega (arith, c.if-queue-speed.true)))
