-- `start` meets its contract: it answers by its step.
use Rattle.std.proofs.Common.{refl, sym}
use Rattle.laws.proofs.Stepper.{start_by}
use Rattle.model.specs.View.{view_of}
use Rattle.model.specs.Stepper.{begun, speed_now, zero_state}
use Rattle.stepper.proofs.Outcomes.{step_answered}
use Rattle.stepper.specs.Calls.{state_of}
use Rattle.stepper.proofs.state.State.start.Goals as goal

pub returns : goal.returns
returns c =
    let s = view_of c.args.sheet in
    let plan = c.args.plan.now in
    let x = state_of c.args.self in
    step_answered c.try_start.result (begun x) zero_state (speed_now s plan (begun x)) (start_by s plan x (sym c.try_start.ensures.number))
    c.try_start.ensures.given c.stepped_by.result c.stepped_by.ensures.number c.stepped_by.ensures.given refl
