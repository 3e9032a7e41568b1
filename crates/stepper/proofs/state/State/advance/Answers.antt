-- `advance` meets its contract: it answers by its step.
use Rattle.std.proofs.Common.{refl, sym}
use Rattle.laws.proofs.Stepper.{advance_by}
use Rattle.model.specs.View.{view_of}
use Rattle.model.specs.Stepper.{moved, plan_byte, speed_now}
use Rattle.stepper.proofs.Outcomes.{step_answered}
use Rattle.stepper.specs.Calls.{state_of}
use Rattle.stepper.proofs.state.State.advance.Goals as goal

pub returns : goal.returns
returns c =
    let a = c.args in
    let s = view_of a.sheet in
    let plan = a.plan.now in
    let x = state_of a.self in
    let next = moved s x (plan_byte s plan x) a.size a.deadline in
    step_answered c.try_advance.result next x (speed_now s plan next) (advance_by s plan x a.size a.deadline (sym c.try_advance.ensures.number))
    c.try_advance.ensures.given c.stepped_by.result c.stepped_by.ensures.number c.stepped_by.ensures.given refl
