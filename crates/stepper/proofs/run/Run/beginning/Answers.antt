-- `beginning` meets its contract: at the horizon no slot begins, and before it the plan byte decides.
use Rattle.std.proofs.Common.{ℕ, ◌≡◌, Bool, sym, subst, ap, ◌∙◌, arith, IfOk}
use Rattle.laws.proofs.Stepper.{begins_at_end, begins_before}
use Rattle.model.proofs.Tests.{check_true}
use Rattle.model.specs.View.{view_of}
use Rattle.model.specs.Tests.{check}
use Rattle.stepper.specs.Calls.{state_of}
use Rattle.stepper.proofs.run.Run.beginning.Goals as goal

pub returns-then-state-self-clause-number : goal.returns-then-state-self-clause-number
returns-then-state-self-clause-number c =
    let s = view_of c.args.self.tested.sheet in
    let x = state_of c.args.state in
    sym (check_true _ 16 (begins_at_end s c.args.self.plan.now x (omega (arith, c.if-state-self.true, c.requires.1))).1)

pub returns-then-state-self-clause-speed : goal.returns-then-state-self-clause-speed
returns-then-state-self-clause-speed c =
    let s = view_of c.args.self.tested.sheet in
    let x = state_of c.args.state in
    sym (begins_at_end s c.args.self.plan.now x (omega (arith, c.if-state-self.true, c.requires.1))).0

pub returns-clause-number : goal.returns-clause-number
returns-clause-number c =
    let s = view_of c.args.self.tested.sheet in
    let x = state_of c.args.state in
    let before = begins_before s c.args.self.plan.now x (λ e. omega (arith, c.if-state-self.false, e)) in
    c.speed_of.ensures.number ∙ ap (λ (b : Bool). check b 16) (sym before.1)

pub returns-clause-speed : goal.returns-clause-speed
returns-clause-speed c =
    let s = view_of c.args.self.tested.sheet in
    let x = state_of c.args.state in
    let before = begins_before s c.args.self.plan.now x (λ e. omega (arith, c.if-state-self.false, e)) in
    subst (λ (speed : ℕ). IfOk c.speed_of.result (λ told. told ≡ speed)) (sym before.0) c.speed_of.ensures.speed
