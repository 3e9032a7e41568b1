-- `ending` meets its contract: a right state before the horizon has a plan byte.
use Rattle.std.proofs.Common.{sym, subst, arith}
use lib.Dec.{T}
use Rattle.model.proofs.Queues.{held_bearable}
use Rattle.laws.proofs.Stepper.{state_right_lem}
use Rattle.model.specs.View.{view_of, M}
use Rattle.model.specs.Stepper.{state_right}
use Rattle.model.specs.declared.Sheet.{Sheet}
use Rattle.ranges.proofs.Answers.{passed_by}
use Rattle.stepper.specs.Calls.{state_of}
use Rattle.stepper.proofs.run.Run.ending.Goals as goal

pub speed_of-requires : goal.speed_of-requires
speed_of-requires c =
    let a = c.args in
    let s = view_of a.self.tested.sheet in
    let right = passed_by c.state_right.ensures c.if-not-state_right.false in
    let state =
    state_right_lem s (state_of a.state)
    (subst (λ (sheet : Sheet). T (state_right (view_of sheet) (state_of a.state))) c.ranged.ensures (subst T (sym right) tt)) in
    (held_bearable (M s) s.bound a.state.queue state.0, omega (arith, state.1, c.if-state-self.false))
