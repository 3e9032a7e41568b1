-- `try_start` meets its contract: behind the test of its queue the state's queue is bearable.
use Rattle.std.proofs.Common.{sym, subst, ◌∙◌, arith}
use lib.Dec.{T}
use Rattle.model.proofs.Queues.{held_bearable}
use Rattle.model.proofs.Refusal.{ranged}
use Rattle.model.specs.View.{view_of, M}
use Rattle.model.specs.Queue.{bearable_in}
use Rattle.ranges.proofs.Answers.{passed_by}
use Rattle.sheets.proofs.Measures.{sized_same}
use Rattle.stepper.proofs.state.State.try_start.Goals as goal

pub beginning-requires : goal.beginning-requires
beginning-requires c =
    let queue = c.args.self.queue in
    let run = c.in_ok-run.run' in
    let s = view_of run.tested.sheet in
    let right = passed_by (c.bearable_in.ensures ∙ sized_same run.ready.sized (λ m D. bearable_in m D queue)) c.if-not-bearable_in.false in
    (held_bearable (M s) s.bound queue (subst T (sym right) tt), omega (arith, (ranged s run.tested.fields).horizon_low))
