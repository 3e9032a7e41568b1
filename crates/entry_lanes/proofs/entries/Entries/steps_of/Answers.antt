-- `steps_of` meets its contract: 0 where the queue is not bearable, else as far as the bounds at its last two positions allow.
use native.Mathlib.Omega.{arith}
use Rattle.rows.proofs.Answers.{holds_by}
use Rattle.entry_lanes.proofs.Firsts.{StepsIn, steps_in}
use Rattle.entry_lanes.proofs.entries.Entries.steps_of.Goals as goal
use Rattle.entry_lanes.proofs.entries.Entries.steps_of.Goals.{Else-not-bearable}

-- where the queue is bearable
steps : (c : Else-not-bearable) →
    let sizes = c.args.self.now.tested.now.sizes in
    StepsIn sizes.largest sizes.bound c.args.queue
steps c =
    steps_in c.args.self.now.tested.now.measured (omega (arith, c.well_formed)) (holds_by c.bearable.ensures c.if-not-bearable.false)

pub overflow_sub-before-2 : goal.overflow_sub-before-2
overflow_sub-before-2 c = omega (arith, c.total.ensures, (steps (goal.at.overflow_sub-before-2 c).Else-not-bearable).before_high)

pub overflow_sub-most : goal.overflow_sub-most
overflow_sub-most c = omega (arith, c.total-2.ensures, (steps (goal.at.overflow_sub-most c).Else-not-bearable).last_high)
