-- `steps` meets its contract. The loop's invariant: the least so far is that over the entries passed.
use mathlib.Core.Path.{ap, ◌∙◌}
use native.Mathlib.Omega.{arith}
use Rattle.model.specs.View.{view_of}
use Rattle.model.specs.Queue.{queue_in}
use Rattle.entry_lanes.specs.Lanes.{steps_of}
use Rattle.entry_lanes.proofs.Firsts.{joined_in}
use Rattle.entry_lanes.proofs.Lanes.{steps_begun, steps_more}
use Rattle.entry_lanes.proofs.entries.Entries.steps.Goals as goal

pub loop-job-init : goal.loop-job-init
loop-job-init c =
    let tested = c.args.self.now.tested.now in
    (steps_begun (view_of tested.sheet) c.args.queue tested.measured c.requires.1 c.total.ensures).1

pub loop-job-preserved : goal.loop-job-preserved
loop-job-preserved c =
    let tested = c.args.self.now.tested.now in
    let M = tested.sizes.largest in
    let D = tested.sizes.bound in
    let joined = joined_in (view_of tested.sheet) D c.args.queue c.loop-job.job-index tested.measured.ranges.bound_high (omega (arith, c.well_formed))
    c.jobs-job-items.ensures.jobs c.arrive-joined.ensures in
    steps_more M D (view_of tested.sheet) (queue_in D c.args.queue) c.loop-job.job-index c.loop-job.invariant
    (c.steps_of.ensures ∙ ap (steps_of M D) joined) c.min-least.ensures
