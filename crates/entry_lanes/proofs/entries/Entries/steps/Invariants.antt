-- `steps` meets its contract. The loop's invariant: the least so far is that over the entries passed.
use mathlib.Core.Path.{◌≡◌}
use Rattle.model.specs.View.{view_of}
use Rattle.model.specs.Queue.{queue_in}
use Rattle.entry_lanes.specs.Lanes.{steps_to}
use Rattle.entry_lanes.proofs.entries.Entries.steps.Given as goal

abbrev pub invariant-loop-job : goal.invariant-loop-job
invariant-loop-job l =
    l.least ≡ steps_to l.sizes.largest l.sizes.bound (view_of l.self.tested.now.sheet) (queue_in l.sizes.bound l.queue) l.job-index
