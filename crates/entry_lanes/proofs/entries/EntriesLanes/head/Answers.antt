-- `head` meets its contract: the block's first queue is small enough to be added to, and before its last total stands a queue with a number.
use mathlib.Core.Path.{ap, ◌∙◌}
use native.Mathlib.Omega.{arith}
use Rattle.model.specs.View.{view_of}
use Rattle.model.specs.Queue.{Queue, number_of}
use Rattle.rows.proofs.Room.{number_before_small}
use Rattle.entry_lanes.specs.Lanes.{steps_to}
use Rattle.entry_lanes.proofs.Firsts.{AfterIn, after_in}
use Rattle.entry_lanes.proofs.entries.EntriesLanes.head.Goals as goal
use Rattle.entry_lanes.proofs.entries.EntriesLanes.head.Goals.{Start}

first : (c : Start) →
    let sizes = c.args.self.now.tested.now.sizes in
    AfterIn sizes.largest sizes.bound c.args.block.place c.args.block.first
first c = after_in c.args.self.now.tested.now.measured c.requires.0 c.requires.1

pub number-number-requires : goal.number-number-requires
number-number-requires c = (first (goal.at.number-number-requires c).Start).numbered

pub overflow_cast-result : goal.overflow_cast-result
overflow_cast-result c =
    omega (arith, number_before_small c.args.self.now.tested.now.measured (omega (arith, c.well_formed)) (first (goal.at.overflow_cast-result c).Start).numbered c.number-number.ensures)

pub steps-requires : goal.steps-requires
steps-requires c = let f = first (goal.at.steps-requires c).Start in (f.small, f.last_high)

pub returns : goal.returns
returns c =
    let tested = c.args.self.now.tested.now in
    let M = tested.sizes.largest in
    let D = tested.sizes.bound in
    let s = view_of tested.sheet in
    let f = first (goal.at.returns c).Start in (
      c.number-number.ensures ∙ ap (number_of M) f.before_is,
      f.lowest_is,
      c.steps.ensures ∙ ap (λ (w : Queue). steps_to M D s w s.job_count) f.after_is,
    )
