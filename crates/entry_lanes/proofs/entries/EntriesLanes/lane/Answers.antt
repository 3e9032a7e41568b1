-- `lane` meets its contract: the block's first queue is small enough to be added to.
use mathlib.Core.Path.{ap, ◌∙◌}
use native.Mathlib.Omega.{arith}
use Rattle.model.specs.View.{view_of}
use Rattle.model.specs.Queue.{Queue}
use Rattle.entry_lanes.specs.Lanes.{joined, lane_of}
use Rattle.entry_lanes.proofs.Firsts.{AfterIn, after_in, joined_in}
use Rattle.entry_lanes.proofs.entries.EntriesLanes.lane.Goals as goal
use Rattle.entry_lanes.proofs.entries.EntriesLanes.lane.Goals.{Start}

first : (c : Start) →
    let sizes = c.args.self.now.tested.now.sizes in
    AfterIn sizes.largest sizes.bound c.args.block.place c.args.block.first
first c = after_in c.args.self.now.tested.now.measured c.requires.0 c.requires.1

pub arrive-requires : goal.arrive-requires
arrive-requires c = (
  c.args.self.now.tested.now.measured.ranges.bound_high,
  c.jobs.ensures.small c.args.place c.requires.2,
  (first (goal.at.arrive-requires c).Start).small,
)

pub returns : goal.returns
returns c =
    let tested = c.args.self.now.tested.now in
    let M = tested.sizes.largest in
    let D = tested.sizes.bound in
    let s = view_of tested.sheet in
    let f = first (goal.at.returns c).Start in
    let here = joined_in s D c.args.block.first c.args.place tested.measured.ranges.bound_high (omega (arith, c.well_formed))
    c.jobs.ensures.jobs c.arrive.ensures in
    c.lane_of.ensures ∙ ap (lane_of M) here ∙ ap (λ (w : Queue). lane_of M (joined s w c.args.place)) f.after_is
