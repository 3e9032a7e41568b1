-- `fill_slot` meets its contract: the row of the next slot says of each queue what its value is, so the first pass leaves what is ahead, and
-- the least over the speeds that the second pass leaves is the recursion's.
use Prim.Native.Nat.{◌+◌, ◌*◌, ◌≤◌}
use mathlib.Core.Path.{sym, ap, subst}
use lib.ListN.{length}
use Rattle.model.specs.View.{view_of}
use Rattle.model.specs.Width.{value_in}
use Rattle.value.specs.Narrow.{width}
use Rattle.buffers.specs.Fills.{Fills}
use Rattle.sheets.specs.declared.tested.Tested.{Tested}
use Rattle.ahead.specs.Pass.{sum_left}
use Rattle.ahead.specs.Pass as first
use Rattle.choose.specs.Pass as second
use Rattle.backward.specs.Passes.{Ready, AheadRow}
use Rattle.backward.proofs.Backward.{ahead_there}
use Rattle.backward.proofs.FirstPass.{value_valued, first_given, first_left, ahead_left}
use Rattle.backward.proofs.SecondPass.{second_given, value_sums, second_left}
use Rattle.backward.proofs.passes.fill_slot.Goals as goal
use Rattle.backward.proofs.passes.fill_slot.Goals.{Start, After-fill}

-- the slot is one of the sheet's
ready : (c : Start) →
    let tested = c.args.walk.now.tested.now in
    Ready width (view_of tested.sheet) tested.sizes c.args.slot.left c.args.slot.scale
ready c = record { prepared = c.args.walk.now.prepared; in_plan = c.requires.slot.0 }

-- what is ahead stands in the buffer
stands : (c : After-fill) → AheadRow width (view_of c.args.walk.now.tested.now.sheet) c.args.slot.left c.fill.new.ahead
stands c =
    let pre = c.requires.slot in
    let walk = c.args.walk.now in
    let values = c.args.values.now in
    let next = c.args.slot.next in
    let is_ready : Ready width (view_of walk.tested.now.sheet) walk.tested.now.sizes c.args.slot.left c.args.slot.scale =
    record { prepared = walk.prepared; in_plan = pre.0 } in
    ahead_there width _ _ walk.prepared.sized.after_is pre.2
    (ahead_left width _ _ _ (first_left width is_ready (value_valued _ _) pre.1
    (subst
    (λ (t : Tested). Fills width.places (value_in width) (λ i. sum_left width (view_of t.sheet) t.sizes next values i t.sheet.job_count) 0
    t.sizes.after c.args.ahead.now c.fill.new.ahead)
    c.requires.lanes.0 c.fill.ensures)))

pub invariant_of-first : goal.invariant_of-first
invariant_of-first c =
    let pre = c.requires in
    record {
      given = subst (λ (t : Tested). first.Given width (view_of t.sheet) t.sizes c.args.slot.next c.args.values.now) (sym pre.lanes.0)
          (first_given width (ready (goal.at.invariant_of-first c).Start) (value_valued _ _) pre.slot.1);
    }

pub fill-requires : goal.fill-requires
fill-requires c =
    subst (λ (t : Tested). t.sizes.after * width.places ≤ length c.args.ahead.now) (sym c.requires.lanes.0) c.requires.slot.2

pub invariant_of-second : goal.invariant_of-second
invariant_of-second c =
    let at = goal.at.invariant_of-second c in
    let is_ready = ready at.Start in
    record {
      given = subst (λ (t : Tested). second.Given width (view_of t.sheet) t.sizes c.args.slot.scale c.fill.new.ahead) (sym c.requires.lanes.1)
          (second_given width is_ready (value_valued _ _) (value_sums width is_ready (stands at.After-fill)));
      sheets = ap (λ (t : Tested). t.sizes) (sym c.requires.lanes.1);
    }

pub fill-requires-2 : goal.fill-requires-2
fill-requires-2 c =
    let slot = c.args.slot in
    subst
    (λ (t : Tested). ((slot.this + t.sizes.queues) * width.places ≤ length c.args.values.now) × (slot.row + t.sizes.queues ≤ length c.args.plan.now))
    (sym c.requires.lanes.1) (c.requires.slot.3, c.requires.slot.4)

pub returns : goal.returns
returns c =
    let at = goal.at.returns c in
    let slot = c.args.slot in
    second_left width (ready at.Start) (stands at.After-fill)
    (subst
    (λ (t : Tested). second.LeftAll width (view_of t.sheet) t.sizes slot.scale c.fill.new.ahead slot.this slot.row c.args.values.now
    c.args.plan.now c.fill-2.new.values c.fill-2.new.plan)
    c.requires.lanes.1 c.fill-2.ensures)
