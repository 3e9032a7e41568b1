-- `fill_slot` meets its contract: the row of the next slot holds prices, so the first pass leaves what is ahead of each queue after the slot,
-- and what each byte costs by that is the price.
use Prim.Native.Nat.{◌+◌, ◌*◌, ◌≤◌}
use mathlib.Core.Path.{sym, ap, subst}
use lib.ListN.{length}
use native.Mathlib.Omega.{arith}
use Rattle.follow.specs.Pass.{ArePlaces, cost_left}
use Rattle.model.specs.View.{view_of}
use Rattle.model.specs.declared.Sheet.{Sheet}
use Rattle.model.specs.Width.{value_in}
use Rattle.value.specs.Narrow.{width}
use Rattle.buffers.specs.Fills.{Fills}
use Rattle.sheets.specs.declared.tested.Tested.{Tested}
use Rattle.ahead.specs.Pass.{sum_left}
use Rattle.ahead.specs.Pass as first
use Rattle.choose.specs.Pass as second
use Rattle.backward.specs.Passes.{Ready, AheadWith}
use Rattle.backward.proofs.FirstPass.{first_given}
use Rattle.backward.proofs.SecondPass.{second_given}
use Rattle.pricing.specs.Prices.{price_with}
use Rattle.pricing.proofs.Prices.{price_valued, sums_there, row_left}
use Rattle.pricing.proofs.slots.fill_slot.Goals as goal
use Rattle.pricing.proofs.slots.fill_slot.Goals.{Start, After-fill}

-- the slot is one of the sheet's
ready : (c : Start) →
    let tested = c.args.walk.now.tested.now in
    Ready width (view_of tested.sheet) tested.sizes c.args.slot.left c.args.slot.scale
ready c = record { prepared = c.args.walk.now.prepared; in_plan = c.requires.slot.0 }

-- what is ahead stands in the buffer
stands : (c : After-fill) →
    let s = view_of c.args.walk.now.tested.now.sheet in
    AheadWith width s (price_with s c.args.plan.now c.args.slot.left) c.fill.new.ahead
stands c =
    let pre = c.requires.slot in
    let walk = c.args.walk.now in
    let values = c.args.values.now in
    let next = c.args.slot.next in
    let is_ready : Ready width (view_of walk.tested.now.sheet) walk.tested.now.sizes c.args.slot.left c.args.slot.scale =
    record { prepared = walk.prepared; in_plan = pre.0 } in
    sums_there width is_ready c.args.plan.now pre.2 pre.3
    (subst
    (λ (t : Tested). Fills width.places (value_in width) (λ i. sum_left width (view_of t.sheet) t.sizes next values i t.sheet.job_count) 0
    t.sizes.after c.args.ahead.now c.fill.new.ahead)
    c.requires.lanes.0 c.fill.ensures)

pub invariant_of-first : goal.invariant_of-first
invariant_of-first c =
    let pre = c.requires in
    record {
      given = subst (λ (t : Tested). first.Given width (view_of t.sheet) t.sizes c.args.slot.next c.args.values.now) (sym pre.lanes.0)
          (first_given width (ready (goal.at.invariant_of-first c).Start) (price_valued _ _ _) pre.slot.2);
    }

pub fill-requires : goal.fill-requires
fill-requires c =
    subst (λ (t : Tested). t.sizes.after * width.places ≤ length c.args.ahead.now) (sym c.requires.lanes.0) c.requires.slot.3

pub invariant_of-second : goal.invariant_of-second
invariant_of-second c =
    let at = goal.at.invariant_of-second c in
    let is_ready = ready at.Start in
    record {
      given = subst (λ (t : Tested). second.Given width (view_of t.sheet) t.sizes c.args.slot.scale c.fill.new.ahead) (sym c.requires.lanes.1)
          (second_given width is_ready (price_valued _ _ _) (stands at.After-fill));
      sheets = ap (λ (t : Tested). t.sizes) (sym c.requires.lanes.1);
    }

pub fill-requires-2 : goal.fill-requires-2
fill-requires-2 c =
    let slot = c.args.slot in
    let pre = c.requires.slot in
    let row : slot.row + c.args.walk.now.tested.now.sizes.queues ≤ length c.args.plan.now =
    omega (arith, pre.1.room, c.args.walk.now.prepared.sized.queues_is) in
    subst
    (λ (t : Tested). ArePlaces (view_of t.sheet) c.places_of.result ×
    ((slot.this + t.sizes.queues) * width.places ≤ length c.args.values.now) × (slot.row + t.sizes.queues ≤ length c.args.plan.now))
    (sym c.requires.lanes.1) (subst (λ (s : Sheet). ArePlaces (view_of s) c.places_of.result) c.ranged.ensures c.places_of.ensures, pre.4, row)

pub returns : goal.returns
returns c =
    let at = goal.at.returns c in
    let slot = c.args.slot in
    let plan = c.args.plan.now in
    row_left width (ready at.Start) plan c.requires.slot.1 (stands at.After-fill)
    (subst
    (λ (t : Tested). Fills width.places (value_in width)
    (cost_left width (view_of t.sheet) t.sizes c.fill.new.ahead slot.scale plan slot.row) slot.this t.sizes.queues c.args.values.now
    c.fill-2.new.values)
    c.requires.lanes.1 c.fill-2.ensures)
