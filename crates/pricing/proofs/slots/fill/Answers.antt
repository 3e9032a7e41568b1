-- `fill` meets its contract: the tables of both passes have room for any accepted sheet, once the end row stands no slot is priced yet, and
-- then every slot is.
use native.Mathlib.Omega.{arith}
use Rattle.model.specs.View.{view_of}
use Rattle.model.proofs.View.{speeds_few}
use Rattle.model.proofs.Refusal.{Accepted, accepted}
use Rattle.value.specs.Narrow.{width}
use Rattle.sheets.specs.Sizes.{Measured}
use Rattle.sheets.proofs.Measures.{measured}
use Rattle.rows.proofs.Room.{lines_room, entry_lines_room}
use Rattle.backward.proofs.Backward.{filled_none}
use Rattle.pricing.specs.Prices.{price_with}
use Rattle.pricing.proofs.Prices.{price_end}
use Rattle.pricing.proofs.slots.fill.Goals as goal
use Rattle.pricing.proofs.slots.fill.Goals.{Start}

-- the sheet is accepted
right : (c : Start) → Accepted width.limit (view_of c.args.walk.now.tested.now.sheet)
right c = accepted (view_of c.args.walk.now.tested.now.sheet) c.args.walk.now.prepared.accepted

-- and its sizes are in range
sized : (c : Start) → Measured c.args.walk.now.tested.now.sizes
sized c = measured (view_of c.args.walk.now.tested.now.sheet) c.args.walk.now.tested.now.sizes (right c) c.args.walk.now.prepared.sized

pub fill_table-entries-requires : goal.fill_table-entries-requires
fill_table-entries-requires c =
    let at = (goal.at.fill_table-entries-requires c).Start in
    entry_lines_room (sized at) (view_of c.args.walk.now.tested.now.sheet).job_count (right at).ranged.jobs_high

pub fill_table-speeds-requires : goal.fill_table-speeds-requires
fill_table-speeds-requires c =
    let s = view_of c.args.walk.now.tested.now.sheet in
    let at = (goal.at.fill_table-speeds-requires c).Start in
    lines_room (sized at) s.speed_count (omega (arith, speeds_few s (right at).ranged.rises, c.args.walk.now.prepared.sized.largest_is))

pub fill_slots-requires-clause-rooms : goal.fill_slots-requires-clause-rooms
fill_slots-requires-clause-rooms c =
    let s = view_of c.args.walk.now.tested.now.sheet in
    let plan = c.args.plan.now in (
      c.requires.0,
      omega (arith, c.requires.1, c.fill_end.ensures.same_length),
      filled_none width s c.fill_end.ensures (price_with s plan) (price_end s plan),
    )

pub fill_slots-requires-clause-tables : goal.fill_slots-requires-clause-tables
fill_slots-requires-clause-tables c = (c.fill_table-entries.ensures.0, c.fill_table-speeds.ensures.0)
