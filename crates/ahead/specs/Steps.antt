-- The pass and its steps as the contracts name them.
use Rattle.std.specs.Prelude.{ℕ, ◌<◌}
use Rattle.std.proofs.Math.Option.{Option}
use Rattle.model.specs.View.{View, view_of}
use Rattle.rows.specs.Rows.{value_in_row, after_with}
use Rattle.sheets.specs.declared.sizes.Sizes.{Sizes}
use Rattle.entry_lanes.specs.Lanes.{first_after, joined, steps_to}
use Rattle.value.specs.Narrow.{width}
use Rattle.ahead.specs.declared.pass.Pass.{Pass}
use Rattle.ahead.specs.declared.step.Step.{Step}
use Rattle.ahead.specs.Pass.{sum_left, stepped}

-- the sheet of a pass, and its sizes
abbrev pub sheet_of : Pass → View
sheet_of p = view_of p.lanes.now.of.tested.now.sheet

abbrev pub sizes_of : Pass → Sizes
sizes_of p = p.lanes.now.of.tested.now.sizes

-- what is ahead of the queue after a slot with number i
abbrev pub ahead_by : Pass → ℕ → Option ℕ
ahead_by p i = sum_left width (sheet_of p) (sizes_of p) p.next p.values.now i (sheet_of p).job_count

-- the number of the queue of a step
abbrev pub number_of : Step → ℕ
number_of at = stepped (sizes_of at.pass) at.block at.steps

-- what the row has for it with the arrival of the entry at place j
abbrev pub value_with : Step → ℕ → Option ℕ
value_with at j =
    let sizes = sizes_of at.pass in
    value_in_row width sizes.largest at.pass.values.now at.pass.next
    (joined (sheet_of at.pass) (after_with sizes.largest sizes.bound (number_of at)) j)

-- every arrival there leads to a bearable queue
abbrev pub BeforeEnd : Step → Type 0
BeforeEnd at =
    let sizes = sizes_of at.pass in
    at.steps < steps_to sizes.largest sizes.bound (sheet_of at.pass) (first_after sizes.largest sizes.bound at.block) (sheet_of at.pass).job_count
