-- `row` meets its contract: the part is the slot's row, or the call is refused, or the slot is not one of the sheet's.
use Rattle.std.proofs.Common.{ℕ, sym, ◌∙◌, ap, arith, take, drop}
use Rattle.laws.proofs.Rooms.{row_none, row_past, row_part}
use Rattle.model.specs.View.{view_of}
use Rattle.ranges.proofs.Answers.{number_some}
use Rattle.layout.specs.Places.{place_in}
use Rattle.layout.proofs.Within.{place_is, row_within}
use Rattle.layout.proofs.call.row.Goals as goal
use Rattle.layout.proofs.call.row.Goals.{in_default-via-in-Ok+else-slot-sheet, in_default-via-in_default}

pub row_of-requires : goal.row_of-requires
row_of-requires c =
    let a = c.args in
    row_within (view_of a.sheet) c.in-Ok.ensures.sized.1 a.plan.now a.slot (sym c.in-Ok.ensures.number) c.if-slot-sheet.true

pub returns-in-Ok : goal.returns-in-Ok
returns-in-Ok c =
    let a = c.args in
    let s = view_of a.sheet in
    let sized = c.in-Ok.ensures.sized.1 in
    let first = place_in c.in-Ok.tested.sizes.queues a.slot 0 in
    c.row_of.ensures ∙ ap (λ (n : ℕ). take n (drop first a.plan.now)) (omega arith) ∙
    row_part s a.plan.now a.slot (sym c.in-Ok.ensures.number) c.if-slot-sheet.true (place_is s sized a.slot 0) sized.queues_is

pub returns-in_default : goal.returns-in_default
returns-in_default c =
    let a = c.args in
    elim c.in_default.branch [
      | in_default-via-in-Ok+else-slot-sheet w ↦ row_past (view_of a.sheet) a.plan.now a.slot w.if-slot-sheet.false
      | in_default-via-in_default w ↦ row_none (view_of a.sheet) a.plan.now a.slot w.in_default.ensures.number (number_some w.in_default.field-0)
    ]
