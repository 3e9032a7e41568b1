-- `byte_right` meets its contract: the byte is no sheet speed, or w(1) decides.
use Rattle.std.proofs.Common.{ℕ, ◌≤◌, ◌<◌, sym, ap, ◌∙◌, arith}
use borrow.Author.Tests.{lt-ltb, le-ltb}
use lib.Dec.{leb}
use Rattle.model.proofs.Refusal.{ranged}
use Rattle.laws.proofs.Stepper.{wrong_byte, first_decides}
use Rattle.model.specs.View.{view_of, place_of_speed}
use Rattle.slot.proofs.Places.{total_in}
use Rattle.lookups.proofs.Looking.{on_sheet_place}
use Rattle.stepper.specs.Calls.{state_of}
use Rattle.stepper.proofs.tests.byte_right.Goals as goal

pub returns-then-place_of-sheet : goal.returns-then-place_of-sheet
returns-then-place_of-sheet c =
    let a = c.args in
    let s = view_of a.sheet.sheet in
    let there : place_of_speed s a.byte < s.speed_count = omega (arith, c.if-place_of-sheet.true, c.place_of.ensures) in
    ap (λ (first : ℕ). leb first a.byte) (sym (total_in s.bound a.state.queue 1 (ranged s a.sheet.fields).bound_low)) ∙
    sym
    (first_decides s (state_of a.state) a.byte
    (on_sheet_place a.sheet.sheet a.byte ∙ lt-ltb (place_of_speed s a.byte) s.speed_count there))

pub returns-else-place_of-sheet : goal.returns-else-place_of-sheet
returns-else-place_of-sheet c =
    let a = c.args in
    let s = view_of a.sheet.sheet in
    let past : s.speed_count ≤ place_of_speed s a.byte = omega (arith, c.if-place_of-sheet.false, c.place_of.ensures) in
    le-ltb c.place_of.result s.speed_count c.if-place_of-sheet.false ∙
    sym
    (wrong_byte s (state_of a.state) a.byte
    (on_sheet_place a.sheet.sheet a.byte ∙ le-ltb (place_of_speed s a.byte) s.speed_count past))
