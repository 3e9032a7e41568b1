-- `state_right` meets its contract: no energy is too large for the greatest energy times the slot.
use Rattle.std.proofs.Common.{◌≤◌, arith}
use native.Mathlib.Nat.{mul-le-mul}
use Rattle.model.proofs.Refusal.{ranged, greatest_energy_high}
use Rattle.model.specs.View.{view_of}
use Rattle.sheets.proofs.Measures.{sized_ranges}
use Rattle.stepper.proofs.tests.state_right.Goals as goal

pub bearable_in-requires : goal.bearable_in-requires
bearable_in-requires c =
    let ranges = sized_ranges (ranged (view_of c.args.sheet.sheet) c.args.sheet.fields) c.requires in
    (ranges.speed_high, ranges.bound_high)

pub overflow_mul-result : goal.overflow_mul-result
overflow_mul-result c =
    let s = view_of c.args.sheet.sheet in
    let right = ranged s c.args.sheet.fields in
    let few : c.args.state.slot ≤ 200 = omega (arith, c.if-state-sheet.true, right.horizon_high) in
    let small : c.args.sizes.energy ≤ 65535 = omega (arith, c.requires.energy_is, greatest_energy_high s right) in
    omega (arith, mul-le-mul few small)
