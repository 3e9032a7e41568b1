-- `energy_of` meets its contract: the speed's place is found, and its energy stands there.
use native.Mathlib.Omega.{arith}
use Rattle.model.proofs.Refusal.{ranged}
use Rattle.model.specs.View.{view_of}
use Rattle.lookups.proofs.Looking.{energy_at_place}
use Rattle.lookups.proofs.energy_of.Goals as goal

pub bounds-sheet-place : goal.bounds-sheet-place
bounds-sheet-place c =
    let a = c.args in
    omega (
      arith,
      (energy_at_place a.sheet.sheet a.speed c.place_of-place.result c.place_of-place.ensures c.requires).0,
      (ranged (view_of a.sheet.sheet) c.args.sheet.fields).speeds_high,
    )

pub returns : goal.returns
returns c =
    let a = c.args in
    (energy_at_place a.sheet.sheet a.speed c.place_of-place.result c.place_of-place.ensures c.requires).1
