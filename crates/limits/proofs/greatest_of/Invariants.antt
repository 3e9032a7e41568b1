-- `greatest_of` meets its contract. The loop's invariant: the speed and the energy so far are the greatest of the places passed.
use mathlib.Core.Path.{◌≡◌}
use Rattle.model.specs.View.{view_of, speed_at, energy_at}
use Rattle.model.specs.Tests.{greatest}
use Rattle.limits.proofs.greatest_of.Given as goal

abbrev pub invariant-loop-one : goal.invariant-loop-one
invariant-loop-one l =
    (l.greatest.speed ≡ greatest (speed_at (view_of l.fn.sheet.sheet)) l.one-index) ×
    (l.greatest.energy ≡ greatest (energy_at (view_of l.fn.sheet.sheet)) l.one-index)
