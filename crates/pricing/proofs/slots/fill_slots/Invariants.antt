-- `fill_slots` meets its contract. The loop's invariant: so many slots are priced, from the last one back.
use mathlib.Core.Path.{◌≡◌}
use lib.ListN.{length}
use Rattle.model.specs.View.{view_of}
use Rattle.value.specs.Narrow.{width}
use Rattle.backward.specs.Passes.{FilledFrom}
use Rattle.pricing.specs.Prices.{price_with}
use Rattle.pricing.proofs.slots.fill_slots.Given as goal

abbrev pub invariant-loop-slot : goal.invariant-loop-slot
invariant-loop-slot l =
    let it = l.slot-iterator in
    let s = view_of l.walk.tested.now.sheet in
    (goal.iterator-loop-slot).is_finite it × (it.walk.tested.now.sheet ≡ l.walk.tested.now.sheet) × (length l.ahead ≡ 7084) ×
    FilledFrom width s (price_with s l.plan) it.left l.initial.values l.values
