-- How many values a plan needs, as the code works it out, and that values with room for a plan have its first.
use Prim.Native.Nat.{ℕ, suc, ◌*◌, ◌≤◌}
use mathlib.Core.Path.{◌≡◌, ◌∙◌}
use native.Mathlib.Nat.{suc-mul}
use native.Mathlib.Omega.{arith}
use Rattle.model.proofs.Refusal.{Accepted, N_low}
use Rattle.model.specs.View.{View}
use Rattle.model.specs.Plan.{values_needed, value_places}
use Rattle.model.specs.Refusal.{N}
use Rattle.model.specs.Width.{Width}
use Rattle.layout.specs.Places.{place_in}
use Rattle.layout.proofs.Within.{place_is}
use Rattle.sheets.specs.Sizes.{Sized}
use Rattle.sheets.specs.declared.sizes.Sizes.{Sizes}
use Rattle.buffers.proofs.Filling.{fewer_fit}

-- as many values as the code works out, T rows and the end row, are what the plan needs
pub needed_is : (s : View) {sizes : Sizes} → Sized s sizes → {place : ℕ} → place ≡ place_in sizes.queues s.horizon sizes.queues →
    place ≡ values_needed s
needed_is s {sizes = sizes} sized e =
    omega (arith, e ∙ place_is s sized s.horizon sizes.queues, sized.queues_is, suc-mul s.horizon (N s))

-- at any width the first value of all is within values that are as long as those that were lent
pub first_within : (width : Width) (s : View) {sizes : Sizes} {limit : ℕ} → Sized s sizes → Accepted limit s → {lent room place : ℕ} →
    value_places width s ≤ lent → room ≡ lent → place ≡ place_in sizes.queues 0 0 → suc place * width.places ≤ room
first_within width s sized a fit same here =
    let some : 1 ≤ values_needed s = omega (arith, N_low s a.ranged, suc-mul s.horizon (N s)) in
    fewer_fit width {m = values_needed s} (omega (arith, here ∙ place_is s sized 0 0)) (omega arith)
