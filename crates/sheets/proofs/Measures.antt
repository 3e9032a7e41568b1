-- Laws of the sizes of a sheet (specs/Sizes.antt): those of an accepted sheet are in range.
use Prim.Native.Nat.{ℕ, pred, ◌-◌, ◌≤◌}
use mathlib.Core.Path.{◌≡◌, sym, ap, ◌∙◌}
use native.Mathlib.Omega.{arith}
use Rattle.model.specs.View.{View, M}
use Rattle.model.specs.Queue.{queue_count}
use Rattle.model.proofs.Refusal.{Ranged, Accepted, N_is}
use Rattle.queues.specs.Order.{Ranges}
use Rattle.queues.proofs.Bounds.{ranges_of}
use Rattle.sheets.specs.Sizes.{Sized, Measured}
use Rattle.sheets.specs.declared.sizes.Sizes.{Sizes}

-- one position fewer is in range too
pub ranges_fewer : {largest D : ℕ} → Ranges largest D → Ranges largest (pred D)
ranges_fewer r = record { speed_low = r.speed_low; speed_high = r.speed_high; bound_high = omega (arith, r.bound_high) }

-- one position fewer, as the code and as the specification write it
pub one_fewer : (D : ℕ) → D - 1 ≡ pred D
one_fewer D = omega arith

-- what is said of the sizes of a sheet is said of its M and D
pub sized_same : {s : View} {sizes : Sizes} {A : Type 0} → Sized s sizes → (f : ℕ → ℕ → A) → f sizes.largest sizes.bound ≡ f (M s)
    s.bound
sized_same {s} {sizes} z f = ap (λ (m : ℕ). f m sizes.bound) z.largest_is ∙ ap (f (M s)) z.bound_is

-- M and D are in range where the sheet's fields are
pub sized_ranges : {s : View} {sizes : Sizes} → Ranged s → Sized s sizes → Ranges sizes.largest sizes.bound
sized_ranges r z = ranges_of r z.largest_is (omega (arith, z.bound_is))

-- the sizes of an accepted sheet are measured
pub measured : (s : View) (sizes : Sizes) {limit : ℕ} → Accepted limit s → Sized s sizes → Measured sizes
measured s sizes a z =
    record {
      ranges = sized_ranges a.ranged z;
      bound_low = omega (arith, a.ranged.bound_low, z.bound_is);
      queues_is = z.queues_is ∙ N_is s ∙ sym (sized_same z queue_count);
      after_is = z.after_is ∙ sym (sized_same z (λ m D. queue_count m (pred D)));
      blocks_is = z.blocks_is ∙ sym (sized_same z (λ m D. queue_count m (pred (pred D))));
      queues_high = omega (arith, z.queues_is, a.queues_high);
    }

-- of an accepted sheet: its queues and its slots are few enough for a place to be worked out
pub sizes_small : (s : View) {sizes : Sizes} {limit : ℕ} → Accepted limit s → Sized s sizes → (sizes.queues ≤ 65535) × (s.horizon ≤ 200)
sizes_small s a sized = (omega (arith, sized.queues_is, a.queues_high), a.ranged.horizon_high)
