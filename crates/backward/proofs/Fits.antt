-- That nothing wraps: no sum over some of the entries, no cost and no scale passes the limit that number 9 tests. No loop's invariant has a
-- bound in it: one induction over the recursion bounds its values (value_most), the passes carry any bound on (AnyRow.antt of ahead and of
-- choose), and number 9 does the rest.
use Prim.Native.Nat.{ℕ, suc, ◌+◌, ◌*◌, ◌^◌, ◌≤◌, ◌<◌}
use mathlib.Core.Path.{sym, ap, ◌∙◌}
use native.Mathlib.Nat.{mul-le-mul, mul-le-mul_right, mul_assoc, pow-suc, pow-le-pow_right, le_trans}
use native.Mathlib.Omega.{arith}
use Rattle.process.proofs.Value.{UptoOr}
use Rattle.model.specs.View.{View, energy_at, speed_at, G, W}
use Rattle.model.specs.Queue.{Queue}
use Rattle.model.proofs.View.{energy_of_upto, energy_of_place, on_sheet_at}
use Rattle.laws.proofs.Recursion.{value_most}
use Rattle.model.proofs.Refusal.{Accepted, G_covers, W_low, power_fits}
use Rattle.backward.specs.Passes.{value_with}

module _ (s : View) where
  -- what k slots can cost at most, scaled
  abbrev pub most : ℕ → ℕ
  most k = k * G s * W s ^ k

  -- no value with k slots left is more
  pub value_upto : (k : ℕ) (w : Queue) → UptoOr (Unit {0}) (value_with s k w) (most k)
  unfolding value_with
  value_upto k w = value_most s k w

-- of a sheet that is accepted by any limit
module _ (s : View) {limit : ℕ} (a : Accepted limit s) (k : ℕ) (h : k < s.horizon) where
  -- what k + 1 slots of the sheet can cost is within it
  most_fits : most s (suc k) ≤ limit
  most_fits = le_trans (mul-le-mul (mul-le-mul_right (G s) h) (pow-le-pow_right (W_low s a.ranged) h)) a.fits

  -- so are what is ahead with k slots left, and what a speed then costs

  cost_most : (energy : ℕ) → energy ≤ G s → most s k * W s + energy * W s ^ suc k ≤ most s (suc k)
  cost_most energy upto =
      omega (
        arith,
        mul_assoc (k * G s) (W s ^ k) (W s) ∙ ap (λ (p : ℕ). k * G s * p) (sym (pow-suc (W s) k)),
        mul-le-mul_right (W s ^ suc k) upto,
      )

  pub ahead_fits : most s k * W s ≤ limit
  ahead_fits = omega (arith, cost_most 0 (omega arith), most_fits)

  pub cost_fits : (j : ℕ) → j < s.speed_count → most s k * W s + energy_at s j * W s ^ suc k ≤ limit
  cost_fits j l =
      let upto : energy_at s j ≤ G s =
      omega (
        arith,
        energy_of_upto s (speed_at s j) (on_sheet_at s j l),
        energy_of_place s j a.ranged.rises l,
        G_covers s,
      ) in
      omega (arith, cost_most (energy_at s j) upto, most_fits)

  -- and the scale
  pub scale_fits : W s ^ suc k ≤ limit
  scale_fits = power_fits s a (suc k) h
