-- How large sums of counts, and numbers, can be: no sum of them wraps.
use Prim.Native.Nat.{ℕ, suc, ◌+◌, ◌*◌, ◌^◌, ◌-◌, ◌≤◌, ◌<◌, zero-le}
use mathlib.Core.Path.{◌≡◌}
use native.Mathlib.Nat.{pow-le-pow_right, mul-le-mul_right, le_trans, zero-lt-suc}
use native.Mathlib.Omega.{arith}
use Rattle.process.specs.Sums.{sum}
use Rattle.process.proofs.Sums.{sum_upto}
use Rattle.model.specs.Queue.{queue_count, continuation_count}
use Rattle.model.specs.View.{View, M}
use Rattle.model.proofs.Queues.{queue_count_lem}
use Rattle.model.proofs.Refusal.{Ranged, M_low, M_high}
use Rattle.counts.specs.Counts.{InTable}
use Rattle.counts.proofs.Bounds.{count_few, count_small}
use Rattle.queues.specs.Order.{Ranges}

-- the sum of the counts of slacks that are in the table
pub counts_small : (M r a b : ℕ) → ((g : ℕ) → a ≤ g → g < b → InTable M r g) →
    sum (λ j. continuation_count M r (a + j)) (b - a) ≤ (b - a) * 49 ^ 5
counts_small M r a b needed = sum_upto (b - a) (49 ^ 5) (λ j l. count_small M r (a + j) (needed (a + j) (omega arith) (omega arith)))

-- N is at most 49 ^ 6
pub queues_few : (M D : ℕ) → M ≤ 8 → D ≤ 6 → queue_count M D ≤ 49 ^ 6
queues_few M D high bound =
    le_trans (omega (arith, queue_count_lem M D, count_few M D 0 high bound zero-le)) (pow-le-pow_right {n = 49} (zero-lt-suc 48) bound)

-- of the queues of D positions those that have r left after u + 1 have a slack there that is in the table
pub in_table : {M D : ℕ} (u r : ℕ) {g : ℕ} → Ranges M D → u + r < D → g ≤ suc u * M → InTable M r g
in_table {M} u r n h slack =
    let more : suc u ≤ 6 - r = omega (arith, n.bound_high) in
    record {
      speed_low = n.speed_low;
      speed_high = n.speed_high;
      left_high = omega (arith, n.bound_high);
      slack_high = le_trans slack (mul-le-mul_right M more);
    }

-- the largest speed of a sheet that keeps its ranges, and its deadline bound or fewer positions, are in range
pub ranges_of : {s : View} {largest D : ℕ} → Ranged s → largest ≡ M s → D ≤ s.bound → Ranges largest D
ranges_of {s = s} r e h =
    record {
      speed_low = omega (arith, M_low s r);
      speed_high = omega (arith, M_high s r);
      bound_high = omega (arith, r.bound_high);
    }
