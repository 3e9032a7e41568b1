-- How large the slacks and the counts of the table can be.
use Prim.Native.Nat.{ℕ, zero, suc, ◌+◌, ◌*◌, ◌-◌, ◌^◌, ◌≤◌, ◌<◌}
use mathlib.Core.Path.{◌≡◌, ap, ◌∙◌}
use native.Mathlib.Nat.{mul-le-mul, mul-le-mul_right, suc-mul, pow-suc, pow-le-pow_right, le_refl, le_trans, zero-lt-suc}
use native.Mathlib.Omega.{arith}
use Rattle.process.specs.Sums.{sum}
use Rattle.process.proofs.Sums.{sum_upto}
use Rattle.model.specs.Queue.{continuation_count}
use Rattle.counts.specs.Counts.{InTable}

-- with a position more to fill the slacks go up to M more
pub wider : (M r : ℕ) → r < 6 → (6 - r) * M ≡ (6 - suc r) * M + M
wider M r h = let more : 6 - r ≡ suc (6 - suc r) = omega arith in ap (λ k. k * M) more ∙ suc-mul (6 - suc r) M

-- no slack is above 48
pub slack_small : (M r g : ℕ) → M ≤ 8 → g ≤ (6 - r) * M → g ≤ 48
slack_small M r g high h = let few : 6 - r ≤ 6 = omega arith in omega (arith, mul-le-mul few high)

-- a count with r positions left is at most 49 ^ r, since each position has at most 49 slacks
pub count_few : (M r g : ℕ) → M ≤ 8 → r ≤ 6 → g ≤ (6 - r) * M → continuation_count M r g ≤ 49 ^ r
unfolding continuation_count
count_few M zero g high left h = le_refl 1
count_few M (suc r) g high left h =
    let each : sum (continuation_count M r) (suc (g + M)) ≤ suc (g + M) * 49 ^ r =
    sum_upto (suc (g + M)) (49 ^ r) (λ i l. count_few M r i high (omega arith) (omega (arith, wider M r left))) in
    let slacks : suc (g + M) ≤ 49 = omega (arith, slack_small M r (g + M) high (omega (arith, wider M r left))) in
    omega (arith, each, mul-le-mul_right (49 ^ r) slacks, pow-suc 49 r)

-- a count of the table has at most five positions left
pub count_small : (M r g : ℕ) → InTable M r g → continuation_count M r g ≤ 49 ^ 5
count_small M r g i =
    le_trans (count_few M r g i.speed_high (omega arith) i.slack_high) (pow-le-pow_right (zero-lt-suc 48) i.left_high)
