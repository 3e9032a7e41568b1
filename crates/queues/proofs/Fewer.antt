-- How much room the planner's local memory needs. The queues after a slot are those of one position fewer, since the last total then stands
-- twice (slot/proofs/Slots.antt); they are far fewer than all queues, and so are the blocks that queues come in (specs/Blocks.antt). What
-- follows from N being at most 65,535 is computed once, over every largest speed and every number of positions.
use Prim.Native.Nat.{ℕ, zero, suc, pred, ◌+◌, ◌*◌, ◌≤◌}
use mathlib.Core.Bool.{Bool, ◌||◌}
use native.Mathlib.Nat.{not-suc-le-zero}
use native.Mathlib.Omega.{arith}
use borrow.Author.Tests.{le-ltb}
use lib.Dec.{T, leb, ltb, leb→le}
use Rattle.process.specs.Sums.{sum}
use Rattle.model.specs.Queue.{queue_count, continuation_count}
use Rattle.model.specs.Tests.{everywhere}
use Rattle.model.proofs.Queues.{queue_count_lem}
use Rattle.model.proofs.Tests.{everywhere_at}
use Rattle.queues.specs.Order.{Ranges}

-- there are more than 65,535 queues of one position more, or a measure of D positions is at most so much
abbrev few_or_refused : (ℕ → ℕ → ℕ) → ℕ → ℕ → ℕ → Bool
few_or_refused measure most M D = ltb 65535 (continuation_count M (suc D) 0) || leb (measure M D) most

-- so it is for each largest speed and each number of positions
abbrev everywhere_few : (ℕ → ℕ → ℕ) → ℕ → Bool
everywhere_few measure most = everywhere (λ m. everywhere (few_or_refused measure most (suc m)) 6) 8

-- then it is at most so much wherever there are at most 65,535 queues
few : (measure : ℕ → ℕ → ℕ) (most : ℕ) → T (everywhere_few measure most) → (M D : ℕ) → 1 ≤ D → Ranges M D → queue_count M D ≤ 65535 →
    measure M (pred D) ≤ most
few measure most all M zero low n h = absurd (not-suc-le-zero low)
few measure most all zero (suc D) low n h = absurd (omega (arith, n.speed_low))
few measure most all (suc m) (suc D) low n h =
    let row = everywhere_at (λ k. everywhere (few_or_refused measure most (suc k)) 6) 8 all m (omega (arith, n.speed_high)) in
    let few-here = everywhere_at (few_or_refused measure most (suc m)) 6 row D (omega (arith, n.bound_high)) in
    let taken = le-ltb 65535 (continuation_count (suc m) (suc D) 0) (omega (arith, queue_count_lem (suc m) (suc D))) in
    leb→le (measure (suc m) D) most (rw taken at few-here)

module _ (M D : ℕ) (low : 1 ≤ D) (n : Ranges M D) (h : queue_count M D ≤ 65535) where
  -- at most 7,084 queues are left after a slot: those of one position fewer
  pub few_after : queue_count M (pred D) ≤ 7084
  unfolding everywhere continuation_count sum
  few_after = rw queue_count_lem (few (λ m d. continuation_count m d 0) 7084 tt M D low n h)

  -- a line for each of them, of a number for each speed from 0 to M and three more, comes to at most 49,588 numbers
  pub few_lines : queue_count M (pred D) * (M + 4) ≤ 49588
  unfolding everywhere continuation_count sum
  few_lines = rw queue_count_lem (few (λ m d. continuation_count m d 0 * (m + 4)) 49588 tt M D low n h)

  -- and they come in at most 969 blocks
  pub few_blocks : queue_count M (pred (pred D)) ≤ 969
  unfolding everywhere continuation_count sum
  few_blocks = rw queue_count_lem (few (λ m d. continuation_count m (pred d) 0) 969 tt M D low n h)
