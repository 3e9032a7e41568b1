-- What follows from the sizes of a sheet (sheets/specs/Sizes.antt): the tables and the buffer of the passes have room, and the numbers of
-- queues are small.
use Prim.Native.Nat.{ℕ, suc, ◌+◌, ◌*◌, ◌-◌, ◌≤◌, ◌<◌}
use mathlib.Core.Path.{◌≡◌, ap}
use mathlib.Core.List.{List}
use native.Mathlib.Nat.{mul-le-mul, mul-le-mul_left}
use native.Mathlib.Omega.{arith}
use lib.Dec.{T}
use lib.ListN.{length}
use Rattle.model.specs.Queue.{Queue, queue_in, bearable, queue_count, number_of}
use Rattle.queues.specs.Order.{Ranges, Numbered}
use Rattle.queues.proofs.RoundTrip.{number_in_below}
use Rattle.queues.proofs.Fewer.{few_after, few_lines, few_blocks}
use Rattle.sheets.specs.Sizes.{Measured}
use Rattle.sheets.proofs.Measures.{ranges_fewer, one_fewer}
use Rattle.sheets.specs.declared.sizes.Sizes.{Sizes}
use Rattle.rows.specs.Tables.{line_at}

-- what follows from there being few queues

module _ {sizes : Sizes} (m : Measured sizes) where
  queues_few : queue_count sizes.largest sizes.bound ≤ 65535
  queues_few = omega (arith, m.queues_is, m.queues_high)

  -- no last total is above 48
  pub most_total : sizes.bound * sizes.largest ≤ 48
  most_total = mul-le-mul m.ranges.bound_high m.ranges.speed_high

  -- the buffer of what is ahead has room
  pub after_room : sizes.after ≤ 7084
  after_room = omega (arith, m.after_is, few_after sizes.largest sizes.bound m.bound_low m.ranges queues_few)

  -- the queues after a slot come in few blocks
  pub blocks_few : sizes.blocks ≤ 969
  blocks_few = omega (arith, m.blocks_is, few_blocks sizes.largest sizes.bound m.bound_low m.ranges queues_few)

  -- so has the table of the second pass, with no more speeds than 0 to M
  pub lines_room : (n : ℕ) → n ≤ suc sizes.largest → line_at 9 n sizes.after ≤ 49606
  lines_room n h =
      let short : n + 3 ≤ sizes.largest + 4 = omega arith in
      omega (
        arith,
        mul-le-mul_left sizes.after short,
        ap (λ (k : ℕ). k * (sizes.largest + 4)) m.after_is,
        few_lines sizes.largest sizes.bound m.bound_low m.ranges queues_few,
      )

  -- and that of the first, with at most 32 entries
  pub entry_lines_room : (n : ℕ) → n ≤ 32 → line_at 32 n sizes.blocks ≤ 33979
  entry_lines_room n h =
      let short : n + 3 ≤ 35 = omega arith in
      omega (arith, mul-le-mul blocks_few short)

  -- the queues of one position fewer, and their numbers

  -- one position fewer is in range too
  pub ranges_before : Ranges sizes.largest (sizes.bound - 1)
  ranges_before = rw one_fewer (ranges_fewer m.ranges)

  -- a bearable queue of one position fewer has a number
  pub numbered_before : {queue : List ℕ} {v : Queue} → queue_in (sizes.bound - 1) queue ≡ v → T (bearable sizes.largest v) →
      Numbered sizes.largest (sizes.bound - 1) queue
  numbered_before e t = record { ranges = ranges_before; is_bearable = rw e t }

  -- the number of a queue is small
  pub number_small : {queue : List ℕ} {number : ℕ} → length queue ≡ 6 → Numbered sizes.largest sizes.bound queue →
      number ≡ number_of sizes.largest (queue_in sizes.bound queue) → number < 65535
  number_small {queue} six n e = omega (arith, number_in_below sizes.largest sizes.bound queue six n, queues_few)

  -- and that of one of one position fewer
  pub number_before_small : {queue : List ℕ} {number : ℕ} → length queue ≡ 6 → Numbered sizes.largest (sizes.bound - 1) queue →
      number ≡ number_of sizes.largest (queue_in (sizes.bound - 1) queue) → number < 7084
  number_before_small {queue} six n e =
      omega (
        arith,
        number_in_below sizes.largest (sizes.bound - 1) queue six n,
        ap (queue_count sizes.largest) (one_fewer sizes.bound),
        m.after_is,
        after_room,
      )
