-- What the table and the row say so many steps on from the first queue of a block: the proofs of src/step.rt and src/pass.rt stand on these
-- laws, which hold at any width of a value.
use Prim.Native.Nat.{ℕ, suc, pred, ◌+◌, ◌-◌, ◌*◌, ◌≤◌, ◌<◌}
use mathlib.Core.Path.{◌≡◌, ap, ◌∙◌}
use mathlib.Core.Bool.{Bool, true, false, cond}
use mathlib.Core.List.{List}
use mathlib.Core.Option.{Option, none}
use native.Mathlib.Nat.{mul-le-mul, mul-le-mul_right}
use native.Mathlib.Omega.{arith}
use lib.Dec.{T, leb}
use lib.ListN.{length}
use Rattle.process.specs.Recursion.{plus, times}
use Rattle.model.specs.View.{View, weight_at, size_at, deadline_at}
use Rattle.model.specs.Refusal.{fields_refusal}
use Rattle.model.specs.Queue.{Queue, total, bearable, queue_count, number_of}
use Rattle.model.proofs.Queues.{length_arrive, listed_bearable, number_below}
use Rattle.model.proofs.Refusal.{ranged}
use Rattle.model.proofs.Tests.{holds_true}
use Rattle.queues.specs.Blocks.{queue_with, first_of, lowest_of, last_of, InBlock}
use Rattle.slot.specs.Slot.{last_twice}
use Rattle.queues.proofs.Blocks.{block_place, risen_upto}
use Rattle.slot.proofs.Slots.{length_twice, last_twice_lem}
use Rattle.model.specs.Width.{Width, value_in}
use Rattle.value.specs.Values.{Fits}
use Rattle.value.proofs.Decoding.{fits_all}
use Rattle.rows.specs.Rows.{value_in_row, after_with}
use Rattle.sheets.specs.Sizes.{Measured}
use Rattle.sheets.specs.declared.sizes.Sizes.{Sizes}
use Rattle.rows.proofs.Room.{most_total}
use Rattle.rows.proofs.Rows.{none_in_row, read_in_row}
use Rattle.entry_lanes.specs.Lanes.{first_after, joined, lift_of, steps_to, lane_of, Lane}
use Rattle.entry_lanes.proofs.Firsts.{first_of_lem, lowest_upto, most_fewer}
use Rattle.entry_lanes.proofs.Lanes.{lane_says, steps_each, steps_past}
use Rattle.ahead.specs.Pass.{Given, Within, sum_left, stepped, rise_of}
use Rattle.ahead.proofs.Adding.{sum_more, sum_none}

-- a queue after a slot, with the arrival of an entry, has D positions
pub joined_long : {sizes : Sizes} → Measured sizes → (s : View) {i : ℕ} → i < sizes.after → (j : ℕ) →
    length (joined s (after_with sizes.largest sizes.bound i) j) ≡ sizes.bound
joined_long {sizes} m s {i} h j =
    let v = queue_with sizes.largest (pred sizes.bound) i in
    let fewer = (listed_bearable sizes.largest (pred sizes.bound) i (omega (arith, m.after_is))).0 in
    length_arrive (last_twice v) (size_at s j) (deadline_at s j) ∙ length_twice v ∙ omega (arith, fewer, m.bound_low)

-- less what an entry has lifted, what a lane has risen to is one of so many numbers of queues
pub record Lifted (queues risen lifted : ℕ) : Type 0 where
  pub lifted_small : lifted ≤ 48 * 255
  pub lifted_low : lifted ≤ risen
  pub number_low : risen - lifted < queues
  pub queues_high : queues ≤ 65535

module _ {sizes : Sizes} (m : Measured sizes) where
  abbrev M : ℕ
  M = sizes.largest

  abbrev D : ℕ
  D = sizes.bound

  -- D times M, and one less of M
  pub most_is : (pred D * M + M ≡ D * M) × (D * M ≤ 48)
  most_is = (omega (arith, most_fewer M D m.bound_low, mul-le-mul_right M m.bound_low), most_total m)

  module _ {b : ℕ} (block : b < sizes.blocks) where
    -- it is a block of the queues after a slot
    pub block_low : b < queue_count M (pred (pred D))
    block_low = omega (arith, m.blocks_is)

    -- its lowest last total is one
    pub lowest_high : lowest_of M (pred D) b ≤ pred D * M
    lowest_high = lowest_upto M (pred D) b block_low

    -- the last total of the block's first queue
    first_last : total (first_after M D b) D ≡ lowest_of M (pred D) b
    first_last =
        let v = first_of M (pred D) b in
        let is = first_of_lem M (pred D) b block_low in
        let more : D ≡ suc (length v) = omega (arith, is.0, m.bound_low) in
        ap (total (last_twice v)) more ∙ last_twice_lem v ∙ ap (total v) is.0 ∙ is.2

  module _ {b k : ℕ} (inside : Within sizes b k) where
    abbrev v : Queue
    v = after_with M D (stepped sizes b k)

    placed : InBlock M (pred D) b (suc (lowest_of M (pred D) b + k)) (stepped sizes b k) ×
        (last_of M (pred D) (stepped sizes b k) ≡ lowest_of M (pred D) b + k)
    placed =
        block_place M (pred D) b (lowest_of M (pred D) b + k) (stepped sizes b k) (block_low inside.block_low) (omega arith)
        inside.steps_high (omega arith)

    -- the queue's number is one of a queue after a slot
    pub number_low : stepped sizes b k < sizes.after
    number_low = omega (arith, placed.0.within, m.after_is)

    -- a lane has not risen far
    pub risen_small : rise_of sizes b k ≤ 48 * 49
    risen_small =
        let rise = D * M + 1 - lowest_of M (pred D) b in
        let few : k ≤ 48 = omega (arith, inside.steps_high, most_is) in
        let low : rise ≤ 49 = omega (arith, most_is) in
        omega (arith, risen_upto rise k, mul-le-mul few low)

    -- the queue with an arrival
    module _ (s : View) where
      lane : (j : ℕ) →
          Lane M D (joined s (first_after M D b) j) (joined s v j) (lift_of D (size_at s j) (deadline_at s j)) (lowest_of M (pred D) b) k
      lane j = lane_says M D b k (size_at s j) (deadline_at s j) m.bound_low (block_low inside.block_low) inside.steps_high

      -- where some arrival leads to a queue that is not bearable, what is ahead is none
      pub sum_past : (width : Width) (next : ℕ) (values : List ℕ) → steps_to M D s (first_after M D b) s.job_count ≤ k →
          sum_left width s sizes next values (stepped sizes b k) s.job_count ≡ none
      sum_past width next values h =
          let found =
          steps_past M D s (first_after M D b) s.job_count k h (omega (arith, first_last inside.block_low, inside.steps_high)) in
          sum_none s (value_in_row width M values next) v s.job_count found.0 found.1
          (none_in_row width M values next (joined s v found.0) ((lane found.0).ends found.2))

      -- the sum so far and one entry more, as the code adds them, are the next sum, which does not exceed the limit of a value
      pub sum_on : {width : Width} {next : ℕ} {values : List ℕ} → Given width s sizes next values → {j weight : ℕ} {sum here : Option ℕ} →
          j < s.job_count → weight ≡ weight_at s j → sum ≡ sum_left width s sizes next values (stepped sizes b k) j →
          here ≡ value_in_row width M values next (joined s v j) →
          let more = plus sum (times weight here) in
          (more ≡ sum_left width s sizes next values (stepped sizes b k) (j + 1)) × Fits width more
      sum_on {width} {next} {values} given {j} h w e d =
          let same = sum_more s (value_in_row width M values next) v j e w d in
          (same, rw same (fits_all width _ (λ v here. given.fits (stepped sizes b k) (j + 1) v number_low (omega arith) here)))

      -- elsewhere each arrival leads to a bearable queue, and what the code reads in the table tells its number
      module _ (fields : fields_refusal s ≡ 0) (before_end : k < steps_to M D s (first_after M D b) s.job_count) {j : ℕ} (h : j < s.job_count) {here lift far : ℕ}
          (here_is : here ≡ lane_of M (joined s (first_after M D b) j)) (lift_is : lift ≡ lift_of D (size_at s j) (deadline_at s j))
          (far_is : far ≡ rise_of sizes b k) where
        abbrev w : Queue
        w = joined s v j

        goes : T (bearable M w) × (number_of M w + k * lift ≡ here + far)
        goes =
            let found = (lane j).goes (steps_each M D s (first_after M D b) s.job_count k j before_end h) in
            (found.0, omega (arith, found.1, ap (λ (x : ℕ). k * x) lift_is, here_is, far_is))

        -- that number is one of a queue
        pub lane_lifted : Lifted sizes.queues (here + far) (k * lift)
        lane_lifted =
            record {
              lifted_small = mul-le-mul few small;
              lifted_low = omega (arith, goes.1);
              number_low = omega (arith, goes.1, number_below M w long goes.0, m.queues_is);
              queues_high = m.queues_high;
            }
          where
            few : k ≤ 48
            few = omega (arith, inside.steps_high, most_is)

            small : lift ≤ 255
            small = omega (arith, lift_is, go (leb (deadline_at s j) (pred D)))
              where
                go : (b : Bool) → cond b (size_at s j) 0 ≤ 255
                go true = (ranged s fields).size_high j h
                go false = omega arith

            long : length w ≡ D
            long = joined_long m s number_low j

        -- at which the row has its value
        pub value_there : (width : Width) (next : ℕ) (values : List ℕ) →
            value_in width values (next + (here + far - k * lift)) ≡ value_in_row width M values next w
        value_there width next values =
            let number : number_of M w ≡ here + far - k * lift = omega (arith, goes.1) in
            rw (read_in_row width M values next w (holds_true (bearable M w) goes.0), number)
