-- Laws of blocks (specs/Blocks.antt): the number of a queue rises with its last total; how far it rises where the last two totals rise
-- together; and that the blocks have all the queues, each as far after its block's first queue as its last total is above that one's.
use Prim.Native.Nat.{ℕ, zero, suc, pred, ◌+◌, ◌-◌, ◌*◌, ◌≤◌, ◌<◌, zero-le}
use mathlib.Core.Path.{◌≡◌, refl, sym, ap, ◌∙◌}
use mathlib.Core.List.{[], ◌∷◌, ◌++◌}
use mathlib.Core.Logic.{⊎_elim}
use native.Mathlib.Nat.{zero-mul, add-zero, add-suc, suc-mul, not-suc-le-zero, eq-or-lt_of_le, le_refl, zero-lt-suc}
use native.Mathlib.Numerals.{add-one}
use native.Mathlib.Omega.{arith}
use lib.Dec.{T}
use lib.ListN.{length, length-append}
use lib.Seq.{take_all, take_at, get_or_at}
use Rattle.process.specs.Sums.{sum}
use Rattle.process.proofs.Sums.{sum_same}
use Rattle.model.specs.Tests.{listed}
use Rattle.model.specs.Queue.{Queue, total, queue_in, bearable, queue_count, number_of, continuation_count}
use Rattle.model.proofs.Queues.{length_in, bearable_at_lem, bearable_all, listed_bearable, number_below, number_place, number_of_place, number_empty, queue_count_lem}
use Rattle.queues.specs.Blocks.{queue_with, block_of, last_of, first_of, lowest_of, number_in, InBlock, Alike, Shifted, risen}
use Rattle.queues.specs.Order.{earlier_at}
use Rattle.slot.specs.Slot.{last_twice}
use Rattle.queues.proofs.Numbering.{number_sum}
use Rattle.slot.proofs.Places.{total_in}
use Rattle.slot.proofs.Slots.{length_twice, total_twice, bearable_twice}

-- how far a number rises

-- in no step not at all
pub risen_none : (r : ℕ) → 0 ≡ risen r 0
unfolding risen sum
risen_none r = refl

-- in one step more by r less the steps so far
pub risen_more : (r k : ℕ) {far by : ℕ} → far ≡ risen r k → by ≡ r - k → far + by ≡ risen r (k + 1)
unfolding risen sum
risen_more r k e d = rw add-one (omega arith)

-- in k steps after the first c it rises as from r - c on
risen_after : (r c k : ℕ) → risen r (c + k) ≡ risen r c + risen (r - c) k
unfolding risen sum
risen_after r c zero = omega (arith, ap (risen r) (add-zero c))
risen_after r c (suc k) = omega (arith, ap (risen r) (add-suc c k), risen_after r c k)

-- where it rises by c less in each step, it rises by c less as often as there are steps
pub risen_less : (r c k : ℕ) → c + k ≤ r → risen (r - c) k + k * c ≡ risen r k
unfolding risen sum
risen_less r c zero h = omega (arith, zero-mul c)
risen_less r c (suc k) h = omega (arith, risen_less r c k (omega arith), suc-mul k c)

-- in all it rises by no more than r in each step
pub risen_upto : (r k : ℕ) → risen r k ≤ k * r
unfolding risen sum
risen_upto r zero = zero-le
risen_upto r (suc k) = omega (arith, risen_upto r k, suc-mul k r)

-- terms that grow by one from g + 1 on, summed from the last one down
sum_down : (g n : ℕ) → sum (λ j. suc g + j) n ≡ risen (g + n) n
unfolding sum risen
sum_down g zero = refl
sum_down g (suc n) =
    let less : g + suc n - 1 ≡ g + n = omega arith in
    omega (arith, sum_down g n, risen_less (g + suc n) 1 n (omega arith), ap (λ (r : ℕ). risen r n) less)

-- what comes before at a position

-- with no position left each count is 1
count_ones : (n : ℕ) → sum (λ j. 1) n ≡ n
unfolding sum
count_ones zero = refl
count_ones (suc n) = omega (arith, count_ones n)

-- where two queues have as many positions and the same totals up to a position, the same comes before them up to there
earlier_same : (M n : ℕ) (v w : Queue) → length v ≡ length w → ((u : ℕ) → u ≤ n → total v u ≡ total w u) →
    sum (earlier_at M v) n ≡ sum (earlier_at M w) n
unfolding earlier_at
earlier_same M n v w e same = sum_same n (λ u l. rw (e, same u (omega arith), same (suc u) l))

-- at the last position it is how far the last total is above the one before
earlier_last : (M : ℕ) (v : Queue) (n : ℕ) → length v ≡ suc n → earlier_at M v n ≡ total v (suc n) - total v n
unfolding earlier_at continuation_count
earlier_last M v n e = let none : length v - suc n ≡ 0 = omega arith in rw none (count_ones _)

-- at the last but one it is how far the number rises in as many steps as the total there is above the one before
earlier_next : (M : ℕ) (v : Queue) (n : ℕ) → length v ≡ suc (suc n) → total v n ≤ total v (suc n) → total v (suc n) ≤ suc n * M →
    earlier_at M v n ≡ risen (suc (suc n) * M + 1 - total v n) (total v (suc n) - total v n)
unfolding earlier_at continuation_count
earlier_next M v n e low high =
    let one : length v - suc n ≡ 1 = omega arith in
    let x = total v (suc n) in
    let g = suc n * M - x + 1 + M in
    let most : g + (x - total v n) ≡ suc (suc n) * M + 1 - total v n = omega (arith, suc-mul (suc n) M) in
    rw one
    (sum_same (x - total v n) (λ j l. count_ones _ ∙ omega arith) ∙ sum_down g (x - total v n) ∙
    ap (λ (r : ℕ). risen r (x - total v n)) most)

-- so the number rises with the last total
pub number_last : (M n : ℕ) (v w : Queue) → Alike (suc n) v w → T (bearable M v) → T (bearable M w) → total v (suc n) ≤ total w (suc n) →
    number_of M w ≡ number_of M v + (total w (suc n) - total v (suc n))
unfolding sum
number_last M n v w a tv tw h =
    omega (
      arith,
      number_sum M v tv ∙ ap (sum (earlier_at M v)) a.long,
      number_sum M w tw ∙ ap (sum (earlier_at M w)) a.long_too,
      earlier_same M n v w (a.long ∙ sym a.long_too) (λ u l. a.same u (omega arith)),
      earlier_last M v n a.long,
      earlier_last M w n a.long_too,
      a.same n (omega arith),
      (bearable_at_lem M v tv n (omega (arith, a.long))).0,
    )

-- where the last two totals are k higher, what comes before at the last but one rises first by as much as there are last totals from the
-- one there on, and in each later step by one less
earlier_shift : (M n k : ℕ) (v w : Queue) → Shifted (suc n) k v w → T (bearable M v) → T (bearable M w) →
    earlier_at M w n ≡ earlier_at M v n + risen (suc (suc n) * M + 1 - total v (suc n)) k
earlier_shift M n k v w a tv tw =
    let at = bearable_at_lem M v tv n (omega (arith, a.long)) in
    let there = bearable_at_lem M w tw n (omega (arith, a.long_too)) in
    let most = suc (suc n) * M + 1 - total v n in
    let above = total v (suc n) - total v n in
    let further : total w (suc n) - total v n ≡ above + k = omega (arith, a.before_is) in
    let after : most - above ≡ suc (suc n) * M + 1 - total v (suc n) = omega arith in
    rw (earlier_next M v n a.long at.0 at.1, earlier_next M w n a.long_too there.0 there.1)
    (rw (← a.same n (omega arith), further, ← after) (risen_after most above k))

-- and so does the number
pub number_shift : (M n k : ℕ) (v w : Queue) → Shifted (suc n) k v w → T (bearable M v) → T (bearable M w) →
    number_of M w ≡ number_of M v + risen (suc (suc n) * M + 1 - total v (suc n)) k
unfolding sum
number_shift M n k v w a tv tw =
    omega (
      arith,
      number_sum M v tv ∙ ap (sum (earlier_at M v)) a.long,
      number_sum M w tw ∙ ap (sum (earlier_at M w)) a.long_too,
      earlier_same M n v w (a.long ∙ sym a.long_too) (λ u l. a.same u (omega arith)),
      earlier_shift M n k v w a tv tw,
      earlier_last M v (suc n) a.long,
      earlier_last M w (suc n) a.long_too,
      a.before_is,
      a.last_is,
    )

-- bearable in a block

-- the first positions of a bearable queue are one
bearable_first : (M d : ℕ) (w : Queue) → d ≤ length w → T (bearable M w) → T (bearable M (queue_in d w))
bearable_first M d w short t =
    bearable_all M (queue_in d w)
    (λ i h. let l : i < d = omega (arith, length_in d w short) in
    rw (total_in d w i (omega arith), total_in d w (suc i) l) (bearable_at_lem M w t i (omega arith)))

-- a queue of the block is bearable up to the last bearable total
pub bearable_with : (M d : ℕ) (v w : Queue) → Alike d v w → T (bearable M v) → total v d ≤ total w d → total w d ≤ d * M → T (bearable M w)
bearable_with M d v w a t low high =
    bearable_all M w
    (λ i h. let l : i < d = omega (arith, a.long_too) in
    let at = bearable_at_lem M v t i (omega (arith, a.long)) in
    ⊎_elim
    (λ e. let here = ap (total w) e in
    (omega (arith, a.same i l, ap (total v) e), omega (arith, ap (λ (k : ℕ). k * M) e)))
    (λ m. rw (← a.same i l, ← a.same (suc i) m) at)
    (eq-or-lt_of_le l))

-- a block, by its number

module _ (M : ℕ) where
  -- with no position there is one queue, and its number is 0
  none_below : (n : ℕ) → n < queue_count M 0 → (n ≡ 0) × (number_of M [] ≡ 0)
  unfolding continuation_count listed
  none_below n h = (omega (arith, queue_count_lem M 0), number_empty M 0)

  -- what stands before the last total of a queue with a number is a bearable queue
  before_listed : (d n : ℕ) → n < queue_count M d →
      (length (queue_in (pred d) (queue_with M d n)) ≡ pred d) × T (bearable M (queue_in (pred d) (queue_with M d n)))
  before_listed d n h =
      let listed = listed_bearable M d n h in
      let w = queue_with M d n in
      let short : pred d ≤ length w = omega arith in
      (length_in (pred d) w short, bearable_first M (pred d) w short listed.1)

  -- each queue is in a block
  pub block_below : (d n : ℕ) → n < queue_count M d → block_of M d n < queue_count M (pred d)
  block_below d n h =
      let before = before_listed d n h in
      number_below M (queue_in (pred d) (queue_with M d n)) before.0 before.1

  -- and the block's number tells what stands before its last total
  before_same : (d b n : ℕ) → n < queue_count M d → block_of M d n ≡ b → queue_in (pred d) (queue_with M d n) ≡ queue_with M (pred d) b
  before_same d b n h e =
      let before = before_listed d n h in
      sym (number_place M (queue_in (pred d) (queue_with M d n)) before.0 before.1) ∙ ap (queue_with M (pred d)) e

  -- its first queue: as many positions, bearable, and the lowest last total
  pub first_queue : (d b : ℕ) → 1 ≤ d → b < queue_count M (pred d) →
      (length (first_of M d b) ≡ d) × T (bearable M (first_of M d b)) × (total (first_of M d b) d ≡ lowest_of M d b)
  first_queue zero b low h = absurd (not-suc-le-zero low)
  first_queue (suc d) b low h =
      let v = queue_with M d b in
      let listed = listed_bearable M d b h in
      let long : length (last_twice v) ≡ suc d = length_twice v ∙ ap suc listed.0 in
      rw (take_all (suc d) (last_twice v) (omega arith))
      (long, rw bearable_twice listed.1, get_or_at v (total v (length v)) [] 0 d listed.0 ∙ ap (total v) listed.0)

  -- every queue with the same before its last total differs from it in that one alone
  first_alike : (d b : ℕ) (w : Queue) → b < queue_count M d → length w ≡ suc d → queue_in d w ≡ queue_with M d b →
      Alike (suc d) (first_of M (suc d) b) w
  first_alike d b w h long same =
      let v = queue_with M d b in
      record {
        long = (first_queue (suc d) b (omega arith) h).0;
        long_too = long;
        same = λ u l.
            total_in (suc d) (last_twice v) u (omega arith) ∙ total_twice v u (omega (arith, (listed_bearable M d b h).0)) ∙
            ap (λ (q : Queue). total q u) (sym same) ∙ total_in d w u (omega arith);
      }

  -- and so does every queue of the block
  pub block_alike : (d b n : ℕ) → 1 ≤ d → b < queue_count M (pred d) → n < queue_count M d → block_of M d n ≡ b →
      Alike d (first_of M d b) (queue_with M d n)
  block_alike zero b n low h l e = absurd (not-suc-le-zero low)
  block_alike (suc d) b n low h l e =
      first_alike d b (queue_with M (suc d) n) h (listed_bearable M (suc d) n l).0 (before_same (suc d) b n l e)

  -- it stands as much behind the first one as its last total is higher
  number_behind : (d b : ℕ) (w : Queue) → b < queue_count M d → Alike (suc d) (first_of M (suc d) b) w → T (bearable M w) →
      lowest_of M (suc d) b ≤ total w (suc d) → number_of M w ≡ number_in M (suc d) b (total w (suc d))
  number_behind d b w h a t low =
      let first = first_queue (suc d) b (omega arith) h in
      omega (arith, number_last M d (first_of M (suc d) b) w a first.1 t (omega arith))

  -- so far behind its first queue stands the one with a last total that is as much higher
  pub block_place : (d b x n : ℕ) → b < queue_count M (pred d) → lowest_of M d b ≤ x → x ≤ d * M → n ≡ number_in M d b x →
      InBlock M d b (suc x) n × (last_of M d n ≡ x)
  block_place zero b x n h low high e =
      let none = none_below b h in
      (record { within = omega arith; block_is = omega arith; last_low = zero-lt-suc x }, omega (arith, zero-mul M))
  block_place (suc d) b x n h low high e =
      let v = queue_with M d b in
      let listed = listed_bearable M d b h in
      let first = first_queue (suc d) b (omega arith) h in
      let w = v ++ (x ∷ []) in
      let long : length w ≡ suc d = simp length-append (omega arith) in
      let last : total w (suc d) ≡ x = get_or_at v x [] 0 d listed.0 in
      let same : queue_in d w ≡ v = take_at v (x ∷ []) d listed.0 in
      let alike = first_alike d b w h long same in
      let t = bearable_with M (suc d) (first_of M (suc d) b) w alike first.1 (omega arith) (omega arith) in
      let number : number_of M w ≡ n = omega (arith, number_behind d b w h alike t (omega arith)) in
      let there : queue_with M (suc d) n ≡ w = rw (← number) (number_place M w long t) in (
        record {
          within = rw (← number) (number_below M w long t);
          block_is = rw (there, same) (number_of_place M d b h);
          last_low = rw there (omega arith);
        },
        rw there last,
      )

  -- and each queue of the block stands so
  pub in_block : (d b n : ℕ) → b < queue_count M (pred d) → n < queue_count M d → block_of M d n ≡ b →
      (lowest_of M d b ≤ last_of M d n) × (last_of M d n ≤ d * M) × (n ≡ number_in M d b (last_of M d n))
  in_block zero b n h l e = let none = none_below n l in (zero-le, zero-le, omega arith)
  in_block (suc d) b n h l e =
      let w = queue_with M (suc d) n in
      let listed = listed_bearable M (suc d) n l in
      let at = bearable_at_lem M w listed.1 d (omega arith) in
      let same = ap (λ (q : Queue). total q d) (before_same (suc d) b n l e) in
      let low : lowest_of M (suc d) b ≤ total w (suc d) = omega (arith, total_in d w d (le_refl d)) in
      let alike = block_alike (suc d) b n (omega arith) h l e in
      (low, at.1, sym (number_of_place M (suc d) n l) ∙ number_behind d b w h alike listed.1 low)
