-- The first queue of a block, in its six places: a queue of one position fewer, and behind it its last total once more.
use Prim.Native.Nat.{ℕ, zero, suc, pred, ◌-◌, ◌≤◌, ◌<◌}
use mathlib.Core.Path.{◌≡◌, sym, ap, ◌∙◌}
use mathlib.Core.List.{List, [], ◌∷◌}
use native.Mathlib.Nat.{le_refl, not-suc-le-zero}
use native.Mathlib.Omega.{arith}
use lib.ListN.{length, get_or, set}
use Rattle.model.specs.Queue.{Queue, total, queue_in, places_of, queue_count}
use Rattle.model.proofs.Queues.{listed_bearable}
use Rattle.queues.specs.Blocks.{queue_with, first_of, lowest_of}
use Rattle.queues.specs.Order.{Numbered}
use Rattle.sheets.specs.Sizes.{Measured}
use Rattle.sheets.specs.declared.sizes.Sizes.{Sizes}
use Rattle.slot.specs.Slot.{last_twice}
use Rattle.queues.proofs.Blocks.{first_queue}
use Rattle.slot.proofs.Places.{total_in, positions_in}
use Rattle.slot.proofs.Slots.{length_twice}

-- a queue of at most five positions, in its places, and its last total written behind it
pub twice_places : (d : ℕ) (v : Queue) {places : List ℕ} {last : ℕ} → d ≤ 5 → length v ≡ d → places ≡ places_of v → last ≡ total places d →
    set places d last ≡ places_of (last_twice v)
twice_places d [] few long e here = rw (here, ← long, e)
twice_places d (p ∷ []) few long e here = rw (here, ← long, e)
twice_places d (p ∷ q ∷ []) few long e here = rw (here, ← long, e)
twice_places d (p ∷ q ∷ r ∷ []) few long e here = rw (here, ← long, e)
twice_places d (p ∷ q ∷ r ∷ s ∷ []) few long e here = rw (here, ← long, e)
twice_places d (p ∷ q ∷ r ∷ s ∷ t ∷ []) few long e here = rw (here, ← long, e)
twice_places d (p ∷ q ∷ r ∷ s ∷ t ∷ u ∷ v) few long e here = absurd (omega arith)

-- the last total of a queue stands in the last of its places
pub last_in : (d : ℕ) (places : List ℕ) → 1 ≤ d → total (queue_in d places) d ≡ get_or places (d - 1) 0
last_in zero places low = absurd (not-suc-le-zero low)
last_in (suc d) places low =
    let same : d ≡ suc d - 1 = omega arith in
    total_in (suc d) places (suc d) (le_refl (suc d)) ∙ ap (λ (k : ℕ). get_or places k 0) same

-- the first queue of block b stands in these places, has a number, and its last total is the lowest
pub record FirstIn (M d b : ℕ) (queue : List ℕ) : Type 0 where
  pub first_is : queue_in d queue ≡ first_of M d b
  pub numbered : Numbered M d queue
  pub lowest_is : get_or queue (d - 1) 0 ≡ lowest_of M d b

-- it does in those that `first_queue` answers
pub first_in : {sizes : Sizes} {b : ℕ} {queue : List ℕ} → Measured sizes → b < sizes.after →
    queue ≡ places_of (last_twice (queue_with sizes.largest (pred sizes.bound) b)) → FirstIn sizes.largest sizes.bound b queue
first_in {sizes} {b} {queue} m h e =
    let M = sizes.largest in
    let D = sizes.bound in
    let v = queue_with M (pred D) b in
    let block : b < queue_count M (pred D) = omega (arith, m.after_is) in
    let first = first_queue M D b m.bound_low block in
    let long : D ≤ length (last_twice v) = omega (arith, length_twice v, (listed_bearable M (pred D) b block).0) in
    let here : queue_in D queue ≡ first_of M D b = ap (queue_in D) e ∙ positions_in D (last_twice v) m.ranges.bound_high long in
    record {
      first_is = here;
      numbered = record { ranges = m.ranges; is_bearable = rw here first.1 };
      lowest_is = sym (last_in D queue m.bound_low) ∙ ap (λ (q : Queue). total q D) here ∙ first.2;
    }
