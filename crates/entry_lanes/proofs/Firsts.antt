-- Queues in their six places, as the calls of this crate know them: the first queue of a block of queues after a slot, in which the last
-- total stands twice; a queue with an arrival; and for how many steps a queue stays bearable.
use Prim.Native.Nat.{ℕ, zero, suc, pred, min, ◌+◌, ◌*◌, ◌-◌, ◌≤◌, ◌<◌}
use mathlib.Core.Path.{◌≡◌, refl, sym, ap, ◌∙◌}
use mathlib.Core.List.{List, []}
use native.Mathlib.Nat.{not-suc-le-zero, le_refl, suc-mul, mul-le-mul_right}
use native.Mathlib.Numerals.{add-one}
use native.Mathlib.Omega.{arith}
use lib.Dec.{T}
use lib.ListN.{length, get_or, set}
use lib.Seq.{take_all, take-append-le}
use Rattle.model.specs.View.{View, zero_job}
use Rattle.model.specs.declared.Job.{Job}
use Rattle.model.specs.Queue.{Queue, total, queue_in, places_of, bearable, queue_count, arrive}
use Rattle.model.proofs.Queues.{in_first_places, length_in, length_arrive, bearable_all, bearable_upto, listed_bearable}
use Rattle.model.proofs.Tests.{holds_true}
use Rattle.queues.specs.Blocks.{queue_with, first_of, lowest_of}
use Rattle.queues.specs.Order.{Numbered}
use Rattle.slot.specs.Slot.{Small, last_twice}
use Rattle.queues.proofs.Blocks.{first_queue}
use Rattle.slot.proofs.Places.{positions_in, total_in}
use Rattle.slot.proofs.Slots.{length_twice, last_twice_lem, bearable_twice, bearable_small}
use Rattle.rows.proofs.LastTwice.{twice_places, last_in}
use Rattle.rows.proofs.Room.{numbered_before}
use Rattle.sheets.specs.Sizes.{Measured}
use Rattle.sheets.specs.declared.sizes.Sizes.{Sizes}
use Rattle.sheets.proofs.Measures.{one_fewer}
use Rattle.entry_lanes.specs.Lanes.{first_after, joined, steps_of}

-- there is one queue of no position
pub no_position : (M n : ℕ) → n < queue_count M 0 → queue_with M 0 n ≡ []
no_position M n h = sym (take_all 0 (queue_with M 0 n) (omega (arith, (listed_bearable M 0 n h).0)))

module _ (M : ℕ) where
  -- the first queue of a block: as many positions, bearable, and the lowest last total, of no position too
  pub first_of_lem : (d b : ℕ) → b < queue_count M (pred d) →
      (length (first_of M d b) ≡ d) × T (bearable M (first_of M d b)) × (total (first_of M d b) d ≡ lowest_of M d b)
  first_of_lem zero b h = (refl, bearable_all M [] (λ i l. absurd (not-suc-le-zero l)), refl)
  first_of_lem (suc d) b h = first_queue M (suc d) b (omega arith) h

  -- so that the lowest last total is one
  pub lowest_upto : (d b : ℕ) → b < queue_count M (pred d) → lowest_of M d b ≤ d * M
  lowest_upto d b h =
      let first = first_of_lem d b h in
      omega (arith, first.2, bearable_upto M (first_of M d b) first.1 d (omega (arith, first.0)))

  -- what `first_queue` answers, and its last total written once more behind it
  pub after_places : (d b : ℕ) {places : List ℕ} {last : ℕ} → d ≤ 5 → b < queue_count M (pred d) →
      places ≡ places_of (last_twice (queue_with M (pred d) b)) → last ≡ total places d →
      set places d last ≡ places_of (last_twice (first_of M d b))
  after_places zero b {places} {last} few h e here =
      cc (ap (λ (q : Queue). places_of (last_twice q)) (no_position M b h))
  after_places (suc d) b {places} few h e here =
      let v = last_twice (queue_with M d b) in
      let long : length v ≡ suc d = length_twice (queue_with M d b) ∙ ap suc (listed_bearable M d b h).0 in
      twice_places (suc d) v few long e here ∙ ap (λ (q : Queue). places_of (last_twice q)) (sym (take_all (suc d) v (omega arith)))

-- the first queue of block b after a slot stands in these places and is small enough to be added to; before its last total stands the
-- block's first queue, which has a number; and the last total is the lowest
pub record AfterIn (M D b : ℕ) (queue : List ℕ) : Type 0 where
  pub after_is : queue_in D queue ≡ first_after M D b
  pub small : Small (queue_in D queue)
  pub before_is : queue_in (D - 1) queue ≡ first_of M (pred D) b
  pub numbered : Numbered M (D - 1) queue
  pub lowest_is : get_or queue (D - 1) 0 ≡ lowest_of M (pred D) b
  pub last_high : total (queue_in D queue) D ≤ pred D * M

-- it does in those that `first_after` answers
pub after_in : {sizes : Sizes} {b : ℕ} {queue : List ℕ} → Measured sizes → b < sizes.blocks →
    queue ≡ places_of (first_after sizes.largest sizes.bound b) → AfterIn sizes.largest sizes.bound b queue
after_in {sizes} {b} {queue} m h e =
    let M = sizes.largest in
    let D = sizes.bound in
    let v = first_of M (pred D) b in
    let block : b < queue_count M (pred (pred D)) = omega (arith, m.blocks_is) in
    let first = first_of_lem M (pred D) b block in
    let more : D ≡ suc (length v) = omega (arith, first.0, m.bound_low) in
    let long : length (last_twice v) ≡ D = length_twice v ∙ sym more in
    let here : queue_in D queue ≡ last_twice v = ap (queue_in D) e ∙ in_first_places D (last_twice v) long m.ranges.bound_high in
    let before : queue_in (D - 1) queue ≡ v =
    ap (queue_in (D - 1)) e ∙ positions_in (D - 1) (last_twice v) (omega (arith, m.ranges.bound_high)) (omega arith) ∙
    take-append-le (D - 1) v _ (omega arith) ∙ take_all (D - 1) v (omega arith) in
    let last : total (queue_in D queue) D ≡ lowest_of M (pred D) b =
    ap (λ (q : Queue). total q D) here ∙ ap (total (last_twice v)) more ∙ last_twice_lem v ∙ ap (total v) first.0 ∙ first.2 in
    let few : length (last_twice v) ≤ 6 = omega (arith, m.ranges.bound_high) in
    record {
      after_is = here;
      small = rw here (bearable_small M (last_twice v) m.ranges.speed_high few (rw bearable_twice first.1));
      before_is = before;
      numbered = numbered_before m before first.1;
      lowest_is = sym (last_in D queue m.bound_low) ∙ last;
      last_high = omega (arith, lowest_upto M (pred D) b block);
    }

-- a queue with the arrival of the entry at place j stands in the places that `arrive` answers
pub joined_in : (s : View) (D : ℕ) (places : List ℕ) (j : ℕ) {jobs : List Job} {with : List ℕ} → D ≤ 6 → length places ≡ 6 → jobs ≡ s.jobs →
    (let one = get_or jobs j zero_job in with ≡ places_of (arrive (queue_in D places) one.size one.deadline)) →
    queue_in D with ≡ joined s (queue_in D places) j
joined_in s D places j few six same e =
    let w = queue_in D places in
    ap (queue_in D) e ∙ in_first_places D (arrive w _ _) (length_arrive w _ _ ∙ length_in D places (omega arith)) few ∙
    ap (λ (jobs : List Job). arrive w (get_or jobs j zero_job).size (get_or jobs j zero_job).deadline) same

-- (D-1) times M, as the code works it out
pub most_fewer : (M D : ℕ) → 1 ≤ D → D * M - M ≡ pred D * M
most_fewer M zero low = absurd (not-suc-le-zero low)
most_fewer M (suc d) low = omega (arith, suc-mul d M)

-- M is no more than D times M
pub largest_upto : {sizes : Sizes} → Measured sizes → sizes.largest ≤ sizes.bound * sizes.largest
largest_upto {sizes} m = omega (arith, mul-le-mul_right sizes.largest m.bound_low)

-- the steps of a bearable queue, as the code works them out from its places, where no difference is below 0
pub record StepsIn (M D : ℕ) (places : List ℕ) : Type 0 where
  pub before_high : total places (D - 1) ≤ D * M - M
  pub last_high : total places D ≤ D * M
  pub steps_are : min (D * M - M - total places (D - 1)) (D * M - total places D) + 1 ≡ steps_of M D (queue_in D places)

-- so they are wherever the queue in the first places is bearable
pub steps_in : {sizes : Sizes} {places : List ℕ} → Measured sizes → length places ≡ 6 →
    T (bearable sizes.largest (queue_in sizes.bound places)) → StepsIn sizes.largest sizes.bound places
steps_in {sizes} {places} m six t =
    let M = sizes.largest in
    let D = sizes.bound in
    let w = queue_in D places in
    let long : length w ≡ D = length_in D places (omega (arith, m.ranges.bound_high)) in
    let last : total w D ≡ total places D = total_in D places D (le_refl D) in
    let before : total w (pred D) ≡ total places (D - 1) = rw one_fewer (total_in D places (pred D) (omega arith)) in
    let most = most_fewer M D m.bound_low in
    record {
      before_high = omega (arith, bearable_upto M w t (pred D) (omega arith));
      last_high = omega (arith, bearable_upto M w t D (omega arith));
      steps_are = rw (holds_true (bearable M w) t, most, ← last, ← before, add-one);
    }
