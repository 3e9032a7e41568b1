-- Laws of the lanes of the entries (specs/Lanes.antt): queues whose last two totals rise together, with an arrival, as long as they are
-- bearable, and their numbers; and the steps for which every arrival leads to a bearable queue.
use Prim.Native.Nat.{ℕ, zero, suc, pred, min, ◌+◌, ◌-◌, ◌*◌, ◌≤◌, ◌<◌, zero-le}
use mathlib.Core.Path.{◌≡◌, refl, sym, ap, ◌∙◌, subst}
use mathlib.Core.Bool.{Bool, true, false, cond}
use mathlib.Core.List.{List}
use mathlib.Core.Logic.{⊎_elim}
use native.Mathlib.Nat.{zero-mul, suc-mul, not-suc-le-zero, eq-or-lt_of_le, le_refl, le_of_suc-le-suc}
use native.Mathlib.Numerals.{add-one}
use native.Mathlib.Omega.{arith}
use borrow.Author.Tests.{leb-true, leb-false}
use lib.Dec.{T, leb}
use lib.ListN.{length}
use Rattle.model.specs.View.{View}
use Rattle.model.specs.Queue.{Queue, total, NeverFalls, NoLonger, queue_in, bearable, queue_count, number_of, arrive}
use Rattle.laws.proofs.Longer.{no_longer_by, arrive_never_falls, bearable_carries}
use Rattle.model.proofs.Queues.{length_arrive, total_arrive, bearable_at_lem, bearable_all, bearable_upto}
use Rattle.model.proofs.Tests.{fails_false, holds_true}
use Rattle.queues.specs.Blocks.{queue_with, first_of, start_of, lowest_of, Alike, Shifted, risen}
use Rattle.sheets.specs.Sizes.{Measured}
use Rattle.sheets.specs.declared.sizes.Sizes.{Sizes}
use Rattle.slot.specs.Slot.{last_twice}
use Rattle.queues.proofs.Blocks.{number_shift, risen_none, risen_less, block_place, block_alike, first_queue}
use Rattle.slot.proofs.Places.{total_in}
use Rattle.slot.proofs.Slots.{length_twice, total_twice, last_twice_lem, bearable_twice}
use Rattle.rows.specs.Rows.{after_with}
use Rattle.entry_lanes.specs.Lanes.{first_after, joined, lift_of, steps_of, steps_to, lane_of, Lane}
use Rattle.entry_lanes.proofs.Firsts.{no_position, most_fewer}

-- where a queue is bearable, its steps and the place of its lane

steps_there : (M D : ℕ) (w : Queue) → T (bearable M w) → steps_of M D w ≡ suc (min (pred D * M - total w (pred D)) (D * M - total w D))
steps_there M D w t = rw (holds_true (bearable M w) t)

lane_there : (M : ℕ) (w : Queue) → T (bearable M w) → lane_of M w ≡ number_of M w
lane_there M w t = rw (holds_true (bearable M w) t)

-- shifted queues

-- with an arrival
shifted_arrive : (d k : ℕ) (v w : Queue) (c dl : ℕ) → 1 ≤ d → Shifted d k v w → Shifted d k (arrive v c dl) (arrive w c dl)
shifted_arrive d k v w c dl low a =
    record {
      long = length_arrive v c dl ∙ a.long;
      long_too = length_arrive w c dl ∙ a.long_too;
      same = each;
      before_is = omega (arith, added d low (omega arith), a.before_is);
      last_is = omega (arith, added (suc d) (omega arith) (omega arith), a.last_is);
    }
  where
    added : (u : ℕ) → 1 ≤ u → u ≤ suc d →
        (total (arrive v c dl) u ≡ total v u + cond (leb dl u) c 0) × (total (arrive w c dl) u ≡ total w u + cond (leb dl u) c 0)
    added u h l = (total_arrive v c dl u h (omega (arith, a.long)), total_arrive w c dl u h (omega (arith, a.long_too)))

    each : (u : ℕ) → u < d → total (arrive v c dl) u ≡ total (arrive w c dl) u
    each zero h = refl
    each (suc i) h = omega (arith, added (suc i) (omega arith) (omega arith), a.same (suc i) h)

-- what holds at each of n places, and at the two behind them, holds at all
two_more : (P : ℕ → Type 0) (n : ℕ) → ((i : ℕ) → i < n → P i) → P n → P (suc n) → (i : ℕ) → i < suc (suc n) → P i
two_more P n all next last i h =
    ⊎_elim (λ e. subst P (sym e) last)
    (λ l. ⊎_elim (λ e. subst P (sym e) next) (all i) (eq-or-lt_of_le (le_of_suc-le-suc l))) (eq-or-lt_of_le (le_of_suc-le-suc h))

module _ (n k : ℕ) (v w : Queue) (a : Shifted (suc n) k v w) where
  -- the one is nowhere longer
  shifted_no_longer : NoLonger v w
  shifted_no_longer =
      no_longer_by v w (a.long ∙ sym a.long_too)
      (λ i h. two_more (λ j. total v (suc j) ≤ total w (suc j)) n (λ j l. omega (arith, a.same (suc j) (omega arith)))
      (omega (arith, a.before_is)) (omega (arith, a.last_is)) i (omega (arith, a.long)))

  -- where the one is bearable, so is the other up to the bounds at its last two positions
  shifted_bearable : (M : ℕ) → T (bearable M v) → total w (suc n) ≤ suc n * M → total w (suc (suc n)) ≤ suc (suc n) * M → T (bearable M w)
  shifted_bearable M t low high =
      bearable_all M w
      (λ i h. two_more (λ j. (total w j ≤ total w (suc j)) × (total w (suc j) ≤ suc j * M)) n
      (λ j l. omega (arith, at j (omega arith), a.same j (omega arith), a.same (suc j) (omega arith)))
      (omega (arith, at n (omega arith), a.same n (omega arith), a.before_is))
      (omega (arith, at (suc n) (omega arith), a.before_is, a.last_is)) i (omega (arith, a.long_too)))
    where
      at : (i : ℕ) → i < suc (suc n) → (total v i ≤ total v (suc i)) × (total v (suc i) ≤ suc i * M)
      at i h = bearable_at_lem M v t i (omega (arith, a.long))

-- the lane of an entry, of two positions at least: v and w are the first queue and a later one, both with the arrival
shifted_lane : (M n k : ℕ) (v w : Queue) {lift lowest : ℕ} → Shifted (suc n) k v w → NeverFalls v → total v (suc n) ≡ lowest + lift →
    Lane M (suc (suc n)) v w lift lowest k
shifted_lane M n k v w {lift} {lowest} a never lifted = go (bearable M v) refl
  where
    -- what the bounds at the last two positions say of a bearable queue
    held : (q : Queue) → length q ≡ suc (suc n) → T (bearable M q) →
        (total q (suc n) ≤ suc n * M) × (total q (suc (suc n)) ≤ suc (suc n) * M)
    held q long t = (bearable_upto M q t (suc n) (omega arith), bearable_upto M q t (suc (suc n)) (omega arith))

    far : T (bearable M v) → T (bearable M w) → number_of M w + k * lift ≡ lane_of M v + risen (suc (suc n) * M + 1 - lowest) k
    far t tw =
        let rise = suc (suc n) * M + 1 - lowest in
        let less : suc (suc n) * M + 1 - total v (suc n) ≡ rise - lift = omega arith in
        let enough : lift + k ≤ rise = omega (arith, a.before_is, suc-mul (suc n) M, held w a.long_too tw) in
        omega (arith, number_shift M n k v w a t tw, lane_there M v t, ap (λ (r : ℕ). risen r k) less, risen_less rise lift k enough)

    go : (b : Bool) → bearable M v ≡ b → Lane M (suc (suc n)) v w lift lowest k
    go true e =
        let t : T (bearable M v) = subst T (sym e) tt in
        let steps = steps_there M (suc (suc n)) v t in
        let bounds = held v a.long t in
        record {
          goes = λ h.
              let tw = shifted_bearable n k v w a M t (omega (arith, a.before_is)) (omega (arith, a.last_is)) in
              (tw, far t tw);
          ends = λ h. fails_false (bearable M w) (λ tw. omega (arith, a.before_is, a.last_is, held w a.long_too tw));
        }
    go false e =
        record {
          goes = λ h. absurd (not-suc-le-zero (rw e at h));
          ends = λ h.
              fails_false (bearable M w)
              (λ tw. subst T e
              (bearable_carries M M v w (le_refl M) (a.long ∙ sym a.long_too) never (shifted_no_longer n k v w a) tw));
        }

-- and of any, where there is no step
unmoved_lane : (M D : ℕ) (w : Queue) {lift lowest : ℕ} → Lane M D w w lift lowest 0
unmoved_lane M D w {lift} {lowest} = go (bearable M w) refl
  where
    go : (b : Bool) → bearable M w ≡ b → Lane M D w w lift lowest 0
    go true e =
        let t : T (bearable M w) = subst T (sym e) tt in
        record {
          goes = λ h. (t, omega (arith, lane_there M w t, zero-mul lift, risen_none (D * M + 1 - lowest)));
          ends = λ h. absurd (omega (arith, steps_there M D w t));
        }
    go false e = record { goes = λ h. absurd (not-suc-le-zero (rw e at h)); ends = λ h. e }

-- the queues after a slot in a block

-- of a block the last two totals rise together
shifted_twice : (d k : ℕ) (v w : Queue) → Alike d v w → total w d ≡ total v d + k → Shifted d k (last_twice v) (last_twice w)
shifted_twice d k v w a e =
    record {
      long = length_twice v ∙ ap suc a.long;
      long_too = length_twice w ∙ ap suc a.long_too;
      same = λ u h. total_twice v u (omega (arith, a.long)) ∙ a.same u h ∙ sym (total_twice w u (omega (arith, a.long_too)));
      before_is = omega (arith, total_twice v d (omega (arith, a.long)), total_twice w d (omega (arith, a.long_too)));
      last_is = omega (arith, last v a.long, last w a.long_too);
    }
  where
    last : (q : Queue) → length q ≡ d → total (last_twice q) (suc d) ≡ total q d
    last q l = subst (λ (i : ℕ). total (last_twice q) (suc i) ≡ total q i) l (last_twice_lem q)

-- so along it every entry has a lane
pub lane_says : (M D b k c dl : ℕ) → 1 ≤ D → b < queue_count M (pred (pred D)) → lowest_of M (pred D) b + k ≤ pred D * M →
    Lane M D (arrive (first_after M D b) c dl) (arrive (after_with M D (start_of M (pred D) b + k)) c dl) (lift_of D c dl)
    (lowest_of M (pred D) b) k
lane_says M zero b k c dl low h high = absurd (not-suc-le-zero low)
lane_says M (suc zero) b k c dl low h high =
    let none : k ≡ 0 = omega (arith, zero-mul M) in
    let placed = block_place M 0 b k (start_of M 0 b + k) h zero-le (omega arith) (omega arith) in
    rw (no_position M (start_of M 0 b + k) placed.0.within, none) (unmoved_lane M 1 (arrive (first_after M 1 b) c dl))
lane_says M (suc (suc n)) b k c dl low h high =
    let v = first_of M (suc n) b in
    let w = queue_with M (suc n) (start_of M (suc n) b + k) in
    let first = first_queue M (suc n) b (omega arith) h in
    let placed = block_place M (suc n) b (lowest_of M (suc n) b + k) (start_of M (suc n) b + k) h (omega arith) high (omega arith) in
    let alike = block_alike M (suc n) b (start_of M (suc n) b + k) (omega arith) h placed.0.within placed.0.block_is in
    let shifted = shifted_twice (suc n) k v w alike (omega (arith, placed.1, first.2)) in
    let before = total_twice v (suc n) (omega (arith, first.0)) in
    shifted_lane M n k (arrive (last_twice v) c dl) (arrive (last_twice w) c dl)
    (shifted_arrive (suc n) k (last_twice v) (last_twice w) c dl (omega arith) shifted)
    (arrive_never_falls (last_twice v) c dl (λ u l. (bearable_at_lem M (last_twice v) (rw bearable_twice first.1) u l).0))
    (omega (arith, total_arrive (last_twice v) c dl (suc n) (omega arith) (omega (arith, shifted.long)), before, first.2))

-- the steps for which every arrival leads to a bearable queue

-- of no entries they are those of a block, as the code works them out
pub steps_begun : (s : View) (places : List ℕ) {sizes : Sizes} {last : ℕ} → Measured sizes →
    total (queue_in sizes.bound places) sizes.bound ≤ pred sizes.bound * sizes.largest → last ≡ total places sizes.bound →
    let most = sizes.bound * sizes.largest - sizes.largest in
    (last ≤ most) × (most - last + 1 ≡ steps_to sizes.largest sizes.bound s (queue_in sizes.bound places) 0)
unfolding steps_to
steps_begun s places {sizes} m h e =
    let D = sizes.bound in
    omega (arith, most_fewer sizes.largest D m.bound_low, total_in D places D (le_refl D))

module _ (M D : ℕ) (s : View) (v : Queue) where
  -- with one entry more
  pub steps_more : (j : ℕ) {least steps next : ℕ} → least ≡ steps_to M D s v j → steps ≡ steps_of M D (joined s v j) →
      next ≡ min least steps → next ≡ steps_to M D s v (j + 1)
  unfolding steps_to
  steps_more j e d here = rw (add-one, ← e, ← d) here

  -- a step before their end is one of each entry
  pub steps_each : (n k j : ℕ) → k < steps_to M D s v n → j < n → k < steps_of M D (joined s v j)
  unfolding steps_to
  steps_each zero k j h l = absurd (not-suc-le-zero l)
  steps_each (suc n) k j h l =
      ⊎_elim (λ e. omega (arith, ap (λ (i : ℕ). steps_of M D (joined s v i)) e)) (steps_each n k j (omega arith))
      (eq-or-lt_of_le (le_of_suc-le-suc l))

  -- a step of the block from their end on is one of some entry no more
  pub steps_past : (n k : ℕ) → steps_to M D s v n ≤ k → k ≤ pred D * M - total v D → (j : ℕ) × (j < n) × (steps_of M D (joined s v j) ≤ k)
  unfolding steps_to
  steps_past zero k h high = absurd (omega arith)
  steps_past (suc n) k h high = go (leb (steps_to M D s v n) k) refl (λ l. steps_past n k l high)
    where
      go : (b : Bool) → leb (steps_to M D s v n) k ≡ b →
          (steps_to M D s v n ≤ k → (j : ℕ) × (j < n) × (steps_of M D (joined s v j) ≤ k)) →
          (j : ℕ) × (j < suc n) × (steps_of M D (joined s v j) ≤ k)
      go true e ih = let found = ih (leb-true (steps_to M D s v n) k e) in (found.0, omega (arith, found.1), found.2)
      go false e ih = (n, omega arith, omega (arith, leb-false (steps_to M D s v n) k e))
