-- What a slot at a speed of at least w(1) leaves of a queue: its last total stands twice, so that the positions before the last one tell
-- the whole queue and whether it is bearable. An arrival makes no queue bearable that was not. And the totals of a bearable queue, and of
-- what a slot leaves of it, are small enough to be added to. The planner's and the stepper's steps stand on these laws.
use Prim.Native.Nat.{ℕ, zero, suc, ◌*◌, min, ◌≤◌, ◌<◌, zero-le}
use mathlib.Core.Path.{◌≡◌, refl, sym, ap, ◌∙◌}
use mathlib.Core.Bool.{Bool, true, false}
use mathlib.Core.List.{[]}
use mathlib.Core.Logic.{◌⊎◌, inl, inr}
use native.Mathlib.Nat.{le_refl, eq-or-lt_of_le, suc-mul, mul-le-mul}
use native.Mathlib.Numerals.{add-one}
use native.Mathlib.Omega.{arith}
use borrow.Author.Tests.{leb-true, leb-false}
use lib.Dec.{T, leb}
use lib.ListN.{length, length-append, get_or-append}
use lib.Seq.{take-suc, take_all, get_or-append_seam}
use Rattle.model.specs.Queue.{Queue, total, NeverFalls, queue_in, bearable, run, arrive}
use Rattle.model.proofs.Queues.{total_past, length_run, length_arrive, total_run, total_arrive, bearable_at_lem, bearable_all, bearable_upto, length_in}
use Rattle.model.proofs.Tests.{same_test}
use Rattle.slot.specs.Slot.{Small, last_twice}
use Rattle.slot.proofs.Places.{total_in}

-- a queue whose last total stands once more (specs/Slot.antt)

-- it has one position more
pub length_twice : (v : Queue) → length (last_twice v) ≡ suc (length v)
length_twice v = length-append v _ ∙ add-one (length v)

-- its totals up to the old last one are the old ones
pub total_twice : (v : Queue) (u : ℕ) → u ≤ length v → total (last_twice v) u ≡ total v u
total_twice v zero h = refl
total_twice v (suc i) h = get_or-append v _ 0 i h

-- its last total is the old last one
pub last_twice_lem : (v : Queue) → total (last_twice v) (suc (length v)) ≡ total v (length v)
last_twice_lem v = get_or-append_seam v (total v (length v)) [] 0

-- a queue whose last total stands once more is bearable exactly where the queue was
pub bearable_twice : (M : ℕ) (v : Queue) → bearable M (last_twice v) ≡ bearable M v
bearable_twice M v =
    same_test (bearable M (last_twice v)) (bearable M v)
    (λ t. bearable_all M v
    (λ i h. let k = bearable_at_lem M (last_twice v) t i (omega (arith, length_twice v)) in
    omega (arith, total_twice v i (omega arith), total_twice v (suc i) h)))
    (λ t. bearable_all M (last_twice v) (λ i h. each t i (eq-or-lt_of_le (omega (arith, length_twice v)))))
  where
    each : T (bearable M v) → (i : ℕ) → (i ≡ length v) ⊎ (i < length v) →
        (total (last_twice v) i ≤ total (last_twice v) (suc i)) × (total (last_twice v) (suc i) ≤ suc i * M)
    each t i (inl e) =
        let last : total (last_twice v) (suc i) ≡ total v i = rw e (last_twice_lem v) in
        omega (arith, total_twice v i (omega arith), bearable_upto M v t i (omega arith), suc-mul i M)
    each t i (inr l) = rw (total_twice v i (omega arith), total_twice v (suc i) l) (bearable_at_lem M v t i l)

-- after a slot at a speed of at least w(1) the last two totals are the same; a queue of one position is empty then, since w(0) is 0
pub run_last : (w : Queue) (s D : ℕ) → length w ≡ suc D → total w 1 ≤ s → total (run w s) (suc D) ≡ total (run w s) D
run_last w s zero l h =
    let last : min 2 (length w) ≡ 1 = omega arith in
    rw (total_run w s 1 (omega arith) (omega arith), last) (omega arith)
run_last w s (suc i) l h =
    let last : min (suc (suc (suc i))) (length w) ≡ min (suc (suc i)) (length w) = omega arith in
    rw (total_run w s (suc (suc i)) (omega arith) (omega arith), total_run w s (suc i) (omega arith) (omega arith), last)

-- after such a slot the queue is its positions before the last, the last total kept
pub run_twice : (w : Queue) (s D : ℕ) → length w ≡ suc D → total w 1 ≤ s → run w s ≡ last_twice (queue_in D (run w s))
run_twice w s D l h =
    let r = run w s in
    let long : length r ≡ suc D = length_run w s ∙ l in
    rw (length_in D r (omega arith), total_in D r D (le_refl D), ← run_last w s D l h)
    (sym (take_all (suc D) r (omega arith)) ∙ take-suc r D 0 (omega arith))

-- after such a slot the queue is bearable exactly where its positions before the last are a bearable queue
pub run_bearable : (M : ℕ) (w : Queue) (s D : ℕ) → length w ≡ suc D → total w 1 ≤ s →
    bearable M (run w s) ≡ bearable M (queue_in D (run w s))
run_bearable M w s D l h = ap (bearable M) (run_twice w s D l h) ∙ bearable_twice M (queue_in D (run w s))

-- a queue that is not bearable is bearable after no arrival
pub arrive_not_bearable : (M : ℕ) (w : Queue) (c d : ℕ) → NeverFalls w → T (bearable M (arrive w c d)) → T (bearable M w)
arrive_not_bearable M w c d rises t =
    bearable_all M w
    (λ i h. (
      rises i h,
      omega (
        arith,
        total_arrive w c d (suc i) (omega arith) (omega arith),
        (bearable_at_lem M (arrive w c d) t i (omega (arith, length_arrive w c d))).1,
      ),
    ))

-- where no total of a queue up to its last position is above 48, none is
small_within : (w : Queue) → ((u : ℕ) → 1 ≤ u → u ≤ length w → total w u ≤ 48) → Small w
small_within w each zero = zero-le
small_within w each (suc i) = go (leb (suc i) (length w)) refl
  where
    go : (b : Bool) → leb (suc i) (length w) ≡ b → total w (suc i) ≤ 48
    go true e = each (suc i) (omega arith) (leb-true (suc i) (length w) e)
    go false e = omega (arith, total_past w (suc i) (leb-false (suc i) (length w) e))

-- no total of a bearable queue is above 48, so that a job can be added to it
pub bearable_small : (M : ℕ) (w : Queue) → M ≤ 8 → length w ≤ 6 → T (bearable M w) → Small w
bearable_small M w high few t =
    small_within w
    (λ u low h. let short : u ≤ 6 = omega arith in
    omega (arith, bearable_upto M w t u h, mul-le-mul short high))

-- nor is one after a slot above 48 where none was
pub run_small : (w : Queue) (s : ℕ) → Small w → Small (run w s)
run_small w s small =
    small_within (run w s)
    (λ u low h. omega (arith, total_run w s u low (omega (arith, length_run w s)), small (min (suc u) (length w))))
