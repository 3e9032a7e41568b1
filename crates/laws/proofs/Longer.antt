-- Queues compared position by position: a slot and an arrival keep queues from falling, and keep one queue nowhere longer than another;
-- and what is nowhere longer than a bearable queue is bearable. The comparison of sheets stands on these laws.
use Prim.Native.Nat.{ℕ, zero, suc, min, ◌≤◌, ◌<◌, zero-le}
use mathlib.Core.Path.{◌≡◌, refl, sym, ◌∙◌}
use mathlib.Core.Bool.{Bool, true, false, cond}
use mathlib.Core.Logic.{◌⊎◌, ⊎_elim}
use native.Mathlib.Nat.{le_refl, le_trans, eq-or-lt_of_le, le_of_suc-le-suc, not-suc-le-zero, mul-le-mul_left}
use native.Mathlib.Omega.{arith}
use borrow.Author.Tests.{ltb-true, ltb-false, leb-true, le-leb}
use lib.Dec.{T, leb, ltb}
use lib.ListN.{length}
use Rattle.model.specs.Queue.{Queue, total, NeverFalls, NoLonger, bearable, run, arrive}
use Rattle.model.proofs.Queues.{total_past, length_run, length_arrive, total_run, total_arrive, bearable_at_lem, bearable_all}

-- in a queue that never falls a later total is no less
later_more : (v : Queue) → NeverFalls v → (i j : ℕ) → i ≤ j → j ≤ length v → total v i ≤ total v j
later_more v f zero zero h l = zero-le
later_more v f (suc i) zero h l = absurd (not-suc-le-zero h)
later_more v f i (suc j) h l =
    ⊎_elim (λ e. rw e (le_refl (total v (suc j)))) (λ k. le_trans (later_more v f i j (le_of_suc-le-suc k) (omega arith)) (f j l))
    (eq-or-lt_of_le h)

-- past the end both totals are 0, so that the positions alone are to compare
pub no_longer_by : (v w : Queue) → length v ≡ length w → ((i : ℕ) → i < length v → total v (suc i) ≤ total w (suc i)) → NoLonger v w
no_longer_by v w e all zero = zero-le
no_longer_by v w e all (suc i) = go (ltb i (length v)) refl
  where
    go : (b : Bool) → ltb i (length v) ≡ b → total v (suc i) ≤ total w (suc i)
    go true q = all i (ltb-true i (length v) q)
    go false q = omega (arith, total_past v (suc i) (omega (arith, ltb-false i (length v) q)))

-- a slot keeps a queue from falling
pub run_never_falls : (v : Queue) (s : ℕ) → NeverFalls v → NeverFalls (run v s)
run_never_falls v s f zero h = zero-le
run_never_falls v s f (suc i) h =
    let l : suc i < length v = omega (arith, length_run v s) in
    omega (
      arith,
      total_run v s (suc i) (omega arith) (omega arith),
      total_run v s (suc (suc i)) (omega arith) (omega arith),
      later_more v f (min (suc (suc i)) (length v)) (min (suc (suc (suc i))) (length v)) (omega arith) (omega arith),
    )

-- a slot at the same speed keeps a queue nowhere longer
pub run_no_longer : (v w : Queue) (s : ℕ) → length v ≡ length w → NoLonger v w → NoLonger (run v s) (run w s)
run_no_longer v w s e n = no_longer_by (run v s) (run w s) (length_run v s ∙ e ∙ sym (length_run w s)) each
  where
    each : (i : ℕ) → i < length (run v s) → total (run v s) (suc i) ≤ total (run w s) (suc i)
    each i h =
        let l : i < length v = omega (arith, length_run v s) in
        let at_v = total_run v s (suc i) (omega arith) (omega arith) in
        let at-w = rw (← e) at (total_run w s (suc i) (omega arith) (omega arith)) in
        omega (arith, n (min (suc (suc i)) (length v)))

-- what an arrival adds is no more than x, where its size is no more than x once it is due
added_upto : (c d u x : ℕ) → (d ≤ u → c ≤ x) → cond (leb d u) c 0 ≤ x
added_upto c d u x h = go (leb d u) refl
  where
    go : (b : Bool) → leb d u ≡ b → cond b c 0 ≤ x
    go true e = h (leb-true d u e)
    go false e = zero-le

-- an arrival keeps a queue from falling
pub arrive_never_falls : (v : Queue) (c d : ℕ) → NeverFalls v → NeverFalls (arrive v c d)
arrive_never_falls v c d f zero h = zero-le
arrive_never_falls v c d f (suc i) h =
    let l : suc i < length v = omega (arith, length_arrive v c d) in
    omega (
      arith,
      total_arrive v c d (suc i) (omega arith) (omega arith),
      total_arrive v c d (suc (suc i)) (omega arith) (omega arith),
      f (suc i) l,
      added_upto c d (suc i) (cond (leb d (suc (suc i))) c 0) (λ k. rw (le-leb d (suc (suc i)) (omega arith)) (le_refl c)),
    )

-- arrivals keep a queue nowhere longer, where the one is empty, or no larger and due no sooner
pub arrive_no_longer : (v w : Queue) (c d c' d' : ℕ) → length v ≡ length w → NoLonger v w →
    (c ≡ 0) ⊎ ((c ≤ c') × (d' ≤ d)) → NoLonger (arrive v c d) (arrive w c' d')
arrive_no_longer v w c d c' d' e n easier =
    no_longer_by (arrive v c d) (arrive w c' d') (length_arrive v c d ∙ e ∙ sym (length_arrive w c' d')) each
  where
    added : (u : ℕ) → cond (leb d u) c 0 ≤ cond (leb d' u) c' 0
    added u =
        added_upto c d u (cond (leb d' u) c' 0)
        (λ k. ⊎_elim (λ q. rw q zero-le) (λ p. rw (le-leb d' u (le_trans p.1 k)) p.0) easier)

    each : (i : ℕ) → i < length (arrive v c d) → total (arrive v c d) (suc i) ≤ total (arrive w c' d') (suc i)
    each i h =
        let l : i < length v = omega (arith, length_arrive v c d) in
        omega (
          arith,
          total_arrive v c d (suc i) (omega arith) (omega arith),
          total_arrive w c' d' (suc i) (omega arith) (omega arith),
          n (suc i),
          added (suc i),
        )

-- a queue that never falls and is nowhere longer than a bearable one is bearable, also where M is larger
pub bearable_carries : (M M' : ℕ) (v w : Queue) → M ≤ M' → length v ≡ length w → NeverFalls v → NoLonger v w → T (bearable M w) →
    T (bearable M' v)
bearable_carries M M' v w m e f n t =
    bearable_all M' v
    (λ i h. (f i h, le_trans (n (suc i)) (le_trans (bearable_at_lem M w t i (omega arith)).1 (mul-le-mul_left (suc i) m))))
