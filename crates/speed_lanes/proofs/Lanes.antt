-- Laws of the lanes of the speeds (specs/Lanes.antt). Where a speed leads on, every faster one does, and in every queue that is nowhere
-- longer; so a speed that does not lead on from the first queue of a block leads on from none of its queues. And along a block the queue
-- after a slot is found from the first one.
use Prim.Native.Nat.{ℕ, zero, suc, min, max, ◌-◌, ◌≤◌, ◌<◌}
use mathlib.Core.Path.{◌≡◌, refl, sym, ap, ◌∙◌, subst}
use mathlib.Core.Bool.{false}
use mathlib.Core.List.{List}
use mathlib.Core.Logic.{⊎_elim}
use native.Mathlib.Nat.{not-suc-le-zero, eq-or-lt_of_le, le_refl}
use native.Mathlib.Omega.{arith}
use borrow.Author.Tests.{le-leb}
use lib.Dec.{T, leb, leb→le, le→leb}
use lib.ListN.{length, get_or}
use Rattle.model.specs.Queue.{Queue, total, NeverFalls, NoLonger, queue_in, places_of, bearable, number_of, run}
use Rattle.laws.proofs.Longer.{no_longer_by, run_never_falls, bearable_carries}
use Rattle.model.proofs.Queues.{length_run, total_run, length_in, bearable_at_lem, bearable_upto}
use Rattle.model.proofs.Tests.{and_left, and_right, and_both, fails_false, holds_true}
use Rattle.queues.specs.Blocks.{Alike}
use Rattle.queues.proofs.Blocks.{number_last, bearable_with}
use Rattle.slot.proofs.Places.{total_in, positions_in}
use Rattle.sheets.proofs.Measures.{one_fewer}
use Rattle.speed_lanes.specs.Lanes.{after_of, leads_on, lane_of, Lane}

-- the queue after a slot

length_after : (d : ℕ) (w : Queue) (s : ℕ) → length w ≡ suc d → length (after_of (suc d) w s) ≡ d
length_after d w s e = length_in d (run w s) (omega (arith, length_run w s))

-- it stands in the places that `after` answers
pub after_places : (D : ℕ) (places : List ℕ) (s : ℕ) {left : List ℕ} → 1 ≤ D → D ≤ 6 → length places ≡ 6 →
    left ≡ places_of (run (queue_in D places) s) → queue_in (D - 1) left ≡ after_of D (queue_in D places) s
after_places D places s low few six e =
    ap (queue_in (D - 1)) e ∙
    positions_in (D - 1) (run (queue_in D places) s) (omega arith)
    (omega (arith, length_run (queue_in D places) s, length_in D places (omega arith))) ∙
    ap (λ (n : ℕ). queue_in n (run (queue_in D places) s)) (one_fewer D)

-- its totals are those of the next positions, less the speed
total_after : (d : ℕ) (w : Queue) (s i : ℕ) → length w ≡ suc d → i < d → total (after_of (suc d) w s) (suc i) ≡ total w (suc (suc i)) - s
total_after d w s i e h =
    let next : min (suc (suc i)) (length w) ≡ suc (suc i) = omega arith in
    total_in d (run w s) (suc i) h ∙ total_run w s (suc i) (omega arith) (omega arith) ∙ ap (λ (k : ℕ). total w k - s) next

-- it never falls
after_never_falls : (d : ℕ) (w : Queue) (s : ℕ) → length w ≡ suc d → NeverFalls w → NeverFalls (after_of (suc d) w s)
after_never_falls d w s e f u h =
    let l : u < d = omega (arith, length_after d w s e) in
    omega (
      arith,
      total_in d (run w s) u (omega arith),
      total_in d (run w s) (suc u) l,
      run_never_falls w s f u (omega (arith, length_run w s)),
    )

-- after a faster slot of a queue that is nowhere longer it is nowhere longer
after_no_longer : (d : ℕ) (v w : Queue) (s s' : ℕ) → length v ≡ suc d → length w ≡ suc d → NoLonger v w → s ≤ s' →
    NoLonger (after_of (suc d) v s') (after_of (suc d) w s)
after_no_longer d v w s s' e f n h =
    no_longer_by (after_of (suc d) v s') (after_of (suc d) w s) (length_after d v s' e ∙ sym (length_after d w s f))
    (λ i k. let l : i < d = omega (arith, length_after d v s' e) in
    omega (arith, total_after d v s' i e l, total_after d w s i f l, n (suc (suc i))))

-- a speed that leads on

module _ (M D : ℕ) (w : Queue) (s : ℕ) where
  -- it is at least w(1), and the queue after the slot is bearable
  pub leads_parts : T (leads_on M D w s) → (total w 1 ≤ s) × T (bearable M (after_of D w s))
  leads_parts t =
      let a = leb (total w 1) s in
      let b = bearable M (after_of D w s) in
      (leb→le (total w 1) s (and_left a b t), and_right a b t)

  leads_both : total w 1 ≤ s → T (bearable M (after_of D w s)) → T (leads_on M D w s)
  leads_both h t = and_both (leb (total w 1) s) (bearable M (after_of D w s)) (le→leb (total w 1) s h) t

-- from the queue in the first places
module _ (M D : ℕ) (places : List ℕ) (s : ℕ) (low : 1 ≤ D) where
  -- a speed that is not below w(1) does where the queue after the slot is bearable
  pub leads_fast : get_or places 0 0 ≤ s → leads_on M D (queue_in D places) s ≡ bearable M (after_of D (queue_in D places) s)
  leads_fast h = rw (le-leb (total (queue_in D places) 1) s (omega (arith, total_in D places 1 low)))

-- it does in each queue that is nowhere longer, and so does each faster one
pub leads_carries : (M D : ℕ) (v w : Queue) (s s' : ℕ) → 1 ≤ D → length v ≡ D → length w ≡ D → NeverFalls v → NoLonger v w → s ≤ s' →
    T (leads_on M D w s) → T (leads_on M D v s')
leads_carries M zero v w s s' low e f never n h t = absurd (not-suc-le-zero low)
leads_carries M (suc d) v w s s' low e f never n h t =
    let parts = leads_parts M (suc d) w s t in
    leads_both M (suc d) v s' (omega (arith, parts.0, n 1))
    (bearable_carries M M (after_of (suc d) v s') (after_of (suc d) w s) (le_refl M)
    (length_after d v s' e ∙ sym (length_after d w s f)) (after_never_falls d v s' e never) (after_no_longer d v w s s' e f n h)
    parts.1)

-- along a block

-- the first queue is nowhere longer than a later one
alike_no_longer : (D : ℕ) (v w : Queue) → Alike D v w → total v D ≤ total w D → NoLonger v w
alike_no_longer D v w a h =
    no_longer_by v w (a.long ∙ sym a.long_too)
    (λ i l. let inside : suc i ≤ D = omega (arith, a.long) in
    ⊎_elim (λ e. omega (arith, ap (total v) e, ap (total w) e)) (λ k. omega (arith, a.same (suc i) k)) (eq-or-lt_of_le inside))

-- a speed that does not lead on from the first queue does not from a later one
pub leads_nowhere : (M D : ℕ) (v w : Queue) (s : ℕ) → 1 ≤ D → Alike D v w → T (bearable M v) → total v D ≤ total w D →
    leads_on M D v s ≡ false → leads_on M D w s ≡ false
leads_nowhere M D v w s low a tv h e =
    fails_false (leads_on M D w s)
    (λ t. subst T e
    (leads_carries M D v w s s low a.long a.long_too (λ u l. (bearable_at_lem M v tv u l).0) (alike_no_longer D v w a h) (le_refl s) t))

-- after a slot two queues of a block are two of a block
after_alike : (d : ℕ) (v w : Queue) (s : ℕ) → Alike (suc d) v w → Alike d (after_of (suc d) v s) (after_of (suc d) w s)
after_alike d v w s a =
    record { long = length_after d v s a.long; long_too = length_after d w s a.long_too; same = each }
  where
    each : (u : ℕ) → u < d → total (after_of (suc d) v s) u ≡ total (after_of (suc d) w s) u
    each zero h = refl
    each (suc i) h =
        let l : i < d = omega arith in
        omega (arith, total_after d v s i a.long l, total_after d w s i a.long_too l, a.same (suc (suc i)) (omega arith))

-- the number of the queue after the slot, where the speed leads on
lane_there : (M D : ℕ) (v : Queue) (s : ℕ) → T (leads_on M D v s) → lane_of M D v s ≡ number_of M (after_of D v s)
lane_there M D v s t = rw (holds_true (leads_on M D v s) t)

-- a speed that leads on from the first queue has a lane
pub lane_says : (M D : ℕ) (v w : Queue) (s : ℕ) → 1 ≤ D → Alike D v w → total v D ≤ total w D → T (leads_on M D v s) →
    Lane M D w s (lane_of M D v s) (max s (total v D))
lane_says M zero v w s low a h t = absurd (not-suc-le-zero low)
lane_says M (suc zero) v w s low a h t =
    record {
      goes = λ l. (leads_both M 1 w s (omega arith) (leads_parts M 1 v s t).1, omega (arith, lane_there M 1 v s t));
      ends = λ l. fails_false (leads_on M 1 w s) (λ k. omega (arith, (leads_parts M 1 w s k).0));
    }
lane_says M (suc (suc d)) v w s low a h t =
    let D = suc (suc d) in
    let v' = after_of D v s in
    let w' = after_of D w s in
    let next = after_alike (suc d) v w s a in
    let parts = leads_parts M D v s t in
    let first : total v' (suc d) ≡ total v D - s = total_after (suc d) v s d a.long (omega arith) in
    let last : total w' (suc d) ≡ total w D - s = total_after (suc d) w s d a.long_too (omega arith) in
    let longer : total v' (suc d) ≤ total w' (suc d) = omega arith in
    record {
      goes = λ l.
          let there = bearable_with M (suc d) v' w' next parts.1 longer (omega arith) in (
            leads_both M D w s (omega (arith, parts.0, a.same 1 (omega arith))) there,
            omega (arith, number_last M d v' w' next parts.1 there longer, lane_there M D v s t),
          );
      ends = λ l.
          fails_false (leads_on M D w s)
          (λ k. omega (arith, bearable_upto M w' (leads_parts M D w s k).1 (suc d) (omega (arith, next.long_too))));
    }
