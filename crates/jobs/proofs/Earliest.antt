-- Earliest deadline first takes, of the work due within each u, all of it or the s units, whichever is less: so it leaves each total less
-- by s, not below 0; it is a service of at most s units, and of earliest deadline first; and no service of at most s units leaves less due
-- within any u.
use Prim.Native.Nat.{ℕ, zero, suc, ◌+◌, ◌-◌, min, max, ◌≤◌, ◌<◌}
use mathlib.Core.Path.{◌≡◌, refl, ap, ◌∙◌}
use mathlib.Core.Bool.{Bool, true, false, cond}
use mathlib.Core.List.{[], ◌∷◌}
use mathlib.Core.Logic.{⊎_elim}
use native.Mathlib.Nat.{not-suc-le-zero, le_of_suc-le-suc}
use native.Mathlib.Omega.{arith}
use borrow.Author.Tests.{eqb-true, eq-eqb}
use lib.Dec.{leb, eqb}
use lib.ListN.{length, get_or, take}
use lib.Seq.{take-length}
use Rattle.jobs.specs.Pool.{Pool, job_at, work_where, due_within, due_at, all_work, SlotsUpto}
use Rattle.jobs.specs.Service.{Service, WorkAllows, taken, Serves, spend, Sooner, IsEarliestFirst, due_before, earliest_from, earliest}
use Rattle.jobs.proofs.Sums.{due_more, due_suc, due_zero, due_past, took, where_spent, took_all, serves_leaves}

-- of each job at most its work is taken
earliest_allows : (all : Pool) (s : ℕ) (front p : Pool) → WorkAllows p (earliest_from all s front p)
unfolding earliest_from
earliest_allows all s front [] = tt
earliest_allows all s front (j ∷ p) = (omega arith, earliest_allows all s (j ∷ front) p)

-- the next x of work, after f of its own deadline and b of earlier ones, and then the rest
next_share : (s x f rest b r : ℕ) → r + min (x + f) (s - b) ≡ min (x + f + rest) (s - b) →
    min x (s - (b + f)) + r + min f (s - b) ≡ min (f + (x + rest)) (s - b)
next_share s x f rest b r h =
    let share : min x (s - (b + f)) + min f (s - b) ≡ min (x + f) (s - b) = omega arith in
    let same : f + (x + rest) ≡ x + f + rest = omega arith in
    rw same (omega (arith, share, h))

-- of the jobs due at d, those before and these together get what s leaves after the earlier deadlines
took_at : (all : Pool) (s : ℕ) (d : ℕ) (front p : Pool) →
    due_at (took p (earliest_from all s front p)) d + min (due_at front d) (s - due_before all d) ≡
    min (due_at front d + due_at p d) (s - due_before all d)
unfolding work_where earliest_from took
took_at all s d front [] = omega arith
took_at all s d front (j ∷ p) = go (eqb j.slots d) refl (due_at (took p (earliest_from all s (j ∷ front) p)) d) (took_at all s d (j ∷ front) p)
  where
    share : ℕ → ℕ
    share e = min j.work (s - (due_before all e + due_at front e))

    go : (b : Bool) → eqb j.slots d ≡ b → (r : ℕ) →
        r + min (cond b j.work 0 + due_at front d) (s - due_before all d) ≡
        min (cond b j.work 0 + due_at front d + due_at p d) (s - due_before all d) →
        cond b (share j.slots) 0 + r + min (due_at front d) (s - due_before all d) ≡
        min (due_at front d + (cond b j.work 0 + due_at p d)) (s - due_before all d)
    go true e r h =
        ap (λ n. n + r + min (due_at front d) (s - due_before all d)) (ap share (eqb-true j.slots d e)) ∙
        next_share s j.work (due_at front d) (due_at p d) (due_before all d) r h
    go false e r h = omega arith

-- at each deadline it takes all, or what s leaves after the earlier deadlines
earliest_at : (s : ℕ) (p : Pool) (d : ℕ) → due_at (took p (earliest s p)) d ≡ min (due_at p d) (s - due_before p d)
unfolding work_where
earliest_at s p d = omega (arith, took_at p s d [] p)

-- within each u it takes all, or the s units
earliest_took : (s : ℕ) (p : Pool) (u : ℕ) → due_within (took p (earliest s p)) u ≡ min (due_within p u) s
earliest_took s p zero = omega (arith, earliest_at s p 0, due_zero p, due_zero (took p (earliest s p)))
earliest_took s p (suc u) =
    omega (
      arith,
      earliest_took s p u,
      earliest_at s p (suc u),
      due_suc p u,
      due_suc (took p (earliest s p)) u,
    )

-- within each u it leaves what was due less s, not below 0
pub earliest_leaves : (s : ℕ) (p : Pool) (u : ℕ) → due_within (spend p (earliest s p)) u ≡ due_within p u - s
earliest_leaves s p u =
    omega (arith, earliest_took s p u, where_spent (λ d. leb d u) p (earliest s p) (earliest_allows p s [] p))

-- the greatest number of slots left
latest : Pool → ℕ
latest [] = 0
latest (j ∷ p) = max j.slots (latest p)

upto_more : (D E : ℕ) → D ≤ E → (p : Pool) → SlotsUpto D p → SlotsUpto E p
upto_more D E h [] l = tt
upto_more D E h (j ∷ p) l = (omega (arith, l.0), upto_more D E h p l.1)

upto_latest : (p : Pool) → SlotsUpto (latest p) p
unfolding latest
upto_latest [] = tt
upto_latest (j ∷ p) = (omega arith, upto_more (latest p) (max j.slots (latest p)) (omega arith) p (upto_latest p))

took_slots : (D : ℕ) (p : Pool) (t : Service) → SlotsUpto D p → SlotsUpto D (took p t)
unfolding took
took_slots D [] t h = tt
took_slots D (j ∷ p) [] h = tt
took_slots D (j ∷ p) (x ∷ t) h = (h.0, took_slots D p t h.1)

-- it spends all the work, or the s units
pub earliest_spends : (s : ℕ) (p : Pool) → taken (earliest s p) ≡ min (all_work p) s
earliest_spends s p =
    let t = earliest s p in
    let u = latest p in
    omega (
      arith,
      took_all p t (earliest_allows p s [] p),
      due_past u (took p t) (took_slots u p t (upto_latest p)) u (omega arith),
      due_past u p (upto_latest p) u (omega arith),
      earliest_took s p u,
    )

-- it is a service of at most s units
pub earliest_serves : (s : ℕ) (p : Pool) → Serves s p (earliest s p)
earliest_serves s p = record { each = earliest_allows p s [] p; in_all = omega (arith, earliest_spends s p) }

-- no service of at most s units leaves less due within any u
pub earliest_least : (s : ℕ) (p : Pool) (t : Service) → Serves s p t → (u : ℕ) →
    due_within (spend p (earliest s p)) u ≤ due_within (spend p t) u
earliest_least s p t h u = omega (arith, earliest_leaves s p u, serves_leaves h u)

-- it is earliest deadline first: what a job gets, by its place

share_at : (all : Pool) (s : ℕ) (front rest : Pool) (i : ℕ) → i < length rest →
    get_or (earliest_from all s front rest) i 0 ≡
    min (job_at rest i).work
    (s - (due_before all (job_at rest i).slots + (due_at front (job_at rest i).slots + due_at (take i rest) (job_at rest i).slots)))
unfolding earliest_from work_where
share_at all s front [] i h = absurd (not-suc-le-zero h)
share_at all s front (j ∷ rest) zero h = omega arith
share_at all s front (j ∷ rest) (suc i) h =
    let d = (job_at rest i).slots in
    let same : due_at (j ∷ front) d + due_at (take i rest) d ≡ due_at front d + (cond (eqb j.slots d) j.work 0 + due_at (take i rest) d) =
    omega arith in
    share_at all s (j ∷ front) rest i (le_of_suc-le-suc h) ∙ ap (λ n. min (job_at rest i).work (s - (due_before all d + n))) same

-- of the jobs due at d, those before a place and the one there are among those before any later place
front_more : (d : ℕ) (p : Pool) (i j : ℕ) → i < j → i < length p → (job_at p i).slots ≡ d →
    due_at (take i p) d + (job_at p i).work ≤ due_at (take j p) d
unfolding work_where
front_more d p i zero h l e = absurd (not-suc-le-zero h)
front_more d [] i (suc j) h l e = absurd (not-suc-le-zero l)
front_more d (q ∷ p) zero (suc j) h l e = rw (eq-eqb q.slots d e) (omega arith)
front_more d (q ∷ p) (suc i) (suc j) h l e = omega (arith, front_more d p i j (le_of_suc-le-suc h) (le_of_suc-le-suc l) e)

-- what is due before d, and at d, is what is due within d
due_split : (p : Pool) (d : ℕ) → due_before p d + due_at p d ≡ due_within p d
due_split p zero = omega (arith, due_zero p)
due_split p (suc d) = omega (arith, due_suc p d)

-- what is due within d is due before any later deadline
due_sooner : (p : Pool) (d e : ℕ) → d < e → due_within p d ≤ due_before p e
due_sooner p d zero h = absurd (not-suc-le-zero h)
due_sooner p d (suc e) h = due_more p d e (le_of_suc-le-suc h)

-- all work that comes before a sooner job, and its own, comes before a later one
sooner_less : (p : Pool) (i j : ℕ) → i < length p → Sooner p i j →
    due_before p (job_at p i).slots + due_at (take i p) (job_at p i).slots + (job_at p i).work ≤
    due_before p (job_at p j).slots + due_at (take j p) (job_at p j).slots
sooner_less p i j h = ⊎_elim due_first older_first
  where
    d : ℕ
    d = (job_at p i).slots

    e : ℕ
    e = (job_at p j).slots

    due_first : d < e → due_before p d + due_at (take i p) d + (job_at p i).work ≤ due_before p e + due_at (take j p) e
    due_first l =
        omega (
          arith,
          due_sooner p d e l,
          due_split p d,
          rw take-length at (front_more d p i (length p) h h refl),
        )

    older_first : (d ≡ e) × (i < j) → due_before p d + due_at (take i p) d + (job_at p i).work ≤ due_before p e + due_at (take j p) e
    older_first (same, l) =
        omega (arith, front_more d p i j l h refl, ap (due_before p) same, ap (due_at (take j p)) same)

pub earliest_is : (s : ℕ) (p : Pool) → IsEarliestFirst s p (earliest s p)
unfolding work_where
earliest_is s p = record { serves = earliest_serves s p; sooner_first = first; none_kept_back = earliest_spends s p }
  where
    first : (i j : ℕ) → i < length p → j < length p → Sooner p i j → 0 < get_or (earliest s p) j 0 → get_or (earliest s p) i 0 ≡ (job_at p i).work
    first i j h l sooner some = omega (arith, sooner_less p i j h sooner, share_at p s [] p i h, share_at p s [] p j l)
