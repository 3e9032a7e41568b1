-- One slot by earliest deadline first, as single jobs see it and as the queue's totals see it.
use Prim.Native.Nat.{ℕ, suc, ◌+◌, min, ◌≤◌}
use mathlib.Core.Path.{◌≡◌, sym, ap, ◌∙◌}
use mathlib.Core.Bool.{cond}
use mathlib.Core.List.{[], ◌∷◌}
use mathlib.Core.Logic.{⊎_elim, ◌↔◌}
use native.Mathlib.Nat.{eq-or-lt_of_le}
use native.Mathlib.Omega.{arith}
use lib.Dec.{leb}
use lib.ListN.{length}
use Rattle.model.specs.Queue.{Queue, total, one_slot}
use Rattle.model.proofs.Queues.{length_totals, total_totals, length_slot, total_slot, same_totals}
use Rattle.jobs.specs.Pool.{Pool, due_within, queue_of_pool, counted_off, arrived, NoneLate, SlotsUpto}
use Rattle.jobs.specs.Runs.{Slot, after_slot, next_pool}
use Rattle.jobs.specs.Service.{Service, Serves, spend, earliest}
use Rattle.jobs.proofs.Sums.{due_off, due_arrived, due_past, none_late, none_due, serves_leaves}
use Rattle.jobs.proofs.Earliest.{earliest_leaves}

-- the total of a pool's queue
pub total_of : (D : ℕ) (p : Pool) (u : ℕ) → 1 ≤ u → u ≤ D → total (queue_of_pool D p) u ≡ due_within p u
total_of D p u h k = total_totals D (due_within p) u h k

-- "with w(D) standing for w(D+1)": no job has more than D slots left
due_last : (D : ℕ) (p : Pool) → SlotsUpto D p → (u : ℕ) → u ≤ D → due_within p (min (suc u) D) ≡ due_within p (suc u)
due_last D p h u l =
    ⊎_elim
    (λ e. due_past D p h (min (suc u) D) (omega arith) ∙ sym (due_past D p h (suc u) (omega arith)))
    (λ k. let e : min (suc u) D ≡ suc u = omega arith in ap (due_within p) e)
    (eq-or-lt_of_le l)

-- what is due after a slot that any service served, and its arrival
pub due_next : (p : Pool) (t : Service) (x : Slot) (u : ℕ) →
    due_within (next_pool p t x) u ≡ due_within (spend p t) (suc u) + cond (leb x.deadline u) x.size 0
due_next p t x u = due_arrived (after_slot p t) x.size x.deadline u ∙ ap (λ n. n + cond (leb x.deadline u) x.size 0) (due_off (spend p t) u)

-- "This is earliest deadline first": of jobs so served, when the slot is counted off and the arrival has come, the queue is what 01's slot and
-- arrival make of the queue before
pub earliest_slot : (D : ℕ) (p : Pool) → SlotsUpto D p → (x : Slot) →
    queue_of_pool D (next_pool p (earliest x.speed p) x) ≡ one_slot (queue_of_pool D p) x.speed x.size x.deadline
earliest_slot D p h x = same_totals (queue_of_pool D q) (one_slot w s c d) (length_totals D (due_within q) ∙ sym (length_slot w s c d ∙ len)) each
  where
    s : ℕ
    s = x.speed

    c : ℕ
    c = x.size

    d : ℕ
    d = x.deadline

    w : Queue
    w = queue_of_pool D p

    -- the pool after it
    q : Pool
    q = next_pool p (earliest s p) x

    len : length w ≡ D
    len = length_totals D (due_within p)

    each : (u : ℕ) → 1 ≤ u → u ≤ length (queue_of_pool D q) → total (queue_of_pool D q) u ≡ total (one_slot w s c d) u
    each u l k =
        let m : u ≤ D = omega (arith, length_totals D (due_within q)) in
        total_of D q u l m ∙ due_next p (earliest s p) x u ∙
        omega (
          arith,
          earliest_leaves s p (suc u),
          due_last D p h u m,
          total_of D p (min (suc u) D) (omega arith) (omega arith),
          ap (λ n. total w (min (suc u) n)) len,
          total_slot w s c d u l (omega (arith, len)),
        )

-- by earliest deadline first at speed s no job is late after the slot exactly where s is at least what is due within one slot
pub earliest_on_time : (s : ℕ) (p : Pool) → NoneLate (after_slot p (earliest s p)) ↔ (due_within p 1 ≤ s)
earliest_on_time s p = (
  λ h. omega (arith, none_late (after_slot p (earliest s p)) h, due_off (spend p (earliest s p)) 0, earliest_leaves s p 1),
  λ h. none_due (after_slot p (earliest s p)) (omega (arith, due_off (spend p (earliest s p)) 0, earliest_leaves s p 1)),
)

-- .. which is w(1) of its queue
pub earliest_on_time_queue : (D s : ℕ) (p : Pool) → 1 ≤ D → NoneLate (after_slot p (earliest s p)) ↔ (total (queue_of_pool D p) 1 ≤ s)
earliest_on_time_queue D s p l = (
  λ h. omega (arith, (earliest_on_time s p).0 h, total_of D p 1 (omega arith) l),
  λ h. (earliest_on_time s p).1 (omega (arith, total_of D p 1 (omega arith) l)),
)

-- after any service of at most s units that leaves no job late, s is at least what was due within one slot
pub on_time_enough : (s : ℕ) (p : Pool) (t : Service) → Serves s p t → NoneLate (after_slot p t) → due_within p 1 ≤ s
on_time_enough s p t v h = omega (arith, none_late (after_slot p t) h, due_off (spend p t) 0, serves_leaves v 1)

-- no job has more than D slots left after a slot, where the arrival has not

spent_slots : (D : ℕ) (p : Pool) (t : Service) → SlotsUpto D p → SlotsUpto D (spend p t)
unfolding spend
spent_slots D [] t h = tt
spent_slots D (j ∷ p) [] h = h
spent_slots D (j ∷ p) (x ∷ t) h = (h.0, spent_slots D p t h.1)

off_slots : (D : ℕ) (p : Pool) → SlotsUpto D p → SlotsUpto D (counted_off p)
off_slots D [] h = tt
off_slots D (j ∷ p) h = (omega (arith, h.0), off_slots D p h.1)

arrived_slots : (D : ℕ) (p : Pool) (c d : ℕ) → SlotsUpto D p → d ≤ D → SlotsUpto D (arrived p c d)
arrived_slots D [] c d h l = (l, tt)
arrived_slots D (j ∷ p) c d h l = (h.0, arrived_slots D p c d h.1 l)

pub next_slots : (D : ℕ) (p : Pool) (t : Service) (x : Slot) → SlotsUpto D p → x.deadline ≤ D → SlotsUpto D (next_pool p t x)
next_slots D p t x h l = arrived_slots D (after_slot p t) x.size x.deadline (off_slots D (spend p t) (spent_slots D p t h)) l

-- an arrival that has a slot left is not late
arrived_on_time : (p : Pool) (c d : ℕ) → 1 ≤ d → NoneLate p → NoneLate (arrived p c d)
arrived_on_time [] c d l h = (λ late. omega (arith, late.1), tt)
arrived_on_time (j ∷ p) c d l h = (h.0, arrived_on_time p c d l h.1)

pub arrived_before : (p : Pool) (c d : ℕ) → NoneLate (arrived p c d) → NoneLate p
arrived_before [] c d h = tt
arrived_before (j ∷ p) c d h = (h.0, arrived_before p c d h.1)

-- so after a slot of earliest deadline first at a speed of at least w(1) again no job is late or has more than D slots left
pub earliest_next : (D : ℕ) → 1 ≤ D → (p : Pool) → SlotsUpto D p → (x : Slot) → 1 ≤ x.deadline → x.deadline ≤ D →
    total (queue_of_pool D p) 1 ≤ x.speed →
    SlotsUpto D (next_pool p (earliest x.speed p) x) × NoneLate (next_pool p (earliest x.speed p) x)
earliest_next D l p h x low high enough =
    let t = earliest x.speed p in (
      next_slots D p t x h high,
      arrived_on_time (after_slot p t) x.size x.deadline low ((earliest_on_time_queue D x.speed p l).1 enough),
    )
