-- A way is good, as document 01 says it of totals, exactly where it is in time, as single jobs see it: where with some order of service beside
-- it no job is ever late and every pool reached can be finished; and earliest deadline first is such an order. So the least over the good
-- ways is the least over those that are in time.
use Prim.Native.Nat.{ℕ, zero, suc, ◌-◌}
use mathlib.Core.Path.{◌≡◌, sym, ◌∙◌, subst}
use mathlib.Core.List.{List, [], ◌∷◌}
use mathlib.Core.Logic.{◌↔◌}
use mathlib.Core.Option.{Option, none, some}
use native.Mathlib.Nat.{le_refl, le_trans}
use native.Mathlib.Omega.{arith}
use lib.Dec.{T, leb→le, le→leb}
use lib.ListN.{length}
use Rattle.process.specs.Sums.{Events}
use Rattle.process.specs.Ways.{Way, later, Along, Good, IsLeast}
use Rattle.model.specs.View.{View, weight_at, M}
use Rattle.model.specs.Plan.{next_queue, process_of, IsValueAt, IsPlanByte}
use Rattle.model.specs.Queue.{Queue, total, NeverFalls, bearable, run, one_slot}
use Rattle.laws.proofs.Longer.{no_longer_by, run_never_falls, arrive_never_falls, bearable_carries}
use Rattle.model.proofs.Queues.{length_totals, length_slot}
use Rattle.model.proofs.Refusal.{Ranged}
use Rattle.jobs.specs.Given.{EachJob, ByDeadline}
use Rattle.jobs.specs.InTime.{slot_of, slots_of, Order, later_order, services_of, InTimeAlong, InTime, earliest_order, IsValueOfPool, IsLeastInTime, IsByteOfPool}
use Rattle.jobs.specs.Pool.{Pool, due_within, queue_of_pool, NoneLate, SlotsUpto}
use Rattle.jobs.specs.Runs.{after_slot, next_pool, MissesNone}
use Rattle.jobs.specs.Service.{earliest}
use Rattle.jobs.proofs.Earliest.{earliest_serves}
use Rattle.jobs.proofs.Slots.{total_of, earliest_slot, on_time_enough, next_slots, arrived_before, earliest_next}
use Rattle.jobs.proofs.Runs.{NowhereAbove, own_nowhere_above, next_nowhere_above}
use Rattle.jobs.proofs.Given.{misses_none_done}
use Rattle.jobs.proofs.Finishable.{bearable_finishable, own_never_falls}

-- a sheet that keeps every range
module _ (s : View) (ranged : Ranged s) where
  abbrev D : ℕ
  D = s.bound

  in_time_starts : (p : Pool) (σ : Way) (o : Order) (l : List ℕ) → InTimeAlong s p σ o l → NoneLate p
  in_time_starts p σ o [] a = a.0
  in_time_starts p σ o (i ∷ l) a = a.0

  -- a queue whose totals are nowhere above what is due of a pool that can be finished is bearable
  finishable_bearable : (w : Queue) (p : Pool) → length w ≡ D → NeverFalls w → NowhereAbove w p → T (bearable (M s) (queue_of_pool D p)) →
      T (bearable (M s) w)
  finishable_bearable w p len f above b =
      let long : length w ≡ length (queue_of_pool D p) = omega (arith, len, length_totals D (due_within p)) in
      bearable_carries (M s) (M s) w (queue_of_pool D p) (le_refl (M s)) long f
      (no_longer_by w (queue_of_pool D p) long (λ i l. omega (arith, above (suc i), total_of D p (suc i) (omega arith) (omega arith)))) b

  -- along a list on which some order of service is in time, the queue by totals is bearable and each speed at least w(1)
  good_where_in_time : (k : ℕ) (w : Queue) (p : Pool) → length w ≡ D → NeverFalls w → NowhereAbove w p → SlotsUpto D p →
      (σ : Way) (o : Order) (l : List ℕ) → Events s.job_count k l → InTimeAlong s p σ o l → Along (process_of s) w σ l
  unfolding process_of next_queue
  good_where_in_time zero w p len f above h σ o [] e a =
      finishable_bearable w p len f above ((bearable_finishable D ranged.bound_low p h a.0 (M s)).1 a.1)
  good_where_in_time zero w p len f above h σ o (i ∷ l) e a = absurd e
  good_where_in_time (suc k) w p len f above h σ o [] e a = absurd e
  good_where_in_time (suc k) w p len f above h σ o (i ∷ l) e a =
      let x = slot_of s (σ []) i in
      let t = o [] in
      let after = in_time_starts (next_pool p t x) (later σ i) (later_order o i) l a.4 in
      let on_time = arrived_before (after_slot p t) x.size x.deadline after in (
        finishable_bearable w p len f above ((bearable_finishable D ranged.bound_low p h a.0 (M s)).1 a.1),
        a.2,
        le→leb (total w 1) (σ []) (le_trans (above 1) (on_time_enough (σ []) p t a.3 on_time)),
        good_where_in_time k (one_slot w (σ []) x.size x.deadline) (next_pool p t x) (length_slot w (σ []) x.size x.deadline ∙ len)
            (arrive_never_falls (run w (σ [])) x.size x.deadline (run_never_falls w (σ []) f))
            (next_nowhere_above w p t x a.3 above) (next_slots D p t x h (ranged.deadline_high i e.0)) (later σ i) (later_order o i) l
            e.1 a.4,
      )

  -- along a list on which a way is good from the pool's queue, earliest deadline first beside it is in time
  in_time_where_good : (k : ℕ) (p : Pool) → SlotsUpto D p → NoneLate p → (σ : Way) (l : List ℕ) → Events s.job_count k l →
      Along (process_of s) (queue_of_pool D p) σ l → InTimeAlong s p σ (earliest_order s p σ) l
  unfolding process_of next_queue earliest_order
  in_time_where_good zero p h n σ [] e a = (n, (bearable_finishable D ranged.bound_low p h n (M s)).0 a)
  in_time_where_good zero p h n σ (i ∷ l) e a = absurd e
  in_time_where_good (suc k) p h n σ [] e a = absurd e
  in_time_where_good (suc k) p h n σ (i ∷ l) e a =
      let x = slot_of s (σ []) i in
      let enough = leb→le (total (queue_of_pool D p) 1) (σ []) a.2 in
      let (slots, on_time) =
      earliest_next D ranged.bound_low p h x (ranged.deadline_low i e.0) (ranged.deadline_high i e.0) enough in (
        n,
        (bearable_finishable D ranged.bound_low p h n (M s)).0 a.0,
        a.1,
        earliest_serves (σ []) p,
        in_time_where_good k (next_pool p (earliest (σ []) p) x) slots on_time (later σ i) l e.1
            (subst (λ (w : Queue). Along (process_of s) w (later σ i) l) (sym (earliest_slot D p h x)) a.3),
      )

  -- jobs none of which is late or has more than D slots left
  module _ (p : Pool) (h : SlotsUpto D p) (n : NoneLate p) where
    -- the order of service may even be chosen for each list of entries, knowing it beforehand
    known_good : (k : ℕ) (σ : Way) → ((l : List ℕ) → Events s.job_count k l → (o : Order) × InTimeAlong s p σ o l) →
        Good (process_of s) s.job_count k (queue_of_pool D p) σ
    known_good k σ known l e =
        let len = length_totals D (due_within p) in
        good_where_in_time k (queue_of_pool D p) p len (λ i l. own_never_falls D p i (omega (arith, len))) (own_nowhere_above D p) h σ
        (known l e).0 l e (known l e).1

    -- the theorem: a way is good exactly where it is in time
    pub good_in_time : (k : ℕ) (σ : Way) → Good (process_of s) s.job_count k (queue_of_pool D p) σ ↔ InTime s k p σ
    good_in_time k σ = (
      λ good. (earliest_order s p σ, λ l e. in_time_where_good k p h n σ l e (good l e)),
      λ served. known_good k σ (λ l e. (served.0, served.1 l e)),
    )

    -- and then earliest deadline first is in time beside it; an order that knows the entries to come could do no more
    pub earliest_in_time : (k : ℕ) (σ : Way) → ((l : List ℕ) → Events s.job_count k l → (o : Order) × InTimeAlong s p σ o l) →
        (l : List ℕ) → Events s.job_count k l → InTimeAlong s p σ (earliest_order s p σ) l
    earliest_in_time k σ known l e = in_time_where_good k p h n σ l e (known_good k σ known l e)

    -- so the value of the queue is the value of the jobs
    pub value_of_pool : (t : ℕ) (r : Option ℕ) → IsValueAt s t (queue_of_pool D p) r → IsValueOfPool s t p r
    value_of_pool t none never = λ σ served. never σ ((good_in_time (s.horizon - t) σ).1 served)
    value_of_pool t (some v) is = record {
      way = is.way;
      holds = (good_in_time (s.horizon - t) is.way).0 is.holds;
      costs = is.costs;
      least = λ σ served. is.least σ ((good_in_time (s.horizon - t) σ).1 served);
    }

    -- a way is a least good one exactly where it is a least one of those that are in time
    least_of_pool : (t : ℕ) (σ : Way) →
        IsLeast (process_of s) s.job_count (weight_at s) (s.horizon - t) (queue_of_pool D p) σ ↔ IsLeastInTime s t p σ
    least_of_pool t σ = (
      λ least. record {
        in_time = (good_in_time k σ).0 least.good;
        least = λ τ served. least.least τ ((good_in_time k τ).1 served);
      },
      λ least. record {
        good = (good_in_time k σ).1 least.in_time;
        least = λ τ good. least.least τ ((good_in_time k τ).0 good);
      },
    )
      where
        k : ℕ
        k = s.horizon - t

    -- so the plan byte of the queue is that of the jobs
    pub byte_of_pool : (t : ℕ) (r : Option ℕ) (byte : ℕ) → IsPlanByte s t (queue_of_pool D p) r byte → IsByteOfPool s t p r byte
    byte_of_pool t none byte is = is
    byte_of_pool t (some v) byte is = record {
      way = is.way;
      least = (least_of_pool t is.way).0 is.least;
      begins = is.begins;
      slowest = λ σ least. is.smallest σ ((least_of_pool t σ).1 least);
    }

-- along a list of entries a way that is in time misses no deadline, as runs say it: its speeds, and the services of the order beside it
pub in_time_misses_none : (s : View) (p : Pool) (σ : Way) (o : Order) (l : List ℕ) → InTimeAlong s p σ o l →
    MissesNone p (slots_of s σ l) (services_of o l)
unfolding slots_of services_of
in_time_misses_none s p σ o [] a = a.0
in_time_misses_none s p σ o (i ∷ l) a =
    (a.0, a.3, in_time_misses_none s (next_pool p (o []) (slot_of s (σ []) i)) (later σ i) (later_order o i) l a.4)

-- so every job, whether it waits at the start or comes, is given all its work by its deadline
pub in_time_done : (s : View) (p : Pool) (σ : Way) (o : Order) (l : List ℕ) → InTimeAlong s p σ o l →
    EachJob ByDeadline p (slots_of s σ l) (services_of o l)
in_time_done s p σ o l a = ((misses_none_done p (slots_of s σ l) (services_of o l)).0 (in_time_misses_none s p σ o l a)).1
