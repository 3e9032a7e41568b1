-- Along a run: document 01's rule on the totals, "each speed is at least w(1)", holds exactly where some order of service misses no deadline,
-- and exactly where earliest deadline first misses none; and by earliest deadline first the pool's queue is 01's, slot after slot.
use Prim.Native.Nat.{ℕ, zero, suc, min, ◌≤◌, ◌<◌, zero-le}
use mathlib.Core.Path.{◌≡◌, refl, sym, ap, ◌∙◌, subst}
use mathlib.Core.Bool.{Bool, true, false}
use mathlib.Core.List.{List, [], ◌∷◌}
use native.Mathlib.Nat.{le_trans, zero-lt-suc}
use native.Mathlib.Omega.{arith}
use borrow.Author.Tests.{ltb-true, ltb-false}
use lib.Dec.{ltb}
use lib.ListN.{length}
use Rattle.model.specs.Queue.{Queue, total, one_slot}
use Rattle.model.specs.Tests.{listed}
use Rattle.model.proofs.Queues.{total_past, length_totals, length_slot, total_slot}
use Rattle.jobs.specs.Pool.{Pool, due_within, queue_of_pool, NoneLate, SlotsUpto}
use Rattle.jobs.specs.Runs.{Slot, ArrivalsRight, after_slot, next_pool, pool_after, MissesNone, SomeOrder, earliest_run, EarliestFirst, Enough, TotalsTell}
use Rattle.jobs.specs.Service.{Service, Serves, earliest}
use Rattle.jobs.proofs.Sums.{due_more, serves_leaves}
use Rattle.jobs.proofs.Earliest.{earliest_serves}
use Rattle.jobs.proofs.Slots.{total_of, due_next, earliest_slot, on_time_enough, next_slots, arrived_before, earliest_next}

-- the totals of w are nowhere above what is due of the pool
abbrev pub NowhereAbove : Queue → Pool → Type 0
NowhereAbove w p = (u : ℕ) → total w u ≤ due_within p u

-- those of the pool's own queue are not
pub own_nowhere_above : (D : ℕ) (p : Pool) → NowhereAbove (queue_of_pool D p) p
own_nowhere_above D p zero = zero-le
own_nowhere_above D p (suc i) = go (ltb i D) refl
  where
    go : (b : Bool) → ltb i D ≡ b → total (queue_of_pool D p) (suc i) ≤ due_within p (suc i)
    go true e = omega (arith, total_of D p (suc i) (omega arith) (ltb-true i D e))
    go false e =
        omega (arith, total_past (queue_of_pool D p) (suc i) (omega (arith, ltb-false i D e, length_totals D (due_within p))))

-- and whatever the order of service, they are not after the slot either
pub next_nowhere_above : (w : Queue) (p : Pool) (t : Service) (x : Slot) → Serves x.speed p t → NowhereAbove w p →
    NowhereAbove (one_slot w x.speed x.size x.deadline) (next_pool p t x)
next_nowhere_above w p t x v h zero = zero-le
next_nowhere_above w p t x v h (suc i) = go (ltb i (length w)) refl
  where
    next : Queue
    next = one_slot w x.speed x.size x.deadline

    go : (b : Bool) → ltb i (length w) ≡ b → total next (suc i) ≤ due_within (next_pool p t x) (suc i)
    go true e =
        let here = ltb-true i (length w) e in
        let u = min (suc (suc i)) (length w) in
        omega (
          arith,
          total_slot w x.speed x.size x.deadline (suc i) (omega arith) here,
          due_next p t x (suc i),
          h u,
          due_more p u (suc (suc i)) (omega arith),
          serves_leaves v (suc (suc i)),
        )
    go false e =
        omega (
          arith,
          total_past next (suc i)
              (omega (arith, ltb-false i (length w) e, length_slot w x.speed x.size x.deadline)),
        )

-- where services miss no deadline, no job is late at the start, nor at the end

starts_on_time : (p : Pool) (run : List Slot) (services : List Service) → MissesNone p run services → NoneLate p
starts_on_time p [] [] m = m
starts_on_time p [] (t ∷ services) m = absurd m
starts_on_time p (x ∷ run) [] m = absurd m
starts_on_time p (x ∷ run) (t ∷ services) m = m.0

pub ends_on_time : (p : Pool) (run : List Slot) (services : List Service) → MissesNone p run services → NoneLate (pool_after p run services)
unfolding pool_after
ends_on_time p [] [] m = m
ends_on_time p [] (t ∷ services) m = absurd m
ends_on_time p (x ∷ run) [] m = absurd m
ends_on_time p (x ∷ run) (t ∷ services) m = ends_on_time (next_pool p t x) run services m.2

-- and by whatever order they do, each speed is at least w(1)
pub misses_none_enough : (w : Queue) (p : Pool) → NowhereAbove w p → (run : List Slot) (services : List Service) → MissesNone p run services →
    Enough w run
misses_none_enough w p h [] services m = tt
misses_none_enough w p h (x ∷ run) [] m = absurd m
misses_none_enough w p h (x ∷ run) (t ∷ services) m = (
  le_trans (h 1) (on_time_enough x.speed p t m.1
      (arrived_before (after_slot p t) x.size x.deadline (starts_on_time (next_pool p t x) run services m.2))),
  misses_none_enough (one_slot w x.speed x.size x.deadline) (next_pool p t x) (next_nowhere_above w p t x m.1 h) run services m.2,
)

-- where each speed is at least w(1), earliest deadline first misses no deadline
pub enough_earliest : (D : ℕ) → 1 ≤ D → (p : Pool) → SlotsUpto D p → NoneLate p → (run : List Slot) → ArrivalsRight D run →
    Enough (queue_of_pool D p) run → EarliestFirst p run
unfolding earliest_run
enough_earliest D l p h n [] a e = n
enough_earliest D l p h n (x ∷ run) a e =
    let (slots, on_time) = earliest_next D l p h x a.0 a.1 e.0 in (
      n,
      earliest_serves x.speed p,
      enough_earliest D l (next_pool p (earliest x.speed p) x) slots on_time run a.2
          (subst (λ (w : Queue). Enough w run) (sym (earliest_slot D p h x)) e.1),
    )

-- the theorem: from a pool none of whose jobs is late or has more than D slots left, along any run whose arrivals are due within 1 to D slots
pub totals_tell : (D : ℕ) → 1 ≤ D → (p : Pool) → SlotsUpto D p → NoneLate p → (run : List Slot) → ArrivalsRight D run → TotalsTell D p run
totals_tell D l p h n run a =
    record {
      some_order = (λ e. (earliest_run p run, first e), enough);
      earliest_first = (first, λ m. enough (earliest_run p run, m));
      no_order_better = λ m. first (enough m);
    }
  where
    first : Enough (queue_of_pool D p) run → EarliestFirst p run
    first = enough_earliest D l p h n run a

    enough : SomeOrder p run → Enough (queue_of_pool D p) run
    enough m = misses_none_enough (queue_of_pool D p) p (own_nowhere_above D p) run m.0 m.1

-- the queue after a run, by 01's rule
abbrev queue_after : Queue → List Slot → Queue
queue_after w [] = w
queue_after w (x ∷ run) = queue_after (one_slot w x.speed x.size x.deadline) run

-- by earliest deadline first it is the pool's, and still no job has more than D slots left
earliest_after : (D : ℕ) (p : Pool) → SlotsUpto D p → (run : List Slot) → ArrivalsRight D run →
    (queue_of_pool D (pool_after p run (earliest_run p run)) ≡ queue_after (queue_of_pool D p) run) × SlotsUpto D (pool_after p run (earliest_run p run))
unfolding pool_after earliest_run
earliest_after D p h [] right = (refl, h)
earliest_after D p h (x ∷ run) right =
    let t = earliest x.speed p in
    let (same, slots) = earliest_after D (next_pool p t x) (next_slots D p t x h right.1) run right.2 in
    (same ∙ ap (λ (w : Queue). queue_after w run) (earliest_slot D p h x), slots)

-- a run of n slots, of which slot t is `slot t`, and the queues before them: `queue 0` at the start, and each next one by 01's rule
pub record QueuesAlong (D : ℕ) (slot : ℕ → Slot) (queue : ℕ → Queue) (n : ℕ) : Type 0 where
  pub deadline_low : (t : ℕ) → t < n → 1 ≤ (slot t).deadline
  pub deadline_high : (t : ℕ) → t < n → (slot t).deadline ≤ D
  pub enough : (t : ℕ) → t < n → total (queue t) 1 ≤ (slot t).speed
  pub next : (t : ℕ) → t < n → queue (suc t) ≡ one_slot (queue t) (slot t).speed (slot t).size (slot t).deadline

-- what it is as a list of slots
along_run : (D : ℕ) (slot : ℕ → Slot) (queue : ℕ → Queue) (n : ℕ) → QueuesAlong D slot queue n →
    ArrivalsRight D (listed slot n) × Enough (queue 0) (listed slot n) × (queue_after (queue 0) (listed slot n) ≡ queue n)
unfolding listed
along_run D slot queue zero along = (tt, tt, refl)
along_run D slot queue (suc n) along =
    let first = zero-lt-suc n in
    let run = listed (λ t. slot (suc t)) n in
    let (right, enough, last) = along_run D (λ t. slot (suc t)) (λ t. queue (suc t)) n after_first in (
      (along.deadline_low 0 first, along.deadline_high 0 first, right),
      (along.enough 0 first, subst (λ (w : Queue). Enough w run) (along.next 0 first) enough),
      ap (λ (w : Queue). queue_after w run) (sym (along.next 0 first)) ∙ last,
    )
  where
    after_first : QueuesAlong D (λ t. slot (suc t)) (λ t. queue (suc t)) n
    after_first = record {
      deadline_low = λ t h. along.deadline_low (suc t) (omega arith);
      deadline_high = λ t h. along.deadline_high (suc t) (omega arith);
      enough = λ t h. along.enough (suc t) (omega arith);
      next = λ t h. along.next (suc t) (omega arith);
    }

-- so earliest deadline first misses no deadline, and the queue of the pool after it is the last of these
pub along_earliest : (D : ℕ) → 1 ≤ D → (slot : ℕ → Slot) (queue : ℕ → Queue) (n : ℕ) → QueuesAlong D slot queue n →
    (p : Pool) → SlotsUpto D p → NoneLate p → queue_of_pool D p ≡ queue 0 →
    EarliestFirst p (listed slot n) ×
    (queue_of_pool D (pool_after p (listed slot n) (earliest_run p (listed slot n))) ≡ queue n) ×
    SlotsUpto D (pool_after p (listed slot n) (earliest_run p (listed slot n)))
along_earliest D l slot queue n along p h none e =
    let run = listed slot n in
    let (right, enough, last) = along_run D slot queue n along in
    let (same, slots) = earliest_after D p h run right in (
      enough_earliest D l p h none run right (subst (λ (w : Queue). Enough w run) (sym e) enough),
      same ∙ ap (λ (w : Queue). queue_after w run) e ∙ last,
      slots,
    )
