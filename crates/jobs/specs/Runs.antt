-- Runs of slots, as single jobs see them (no job is late) and as the queue's totals see them (each speed is at least w(1)); and when the jobs
-- that wait can be finished.
use Rattle.std.specs.Prelude.{ℕ, zero, suc, ◌≤◌, List, [], ◌∷◌, ◌↔◌}
use Rattle.model.specs.Queue.{Queue, total, one_slot}
use Rattle.jobs.specs.Pool.{Pool, queue_of_pool, counted_off, arrived, NoneLate}
use Rattle.jobs.specs.Service.{Service, Serves, spend, earliest}

-- "One slot at speed s, then an arrival of size c and deadline d"
pub record Slot : Type 0 where
  pub speed : ℕ
  pub size : ℕ
  pub deadline : ℕ

-- "a deadline 1 to D": of each arrival of a run
abbrev pub ArrivalsRight : ℕ → List Slot → Type 0
ArrivalsRight D [] = Unit {0}
ArrivalsRight D (x ∷ run) = (1 ≤ x.deadline) × (x.deadline ≤ D) × ArrivalsRight D run

-- the pool when a slot has been served by t and counted off
abbrev pub after_slot : Pool → Service → Pool
after_slot p t = counted_off (spend p t)

-- .. and the arrival has come
abbrev pub next_pool : Pool → Service → Slot → Pool
next_pool p t x = arrived (after_slot p t) x.size x.deadline

-- after a whole run
unfoldable pub pool_after : Pool → List Slot → List Service → Pool
pool_after p [] services = p
pool_after p (x ∷ run) [] = p
pool_after p (x ∷ run) (t ∷ services) = pool_after (next_pool p t x) run services

-- the services, one for each slot and each of at most the slot's speed, miss no deadline: no job is late at the start, nor after any slot,
-- the last one included
abbrev pub MissesNone : Pool → List Slot → List Service → Type 0
MissesNone p [] [] = NoneLate p
MissesNone p [] (t ∷ services) = ⊥
MissesNone p (x ∷ run) [] = ⊥
MissesNone p (x ∷ run) (t ∷ services) = NoneLate p × Serves x.speed p t × MissesNone (next_pool p t x) run services

-- some order of service misses no deadline, even one that knows the whole run beforehand
abbrev pub SomeOrder : Pool → List Slot → Type 0
SomeOrder p run = (services : List Service) × MissesNone p run services

-- the services of earliest deadline first along a run
unfoldable pub earliest_run : Pool → List Slot → List Service
earliest_run p [] = []
earliest_run p (x ∷ run) = earliest x.speed p ∷ earliest_run (next_pool p (earliest x.speed p) x) run

-- earliest deadline first misses no deadline
abbrev pub EarliestFirst : Pool → List Slot → Type 0
EarliestFirst p run = MissesNone p run (earliest_run p run)

-- "each speed is at least w(1)": document 01's rule on the totals, along a run from the queue w
abbrev pub Enough : Queue → List Slot → Type 0
Enough w [] = Unit {0}
Enough w (x ∷ run) = (total w 1 ≤ x.speed) × Enough (one_slot w x.speed x.size x.deadline) run

-- these come to the same along a run from the pool p: "each speed is at least w(1)" of its totals; some order of service misses no
-- deadline; earliest deadline first misses none
pub record TotalsTell (D : ℕ) (p : Pool) (run : List Slot) : Type 0 where
  pub some_order : Enough (queue_of_pool D p) run ↔ SomeOrder p run
  pub earliest_first : Enough (queue_of_pool D p) run ↔ EarliestFirst p run
  pub no_order_better : SomeOrder p run → EarliestFirst p run

-- k slots at speed M in which nothing more comes
unfoldable pub quiet : ℕ → ℕ → List Slot
quiet M zero = []
quiet M (suc k) = record { speed = M; size = 0; deadline = 1 } ∷ quiet M k

-- "bearable (finishable)": over the next D slots, at speed M and if nothing more comes, some order of service misses no deadline
abbrev pub Finishable : ℕ → ℕ → Pool → Type 0
Finishable M D p = SomeOrder p (quiet M D)
