-- Jobs one by one: what waits, each job with its own work and its own deadline; how much of it must be done within u slots; when a job is
-- late. Of all this, document 01's queue keeps the totals alone.
use Rattle.std.specs.Prelude.{ℕ, ◌+◌, ◌-◌, ◌≤◌, ◌<◌, ◌≡◌, Bool, true, cond, List, [], ◌∷◌, ◌++◌, map, leb, eqb, length, get_or}
use Rattle.model.specs.Queue.{Queue, totals}

-- a job that waits: the work left of it, and the slots left to do it in, the coming one included
pub record Waiting : Type 0 where
  pub work : ℕ
  pub slots : ℕ

-- the jobs that wait, the oldest first
abbrev pub Pool : Type 0
Pool = List Waiting

-- the job at a place, the places counted from 0
abbrev pub job_at : Pool → ℕ → Waiting
job_at p i = get_or p i (record { work = 0; slots = 0 })

-- the work of the jobs whose slots left pass the test
unfoldable pub work_where : (ℕ → Bool) → Pool → ℕ
work_where test [] = 0
work_where test (j ∷ p) = cond (test j.slots) j.work 0 + work_where test p

-- "the work that must be done within u slots": of the jobs that have at most u slots left
abbrev pub due_within : Pool → ℕ → ℕ
due_within p u = work_where (λ d. leb d u) p

-- within u slots no more of q is due than of p, whatever u
abbrev pub NoMoreDue : Pool → Pool → Type 0
NoMoreDue q p = (u : ℕ) → due_within q u ≤ due_within p u

-- the work of the jobs that have exactly d slots left
abbrev pub due_at : Pool → ℕ → ℕ
due_at p d = work_where (λ e. eqb e d) p

-- all the work
abbrev pub all_work : Pool → ℕ
all_work p = work_where (λ d. true) p

-- "A queue is w(1) to w(D) ..; w(u) is the work that must be done within u slots": the queue of a pool
abbrev pub queue_of_pool : ℕ → Pool → Queue
queue_of_pool D p = totals D (due_within p)

-- a slot is counted off: each job has one slot fewer left
abbrev pub older : Waiting → Waiting
older j = record { work = j.work; slots = j.slots - 1 }

abbrev pub counted_off : Pool → Pool
counted_off p = map older p

-- "an arrival of size c and deadline d": one job more, behind the others
abbrev pub arrived : Pool → (c d : ℕ) → Pool
arrived p c d = p ++ (record { work = c; slots = d } ∷ [])

-- a job is late: work of it is left, and no slot to do it in
abbrev pub Late : Waiting → Type 0
Late j = (0 < j.work) × (j.slots ≡ 0)

-- no job of the pool is late
abbrev pub NoneLate : Pool → Type 0
NoneLate [] = Unit {0}
NoneLate (j ∷ p) = (Late j → ⊥) × NoneLate p

-- "a deadline 1 to D": no job has more than D slots left
abbrev pub SlotsUpto : ℕ → Pool → Type 0
SlotsUpto D [] = Unit {0}
SlotsUpto D (j ∷ p) = (j.slots ≤ D) × SlotsUpto D p

-- a pool whose queue is w, none of whose jobs is late or has more slots left than w has positions
pub record PoolOf (w : Queue) : Type 0 where
  pub pool : Pool
  pub is : queue_of_pool (length w) pool ≡ w
  pub upto : SlotsUpto (length w) pool
  pub on_time : NoneLate pool
