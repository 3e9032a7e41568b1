-- A run of the stepper as single jobs see it: those that wait when it begins, and those that come, are served earliest deadline first at
-- the speeds told.
use Rattle.std.specs.Prelude.{ℕ, ◌≡◌, List, get_or}
use Rattle.model.specs.View.{view_of, M}
use Rattle.model.specs.Tests.{listed}
use Rattle.model.specs.declared.Sheet.{Sheet}
use Rattle.jobs.specs.Given.{EachJob, ByDeadline}
use Rattle.jobs.specs.InTime.{slot_of}
use Rattle.jobs.specs.Pool.{Pool, queue_of_pool}
use Rattle.jobs.specs.Runs.{Slot, pool_after, earliest_run, EarliestFirst, Finishable}
use Rattle.stepper.specs.declared.state.Stepped.{Stepped}
use Rattle.demands.specs.Runs.{told_after, queue_after, Run}

-- jobs that wait and can all be finished in time, at the fastest speed
abbrev pub CanBeFinished : Sheet → Pool → Type 0
CanBeFinished sheet p = Finishable (M (view_of sheet)) (view_of sheet).bound p

module _ (sheet : Sheet) (bytes : List ℕ) {from : Stepped} {arrivals : List ℕ} (run : Run sheet bytes from arrivals) where
  -- the slot that follows k slots: the speed told, and then the arrival
  abbrev pub slot_at : ℕ → Slot
  slot_at k = slot_of (view_of sheet) (told_after from run.stepped k) (get_or arrivals k 0)

  -- the run's first k slots
  abbrev pub first_slots : ℕ → List Slot
  first_slots k = listed slot_at k

  -- the jobs after k slots, where p waited as the run began
  abbrev pub pool_now : Pool → ℕ → Pool
  pool_now p k = pool_after p (first_slots k) (earliest_run p (first_slots k))

  -- after k slots
  pub record InTimeAfter (p : Pool) (k : ℕ) : Type 0 where
    -- no job has been late
    pub misses_none : EarliestFirst p (first_slots k)
    -- each job that was due by now, whether it waited as the run began or has come since, was given all its work by its deadline
    pub all_done : EachJob ByDeadline p (first_slots k) (earliest_run p (first_slots k))
    -- the state's queue is that of the jobs that wait
    pub queue_is : queue_of_pool (view_of sheet).bound (pool_now p k) ≡ queue_after sheet from run.stepped k
    -- and these can be finished
    pub finishable : Finishable (M (view_of sheet)) (view_of sheet).bound (pool_now p k)
