-- Services along a run, and "misses no deadline", once more, but without a pool that changes from slot to slot: every job keeps its place,
-- first those that wait at the start and then each one that comes, and what it is given is added up. By its deadline that must be all its
-- work.
use Rattle.std.specs.Prelude.{ℕ, zero, suc, ◌+◌, ◌≤◌, ◌<◌, ◌≡◌, List, [], ◌∷◌, length, get_or}
use Rattle.jobs.specs.Pool.{Pool, job_at}
use Rattle.jobs.specs.Runs.{Slot}
use Rattle.jobs.specs.Service.{Service, taken}

-- what the job at a place is given in the first k slots
unfoldable pub given : (place k : ℕ) → List Service → ℕ
given i zero services = 0
given i (suc k) [] = 0
given i (suc k) (t ∷ services) = get_or t i 0 + given i k services

-- a statement about a job: its place, its work, the slots left to it, how many slots of the run are to come, and their services
abbrev pub OfJob : Type 1
OfJob = (place work slots n : ℕ) → List Service → Type 0

-- it holds of each job that comes, the first of them at this place. A job's slots begin after the one at whose end it comes
abbrev pub Coming : OfJob → ℕ → List Slot → List Service → Type 0
Coming P place [] services = Unit {0}
Coming P place (x ∷ run) [] = ⊥
Coming P place (x ∷ run) (t ∷ services) = P place x.size x.deadline (length run) services × Coming P (suc place) run services

-- it holds of each job of a run, those that wait at the start and those that come
pub record EachJob (P : OfJob) (p : Pool) (run : List Slot) (services : List Service) : Type 0 where
  pub waiting : (i : ℕ) → i < length p → P i (job_at p i).work (job_at p i).slots (length run) services
  pub coming : Coming P (length p) run services

-- it is given no more than its work
abbrev pub NoMore : OfJob
NoMore place work slots n services = given place n services ≤ work

-- where its deadline is within the run, it has been given all its work by then
abbrev pub ByDeadline : OfJob
ByDeadline place work slots n services = slots ≤ n → given place slots services ≡ work

-- a service for each slot: it takes at most the slot's speed, from jobs that are there: so many at first, and one more after each slot
abbrev pub AtSpeeds : ℕ → List Slot → List Service → Type 0
AtSpeeds jobs [] [] = Unit {0}
AtSpeeds jobs [] (t ∷ services) = ⊥
AtSpeeds jobs (x ∷ run) [] = ⊥
AtSpeeds jobs (x ∷ run) (t ∷ services) = (length t ≡ jobs) × (taken t ≤ x.speed) × AtSpeeds (suc jobs) run services

-- services along a run, in time or late, by any order at all
pub record ServesAlong (p : Pool) (run : List Slot) (services : List Service) : Type 0 where
  pub at_speeds : AtSpeeds (length p) run services
  pub no_more : EachJob NoMore p run services
