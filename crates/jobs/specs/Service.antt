-- The service of one slot: what is taken from each job, by any order at all; and earliest deadline first, which is one such order.
use Rattle.std.specs.Prelude.{ℕ, zero, suc, ◌+◌, ◌-◌, min, ◌≤◌, ◌<◌, ◌≡◌, List, [], ◌∷◌, ◌⊎◌, length, get_or}
use Rattle.jobs.specs.Pool.{Pool, job_at, due_within, due_at, all_work}

-- what is taken from each job of a pool, by place
abbrev pub Service : Type 0
Service = List ℕ

-- from each job no more than its work
abbrev pub WorkAllows : Pool → Service → Type 0
WorkAllows [] [] = Unit {0}
WorkAllows [] (x ∷ t) = ⊥
WorkAllows (j ∷ p) [] = ⊥
WorkAllows (j ∷ p) (x ∷ t) = (x ≤ j.work) × WorkAllows p t

-- all that is taken
unfoldable pub taken : Service → ℕ
taken [] = 0
taken (x ∷ t) = x + taken t

-- a service of at most s units. Which jobs it serves, and in what order, is free
pub record Serves (s : ℕ) (p : Pool) (t : Service) : Type 0 where
  pub each : WorkAllows p t
  pub in_all : taken t ≤ s

-- what is left of the jobs
unfoldable pub spend : Pool → Service → Pool
spend [] t = []
spend (j ∷ p) [] = j ∷ p
spend (j ∷ p) (x ∷ t) = record { work = j.work - x; slots = j.slots } ∷ spend p t

-- "This is earliest deadline first"

-- the job at place i comes before the one at place j: it is due sooner or, where both are due at the same time, is the older
abbrev pub Sooner : Pool → ℕ → ℕ → Type 0
Sooner p i j = ((job_at p i).slots < (job_at p j).slots) ⊎ (((job_at p i).slots ≡ (job_at p j).slots) × (i < j))

-- a service of s units that gives a job nothing before each sooner one has been given all its work, and keeps no unit back while there is
-- work
pub record IsEarliestFirst (s : ℕ) (p : Pool) (t : Service) : Type 0 where
  pub serves : Serves s p t
  pub sooner_first : (i j : ℕ) → i < length p → j < length p → Sooner p i j → 0 < get_or t j 0 → get_or t i 0 ≡ (job_at p i).work
  pub none_kept_back : taken t ≡ min (all_work p) s

-- that service itself. A job gets, up to its work, what the s units leave after all jobs of earlier deadlines and the jobs of its own
-- deadline that stand before it

-- the work of the jobs that have fewer than d slots left
abbrev pub due_before : Pool → ℕ → ℕ
due_before p zero = 0
due_before p (suc d) = due_within p d

-- of the rest of the pool `all`, after the jobs `front`
unfoldable pub earliest_from : (all : Pool) → (s : ℕ) → (front rest : Pool) → Service
earliest_from all s front [] = []
earliest_from all s front (j ∷ rest) =
    min j.work (s - (due_before all j.slots + due_at front j.slots)) ∷ earliest_from all s (j ∷ front) rest

abbrev pub earliest : ℕ → Pool → Service
earliest s p = earliest_from p s [] p
