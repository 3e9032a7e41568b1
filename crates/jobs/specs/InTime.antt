-- Document 01's ways as single jobs see them: those "that miss no deadline and keep every queue bearable", with an order of service beside the
-- speeds, both chosen from the arrivals so far.
use Rattle.std.specs.Prelude.{ℕ, ◌-◌, ◌≤◌, ◌≡◌, List, [], ◌∷◌}
use Rattle.std.proofs.Math.Option.{Option, none, some}
use Rattle.process.specs.Sums.{Events}
use Rattle.process.specs.Ways.{Way, later, Among, energy, IsLeastOf}
use Rattle.model.specs.View.{View, size_at, deadline_at, weight_at, speeds_of, M}
use Rattle.model.specs.Plan.{process_of, no_speed}
use Rattle.jobs.specs.Pool.{Pool, queue_of_pool, NoneLate}
use Rattle.jobs.specs.Runs.{Slot, next_pool, Finishable}
use Rattle.jobs.specs.Service.{Service, Serves, earliest}

-- a slot at a speed, and then the arrival of the entry at place i of the sheet
abbrev pub slot_of : View → ℕ → ℕ → Slot
slot_of s speed i = record { speed = speed; size = size_at s i; deadline = deadline_at s i }

-- the slots of a way along a list of entries
unfoldable pub slots_of : View → Way → List ℕ → List Slot
slots_of s σ [] = []
slots_of s σ (i ∷ l) = slot_of s (σ []) i ∷ slots_of s (later σ i) l

-- an order of service: what is taken from each job, for each list of the entries so far
abbrev pub Order : Type 0
Order = List ℕ → Service

-- what is left of it once the entry i has come
abbrev pub later_order : Order → ℕ → Order
later_order o i = λ seen. o (i ∷ seen)

-- its services along a list of entries
unfoldable pub services_of : Order → List ℕ → List Service
services_of o [] = []
services_of o (i ∷ l) = o [] ∷ services_of (later_order o i) l

-- along the list of entries, from the pool p: each speed is on the sheet and the order takes no more than that; and in every pool reached,
-- the one after the last slot too, no job is late, and the jobs that wait can be finished
abbrev pub InTimeAlong : View → Pool → Way → Order → List ℕ → Type 0
InTimeAlong s p σ o [] = NoneLate p × Finishable (M s) s.bound p
InTimeAlong s p σ o (i ∷ l) =
    NoneLate p × Finishable (M s) s.bound p × Among (speeds_of s) (σ []) × Serves (σ []) p (o []) ×
    InTimeAlong s (next_pool p (o []) (slot_of s (σ []) i)) (later σ i) (later_order o i) l

-- a way that, with some order of service beside it, along every list of k entries misses no job's deadline and keeps every pool finishable
abbrev pub InTime : View → ℕ → Pool → Way → Type 0
InTime s k p σ = (o : Order) × ((l : List ℕ) → Events s.job_count k l → InTimeAlong s p σ o l)

-- earliest deadline first, as an order of service beside a way
unfoldable pub earliest_order : View → Pool → Way → Order
earliest_order s p σ [] = earliest (σ []) p
earliest_order s p σ (i ∷ seen) = earliest_order s (next_pool p (earliest (σ []) p) (slot_of s (σ []) i)) (later σ i) seen

-- Demand 2, said of jobs: the ways are those that are in time

-- the scaled energy of a way over the slots from t on, from the jobs that wait
abbrev pub energy_from : View → ℕ → Pool → Way → ℕ
energy_from s t p σ = energy (process_of s) s.job_count (weight_at s) (s.horizon - t) (queue_of_pool s.bound p) σ

-- the value of slot t and of these jobs: the least scaled energy over all ways that are in time, or none where no way is
abbrev pub IsValueOfPool : View → ℕ → Pool → Option ℕ → Type 0
IsValueOfPool s t p none = (σ : Way) → InTime s (s.horizon - t) p σ → ⊥
IsValueOfPool s t p (some v) =
    IsLeastOf (process_of s) s.job_count (weight_at s) (s.horizon - t) (queue_of_pool s.bound p) (InTime s (s.horizon - t) p) v

-- a way that is in time, at no more energy than any other that is
pub record IsLeastInTime (s : View) (t : ℕ) (p : Pool) (σ : Way) : Type 0 where
  pub in_time : InTime s (s.horizon - t) p σ
  pub least : (τ : Way) → InTime s (s.horizon - t) p τ → energy_from s t p σ ≤ energy_from s t p τ

-- the slowest speed that begins such a way
pub record IsFirstOfPool (s : View) (t : ℕ) (p : Pool) (speed : ℕ) : Type 0 where
  pub way : Way
  pub least : IsLeastInTime s t p way
  pub begins : way [] ≡ speed
  pub slowest : (σ : Way) → IsLeastInTime s t p σ → speed ≤ σ []

-- the plan byte of slot t and of these jobs, whose value is r; 255 where there is none
abbrev pub IsByteOfPool : View → ℕ → Pool → Option ℕ → ℕ → Type 0
IsByteOfPool s t p none byte = byte ≡ no_speed
IsByteOfPool s t p (some v) byte = IsFirstOfPool s t p byte
