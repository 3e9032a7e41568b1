-- The sheet of document 01, "The sheet", as the places that count: "In memory a sheet has room for all entries; places past the counts
-- are ignored by every call". Every rule is said of this view, so that places past the counts cannot matter; two sheets are the same
-- "in every place that counts" where their views are equal.
use Rattle.std.specs.Prelude.{ℕ, ◌≡◌, Bool, cond, List, eqb, length, take, get_or, replicate}
use Rattle.process.specs.Sums.{sum}
use Rattle.model.specs.Tests.{greatest, listed, anywhere, first_place, padded}
use Rattle.model.specs.declared.Job.{Job}
use Rattle.model.specs.declared.Sheet.{Sheet}
use Rattle.model.specs.declared.Speed.{Speed}

-- "deadline bound, speeds with energies, horizon, weighted jobs"
pub record View : Type 0 where
  pub bound : ℕ
  pub speed_count : ℕ
  pub speeds : List Speed
  pub horizon : ℕ
  pub job_count : ℕ
  pub jobs : List Job

-- the places of a sheet in memory that count
abbrev pub view_of : Sheet → View
view_of s =
    record {
      bound = s.bound;
      speed_count = s.speed_count;
      speeds = take s.speed_count s.speeds;
      horizon = s.horizon;
      job_count = s.job_count;
      jobs = take s.job_count s.jobs;
    }

-- as many places as the counts say
pub record WholeView (s : View) : Type 0 where
  pub speeds_counted : length s.speeds ≡ s.speed_count
  pub jobs_counted : length s.jobs ≡ s.job_count

abbrev pub zero_speed : Speed
zero_speed = record { speed = 0; energy = 0 }

abbrev pub zero_job : Job
zero_job = record { weight = 0; size = 0; deadline = 0 }

-- "Write then read gives the sheet with those places zero": the counted places in memory, and zero in every other
abbrev pub in_memory : View → Sheet
in_memory s =
    record {
      bound = s.bound;
      speed_count = s.speed_count;
      speeds = padded 9 zero_speed s.speeds;
      horizon = s.horizon;
      job_count = s.job_count;
      jobs = padded 32 zero_job s.jobs;
    }

-- the view of a sheet with these two tables: the counts are their lengths
abbrev pub view_with : ℕ → List Speed → ℕ → List Job → View
view_with D speeds T jobs =
    record { bound = D; speed_count = length speeds; speeds = speeds; horizon = T; job_count = length jobs; jobs = jobs }

-- "an all-zero sheet"
abbrev pub zero_sheet : Sheet
zero_sheet =
    record {
      bound = 0;
      speed_count = 0;
      speeds = replicate 9 zero_speed;
      horizon = 0;
      job_count = 0;
      jobs = replicate 32 zero_job;
    }

-- what stands at a place of the sheet, the places counted from 0

abbrev pub speed_at : View → ℕ → ℕ
speed_at s j = (get_or s.speeds j zero_speed).speed

abbrev pub energy_at : View → ℕ → ℕ
energy_at s j = (get_or s.speeds j zero_speed).energy

abbrev pub weight_at : View → ℕ → ℕ
weight_at s i = (get_or s.jobs i zero_job).weight

abbrev pub size_at : View → ℕ → ℕ
size_at s i = (get_or s.jobs i zero_job).size

abbrev pub deadline_at : View → ℕ → ℕ
deadline_at s i = (get_or s.jobs i zero_job).deadline

-- the sheet's speeds, in the sheet's order
unfoldable pub speeds_of : View → List ℕ
speeds_of s = listed (speed_at s) s.speed_count

-- this speed stands at a place
abbrev pub is_speed_at : View → ℕ → ℕ → Bool
is_speed_at s speed j = eqb (speed_at s j) speed

-- a speed is on the sheet
unfoldable pub on_sheet : View → ℕ → Bool
on_sheet s speed = anywhere (is_speed_at s speed) s.speed_count

-- its place; the count of speeds where it is not on the sheet
abbrev pub place_of_speed : View → ℕ → ℕ
place_of_speed s speed = first_place (is_speed_at s speed) s.speed_count

-- the energy per slot of a speed that is on the sheet
unfoldable pub energy_of : View → ℕ → ℕ
energy_of s speed = energy_at s (place_of_speed s speed)

-- "W is the sum of the weights"
unfoldable pub W : View → ℕ
W s = sum (weight_at s) s.job_count

-- "the largest M"
unfoldable pub M : View → ℕ
M s = greatest (speed_at s) s.speed_count

-- "the greatest energy", over all the speeds; 0 where all are 0
unfoldable pub greatest_energy : View → ℕ
greatest_energy s = greatest (energy_at s) s.speed_count

-- "G is the greatest energy, or 1 if that is 0"
unfoldable pub G : View → ℕ
G s = cond (eqb (greatest_energy s) 0) 1 (greatest_energy s)
