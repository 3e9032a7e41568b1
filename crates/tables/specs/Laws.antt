-- The two tables of a sheet are what a kind of table is. These are proofs; they stand in specs/ since the laws of an `impl` cite nothing else.
use Prim.Native.Nat.{ℕ, ◌≤◌}
use mathlib.Core.Path.{◌≡◌, refl}
use mathlib.Core.Bool.{true}
use Rattle.model.specs.View.{zero_speed, zero_job}
use Rattle.model.specs.Reading.{read_speed, read_speeds, read_speed_table, read_job, read_jobs, read_job_table}
use Rattle.model.specs.Refusal.{speed_count_right, job_count_right}
use Rattle.ranges.proofs.Answers.{within_by}
use Rattle.tables.specs.Tables.{IsTable}

pub speeds_mean :
    IsTable zero_speed speed_count_right 5 (λ place before. read_speed place before.speed)
    (λ left place before. read_speeds left place before.speed)
    read_speed_table
unfolding read_speeds read_speed_table
speeds_mean = record { none_left = λ place before. refl; some_left = λ left place before. refl; counted = refl }

pub jobs_mean : (bound : ℕ) →
    IsTable zero_job job_count_right 8 (λ place before. read_job bound) (λ left place before. read_jobs bound left) (read_job_table bound)
unfolding read_jobs read_job_table
jobs_mean bound = record { none_left = λ place before. refl; some_left = λ left place before. refl; counted = refl }

-- a count that is right has its places

pub speeds_fit : (n : ℕ) → speed_count_right n ≡ true → n ≤ 9
speeds_fit n e = within_by 2 9 refl e

pub jobs_fit : (n : ℕ) → job_count_right n ≡ true → n ≤ 32
jobs_fit n e = within_by 1 32 refl e
