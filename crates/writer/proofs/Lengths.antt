-- What the writer has room for: a number takes three bytes at most, and so a sheet whose fields are in range takes 354 at most.
use Prim.Native.Nat.{ℕ, zero, suc, ◌*◌, ◌/◌, ◌≤◌, ◌<◌}
use mathlib.Core.Path.{◌≡◌}
use mathlib.Core.Bool.{Bool, true, false, cond}
use mathlib.Core.List.{List, [], ◌∷◌}
use native.Mathlib.Omega.{arith}
use lib.Dec.{ltb}
use lib.ListN.{length, get_or, length-append}
use Rattle.model.proofs.Refusal.{ranged}
use Rattle.model.proofs.Tests.{turn_times}
use Rattle.model.specs.Bytes.{code_in, code, speed_bytes, job_bytes, sheet_bytes}
use Rattle.model.specs.View.{View, zero_speed, zero_job, speed_at, energy_at, weight_at, size_at, deadline_at}
use Rattle.model.specs.Refusal.{fields_refusal}
use Rattle.writer.specs.Short.{SpeedShort, JobShort}

-- a code in at most n bytes has at most n
code_in_upto : (n x : ℕ) → length (code_in n x) ≤ n
unfolding code_in
code_in_upto zero x = omega arith
code_in_upto (suc n) x = go (ltb x 128) _ _ _ (code_in_upto n (x / 128))
  where
    go : (last : Bool) (a b : ℕ) (others : List ℕ) → length others ≤ n → length (cond last (a ∷ []) (b ∷ others)) ≤ suc n
    go true a b others h = omega arith
    go false a b others h = omega arith

-- a number three bytes
code_upto : (x : ℕ) → length (code x) ≤ 3
code_upto x = code_in_upto 3 x

-- n speeds six bytes each
speeds_upto : (s : View) (n : ℕ) → length (speed_bytes s n) ≤ n * 6
unfolding speed_bytes
speeds_upto s n = turn_times _ n 6 (λ j h. simp length-append (omega (arith, code_upto (speed_at s j), code_upto (energy_at s j))))

-- n jobs nine bytes each
jobs_upto : (s : View) (n : ℕ) → length (job_bytes s n) ≤ n * 9
unfolding job_bytes
jobs_upto s n =
    turn_times _ n 9
    (λ i h. simp length-append (omega (arith, code_upto (weight_at s i), code_upto (size_at s i), code_upto (deadline_at s i))))

module _ (s : View) (right : fields_refusal s ≡ 0) where
  -- nine speeds and 32 jobs at most
  pub sheet_upto : length (sheet_bytes s) ≤ 354
  unfolding sheet_bytes
  sheet_upto =
      let r = ranged s right in
      simp length-append
      (omega (
        arith,
        code_upto s.bound,
        code_upto s.speed_count,
        speeds_upto s s.speed_count,
        code_upto s.horizon,
        code_upto s.job_count,
        jobs_upto s s.job_count,
        r.speeds_high,
        r.jobs_high,
      ))

  -- each number of a speed has a code
  pub speed_short : (j : ℕ) → j < s.speed_count → SpeedShort (get_or s.speeds j zero_speed)
  speed_short j h =
      let r = ranged s right in
      record { speed_short = omega (arith, r.speed_high j h); energy_short = omega (arith, r.energy_high j h) }

  -- .. and each of a job
  pub job_short : (i : ℕ) → i < s.job_count → JobShort (get_or s.jobs i zero_job)
  job_short i h =
      let r = ranged s right in
      record {
        weight_short = omega (arith, r.weight_high i h);
        size_short = omega (arith, r.size_high i h);
        deadline_short = omega (arith, r.deadline_high i h, r.bound_high);
      }
