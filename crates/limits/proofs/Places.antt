-- The places of a sheet in memory and the places that count (`view_of`): below the counts they hold the same, and there are as many as the
-- counts say. And the sum of the weights, place by place and as a list.
use Rattle.std.proofs.Common.{ℕ, zero, suc, ◌*◌, ◌≤◌, ◌<◌, ◌≡◌, refl, sym, ap, ◌∙◌, List, length, take, get_or, add-one, arith, get_or-take}
use Rattle.std.proofs.lemmas.List.{length-take-le, take_all}
use Rattle.std.proofs.lemmas.List.Sums.{sum_by_more}
use Rattle.std.specs.List.{sum_by}
use Rattle.process.specs.Sums.{sum}
use Rattle.model.proofs.Refusal.{ranged, weights_high}
use Rattle.model.specs.View.{view_of, zero_speed, zero_job, W}
use Rattle.model.specs.Refusal.{fields_refusal}
use Rattle.model.specs.declared.Job.{Job}
use Rattle.model.specs.declared.Sheet.{Sheet}

-- the speed at a place below the count
pub speed_counts : (s : Sheet) (j : ℕ) → j < s.speed_count → get_or (view_of s).speeds j zero_speed ≡ get_or s.speeds j zero_speed
speed_counts s j h = get_or-take s.speed_count s.speeds j zero_speed h

-- the job at a place below the count
pub job_counts : (s : Sheet) (i : ℕ) → i < s.job_count → get_or (view_of s).jobs i zero_job ≡ get_or s.jobs i zero_job
job_counts s i h = get_or-take s.job_count s.jobs i zero_job h

-- there are as many places that count as the counts say

pub speeds_counted : (s : Sheet) → length s.speeds ≡ 9 → s.speed_count ≤ 9 → length (view_of s).speeds ≡ s.speed_count
speeds_counted s long few = length-take-le s.speed_count s.speeds (omega arith)

pub jobs_counted : (s : Sheet) → length s.jobs ≡ 32 → s.job_count ≤ 32 → length (view_of s).jobs ≡ s.job_count
jobs_counted s long few = length-take-le s.job_count s.jobs (omega arith)

-- of a sheet whose fields are in range: the places that count are places that there are

pub speeds_few : (s : Sheet) → fields_refusal (view_of s) ≡ 0 → s.speed_count ≤ 9
speeds_few s right = (ranged (view_of s) right).speeds_high

pub jobs_few : (s : Sheet) → fields_refusal (view_of s) ≡ 0 → s.job_count ≤ 32
jobs_few s right = (ranged (view_of s) right).jobs_high

-- the weights of the first places, and of the first few of a list
weights_taken : (l : List Job) (n : ℕ) → n ≤ length l →
    sum (λ (i : ℕ). (get_or l i zero_job).weight) n ≡ sum_by (λ (one : Job). one.weight) (take n l)
unfolding sum
weights_taken l zero h = refl
weights_taken l (suc n) h =
    rw (← add-one n, sum_by_more (λ (one : Job). one.weight) l n zero_job (omega arith), weights_taken l n (omega arith)) refl

-- W is the sum over the list of the jobs that count
pub weights_listed : (s : Sheet) → length s.jobs ≡ 32 → fields_refusal (view_of s) ≡ 0 →
    sum_by (λ (one : Job). one.weight) (view_of s).jobs ≡ W (view_of s)
unfolding W
weights_listed s long right =
    let l = (view_of s).jobs in
    let counted = jobs_counted s long (jobs_few s right) in
    ap (sum_by (λ (one : Job). one.weight)) (sym (take_all s.job_count l (omega arith))) ∙ sym (weights_taken l s.job_count (omega arith))

-- and it is no more than 32 weights of 255
pub weights_small : (s : Sheet) → fields_refusal (view_of s) ≡ 0 → W (view_of s) ≤ 32 * 255
unfolding W
weights_small s right =
    omega (arith, weights_high (view_of s) (ranged (view_of s) right) s.job_count (omega arith), jobs_few s right)
