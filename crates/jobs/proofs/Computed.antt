-- Jobs worked by hand, and computed: which job is served, by how much, what is then due, who is late, and what each has been given.
use Prim.Native.Nat.{ℕ}
use mathlib.Core.Path.{◌≡◌, refl}
use mathlib.Core.List.{List, [], ◌∷◌}
use native.Mathlib.Omega.{arith}
use Rattle.model.specs.Queue.{one_slot, run, arrive}
use Rattle.model.specs.Tests.{listed}
use Rattle.jobs.specs.Given.{given, ByDeadline}
use Rattle.jobs.specs.Pool.{Waiting, Pool, work_where, queue_of_pool, NoneLate}
use Rattle.jobs.specs.Runs.{Slot, after_slot, next_pool, MissesNone, earliest_run, Enough, quiet}
use Rattle.jobs.specs.Service.{taken, Serves, spend, earliest_from, earliest}

abbrev job : ℕ → ℕ → Waiting
job c d = record { work = c; slots = d }

-- 4 units within three slots, then 2 within one, 3 within two, and 1 within one
abbrev sample : Pool
sample = job 4 3 ∷ job 2 1 ∷ job 3 2 ∷ job 1 1 ∷ []

abbrev slot : ℕ → ℕ → ℕ → Slot
slot s c d = record { speed = s; size = c; deadline = d }

-- three slots, with 2 units that come after the first and are due within two slots, the second slot at speed s
abbrev three : ℕ → List Slot
three s = slot 5 2 2 ∷ slot s 0 1 ∷ slot 6 0 1 ∷ []

pub record Worked : Type 0 where
  pub queue : queue_of_pool 3 sample ≡ 3 ∷ 6 ∷ 10 ∷ []
  -- two units: the older of the two jobs that are due within one slot gets both
  pub older_first : earliest 2 sample ≡ 0 ∷ 2 ∷ 0 ∷ 0 ∷ []
  -- five units: both of these get all, and the next deadline two
  pub by_deadline : earliest 5 sample ≡ 0 ∷ 2 ∷ 2 ∷ 1 ∷ []
  -- more than all the work
  pub no_more : earliest 12 sample ≡ 4 ∷ 2 ∷ 3 ∷ 1 ∷ []
  -- the jobs after a slot at speed 5, when it is counted off and 2 units have come, and their queue, which 01's rule gives too
  pub next : next_pool sample (earliest 5 sample) (slot 5 2 2) ≡ job 4 2 ∷ job 0 0 ∷ job 1 1 ∷ job 0 0 ∷ job 2 2 ∷ []
  pub next_queue_lem : queue_of_pool 3 (next_pool sample (earliest 5 sample) (slot 5 2 2)) ≡ 1 ∷ 7 ∷ 7 ∷ []
  pub same_queue : one_slot (3 ∷ 6 ∷ 10 ∷ []) 5 2 2 ≡ 1 ∷ 7 ∷ 7 ∷ []
  -- three units are enough for the first slot, two are not
  pub on_time : NoneLate (after_slot sample (earliest 3 sample))
  pub late : NoneLate (after_slot sample (earliest 2 sample)) → ⊥
  -- to take the oldest first is a service of five units too, and leaves jobs late where earliest deadline first does not
  pub oldest_serves : Serves 5 sample (4 ∷ 1 ∷ 0 ∷ 0 ∷ [])
  pub oldest_late : NoneLate (after_slot sample (4 ∷ 1 ∷ 0 ∷ 0 ∷ [])) → ⊥
  -- no service gives a job more than its work, or all jobs more than the units
  pub work_holds : Serves 5 sample (0 ∷ 3 ∷ 0 ∷ 0 ∷ []) → ⊥
  pub speed_holds : Serves 5 sample (3 ∷ 2 ∷ 0 ∷ 1 ∷ []) → ⊥
  -- along three slots: at speed 1 in the second no job is late, at speed 0 one is, and 01's rule tells the two apart
  pub run_on_time : MissesNone sample (three 1) (earliest_run sample (three 1))
  pub run_late : MissesNone sample (three 0) (earliest_run sample (three 0)) → ⊥
  pub run_enough : Enough (3 ∷ 6 ∷ 10 ∷ []) (three 1)
  pub run_short : Enough (3 ∷ 6 ∷ 10 ∷ []) (three 0) → ⊥
  -- what the first job, the third, and the one that comes, at place 4, have been given by their deadlines
  pub first_done : given 0 3 (earliest_run sample (three 1)) ≡ 4
  pub third_done : given 2 2 (earliest_run sample (three 1)) ≡ 3
  pub arrival_done : ByDeadline 4 2 2 2 ((0 ∷ 0 ∷ 1 ∷ 0 ∷ 0 ∷ []) ∷ (4 ∷ 0 ∷ 0 ∷ 0 ∷ 2 ∷ 0 ∷ []) ∷ [])
  -- of 2 units that come it is not enough to have been given 1
  pub arrival_late : ByDeadline 4 2 2 2 ((0 ∷ 0 ∷ 1 ∷ 0 ∷ 0 ∷ []) ∷ (4 ∷ 0 ∷ 0 ∷ 0 ∷ 1 ∷ 0 ∷ []) ∷ []) → ⊥
  pub two_quiet : quiet 4 2 ≡ slot 4 0 1 ∷ slot 4 0 1 ∷ []

pub worked : Worked
unfolding work_where listed earliest_from taken spend earliest_run run arrive given quiet
worked =
    record {
      queue = refl;
      older_first = refl;
      by_deadline = refl;
      no_more = refl;
      next = refl;
      next_queue_lem = refl;
      same_queue = refl;
      on_time = omega arith;
      late = λ h. h.1.1.1.0 (omega arith, refl);
      oldest_serves = omega arith;
      oldest_late = λ h. h.1.0 (omega arith, refl);
      work_holds = λ h. omega (arith, h.each.1.0);
      speed_holds = λ h. omega (arith, h.in_all);
      run_on_time = (omega arith, omega arith, (omega arith, omega arith, (omega arith, omega arith, omega arith)));
      run_late = λ m. m.2.2.0.1.1.0 (omega arith, refl);
      run_enough = omega arith;
      run_short = λ e. omega (arith, e.1.0);
      first_done = refl;
      third_done = refl;
      arrival_done = λ h. refl;
      arrival_late = λ d. omega (arith, d (omega arith));
      two_quiet = refl;
    }
