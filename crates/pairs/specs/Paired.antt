-- Demand 3's premise: "Sheets paired job by job (no larger, due no sooner, every speed at no more energy, a queue nowhere longer)".
use Rattle.std.specs.Prelude.{ℕ, ◌≤◌, ◌<◌, ◌≡◌, ◌⊎◌, T, length}
use Rattle.process.specs.Pairing.{OneToOne}
use Rattle.model.specs.View.{View, weight_at, size_at, deadline_at, on_sheet, energy_of}
use Rattle.model.specs.Queue.{Queue, NeverFalls, NoLonger}
use Rattle.model.specs.Refusal.{sheet_refusal, value_limit}

-- two accepted sheets; the entry of `first` at place i is paired with that of `second` at place `there i`
pub record Paired (first second : View) (there back : ℕ → ℕ) : Type 0 where
  pub first_accepted : sheet_refusal value_limit first ≡ 0
  pub second_accepted : sheet_refusal value_limit second ≡ 0
  pub same_bound : second.bound ≡ first.bound
  pub same_horizon : second.horizon ≡ first.horizon
  pub same_count : second.job_count ≡ first.job_count
  -- one to one, by place or not, with equal weights
  pub one_to_one : OneToOne first.job_count there back
  pub same_weight : (i : ℕ) → i < first.job_count → weight_at second (there i) ≡ weight_at first i
  -- each job of the second is empty, or no larger and due no sooner
  pub easier_job : (i : ℕ) → i < first.job_count →
      (size_at second (there i) ≡ 0) ⊎ ((size_at second (there i) ≤ size_at first i) × (deadline_at first i ≤ deadline_at second (there i)))
  -- every speed of the first is on the second, at no more energy; the second may have more speeds, also a larger greatest one
  pub has_speed : (speed : ℕ) → T (on_sheet first speed) → T (on_sheet second speed)
  pub no_more_energy : (speed : ℕ) → T (on_sheet first speed) → energy_of second speed ≤ energy_of first speed

-- the queue v is nowhere longer than w, position by position; being a queue it never falls
pub record NowhereLonger (v w : Queue) : Type 0 where
  pub positions : length v ≡ length w
  pub never_falls : NeverFalls v
  pub no_longer : NoLonger v w
