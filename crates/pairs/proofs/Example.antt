-- Demand 3's premise can be met: sheet A and an easier sheet whose entries are paired with A's not by place, with one more speed and so a
-- larger M.
use Prim.Native.Nat.{ℕ, zero, suc, ◌-◌, ◌≤◌, ◌<◌}
use mathlib.Core.Path.{◌≡◌, refl, subst}
use mathlib.Core.List.{[], ◌∷◌}
use mathlib.Core.Logic.{◌⊎◌, inl, inr}
use native.Mathlib.Omega.{arith}
use lib.Dec.{T, lit≤}
use Rattle.process.specs.Sums.{sum}
use Rattle.process.specs.Pairing.{OneToOne}
use Rattle.model.specs.Cases.{A, at, job}
use Rattle.model.specs.View.{View, speed_at, weight_at, size_at, deadline_at, on_sheet, energy_of, greatest_energy, G, M, W, view_with}
use Rattle.model.specs.Queue.{bearable_queues, continuations, each_total, queue_count}
use Rattle.model.specs.Refusal.{speeds_lines, jobs_lines, field_lines, limit_lines, lines_given, sheet_lines, sheet_refusal, N, value_limit}
use Rattle.model.specs.Tests.{in_order, first_place, greatest}
use Rattle.model.proofs.View.{on_sheet_at, place_of}
use Rattle.pairs.specs.Paired.{Paired}

-- sheet A with its entries the other way round, the second of them smaller, energies no more, and a speed 3
abbrev easier : View
easier = view_with 2 (at 0 0 ∷ at 1 1 ∷ at 2 3 ∷ at 3 9 ∷ []) 2 (job 1 1 2 ∷ job 1 0 1 ∷ [])

-- an entry's partner is at the other place
abbrev other : ℕ → ℕ
other i = 1 - i

others : OneToOne 2 other other
others = omega arith

accepted_A : sheet_refusal value_limit A ≡ 0
unfolding sheet_lines lines_given N field_lines speeds_lines jobs_lines limit_lines in_order G greatest_energy W M greatest sum queue_count bearable_queues continuations each_total
accepted_A = refl

accepted_easier : sheet_refusal value_limit easier ≡ 0
unfolding sheet_lines lines_given N field_lines speeds_lines jobs_lines limit_lines in_order G greatest_energy W M greatest sum queue_count bearable_queues continuations each_total
accepted_easier = refl

-- what holds at each of sheet A's speeds holds of every speed on it
each_speed : (P : ℕ → Type 0) → P 0 → P 1 → P 2 → (a : ℕ) → T (on_sheet A a) → P a
each_speed P p q r a t = let f = place_of A a t in subst P f.2 (go f.0 f.1)
  where
    go : (j : ℕ) → j < 3 → P (speed_at A j)
    go zero h = p
    go (suc zero) h = q
    go (suc (suc zero)) h = r
    go (suc (suc (suc j))) h = absurd (omega arith)

-- what holds at each of the two entries holds of both
each_entry : (P : ℕ → Type 0) → P 0 → P 1 → (i : ℕ) → i < 2 → P i
each_entry P p q zero h = p
each_entry P p q (suc zero) h = q
each_entry P p q (suc (suc i)) h = absurd (omega arith)

pub paired_example : Paired A easier other other
unfolding energy_of first_place
paired_example =
    record {
      first_accepted = accepted_A;
      second_accepted = accepted_easier;
      same_bound = refl;
      same_horizon = refl;
      same_count = refl;
      one_to_one = others;
      same_weight = each_entry (λ i. weight_at easier (other i) ≡ weight_at A i) refl refl;
      easier_job =
          each_entry
          (λ i. (size_at easier (other i) ≡ 0) ⊎ ((size_at easier (other i) ≤ size_at A i) × (deadline_at A i ≤ deadline_at easier (other i))))
          (inl refl) (inr (lit≤ tt, lit≤ tt));
      has_speed =
          each_speed (λ a. T (on_sheet easier a)) (on_sheet_at easier 0 (lit≤ tt)) (on_sheet_at easier 1 (lit≤ tt)) (on_sheet_at easier 2 (lit≤ tt));
      no_more_energy = each_speed (λ a. energy_of easier a ≤ energy_of A a) (lit≤ tt) (lit≤ tt) (lit≤ tt);
    }
