-- A sheet is paired with itself, and the empty queue is nowhere longer than any other, so that where a queue has a value the empty one has.
use Prim.Native.Nat.{ℕ}
use mathlib.Core.Path.{◌≡◌, refl, sym, ◌∙◌}
use mathlib.Core.Logic.{inr}
use mathlib.Core.Option.{some}
use native.Mathlib.Nat.{le_refl}
use native.Mathlib.Omega.{arith}
use lib.ListN.{length}
use Rattle.model.specs.View.{View}
use Rattle.model.specs.Plan.{IsValueAt, HasValue}
use Rattle.model.specs.Queue.{Queue, empty_queue}
use Rattle.model.specs.Refusal.{sheet_refusal, value_limit}
use Rattle.model.proofs.Queues.{length_totals, total_empty}
use Rattle.pairs.specs.Paired.{Paired, NowhereLonger}
use Rattle.pairs.proofs.Demand3.{demand3}

-- a sheet is paired with itself
paired_self : (s : View) → sheet_refusal value_limit s ≡ 0 → Paired s s (λ i. i) (λ i. i)
paired_self s e =
    record {
      first_accepted = e;
      second_accepted = e;
      same_bound = refl;
      same_horizon = refl;
      same_count = refl;
      one_to_one =
          record { there_below = λ i h. h; back_below = λ i h. h; back_there = λ i h. refl; there_back = λ i h. refl };
      same_weight = λ i h. refl;
      easier_job = λ i h. inr (le_refl _, le_refl _);
      has_speed = λ speed t. t;
      no_more_energy = λ speed t. le_refl _;
    }

-- the empty queue is nowhere longer than any other
empty_no_longer : (D : ℕ) (w : Queue) → length w ≡ D → NowhereLonger (empty_queue D) w
empty_no_longer D w long =
    record {
      positions = length_totals D (λ u. 0) ∙ sym long;
      never_falls = λ u h. omega (arith, total_empty D u);
      no_longer = λ u. omega (arith, total_empty D u);
    }

-- where a queue has a value at a slot, the empty one has
pub empty_has_value : (s : View) → sheet_refusal value_limit s ≡ 0 → (w : Queue) → length w ≡ s.bound → (t v : ℕ) → IsValueAt s t w (some v) →
    HasValue s t (empty_queue s.bound)
empty_has_value s accepted w long t v value =
    let eased = demand3 s s (λ i. i) (λ i. i) (paired_self s accepted) (empty_queue s.bound) w (empty_no_longer s.bound w long) t v value in
    (eased.0, eased.1)
