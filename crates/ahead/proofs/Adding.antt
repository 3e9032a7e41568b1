-- Laws of what is added up (specs/Sums.antt), one entry more at a time.
use Prim.Native.Nat.{ℕ, zero, suc, ◌+◌, ◌<◌}
use mathlib.Core.Path.{◌≡◌, refl, sym, ◌∙◌}
use mathlib.Core.Logic.{◌⊎◌, inl, inr}
use mathlib.Core.Option.{Option, none, some}
use native.Mathlib.Nat.{not-suc-le-zero, eq-or-lt_of_le, le_of_suc-le-suc}
use native.Mathlib.Numerals.{add-one}
use Rattle.process.specs.Recursion.{plus, times, sum_or_none}
use Rattle.process.proofs.Equations.{sum_or_none_start, sum_or_none_more}
use Rattle.process.proofs.Value.{plus_none}
use Rattle.model.specs.View.{View, weight_at}
use Rattle.model.specs.Queue.{Queue}
use Rattle.entry_lanes.specs.Lanes.{joined}
use Rattle.ahead.specs.Sums.{sum_to}

module _ (s : View) (f : Queue → Option ℕ) (v : Queue) where
  -- over no entries the sum is 0
  pub sum_begun : some 0 ≡ sum_to s f v 0
  unfolding sum_to
  sum_begun = sym (sum_or_none_start (λ j. times (weight_at s j) (f (joined s v j))))

  -- with one entry more it is larger by what f gives of the queue with its arrival, weighted
  pub sum_more : (j : ℕ) {sum here : Option ℕ} {weight : ℕ} → sum ≡ sum_to s f v j → weight ≡ weight_at s j → here ≡ f (joined s v j) →
      plus sum (times weight here) ≡ sum_to s f v (j + 1)
  unfolding sum_to
  sum_more j e d h = rw (add-one, sum_or_none_more, e, d, h)

  -- it is none as soon as f gives none
  pub sum_none : (n j : ℕ) → j < n → f (joined s v j) ≡ none → sum_to s f v n ≡ none
  unfolding sum_to
  sum_none zero j h e = absurd (not-suc-le-zero h)
  sum_none (suc n) j h e =
      sum_or_none_more (λ i. times (weight_at s i) (f (joined s v i))) n ∙ go (eq-or-lt_of_le (le_of_suc-le-suc h)) (sum_none n j)
    where
      go : (j ≡ n) ⊎ (j < n) → (j < n → f (joined s v j) ≡ none → sum_to s f v n ≡ none) →
          plus (sum_to s f v n) (times (weight_at s n) (f (joined s v n))) ≡ none
      go (inl q) ih = rw (← q, e, plus_none)
      go (inr l) ih = rw (ih l e)

-- sums of what is the same are the same
pub sum_same : (s : View) (f g : Queue → Option ℕ) (v : Queue) (n : ℕ) → ((j : ℕ) → f (joined s v j) ≡ g (joined s v j)) →
    sum_to s f v n ≡ sum_to s g v n
unfolding sum_to sum_or_none
sum_same s f g v zero same = refl
sum_same s f g v (suc n) same = rw (sum_same s f g v n same, same n)
