-- Laws of the least over the speeds (specs/Choice.antt), one speed more at a time.
use Prim.Native.Nat.{ℕ, zero, suc, ◌+◌, ◌≤◌, ◌<◌}
use mathlib.Core.Path.{◌≡◌, refl, sym, ap, ◌∙◌, subst}
use mathlib.Core.Bool.{Bool, true, false, cond}
use mathlib.Core.Option.{Option, none, some}
use native.Mathlib.Numerals.{add-one}
use native.Mathlib.Omega.{arith}
use lib.Dec.{T, ltb}
use Rattle.process.specs.Recursion.{Choice, nothing, chosen, cheaper, better}
use Rattle.process.proofs.Equations.{cheaper_is}
use Rattle.value.specs.Values.{less_than}
use Rattle.choose.specs.Choice.{least_to, byte_of, IsChoice, IsBetter}

-- one speed more

-- a speed that costs less than the least so far is the least
pub better_taken : (before : ℕ) (r : Option ℕ) (speed : ℕ) (cost : Option ℕ) → less_than cost r ≡ true →
    IsBetter before r speed cost speed cost
better_taken before r speed none e c i = absurd (subst T (sym e) tt)
better_taken before r speed (some v) e nothing i = record { speed_is = refl; value_is = refl }
better_taken before r speed (some v) e (chosen b u) i =
    let less : ltb v u ≡ true = ap (less_than (some v)) (sym i.value_is) ∙ e in
    rw (cheaper_is v u ∙ less) (record { speed_is = refl; value_is = refl })

-- any other leaves the least as it is
pub better_left : (before : ℕ) (r : Option ℕ) (speed : ℕ) (cost : Option ℕ) → less_than cost r ≡ false →
    IsBetter before r speed cost before r
better_left before r speed none e c i = i
better_left before r speed (some v) e nothing i = absurd (subst T (ap (less_than (some v)) (sym i.value_is) ∙ e) tt)
better_left before r speed (some v) e (chosen b u) i =
    let less : ltb v u ≡ false = ap (less_than (some v)) (sym i.value_is) ∙ e in
    rw (cheaper_is v u ∙ less) i

-- several

module _ (speed : ℕ → ℕ) (cost : ℕ → Option ℕ) where
  -- of no speeds there is no least
  pub least_zero : least_to speed cost 0 ≡ nothing
  unfolding least_to
  least_zero = refl

  -- and with one speed more it is the better of the least so far and that speed at its cost
  pub least_suc : (j : ℕ) → least_to speed cost (suc j) ≡ better (least_to speed cost j) (speed j) (cost j)
  unfolding least_to
  least_suc j = refl

  -- of speeds that all cost none there is no least
  nothing_least : (k : ℕ) → ((j : ℕ) → j < k → cost j ≡ none) → least_to speed cost k ≡ nothing
  unfolding least_to
  nothing_least zero dear = refl
  nothing_least (suc k) dear = rw (nothing_least k (λ j h. dear j (omega arith)), dear k (omega arith))

  -- so that the search may begin behind them
  pub least_begun : (k : ℕ) {r : Option ℕ} → ((j : ℕ) → j < k → cost j ≡ none) → r ≡ none → IsChoice (least_to speed cost k) 255 r
  least_begun k dear e = rw (nothing_least k dear) (record { speed_is = refl; value_is = e })

  -- one more
  pub least_more : (j : ℕ) {before a best : ℕ} {r here q : Option ℕ} → a ≡ speed j → here ≡ cost j →
      IsChoice (least_to speed cost j) before r → IsBetter before r a here best q → IsChoice (least_to speed cost (j + 1)) best q
  unfolding least_to
  least_more j e d so_far more = rw (add-one, ← e, ← d) (more (least_to speed cost j) so_far)

  -- as the code keeps it, the least has a speed that fits a byte where every speed does
  pub least_small : (n : ℕ) → ((j : ℕ) → j < n → speed j ≤ 255) → byte_of (least_to speed cost n) ≤ 255
  unfolding least_to
  least_small zero small = omega arith
  least_small (suc n) small =
      go (least_to speed cost n) (cost n) (least_small n (λ j h. small j (omega arith))) (small n (omega arith))
    where
      go : (c : Choice) (r : Option ℕ) → byte_of c ≤ 255 → speed n ≤ 255 → byte_of (better c (speed n) r) ≤ 255
      go c none h k = h
      go nothing (some v) h k = k
      go (chosen b u) (some v) h k = pick (cheaper v u)
        where
          pick : (t : Bool) → byte_of (cond t (chosen (speed n) v) (chosen b u)) ≤ 255
          pick true = k
          pick false = h

-- the least over speeds whose costs are the same is the same
pub least_same : (speed : ℕ → ℕ) (cost cost' : ℕ → Option ℕ) (n : ℕ) → ((j : ℕ) → j < n → cost j ≡ cost' j) →
    least_to speed cost n ≡ least_to speed cost' n
unfolding least_to
least_same speed cost cost' zero same = refl
least_same speed cost cost' (suc n) same =
    rw (least_same speed cost cost' n (λ j h. same j (omega arith)), same n (omega arith))
