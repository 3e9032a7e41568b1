-- What the definitions of specs/Recursion.antt say, an equation each, so that callers need not open them. The theorems about them are in
-- Value.antt and Eased.antt.
use Prim.Native.Nat.{ℕ, zero, suc, ◌*◌, ◌^◌}
use mathlib.Core.Path.{◌≡◌, refl}
use mathlib.Core.List.{List}
use mathlib.Core.Option.{Option, some}
use lib.Dec.{ltb}
use lib.ListN.{length, get_or}
use Rattle.process.specs.Sums.{sum}
use Rattle.process.specs.Ways.{Process, Rule}
use Rattle.process.specs.Recursion.{plus, times, sum_or_none, only, nothing, cheaper, better, best, worth, priced, choice, value, among, taken, price_by}

-- a sum of no terms is 0
pub sum_or_none_start : (f : ℕ → Option ℕ) → sum_or_none f 0 ≡ some 0
unfolding sum_or_none
sum_or_none_start f = refl

-- and with one term more that term is added
pub sum_or_none_more : (f : ℕ → Option ℕ) (n : ℕ) → sum_or_none f (suc n) ≡ plus (sum_or_none f n) (f n)
unfolding sum_or_none
sum_or_none_more f n = refl

-- an action is taken for an earlier one where it costs less, and only there
pub cheaper_is : (v u : ℕ) → cheaper v u ≡ ltb v u
unfolding cheaper
cheaper_is v u = refl

module _ (price : ℕ → Option ℕ) (actions : List ℕ) where
  -- of no actions there is no least
  pub best_none : best price actions 0 ≡ nothing
  unfolding best
  best_none = refl

  -- and with one action more it is the better of the least so far and that action at its price
  pub best_more : (j : ℕ) → best price actions (suc j) ≡ better (best price actions j) (get_or actions j 0) (price (get_or actions j 0))
  unfolding best
  best_more j = refl

module _ {S : Type 0} (P : Process S) (n : ℕ) (w : ℕ → ℕ) where
  -- with no slot left a state that is alive has a value, its price
  pub value_end : (x : S) → value P n w zero x ≡ only (P.alive x) (some (P.last x))
  unfolding value
  value_end x = refl

  -- with one slot more it has what the least over the actions is worth
  pub value_step : (k : ℕ) (x : S) → value P n w (suc k) x ≡ only (P.alive x) (worth (choice P n w k (value P n w k) x))
  unfolding value
  value_step k x = refl

  -- the least over the actions is the least of the whole list of them
  pub choice_is : (k : ℕ) (ahead : S → Option ℕ) (x : S) →
      choice P n w k ahead x ≡ best (priced P n w k ahead x) P.actions (length P.actions)
  unfolding choice
  choice_is k ahead x = refl

  -- an action that is allowed costs its own cost, for all lists that follow, and the weighted sum of what each event leads to
  pub priced_is : (k : ℕ) (ahead : S → Option ℕ) (x : S) (a : ℕ) →
      priced P n w k ahead x a ≡
      only (P.allowed x a) (plus (some (sum w n ^ suc k * P.cost x a)) (sum_or_none (λ i. times (w i) (ahead (P.next x a i))) n))
  unfolding priced
  priced_is k ahead x a = refl

  -- a rule's price with no slot left
  pub price_end : (rule : Rule S) (x : S) → price_by P n w rule zero x ≡ only (P.alive x) (some (P.last x))
  unfolding price_by
  price_end rule x = refl

  -- with one slot more: what its action costs, where the state is alive and the action one of the process's
  pub price_step : (rule : Rule S) (k : ℕ) (x : S) →
      price_by P n w rule (suc k) x ≡
      only (P.alive x) (only (among P.actions (rule (suc k) x)) (priced P n w k (price_by P n w rule k) x (rule (suc k) x)))
  unfolding price_by taken
  price_step rule k x = refl
