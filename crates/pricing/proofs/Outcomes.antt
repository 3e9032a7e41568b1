-- What the call answers, by the model's refusals: what a refused call and one that prices leave.
use Prim.Native.Nat.{ℕ, zero, suc, ◌-◌}
use mathlib.Core.Path.{◌≡◌, refl, sym, ap, ◌∙◌, subst}
use mathlib.Core.List.{List}
use mathlib.Core.Option.{Option, get_or}
use native.Mathlib.Omega.{arith}
use lib.ListN.{length}
use Rattle.model.specs.View.{View, M}
use Rattle.model.specs.Plan.{queue_at, place_at, plan_refusal, number12}
use Rattle.model.specs.Pricing.{IsPriceAt, PriceAnswer, Priced, LeavesPriceBy}
use Rattle.model.specs.Queue.{Queue, empty_queue}
use Rattle.model.specs.Refusal.{N}
use Rattle.model.specs.Width.{Width, narrow, value_in}
use Rattle.model.proofs.Queues.{empty_first}
use Rattle.model.proofs.Refusal.{Accepted, N_low}
use Rattle.backward.specs.Passes.{FilledFrom}
use Rattle.backward.proofs.Backward.{filled_all}
use Rattle.pricing.specs.Calls.{IsPriced}
use Rattle.pricing.specs.Prices.{price_with}
use Rattle.pricing.proofs.Prices.{price_right}

-- what a refused call leaves: all as it was, and it answers the number and zeros
pub refused_price : (s : View) (plan values : List ℕ) {refusal : ℕ} → refusal ≡ plan_refusal narrow s (length values) (length plan) →
    (refusal ≡ 0 → ⊥) → IsPriced s plan values values refusal 0 0
refused_price s plan values {refusal} e some = subst (λ (n : ℕ). LeavesPriceBy n narrow s plan values values answer) e (go refusal some refl)
  where
    answer : PriceAnswer
    answer = record { number = refusal; queues = 0; price = 0 }

    go : (n : ℕ) → (n ≡ 0 → ⊥) → refusal ≡ n → LeavesPriceBy n narrow s plan values values answer
    go zero h q = absurd (h refl)
    go (suc n) h q = record { values_same = refl; answer = λ i. record { number = q i; queues = 0; price = 0 } }

-- values that are filled with prices from the horizon back to slot 0, at any width
module _ (width : Width) (s : View) {limit : ℕ} (a : Accepted limit s) (plan : List ℕ) {values₀ values : List ℕ}
    (filled : FilledFrom width s (price_with s plan) s.horizon values₀ values) where
  -- the first of all is the empty queue's at slot 0
  empty_price : IsPriceAt s plan 0 (empty_queue s.bound) (value_in width values (place_at s 0 0))
  empty_price =
      subst (IsPriceAt s plan 0 (empty_queue s.bound)) (sym (filled.right 0 0 (omega arith) (omega arith) (omega (arith, N_low s a.ranged))))
      (subst (λ (w : Queue). IsPriceAt s plan 0 w (price_with s plan (s.horizon - 0) (queue_at s 0))) (empty_first (M s) s.bound)
      (price_right s plan a (s.horizon - 0) (queue_at s 0)))

  -- so they are filled as the model says, and the answer is right where its number and its price are those of the first
  pub all_priced : (answer : PriceAnswer) {place : ℕ} {r : Option ℕ} → place ≡ place_at s 0 0 → r ≡ value_in width values place →
      answer.queues ≡ N s → answer.number ≡ number12 r → answer.price ≡ get_or r 0 → Priced width s plan values₀ values answer
  all_priced answer {r = r} first e queues number price =
      record {
        r = λ t i. price_with s plan (s.horizon - t) (queue_at s i);
        are_prices = λ t i h k. price_right s plan a (s.horizon - t) (queue_at s i);
        in_values = filled_all width s (price_with s plan) filled;
        queues = queues;
        empty = r;
        is_price = subst (IsPriceAt s plan 0 (empty_queue s.bound)) (sym (e ∙ ap (value_in width values) first)) empty_price;
        number = number;
        price = price;
      }

-- what a call that is not refused leaves
pub filled_price : (s : View) {plan values₀ values : List ℕ} {number queues price : ℕ} → plan_refusal narrow s (length values₀) (length plan) ≡ 0 →
    Priced narrow s plan values₀ values (record { number = number; queues = queues; price = price }) →
    IsPriced s plan values₀ values number queues price
filled_price s {plan} {values₀} {values} {number} {queues} {price} e filled =
    subst (λ (n : ℕ). LeavesPriceBy n narrow s plan values₀ values (record { number = number; queues = queues; price = price })) (sym e) filled
