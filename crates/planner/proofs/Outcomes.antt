-- What the call answers, by the model's refusals: what a refused plan and a filled one leave. What the call refuses is in
-- laws/proofs/Rooms.antt.
use Prim.Native.Nat.{ℕ, zero, suc}
use mathlib.Core.Path.{◌≡◌, refl, sym, subst}
use mathlib.Core.List.{List}
use lib.ListN.{length}
use Rattle.model.specs.View.{View}
use Rattle.model.specs.Plan.{PlanAnswer, LeavesBy, Filled, plan_refusal}
use Rattle.model.specs.Width.{narrow}
use Rattle.planner.specs.Calls.{IsPlan}

module _ (s : View) where
  -- what a refused plan leaves: all as it was, and it answers the number and zeros
  pub refused_plan : (values plan : List ℕ) {refusal number queues least : ℕ} → refusal ≡ plan_refusal narrow s (length values) (length plan) →
      (refusal ≡ 0 → ⊥) → number ≡ refusal → queues ≡ 0 → least ≡ 0 → IsPlan s values plan values plan number queues least
  refused_plan values plan {refusal = refusal} {number = number} {queues = queues} {least = least} e some number_is queues_is least_is =
      subst (λ (n : ℕ). LeavesBy n narrow s values plan values plan answer) e (go refusal some number_is)
    where
      answer : PlanAnswer
      answer = record { number = number; queues = queues; least = least }

      go : (n : ℕ) → (n ≡ 0 → ⊥) → number ≡ n → LeavesBy n narrow s values plan values plan answer
      go zero h q = absurd (h refl)
      go (suc n) h q =
          record { values_same = refl; plan_same = refl; answer = λ i. record { number = q i; queues = queues_is i; least = least_is i } }

  -- what a plan that is not refused leaves: both tables filled
  pub filled_plan : {values₀ plan₀ values plan : List ℕ} {number queues least : ℕ} → plan_refusal narrow s (length values₀) (length plan₀) ≡ 0 →
      Filled narrow s values₀ plan₀ values plan (record { number = number; queues = queues; least = least }) →
      IsPlan s values₀ plan₀ values plan number queues least
  filled_plan {values₀ = values₀} {plan₀ = plan₀} {values = values} {plan = plan} {number = number} {queues = queues} {least = least} e filled =
      subst
      (λ (n : ℕ). LeavesBy n narrow s values₀ plan₀ values plan (record { number = number; queues = queues; least = least })) (sym e)
      filled
