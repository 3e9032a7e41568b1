-- What the call leaves and answers, by the model's refusals: a call that is refused, and one that has filled the plan.
use Prim.Native.Nat.{ℕ, zero, suc}
use mathlib.Core.Path.{◌≡◌, refl, sym, ap, subst}
use mathlib.Core.List.{List}
use native.Mathlib.Nat.{suc-mul, mul-le-mul_right}
use native.Mathlib.Omega.{arith}
use lib.ListN.{length}
use Rattle.model.specs.View.{View}
use Rattle.model.specs.Plan.{plan_needed, row_refusal}
use Rattle.model.specs.Refusal.{N}
use Rattle.model.specs.Pricing.{RuleFilled, LeavesRuleBy}
use Rattle.model.proofs.Leaves.{drop_same}
use Rattle.old_rule.specs.Calls.{IsRule}
use Rattle.old_rule.specs.Rows.{FilledTo}

module _ (s : View) where
  -- a plan that is filled to its end is filled as the model says
  rule_filled : {plan₀ plan : List ℕ} → FilledTo s (plan_needed s) plan₀ plan → RuleFilled s plan₀ plan
  rule_filled {plan₀ = plan₀} {plan = plan} filled =
      record {
        bytes = λ t i h k. filled.right t i k (omega (arith, suc-mul t (N s), mul-le-mul_right (N s) h));
        same_length = filled.same_length;
        beyond = drop_same (plan_needed s) plan plan₀ filled.same_length filled.outside;
      }

  -- what a refused call leaves: all as it was, and it answers the number and zero
  pub refused_rule : (plan : List ℕ) {number : ℕ} → number ≡ row_refusal s (length plan) → (number ≡ 0 → ⊥) → IsRule s plan plan number 0
  refused_rule plan {number = number} e some =
      subst (λ (n : ℕ). LeavesRuleBy n s plan plan (record { number = number; queues = 0 })) e (go number some)
    where
      go : (n : ℕ) → (n ≡ 0 → ⊥) → LeavesRuleBy n s plan plan (record { number = n; queues = 0 })
      go zero h = absurd (h refl)
      go (suc n) h = (refl, refl)

  -- what a call that is not refused leaves: the plan filled, and it answers N
  pub filled_rule : {plan₀ plan : List ℕ} {queues : ℕ} → row_refusal s (length plan₀) ≡ 0 → FilledTo s (plan_needed s) plan₀ plan → queues ≡ N s →
      IsRule s plan₀ plan 0 queues
  filled_rule {plan₀ = plan₀} {plan = plan} {queues = queues} e filled queues_is =
      subst (λ (n : ℕ). LeavesRuleBy n s plan₀ plan (record { number = 0; queues = queues })) (sym e)
      (rule_filled filled, ap (λ (q : ℕ). record { number = 0; queues = q }) queues_is)
