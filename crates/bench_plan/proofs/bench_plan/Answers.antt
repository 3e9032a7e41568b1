-- `bench_plan` meets its contract: by the reader's contract nothing is touched, or the planner's holds of the sheet that was read.
use Prim.Native.Nat.{ℕ, zero, suc}
use mathlib.Core.Path.{◌≡◌, refl, sym, ◌∙◌, subst}
use mathlib.Core.List.{List}
use Rattle.model.specs.View.{view_of}
use Rattle.model.specs.Plan.{PlanAnswer, Leaves}
use Rattle.model.specs.Width.{narrow}
use Rattle.model.specs.Reading.{read}
use Rattle.model.specs.declared.Sheet.{Sheet}
use Rattle.reader.specs.Calls.{IsRead}
use Rattle.bench_plan.specs.Planned.{LeavesRead, IsPlanned}
use Rattle.bench_plan.proofs.bench_plan.Goals as goal

-- the bytes are refused
refused_read : (values plan : List ℕ) {bytes : List ℕ} {number : ℕ} {sheet : Sheet} → IsRead bytes number sheet → (number ≡ 0 → ⊥) →
    IsPlanned bytes values plan values plan number
refused_read values plan {bytes} {number} is some =
    record {
      answer = none-with number;
      number_is = refl;
      leaves = subst (λ (n : ℕ). LeavesRead n (view_of (read bytes).sheet) values plan values plan (none-with number)) is.number_is
          (go number some);
    }
  where
    none-with : ℕ → PlanAnswer
    none-with n = record { number = n; queues = 0; least = 0 }

    go : (n : ℕ) → (n ≡ 0 → ⊥) → LeavesRead n (view_of (read bytes).sheet) values plan values plan (none-with n)
    go zero h = absurd (h refl)
    go (suc n) h = record { values_same = refl; plan_same = refl; answer = refl }

-- they are read, and the sheet is planned
planned_read : {bytes values₀ plan₀ values plan : List ℕ} {number : ℕ} {sheet : Sheet} (answer : PlanAnswer) → IsRead bytes number sheet →
    number ≡ 0 → Leaves narrow (view_of sheet) values₀ plan₀ values plan answer →
    IsPlanned bytes values₀ plan₀ values plan answer.number
planned_read {bytes} {values₀} {plan₀} {values} {plan} answer is none left =
    record {
      answer = answer;
      number_is = refl;
      leaves = subst (λ (n : ℕ). LeavesRead n (view_of (read bytes).sheet) values₀ plan₀ values plan answer) (sym none ∙ is.number_is)
          (subst (λ (sheet : Sheet). Leaves narrow (view_of sheet) values₀ plan₀ values plan answer) is.sheet_is left);
    }

pub returns-then-read-ne0 : goal.returns-then-read-ne0
returns-then-read-ne0 c = refused_read _ _ c.read-read.ensures c.if-read-ne0.true

pub returns : goal.returns
returns c = planned_read _ c.read-read.ensures c.if-read-ne0.false c.plan-answer.ensures
