-- Demand 3 over two results of the planner's actual contract, neither refused: for sheets paired job by job, at each slot and at queues of
-- which the second is nowhere longer, where the first plan's value is not none, the second's is not none either, and it is no greater.
use Prim.Native.Nat.{ℕ, ◌-◌, ◌≤◌}
use mathlib.Core.Path.{◌≡◌, sym, ◌∙◌, subst}
use mathlib.Core.List.{List}
use mathlib.Core.Option.{some}
use lib.Dec.{T}
use lib.ListN.{length}
use Rattle.process.proofs.Definite.{value_unique}
use Rattle.model.specs.View.{view_of, weight_at, M}
use Rattle.model.specs.Plan.{process_of, IsValueAt, plan_refusal, place_of_queue}
use Rattle.model.specs.Queue.{Queue, bearable}
use Rattle.model.specs.declared.Sheet.{Sheet}
use Rattle.model.specs.Width.{narrow, value_in}
use Rattle.laws.proofs.Longer.{bearable_carries}
use Rattle.planner.specs.declared.calls.PlanAnswer.{PlanAnswer}
use Rattle.demands.specs.Calls.{Plans}
use Rattle.pairs.specs.Paired.{Paired, NowhereLonger}
use Rattle.demands.proofs.Demand2.{value_right}
use Rattle.pairs.proofs.Demand3.{largest, demand3}

pub plans_eased : {first second : Sheet} {there back : ℕ → ℕ} → Paired (view_of first) (view_of second) there back →
    {values₀ plan₀ values bytes : List ℕ} {a : PlanAnswer} → Plans first values₀ plan₀ a values bytes →
    plan_refusal narrow (view_of first) (length values₀) (length plan₀) ≡ 0 →
    {values₀' plan₀' values' bytes' : List ℕ} {b : PlanAnswer} → Plans second values₀' plan₀' b values' bytes' →
    plan_refusal narrow (view_of second) (length values₀') (length plan₀') ≡ 0 →
    (v w : Queue) → NowhereLonger v w → T (bearable (M (view_of first)) w) → length w ≡ (view_of first).bound →
    (t : ℕ) → t ≤ first.horizon → (u : ℕ) → value_in narrow values (place_of_queue (view_of first) t w) ≡ some u →
    (u' : ℕ) × (value_in narrow values' (place_of_queue (view_of second) t v) ≡ some u') × (u' ≤ u)
plans_eased {first} {second} {there} {back} p {values = values} one planned {values' = values'} two planned' v w longer is_bearable positions t h u e =
    let s = view_of first in
    let z = view_of second in
    let least = subst (IsValueAt s t w) e (value_right one planned w is_bearable positions t h) in
    let eased = demand3 s z there back p v w longer t u least in
    let carried = bearable_carries (M s) (M z) v w (largest p) longer.positions longer.never_falls longer.no_longer is_bearable in
    let second_is = value_right two planned' v carried (longer.positions ∙ positions ∙ sym p.same_bound) t
    (subst (λ (T : ℕ). t ≤ T) (sym p.same_horizon) h) in (
      eased.0,
      value_unique (process_of z) z.job_count (weight_at z) (z.horizon - t) v (value_in narrow values' (place_of_queue (view_of second) t v)) (some eased.0) second_is eased.1,
      eased.2,
    )
