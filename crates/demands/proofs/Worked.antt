-- The cases that document 01 marks P, of the planner itself: sheet A's values and plan, and the sheet that gives 12, are what `plan` leaves and
-- answers, by its actual contract, for every sheet in memory with that view and any lent memory with room. And those of request [2]: the old
-- rule's plan of sheet A and its prices are what `rule` and `price` leave and answer.
use Prim.Native.Nat.{ℕ, suc, ◌+◌, ◌*◌, ◌≤◌, ◌<◌}
use mathlib.Core.Path.{◌≡◌, sym, ap, ◌∙◌, subst}
use mathlib.Core.List.{List, [], ◌∷◌, ◌++◌}
use mathlib.Core.Option
use mathlib.Core.Option.{Option, some}
use native.Mathlib.Nat.{le_of_lt, mul-one}
use native.Mathlib.Omega.{arith}
use lib.ListN.{length, get_or}
use Rattle.model.specs.Cases.{A, A0, A1, values_A0, values_A1, hopeless, none64, planned, Holds, cases_of_A, cases_of_hopeless, IsPlanOfA, IsPlanOfHopeless, rule_A, prices_A0, cases_of_prices, IsRuleOfA, IsPriceOfRuleOfA}
use Rattle.model.specs.View.{View, view_of}
use Rattle.model.specs.Plan.{place_at, queue_at, value_places, plan_needed, row_refusal, number12, FromEmpty, Filled}
use Rattle.model.specs.Pricing.{RuleFilled, LeavesRuleBy, LeavesRule, Priced}
use Rattle.model.specs.Refusal.{N, sheet_refusal, value_limit}
use Rattle.model.specs.declared.Sheet.{Sheet}
use Rattle.model.specs.Width.{narrow, value_in}
use Rattle.model.specs.Tests.{listed}
use Rattle.model.proofs.Cases.{A_holds, hopeless_holds, price_cases_hold}
use Rattle.model.proofs.Leaves.{one_value, plan_byte_same, answer_same, one_rule_speed, one_price}
use Rattle.model.proofs.Width.{narrow_same}
use Rattle.laws.proofs.Rooms.{row_fits}
use Rattle.old_rule.specs.declared.call.RuleAnswer as old_rule
use Rattle.planner.specs.declared.calls.PlanAnswer as code
use Rattle.pricing.specs.declared.call.PriceAnswer as pricing
use Rattle.demands.specs.Calls.{Plans, answered, Rules, rule_answered, Prices, price_answered}
use Rattle.demands.proofs.Demand2.{planned_by_room, planned_filled}
use Rattle.demands.proofs.Determined.{rule_is}
use Rattle.demands.proofs.Prices.{priced_filled}

-- a plan of a sheet with the view s, which has n queues, lent room for both tables
module _ {sheet : Sheet} {values₀ plan₀ values bytes : List ℕ} {a : code.PlanAnswer} (call : Plans sheet values₀ plan₀ a values bytes)
    (s : View) (view : view_of sheet ≡ s) (accepted : sheet_refusal value_limit s ≡ 0) (n : ℕ) (many : N s ≡ n)
    (values_room : suc s.horizon * n ≤ length values₀) (plan_room : s.horizon * n ≤ length plan₀) where
  -- the lent memory is filled
  filled : Filled narrow s values₀ plan₀ values bytes (answered a)
  filled =
      subst (λ (z : View). Filled narrow z values₀ plan₀ values bytes (answered a)) view
      (planned_filled call
      (planned_by_room (view_of sheet) (length values₀) (length plan₀) (ap (sheet_refusal value_limit) view ∙ accepted)
      (subst (λ (z : View). value_places narrow z ≤ length values₀) (sym view)
      (subst (λ (m : ℕ). suc s.horizon * m * 1 ≤ length values₀) (sym many) (rw mul-one values_room)))
      (subst (λ (z : View). plan_needed z ≤ length plan₀) (sym view) (subst (λ (m : ℕ). s.horizon * m ≤ length plan₀) (sym many) plan_room))))

  -- where a row of values and one of plan bytes are right for a slot, these rows are left
  row_left : (t : ℕ) (row plan : List ℕ) → Holds (planned s t row plan) → t < s.horizon → (i place : ℕ) → place ≡ t * n + i → i < n →
      (get_or values place 0 ≡ get_or row i 0) × (get_or bytes place 0 ≡ get_or plan i 0)
  row_left t row plan right h i place e b =
      let l = subst (λ (m : ℕ). i < m) (sym many) b in
      let f = filled in
      let there = f.are_values t i (le_of_lt h) l in
      let (is_value, is_byte_lem) = right.2 i l in
      let value = f.in_values.each t i (le_of_lt h) l ∙ one_value s t (queue_at s i) (f.r t i) (value_in narrow row i) there is_value in
      let byte = plan_byte_same s t (queue_at s i) _ _ (f.r t i, there, f.in_plan.bytes t i h l) (value_in narrow row i, is_value, is_byte_lem) in
      subst (λ (p : ℕ). (get_or values p 0 ≡ get_or row i 0) × (get_or bytes p 0 ≡ get_or plan i 0)) (ap (λ (m : ℕ). t * m + i) many ∙ sym e)
      (narrow_same values row (place_at s t i) i value, byte)

  -- where three numbers are the right answer, they are answered
  answer_given : (number least : ℕ) → FromEmpty s (record { number = number; queues = n; least = least }) →
      answered a ≡ record { number = number; queues = n; least = least }
  answer_given number least right =
      answer_same s (answered a) (record { number = number; queues = n; least = least }) (filled.queues ∙ many) filled.empty right

-- sheet A, planned in any lent memory with room, leaves and answers this
pub plan_of_A : {sheet : Sheet} {values₀ plan₀ values bytes : List ℕ} {a : code.PlanAnswer} → Plans sheet values₀ plan₀ a values bytes →
    view_of sheet ≡ A → 36 ≤ length values₀ → 24 ≤ length plan₀ → IsPlanOfA values bytes (answered a)
unfolding cases_of_A
plan_of_A call view h k =
    let accepted = A_holds.0 in
    let answers = A_holds.1.0 in
    let rows = A_holds.1.1 in
    let left = row_left call A view accepted 12 answers.1 h k in
    record {
      slot_0 = λ i b. left 0 values_A0 A0 rows.0 (omega arith) i i (omega arith) b;
      slot_1 = λ i b. left 1 values_A1 A1 rows.1.0 (omega arith) i (12 + i) (omega arith) b;
      answer_is = answer_given call A view accepted 12 answers.1 h k 0 0 answers.0;
    }

-- the sheet that gives 12, planned in any lent memory with room, leaves and answers this
pub plan_of_hopeless : {sheet : Sheet} {values₀ plan₀ values bytes : List ℕ} {a : code.PlanAnswer} → Plans sheet values₀ plan₀ a values bytes →
    view_of sheet ≡ hopeless → 4 ≤ length values₀ → 2 ≤ length plan₀ → IsPlanOfHopeless values bytes (answered a)
unfolding cases_of_hopeless
plan_of_hopeless call view h k =
    let accepted = hopeless_holds.0 in
    let answers = hopeless_holds.1.0 in
    record {
      slot_0 = λ i b.
          row_left call hopeless view accepted 2 answers.1 h k 0 (none64 ∷ none64 ∷ []) (255 ∷ 255 ∷ []) hopeless_holds.1.1.0
          (omega arith) i i (omega arith) b;
      answer_is = answer_given call hopeless view accepted 2 answers.1 h k 12 0 answers.0;
    }

-- the old rule

-- sheet A's rule, in any lent plan with room, leaves and answers this
pub rule_of_A : {sheet : Sheet} {plan₀ bytes : List ℕ} {a : old_rule.RuleAnswer} → Rules sheet plan₀ a bytes → view_of sheet ≡ A →
    24 ≤ length plan₀ → IsRuleOfA bytes (rule_answered a)
unfolding cases_of_A cases_of_prices
rule_of_A {sheet} {plan₀} {bytes} {a} call view room =
    record {
      slot_0 = λ i b. at 0 i i (omega arith) (omega arith) b;
      slot_1 = λ i b. at 1 i (12 + i) (omega arith) (omega arith) b;
      answer_is = left.1 ∙ ap (λ (n : ℕ). record { number = 0; queues = n }) many;
    }
  where
    many : N A ≡ 12
    many = A_holds.1.0.1

    accepted : row_refusal A (length plan₀) ≡ 0
    accepted = sym (row_fits A (length plan₀) A_holds.0 (subst (λ (n : ℕ). 2 * n ≤ length plan₀) (sym many) room))

    left : RuleFilled A plan₀ bytes × (rule_answered a ≡ record { number = 0; queues = N A })
    left =
        subst (λ (n : ℕ). LeavesRuleBy n A plan₀ bytes (rule_answered a)) accepted
        (subst (λ (s : View). LeavesRule s plan₀ bytes (rule_answered a)) view (rule_is call))

    at : (t i place : ℕ) → place ≡ t * 12 + i → t < 2 → i < 12 → get_or bytes place 0 ≡ get_or rule_A i 0
    at t i place e h b =
        let l = subst (λ (m : ℕ). i < m) (sym many) b in
        ap (λ (p : ℕ). get_or bytes p 0) (e ∙ ap (λ (m : ℕ). t * m + i) (sym many)) ∙
        one_rule_speed A (queue_at A i) _ _ (left.0.bytes t i h l) (price_cases_hold.0.1 i l)

-- and its price, in any lent values with room, is this
pub price_of_rule_of_A : {sheet : Sheet} {bytes values₀ values : List ℕ} {a : pricing.PriceAnswer} → Prices sheet bytes values₀ a values →
    view_of sheet ≡ A → bytes ≡ rule_A ++ rule_A → 36 ≤ length values₀ → IsPriceOfRuleOfA values (price_answered a)
unfolding cases_of_A cases_of_prices listed
price_of_rule_of_A {sheet} {bytes} {values₀} {values} {a} call view plan room =
    record {
      slot_0 = λ i b.
          let l = subst (λ (m : ℕ). i < m) (sym many) b in
          let place : place_at A 0 i ≡ i = omega arith in
          narrow_same values prices_A0 i i
          (ap (value_in narrow values) (sym place) ∙ left.in_values.each 0 i (omega arith) l ∙
          one_price A (rule_A ++ rule_A) 0 (queue_at A i) (left.r 0 i) (value_in narrow prices_A0 i) (left.are_prices 0 i (omega arith) l)
          (price_cases_hold.1.1.1.0.1 i l));
      answer_is = λ i. record { number = number i; queues = queues i; price = price i };
    }
  where
    many : N A ≡ 12
    many = A_holds.1.0.1

    left : Priced narrow A (rule_A ++ rule_A) values₀ values (price_answered a)
    left =
        subst (λ (l : List ℕ). Priced narrow A l values₀ values (price_answered a)) plan
        (subst (λ (s : View). Priced narrow s bytes values₀ values (price_answered a)) view
        (priced_filled call
        (planned_by_room (view_of sheet) (length values₀) (length bytes) (ap (sheet_refusal value_limit) view ∙ A_holds.0)
        (subst (λ (z : View). value_places narrow z ≤ length values₀) (sym view)
        (subst (λ (m : ℕ). 3 * m * 1 ≤ length values₀) (sym many) (rw mul-one room)))
        (subst (λ (z : View). plan_needed z ≤ length bytes) (sym view)
        (subst (λ (m : ℕ). 2 * m ≤ length bytes) (sym many) (subst (λ (l : List ℕ). 24 ≤ length l) (sym plan) (omega arith)))))))

    same : left.empty ≡ some 2
    same = one_price A (rule_A ++ rule_A) 0 (0 ∷ 0 ∷ []) left.empty (some 2) left.is_price price_cases_hold.1.0

    number : a.number ≡ 0
    number = left.number ∙ ap number12 same

    queues : a.queues ≡ 12
    queues = left.queues ∙ many

    price : a.price ≡ 2
    price = left.price ∙ ap (λ (r : Option ℕ). Option.get_or r 0) same
