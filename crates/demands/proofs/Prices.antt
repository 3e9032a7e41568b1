-- Request [2], over the calls' actual contracts: "No price is below the planner's value, and the planner's own plan is priced at exactly those
-- values"; and the old rule's plan is never refused with 16 by the stepper.
use Prim.Native.Nat.{ℕ, zero, suc, ◌-◌, ◌≤◌, ◌<◌}
use mathlib.Core.Path.{◌≡◌, refl, sym, ap, ◌∙◌, subst}
use mathlib.Core.List.{List}
use mathlib.Core.Option.{Option, none, some, get_or}
use native.Mathlib.Omega.{arith}
use lib.ListN.{length}
use Rattle.process.specs.Ways.{NotBelow}
use Rattle.process.proofs.Price.{price_not_below}
use Rattle.model.specs.View.{View, view_of, weight_at, M}
use Rattle.model.specs.Plan.{process_of, IsValueAt, queue_at, place_at, byte_of_queue, plan_refusal, row_refusal, number12, FromEmpty}
use Rattle.model.specs.Pricing.{IsRuleSpeed, RuleFilled, LeavesRuleBy, speed_by_plan, IsPriceAt, Priced, LeavesPriceBy}
use Rattle.model.specs.Pricing as model-pricing
use Rattle.model.specs.Queue.{Queue, empty_queue, positions, number_of}
use Rattle.model.specs.Refusal.{N, sheet_refusal, value_limit}
use Rattle.model.specs.Width.{narrow, value_in}
use Rattle.model.specs.declared.Sheet.{Sheet}
use Rattle.model.proofs.Queues.{length_totals, listed_bearable, number_below, number_place}
use Rattle.model.proofs.Refusal.{N_is}
use Rattle.laws.proofs.Pricing.{right_plan_priced, RulePlan, rule_starts, rule_advances}
use Rattle.laws.proofs.Rooms.{plan_accepted}
use Rattle.laws.proofs.Stepper.{start_number, advance_number}
use Rattle.old_rule.specs.declared.call.RuleAnswer.{RuleAnswer}
use Rattle.planner.specs.declared.calls.PlanAnswer.{PlanAnswer}
use Rattle.pricing.specs.declared.call.PriceAnswer.{PriceAnswer}
use Rattle.stepper.specs.Calls.{state_of}
use Rattle.stepper.specs.declared.state.State.{State}
use Rattle.stepper.specs.declared.state.Stepped.{Stepped}
use Rattle.demands.specs.Calls.{Plans, answered, Rules, rule_answered, Prices, price_answered, Starts, Advances}
use Rattle.demands.proofs.Demand2.{planned_filled}
use Rattle.demands.proofs.Determined.{rule_is, price_is, start_is, advance_is}
use Rattle.demands.proofs.Stepping.{right_plan}

-- a call that is not refused fills the lent values with prices
pub priced_filled : {sheet : Sheet} {bytes values₀ values : List ℕ} {a : PriceAnswer} → Prices sheet bytes values₀ a values →
    plan_refusal narrow (view_of sheet) (length values₀) (length bytes) ≡ 0 →
    Priced narrow (view_of sheet) bytes values₀ values (price_answered a)
priced_filled {sheet} {bytes} {values₀} {values} {a} call e =
    subst (λ (n : ℕ). LeavesPriceBy n narrow (view_of sheet) bytes values₀ values (price_answered a)) e (price_is call)

-- the place of a slot and queue says the price of that slot and queue
pub price_right : {sheet : Sheet} {bytes values₀ values : List ℕ} {a : PriceAnswer} (call : Prices sheet bytes values₀ a values) →
    plan_refusal narrow (view_of sheet) (length values₀) (length bytes) ≡ 0 →
    (t i : ℕ) → t ≤ sheet.horizon → i < N (view_of sheet) →
    IsPriceAt (view_of sheet) bytes t (queue_at (view_of sheet) i) (value_in narrow values (place_at (view_of sheet) t i))
price_right {sheet} {bytes} call e t i h l =
    let f = priced_filled call e in
    subst (IsPriceAt (view_of sheet) bytes t (queue_at (view_of sheet) i)) (sym (f.in_values.each t i h l)) (f.are_prices t i h l)

-- a sheet that is planned, and a plan that is priced
module _ {sheet : Sheet} {values₀ plan₀ values bytes : List ℕ} {a : PlanAnswer} (plans : Plans sheet values₀ plan₀ a values bytes)
    (planned : plan_refusal narrow (view_of sheet) (length values₀) (length plan₀) ≡ 0) where
  abbrev s : View
  s = view_of sheet

  -- the place of a slot and queue says its value
  value_there : (t i : ℕ) → t ≤ sheet.horizon → i < N s → IsValueAt s t (queue_at s i) (value_in narrow values (place_at s t i))
  value_there t i h l =
      let f = planned_filled plans planned in
      subst (IsValueAt s t (queue_at s i)) (sym (f.in_values.each t i h l)) (f.are_values t i h l)

  -- any lent plan
  module _ {lent prices₀ prices : List ℕ} {b : PriceAnswer} (call : Prices sheet lent prices₀ b prices)
      (priced : plan_refusal narrow s (length prices₀) (length lent) ≡ 0) where
    -- no price is below the value, and it is none wherever the value is none
    pub no_price_below : (t i : ℕ) → t ≤ sheet.horizon → i < N s →
        NotBelow (value_in narrow prices (place_at s t i)) (value_in narrow values (place_at s t i))
    no_price_below t i h l =
        price_not_below (process_of s) s.job_count (weight_at s) (speed_by_plan s lent) (s.horizon - t) (queue_at s i)
        (value_in narrow prices (place_at s t i)) (value_in narrow values (place_at s t i)) (price_right call priced t i h l) (value_there t i h l)

    -- so where a plan has a price from the empty queue at slot 0, the sheet is planned, at no more energy
    pub least_not_above : b.number ≡ 0 → (a.number ≡ 0) × (a.least ≤ b.price)
    least_not_above e = go p.empty v.r p.number p.price v.number v.least below
      where
        p : Priced narrow s lent prices₀ prices (price_answered b)
        p = priced_filled call priced

        v : FromEmpty s (answered a)
        v = (planned_filled plans planned).empty

        below : NotBelow p.empty v.r
        below =
            price_not_below (process_of s) s.job_count (weight_at s) (speed_by_plan s lent) (s.horizon - 0) (empty_queue s.bound) p.empty v.r
            p.is_price v.is_value

        go : (r q : Option ℕ) → b.number ≡ number12 r → b.price ≡ get_or r 0 → a.number ≡ number12 q → a.least ≡ get_or q 0 →
            NotBelow r q → (a.number ≡ 0) × (a.least ≤ b.price)
        go none q n price m least t = absurd (omega arith)
        go (some u) none n price m least t = absurd t
        go (some u) (some w) n price m least t = (m, omega arith)

  -- the planner's own plan
  module _ {prices₀ prices : List ℕ} {b : PriceAnswer} (call : Prices sheet bytes prices₀ b prices)
      (priced : plan_refusal narrow s (length prices₀) (length bytes) ≡ 0) where
    -- the sheet is accepted
    passed : sheet_refusal value_limit s ≡ 0
    passed = (plan_accepted s narrow (length values₀) (length plan₀) planned).0

    -- it is priced at exactly the values
    pub own_plan_priced : (t i : ℕ) → t ≤ sheet.horizon → i < N s →
        value_in narrow prices (place_at s t i) ≡ value_in narrow values (place_at s t i)
    own_plan_priced t i h l =
        right_plan_priced s passed bytes (right_plan plans planned) t h (queue_at s i)
        (listed_bearable (M s) s.bound i (omega (arith, N_is s))).0 (value_in narrow prices (place_at s t i))
        (value_in narrow values (place_at s t i)) (price_right call priced t i h l) (value_there t i h l)

    -- and the answer is the planner's
    pub own_plan_answer : (b.number ≡ a.number) × (b.queues ≡ a.queues) × (b.price ≡ a.least)
    own_plan_answer =
        let p = priced_filled call priced in
        let f = planned_filled plans planned in
        let same = right_plan_priced s passed bytes (right_plan plans planned) 0 (omega arith) (empty_queue s.bound)
        (length_totals s.bound (λ u. 0)) p.empty f.empty.r p.is_price f.empty.is_value in (
          p.number ∙ ap number12 same ∙ sym f.empty.number,
          p.queues ∙ sym f.queues,
          p.price ∙ ap (λ (r : Option ℕ). get_or r 0) same ∙ sym f.empty.least,
        )

-- the rule's plan, where its call is not refused
module _ {sheet : Sheet} {plan₀ bytes : List ℕ} {a : RuleAnswer} (call : Rules sheet plan₀ a bytes) (done : a.number ≡ 0) where
  abbrev z : View
  z = view_of sheet

  -- the lent plan had room, and is filled
  filled : (row_refusal z (length plan₀) ≡ 0) × RuleFilled z plan₀ bytes
  filled = go (row_refusal z (length plan₀)) (rule_is call)
    where
      go : (refusal : ℕ) → LeavesRuleBy refusal z plan₀ bytes (rule_answered a) → (refusal ≡ 0) × RuleFilled z plan₀ bytes
      go zero (f, e) = (refl, f)
      go (suc refusal) (f, e) = absurd (omega (arith, ap (λ (x : model-pricing.RuleAnswer). x.number) e))

  -- the byte of each slot and bearable queue is the rule's speed
  pub rule_right : RulePlan z bytes
  unfolding N
  rule_right t h w long holds =
      subst (λ (q : Queue). IsRuleSpeed z q (byte_of_queue z bytes t w)) (number_place (M z) w long holds)
      (filled.1.bytes t (number_of (M z) w) h (number_below (M z) w long holds))

  -- the plan has room for every row
  room : row_refusal z (length bytes) ≡ 0
  room = ap (row_refusal z) filled.1.same_length ∙ filled.0

  -- the stepper does not refuse it with 16: not at start, and not at an advance, of the slot that ends or of the one that begins. That a queue
  -- stands in six places is what the machine gives
  pub rule_never_16_at_start : (x : State) → length x.queue ≡ positions → {b : Stepped} → Starts x sheet bytes b → b.number ≡ 16 → ⊥
  rule_never_16_at_start x six starts e =
      rule_starts z bytes room rule_right (state_of x) six (sym ((start_is starts).number_is ∙ (start_number z bytes (state_of x)).0) ∙ e)

  pub rule_never_16 : (x : State) → length x.queue ≡ positions → (size deadline : ℕ) {b : Stepped} →
      Advances x sheet bytes size deadline b → b.number ≡ 16 → ⊥
  rule_never_16 x six size deadline advances e =
      rule_advances z bytes room rule_right (state_of x) six size deadline
      (sym ((advance_is advances).number_is ∙ (advance_number z bytes (state_of x) size deadline).0) ∙ e)
