-- What the planner leaves (specs/Plan.antt, `Leaves`) is determined: of two results for the same sheet and the same lent memory, every
-- value, every plan byte and the answer are equal. So no two different planners meet it, and no place is left open by it. Likewise what the
-- rule's call and pricing leave (specs/Pricing.antt).
use Prim.Native.Nat.{ℕ, zero, suc, ◌+◌, ◌*◌, ◌-◌, ◌/◌, ◌%◌, ◌<◌, ◌≤◌}
use mathlib.Core.Path.{◌≡◌, refl, sym, ap, ◌∙◌, subst}
use mathlib.Core.Bool.{Bool, true, false}
use mathlib.Core.List.{List}
use mathlib.Core.Option
use mathlib.Core.Option.{Option, none, some}
use native.Mathlib.Nat.{div-add-mod', div-lt_iff_lt-mul, le_of_lt, le_of_suc-le-suc, mod-lt, mul-zero}
use native.Mathlib.Omega.{arith}
use borrow.Author.Tests.{ltb-true, ltb-false}
use lib.Dec.{ltb}
use lib.ListN.{length, get_or, drop, length-drop}
use lib.Seq.{ext_get_or, get_or-drop}
use Rattle.process.proofs.Definite.{value_unique, first_unique, price_unique}
use Rattle.model.specs.View.{View, weight_at}
use Rattle.model.specs.Plan.{process_of, IsValueAt, IsPlanByte, IsPlanByteAt, queue_at, byte_at, values_needed, value_places, plan_needed, plan_refusal, row_refusal, PlanAnswer, AreValues, PlanFilled, ValuesFilled, FromEmpty, LeavesBy, Leaves, number12}
use Rattle.model.specs.Pricing.{IsRuleSpeed, RuleAnswer, LeavesRuleBy, LeavesRule, speed_by_plan, IsPriceAt, PriceAnswer, LeavesPriceBy, LeavesPrice}
use Rattle.model.specs.Queue.{Queue, empty_queue}
use Rattle.model.specs.Refusal.{N}
use Rattle.model.specs.Width.{Width, value_in}
use Rattle.model.proofs.Width.{Telling}

-- lists that are equal up to n, and from n on, are equal
parts_same : (l m : List ℕ) (n : ℕ) → length l ≡ length m → ((j : ℕ) → j < n → get_or l j 0 ≡ get_or m j 0) → drop n l ≡ drop n m → l ≡ m
parts_same l m n long front rest = ext_get_or 0 l m long (λ j h. go j (ltb j n) refl)
  where
    at_rest : (x : List ℕ) (j : ℕ) → n ≤ j → get_or x j 0 ≡ get_or (drop n x) (j - n) 0
    at_rest x j h = ap (λ (i : ℕ). get_or x i 0) (omega arith) ∙ sym (get_or-drop n x (j - n) 0)

    go : (j : ℕ) (b : Bool) → ltb j n ≡ b → get_or l j 0 ≡ get_or m j 0
    go j true e = front j (ltb-true j n e)
    go j false e =
        let h = ltb-false j n e in
        at_rest l j h ∙ ap (λ (x : List ℕ). get_or x (j - n) 0) rest ∙ sym (at_rest m j h)

-- lists that are equal from n on, place by place, are equal there
pub drop_same : (n : ℕ) (l m : List ℕ) → length l ≡ length m → ((p : ℕ) → n ≤ p → get_or l p 0 ≡ get_or m p 0) → drop n l ≡ drop n m
drop_same n l m long same =
    ext_get_or 0 (drop n l) (drop n m) (length-drop n l ∙ ap (λ (k : ℕ). k - n) long ∙ sym (length-drop n m))
    (λ i h. get_or-drop n l i 0 ∙ same (n + i) (omega arith) ∙ sym (get_or-drop n m i 0))

module _ (s : View) where
  -- a slot and queue have one value
  pub one_value : (t : ℕ) (w : Queue) (r q : Option ℕ) → IsValueAt s t w r → IsValueAt s t w q → r ≡ q
  one_value t w r q = value_unique (process_of s) s.job_count (weight_at s) (s.horizon - t) w r q

  -- and one plan byte
  one_byte : (t : ℕ) (w : Queue) (r : Option ℕ) (byte other : ℕ) → IsPlanByte s t w r byte → IsPlanByte s t w r other → byte ≡ other
  one_byte t w none byte other d e = d ∙ sym e
  one_byte t w (some v) byte other d e = first_unique (process_of s) s.job_count (weight_at s) d e

  -- whatever values a plan byte is right by, there is one
  pub plan_byte_same : (t : ℕ) (w : Queue) (byte other : ℕ) → IsPlanByteAt s t w byte → IsPlanByteAt s t w other → byte ≡ other
  plan_byte_same t w byte other (r, is, d) (q, also, e) =
      one_byte t w q byte other (subst (λ (v : Option ℕ). IsPlanByte s t w v byte) (one_value t w r q is also) d) e

  -- the answer
  pub answer_same : (a b : PlanAnswer) → a.queues ≡ b.queues → FromEmpty s a → FromEmpty s b → a ≡ b
  answer_same a b queues d e =
      let same = one_value 0 (empty_queue s.bound) d.r e.r d.is_value e.is_value in
      let number = d.number ∙ ap number12 same ∙ sym e.number in
      let least = d.least ∙ ap (λ (r : Option ℕ). Option.get_or r 0) same ∙ sym e.least in
      λ i. record { number = number i; queues = queues i; least = least i }

-- a place of rows of n is that of a row, and a place in it
row_and_place : (n rows j : ℕ) → j < rows * n → (j / n < rows) × (j % n < n) × (j / n * n + j % n ≡ j)
row_and_place n rows j l = ((div-lt_iff_lt-mul some).1 l, mod-lt j some, div-add-mod' j n)
  where
    some : 0 < n
    some = go n l
      where
        go : (n : ℕ) → j < rows * n → 0 < n
        go zero h = omega (arith, mul-zero rows)
        go (suc n) h = omega arith

module _ (s : View) where
  -- two plans are the same where each slot and queue have the same byte and what lies behind is the same
  bytes_same : (plan plan' : List ℕ) → length plan ≡ length plan' → drop (plan_needed s) plan ≡ drop (plan_needed s) plan' →
      ((t i : ℕ) → t < s.horizon → i < N s → byte_at s plan t i ≡ byte_at s plan' t i) → plan ≡ plan'
  bytes_same plan plan' long beyond each = parts_same plan plan' (plan_needed s) long at_place beyond
    where
      at_place : (j : ℕ) → j < plan_needed s → get_or plan j 0 ≡ get_or plan' j 0
      at_place j h =
          let p = row_and_place (N s) s.horizon j h in
          subst (λ (k : ℕ). get_or plan k 0 ≡ get_or plan' k 0) p.2 (each (j / N s) (j % N s) p.0 p.1)

  -- the plans of two results, whatever their values
  pub plans_same : (r q : ℕ → ℕ → Option ℕ) (plan₀ plan plan' : List ℕ) → AreValues s r → AreValues s q → PlanFilled s r plan₀ plan →
      PlanFilled s q plan₀ plan' → plan ≡ plan'
  plans_same r q plan₀ plan plan' is also f g =
      bytes_same plan plan' (f.same_length ∙ sym g.same_length) (f.beyond ∙ sym g.beyond)
      (λ t i h l. plan_byte_same s t (queue_at s i) _ _ (r t i, is t i (le_of_lt h) l, f.bytes t i h l)
      (q t i, also t i (le_of_lt h) l, g.bytes t i h l))

  -- the values of two results, where they are right by the same
  values_same : (width : Width) (r q : ℕ → ℕ → Option ℕ) (values₀ values values' : List ℕ) → Telling width values values' →
      ((t i : ℕ) → t ≤ s.horizon → i < N s → r t i ≡ q t i) → ValuesFilled width s r values₀ values →
      ValuesFilled width s q values₀ values' → values ≡ values'
  values_same width r q values₀ values values' tells same f g =
      parts_same values values' (value_places width s) (f.same_length ∙ sym g.same_length) at_place (f.beyond ∙ sym g.beyond)
    where
      at_value : (j : ℕ) → j < values_needed s → value_in width values j ≡ value_in width values' j
      at_value j h =
          let p = row_and_place (N s) (suc s.horizon) j h in
          let t = j / N s in
          let i = j % N s in
          let low = le_of_suc-le-suc p.0 in
          subst (λ (k : ℕ). value_in width values k ≡ value_in width values' k) p.2
          (f.each t i low p.1 ∙ same t i low p.1 ∙ sym (g.each t i low p.1))

      at_place : (j : ℕ) → j < value_places width s → get_or values j 0 ≡ get_or values' j 0
      at_place j h =
          let p = row_and_place width.places (values_needed s) j h in
          subst (λ (k : ℕ). get_or values k 0 ≡ get_or values' k 0) p.2
          (tells (j / width.places) (j % width.places) p.1 (at_value (j / width.places) p.0))

-- two results for the same sheet and the same lent memory are equal
pub leaves_unique : (width : Width) (s : View) (values₀ plan₀ values plan values' plan' : List ℕ) (a b : PlanAnswer) →
    Telling width values values' → Leaves width s values₀ plan₀ values plan a → Leaves width s values₀ plan₀ values' plan' b →
    (values ≡ values') × (plan ≡ plan') × (a ≡ b)
leaves_unique width s values₀ plan₀ values plan values' plan' a b tells = go (plan_refusal width s (length values₀) (length plan₀))
  where
    go : (number : ℕ) → LeavesBy number width s values₀ plan₀ values plan a → LeavesBy number width s values₀ plan₀ values' plan' b →
        (values ≡ values') × (plan ≡ plan') × (a ≡ b)
    go zero f g = (
      values_same s width f.r g.r values₀ values values' tells
          (λ t i h l. one_value s t (queue_at s i) (f.r t i) (g.r t i) (f.are_values t i h l) (g.are_values t i h l)) f.in_values
          g.in_values,
      plans_same s f.r g.r plan₀ plan plan' f.are_values g.are_values f.in_plan g.in_plan,
      answer_same s a b (f.queues ∙ sym g.queues) f.empty g.empty,
    )
    go (suc number) f g = (
      f.values_same ∙ sym g.values_same,
      f.plan_same ∙ sym g.plan_same,
      f.answer ∙ sym g.answer,
    )

-- the rule

-- it sets one speed in a queue
pub one_rule_speed : (s : View) (w : Queue) (speed other : ℕ) → IsRuleSpeed s w speed → IsRuleSpeed s w other → speed ≡ other
one_rule_speed s w speed other f g =
    omega (arith, f.smallest other g.on_sheet_lem g.is_enough, g.smallest speed f.on_sheet_lem f.is_enough)

-- two results of its call are equal
pub rule_unique : (s : View) (plan₀ plan plan' : List ℕ) (a b : RuleAnswer) → LeavesRule s plan₀ plan a → LeavesRule s plan₀ plan' b →
    (plan ≡ plan') × (a ≡ b)
rule_unique s plan₀ plan plan' a b = go (row_refusal s (length plan₀))
  where
    go : (number : ℕ) → LeavesRuleBy number s plan₀ plan a → LeavesRuleBy number s plan₀ plan' b → (plan ≡ plan') × (a ≡ b)
    go zero (f, e) (g, d) = (
      bytes_same s plan plan' (f.same_length ∙ sym g.same_length) (f.beyond ∙ sym g.beyond)
          (λ t i h l. one_rule_speed s (queue_at s i) _ _ (f.bytes t i h l) (g.bytes t i h l)),
      e ∙ sym d,
    )
    go (suc number) (f, e) (g, d) = (f ∙ sym g, e ∙ sym d)

-- pricing

-- a slot and queue have one price
pub one_price : (s : View) (plan : List ℕ) (t : ℕ) (w : Queue) (r q : Option ℕ) → IsPriceAt s plan t w r → IsPriceAt s plan t w q → r ≡ q
one_price s plan t w r q = price_unique (process_of s) s.job_count (weight_at s) (speed_by_plan s plan) (s.horizon - t) w r q

-- two results of its call are equal
pub price_results_unique : (width : Width) (s : View) (plan values₀ values values' : List ℕ) (a b : PriceAnswer) → Telling width values values' →
    LeavesPrice width s plan values₀ values a → LeavesPrice width s plan values₀ values' b → (values ≡ values') × (a ≡ b)
price_results_unique width s plan values₀ values values' a b tells = go (plan_refusal width s (length values₀) (length plan))
  where
    go : (number : ℕ) → LeavesPriceBy number width s plan values₀ values a → LeavesPriceBy number width s plan values₀ values' b →
        (values ≡ values') × (a ≡ b)
    go zero f g =
        let same = one_price s plan 0 (empty_queue s.bound) f.empty g.empty f.is_price g.is_price in
        let number = f.number ∙ ap number12 same ∙ sym g.number in
        let queues = f.queues ∙ sym g.queues in
        let price = f.price ∙ ap (λ (r : Option ℕ). Option.get_or r 0) same ∙ sym g.price in (
          values_same s width f.r g.r values₀ values values' tells
              (λ t i h l. one_price s plan t (queue_at s i) (f.r t i) (g.r t i) (f.are_prices t i h l) (g.are_prices t i h l))
              f.in_values g.in_values,
          λ i. record { number = number i; queues = queues i; price = price i },
        )
    go (suc number) f g = (f.values_same ∙ sym g.values_same, f.answer ∙ sym g.answer)
