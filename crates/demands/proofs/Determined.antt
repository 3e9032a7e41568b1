-- Each public call's contract determines what it answers and what it leaves: any two results that meet it are equal. And places past a
-- sheet's counts are ignored: sheets with equal views give equal answers.
use Prim.Native.Nat.{ℕ}
use mathlib.Core.Path.{◌≡◌, sym, ap, subst, ◌∙◌}
use mathlib.Core.List.{List}
use Rattle.model.specs.Bytes.{write}
use Rattle.model.specs.View.{View, view_of}
use Rattle.model.specs.declared.Sheet.{Sheet}
use Rattle.reader.specs.Calls.{IsRead}
use Rattle.writer.specs.Calls.{IsWritten}
use Rattle.reader.specs.declared.ReadSheet.{ReadSheet}
use Rattle.writer.specs.declared.Written.{Written}
use Rattle.model.specs.Plan.{Leaves, row}
use Rattle.model.specs.Plan as model-plan
use Rattle.model.specs.Pricing.{LeavesRule, LeavesPrice}
use Rattle.model.specs.Pricing as model-pricing
use Rattle.model.proofs.Leaves.{leaves_unique, rule_unique, price_results_unique}
use Rattle.model.proofs.Width.{narrow_telling}
use Rattle.layout.specs.Calls.{IsRow}
use Rattle.planner.specs.Calls.{IsPlan}
use Rattle.planner.specs.declared.calls.PlanAnswer.{PlanAnswer}
use Rattle.old_rule.specs.Calls.{IsRule}
use Rattle.old_rule.specs.declared.call.RuleAnswer.{RuleAnswer}
use Rattle.pricing.specs.Calls.{IsPriced}
use Rattle.pricing.specs.declared.call.PriceAnswer.{PriceAnswer}
use Rattle.model.specs.Listing.{list}
use Rattle.listing.specs.Calls.{IsListed}
use Rattle.listing.specs.declared.call.Listed.{Listed}
use Rattle.model.specs.Stepper as model-stepper
use Rattle.model.specs.Width.{narrow}
use Rattle.stepper.specs.Calls.{state_of, IsStepped}
use Rattle.stepper.specs.declared.state.State.{State}
use Rattle.stepper.specs.declared.state.Stepped.{Stepped}
use Rattle.demands.specs.Calls.{Reads, Writes, Plans, answered, Rules, rule_answered, Prices, price_answered, Rows, Lists, Starts, Advances}

-- read

-- what a read promises of these bytes
pub read_is : {bytes : List ℕ} {answer : ReadSheet} → Reads bytes answer → IsRead bytes answer.number answer.sheet
read_is {answer = answer} call = subst (λ (l : List ℕ). IsRead l answer.number answer.sheet) call.bytes_are call.contract

-- equal numbers and equal sheets are equal answers
same_read : (a b : ReadSheet) → a.number ≡ b.number → a.sheet ≡ b.sheet → a ≡ b
same_read a b e d =
    let given : ℕ → Sheet → ReadSheet = λ n s. record { number = n; sheet = s } in
    ap (λ (n : ℕ). given n a.sheet) e ∙ ap (given b.number) d

pub read_determined : {bytes : List ℕ} {a b : ReadSheet} → Reads bytes a → Reads bytes b → a ≡ b
read_determined {a = a} {b = b} first second =
    let one = read_is first in
    let two = read_is second in
    same_read a b (one.number_is ∙ sym two.number_is) (one.sheet_is ∙ sym two.sheet_is)

-- write

-- what a write promises of this sheet and this buffer
pub write_is : {sheet : Sheet} {before after : List ℕ} {answer : Written} → Writes sheet before answer after →
    IsWritten (view_of sheet) before answer.number answer.length after
write_is {sheet = sheet} {before = before} {answer = answer} call =
    let promised : Sheet → List ℕ → List ℕ → Type 0 = λ s b a. IsWritten (view_of s) b answer.number answer.length a in
    let left = call.at_exit.1.0.now in
    let of-sheet = subst (λ (s : Sheet). promised s call.lent.1.0.now left) call.sheet_written call.contract in
    let of-buffer = subst (λ (l : List ℕ). promised sheet l left) call.before_is of-sheet in
    subst (λ (l : List ℕ). promised sheet before l) call.after_is of-buffer

-- equal numbers and equal lengths are equal answers
same_written : (a b : Written) → a.number ≡ b.number → a.length ≡ b.length → a ≡ b
same_written a b e d =
    let given : ℕ → ℕ → Written = λ n l. record { number = n; length = l } in
    ap (λ (n : ℕ). given n a.length) e ∙ ap (given b.number) d

-- sheets with equal views, written into equal buffers: equal answers and equal buffers. Of one sheet: the contract determines both
pub write_determined : {s t : Sheet} {before after after' : List ℕ} {a b : Written} → view_of s ≡ view_of t →
    Writes s before a after → Writes t before b after' → (a ≡ b) × (after ≡ after')
write_determined {before = before} {a = a} {b = b} view first second =
    let one = write_is first in
    let two = write_is second in (
      same_written a b (one.number_is ∙ ap (λ (s : View). (write s before).number) view ∙ sym two.number_is)
          (one.written_is ∙ ap (λ (s : View). (write s before).written) view ∙ sym two.written_is),
      one.buffer_is ∙ ap (λ (s : View). (write s before).buffer) view ∙ sym two.buffer_is,
    )

-- plan

-- what a plan promises of this sheet and this lent memory
pub plan_is : {sheet : Sheet} {values₀ plan₀ values bytes : List ℕ} {answer : PlanAnswer} → Plans sheet values₀ plan₀ answer values bytes →
    IsPlan (view_of sheet) values₀ plan₀ values bytes answer.number answer.queues answer.least
plan_is {sheet = sheet} {values₀ = values₀} {plan₀ = plan₀} {values = values} {answer = answer} call =
    let promised : Sheet → List ℕ → List ℕ → List ℕ → List ℕ → Type 0 =
    λ s v p w q. IsPlan (view_of s) v p w q answer.number answer.queues answer.least in
    let plan_lent = call.lent.1.1.0.now in
    let values-left = call.at_exit.1.0.now in
    let plan-left = call.at_exit.1.1.0.now in
    let of-sheet = subst (λ (s : Sheet). promised s call.lent.1.0.now plan_lent values-left plan-left) call.sheet_planned call.contract in
    let of_values = subst (λ (l : List ℕ). promised sheet l plan_lent values-left plan-left) call.values_before of-sheet in
    let of-plan = subst (λ (l : List ℕ). promised sheet values₀ l values-left plan-left) call.plan_before of_values in
    let left_values = subst (λ (l : List ℕ). promised sheet values₀ plan₀ l plan-left) call.values_after of-plan in
    subst (λ (l : List ℕ). promised sheet values₀ plan₀ values l) call.plan_after left_values

-- sheets with equal views, planned in equal lent memory: equal values, equal plans, equal answers. Of one sheet: the contract determines
-- every place and the answer
pub plan_determined : {s t : Sheet} {values₀ plan₀ values bytes values' bytes' : List ℕ} {a b : PlanAnswer} → view_of s ≡ view_of t →
    Plans s values₀ plan₀ a values bytes → Plans t values₀ plan₀ b values' bytes' → (values ≡ values') × (bytes ≡ bytes') × (a ≡ b)
plan_determined {t = t} {values₀ = values₀} {plan₀ = plan₀} {values = values} {bytes = bytes} {values' = values'} {bytes' = bytes'} {a = a} {b = b} view first second =
    let one = subst (λ (s : View). Leaves narrow s values₀ plan₀ values bytes (answered a)) view (plan_is first) in
    let same = leaves_unique narrow (view_of t) values₀ plan₀ values bytes values' bytes' (answered a) (answered b) (narrow_telling values values') one
    (plan_is second) in
    let back : model-plan.PlanAnswer → PlanAnswer = λ x. record { number = x.number; queues = x.queues; least = x.least } in
    (same.0, same.1, ap back same.2)

-- rule

-- what the rule's call promises of this sheet and this lent plan
pub rule_is : {sheet : Sheet} {plan₀ bytes : List ℕ} {answer : RuleAnswer} → Rules sheet plan₀ answer bytes →
    IsRule (view_of sheet) plan₀ bytes answer.number answer.queues
rule_is {sheet = sheet} {plan₀ = plan₀} {answer = answer} call =
    let promised : Sheet → List ℕ → List ℕ → Type 0 = λ s p q. IsRule (view_of s) p q answer.number answer.queues in
    let left = call.at_exit.1.0.now in
    let of-sheet = subst (λ (s : Sheet). promised s call.lent.1.0.now left) call.sheet_ruled call.contract in
    let of-plan = subst (λ (l : List ℕ). promised sheet l left) call.plan_before of-sheet in
    subst (λ (l : List ℕ). promised sheet plan₀ l) call.plan_after of-plan

-- sheets with equal views, equal lent plans: equal plans, equal answers. Of one sheet: the contract determines every byte and the answer
pub rule_determined : {s t : Sheet} {plan₀ bytes bytes' : List ℕ} {a b : RuleAnswer} → view_of s ≡ view_of t →
    Rules s plan₀ a bytes → Rules t plan₀ b bytes' → (bytes ≡ bytes') × (a ≡ b)
rule_determined {t = t} {plan₀ = plan₀} {bytes = bytes} {bytes' = bytes'} {a = a} {b = b} view first second =
    let one = subst (λ (s : View). LeavesRule s plan₀ bytes (rule_answered a)) view (rule_is first) in
    let same = rule_unique (view_of t) plan₀ bytes bytes' (rule_answered a) (rule_answered b) one (rule_is second) in
    let back : model-pricing.RuleAnswer → RuleAnswer = λ x. record { number = x.number; queues = x.queues } in
    (same.0, ap back same.1)

-- price

-- what pricing promises of this sheet, this plan and these lent values
pub price_is : {sheet : Sheet} {bytes values₀ values : List ℕ} {answer : PriceAnswer} → Prices sheet bytes values₀ answer values →
    IsPriced (view_of sheet) bytes values₀ values answer.number answer.queues answer.price
price_is {sheet = sheet} {bytes = bytes} {values₀ = values₀} {answer = answer} call =
    let promised : Sheet → List ℕ → List ℕ → List ℕ → Type 0 =
    λ s p v w. IsPriced (view_of s) p v w answer.number answer.queues answer.price in
    let plan = call.lent.1.1.0.now in
    let left = call.at_exit.1.0.now in
    let of-sheet = subst (λ (s : Sheet). promised s plan call.lent.1.0.now left) call.sheet_priced call.contract in
    let of_values = subst (λ (l : List ℕ). promised sheet plan l left) call.lent_values of-sheet in
    let of-plan = subst (λ (l : List ℕ). promised sheet l values₀ left) call.plan_priced of_values in
    subst (λ (l : List ℕ). promised sheet bytes values₀ l) call.left_values of-plan

-- sheets with equal views, the same plan, equal lent values: equal values, equal answers
pub price_determined : {s t : Sheet} {bytes values₀ values values' : List ℕ} {a b : PriceAnswer} → view_of s ≡ view_of t →
    Prices s bytes values₀ a values → Prices t bytes values₀ b values' → (values ≡ values') × (a ≡ b)
price_determined {t = t} {bytes = bytes} {values₀ = values₀} {values = values} {values' = values'} {a = a} {b = b} view first second =
    let one = subst (λ (s : View). LeavesPrice narrow s bytes values₀ values (price_answered a)) view (price_is first) in
    let same = price_results_unique narrow (view_of t) bytes values₀ values values' (price_answered a) (price_answered b)
    (narrow_telling values values') one (price_is second) in
    let back : model-pricing.PriceAnswer → PriceAnswer = λ x. record { number = x.number; queues = x.queues; price = x.price } in
    (same.0, ap back same.1)

-- row

-- what a row promises of this sheet, this plan and this slot
pub row_is : {sheet : Sheet} {bytes part : List ℕ} {slot : ℕ} → Rows sheet bytes slot part → IsRow (view_of sheet) bytes slot part
row_is {sheet = sheet} {bytes = bytes} {slot = slot} call =
    let promised : Sheet → List ℕ → ℕ → List ℕ → Type 0 = λ s l t p. IsRow (view_of s) l t p in
    let slot-asked = call.lent.1.1.0 in
    let of-sheet = subst (λ (s : Sheet). promised s call.lent.1.0.now slot-asked call.answer.now) call.sheet_asked call.contract in
    let of-plan = subst (λ (l : List ℕ). promised sheet l slot-asked call.answer.now) call.plan_lent of-sheet in
    let of-slot = subst (λ (t : ℕ). promised sheet bytes t call.answer.now) call.slot_is of-plan in
    subst (λ (p : List ℕ). promised sheet bytes slot p) call.answer_is of-slot

-- sheets with equal views, the same plan and the same slot: the same part
pub row_determined : {s t : Sheet} {bytes part part' : List ℕ} {slot : ℕ} → view_of s ≡ view_of t →
    Rows s bytes slot part → Rows t bytes slot part' → part ≡ part'
row_determined {bytes = bytes} {slot = slot} view first second =
    row_is first ∙ ap (λ (s : View). row s bytes slot) view ∙ sym (row_is second)

-- list

-- what a listing promises of this sheet, this least energy, this plan and this buffer
pub list_is : {sheet : Sheet} {least : ℕ} {bytes before after : List ℕ} {answer : Listed} → Lists sheet least bytes before answer after →
    IsListed (view_of sheet) least bytes before answer.number answer.length after
list_is {sheet = sheet} {least = least} {bytes = bytes} {before = before} {answer = answer} call =
    let promised : Sheet → ℕ → List ℕ → List ℕ → List ℕ → Type 0 = λ s v l b a. IsListed (view_of s) v l b answer.number answer.length a in
    let plan = call.lent.1.1.0.now in
    let lent = call.lent.1.1.1.0.now in
    let left = call.at_exit.1.1.1.0.now in
    let of-sheet = subst (λ (s : Sheet). promised s call.lent.1.0 plan lent left) call.sheet_listed call.contract in
    let of-least = subst (λ (v : ℕ). promised sheet v plan lent left) call.least_is of-sheet in
    let of-plan = subst (λ (l : List ℕ). promised sheet least l lent left) call.plan_listed of-least in
    let of-buffer = subst (λ (l : List ℕ). promised sheet least bytes l left) call.before_is of-plan in
    subst (λ (l : List ℕ). promised sheet least bytes before l) call.after_is of-buffer

-- equal numbers and equal lengths are equal answers
same_listed : (a b : Listed) → a.number ≡ b.number → a.length ≡ b.length → a ≡ b
same_listed a b e d =
    let given : ℕ → ℕ → Listed = λ n l. record { number = n; length = l } in
    ap (λ (n : ℕ). given n a.length) e ∙ ap (given b.number) d

-- sheets with equal views, listed with one least energy and one plan into equal buffers: equal answers and equal buffers
pub list_determined : {s t : Sheet} {least : ℕ} {bytes before after after' : List ℕ} {a b : Listed} → view_of s ≡ view_of t →
    Lists s least bytes before a after → Lists t least bytes before b after' → (a ≡ b) × (after ≡ after')
list_determined {least = least} {bytes = bytes} {before = before} {a = a} {b = b} view first second =
    let one = list_is first in
    let two = list_is second in (
      same_listed a b (one.number_is ∙ ap (λ (s : View). (list s least bytes before).number) view ∙ sym two.number_is)
          (one.written_is ∙ ap (λ (s : View). (list s least bytes before).written) view ∙ sym two.written_is),
      one.buffer_is ∙ ap (λ (s : View). (list s least bytes before).buffer) view ∙ sym two.buffer_is,
    )

-- a state in memory is what the model says of it
pub state_same : {x y : State} → state_of x ≡ state_of y → x ≡ y
state_same e = ap (λ (z : model-stepper.State). record { queue = z.queue; slot = z.slot; energy = z.energy }) e

-- start and advance answer alike

-- two answers of which the model says the same are equal
same_stepped : {said : model-stepper.Stepped} (a b : Stepped) → IsStepped said a.number a.state a.speed →
    IsStepped said b.number b.state b.speed → a ≡ b
same_stepped a b first second =
    let number = first.number_is ∙ sym second.number_is in
    let state = state_same (first.state_is ∙ sym second.state_is) in
    let speed = first.speed_is ∙ sym second.speed_is in
    λ i. record { number = number i; state = state i; speed = speed i }

-- start

-- what a start promises of this state, this sheet and this plan
pub start_is : {state : State} {sheet : Sheet} {bytes : List ℕ} {answer : Stepped} → Starts state sheet bytes answer →
    IsStepped (model-stepper.start (view_of sheet) bytes (state_of state)) answer.number answer.state answer.speed
start_is {state = state} {sheet = sheet} {answer = answer} call =
    let promised : State → Sheet → List ℕ → Type 0 =
    λ x s l. IsStepped (model-stepper.start (view_of s) l (state_of x)) answer.number answer.state answer.speed in
    let plan = call.lent.1.1.0.now in
    let of-state = subst (λ (x : State). promised x call.lent.1.0 plan) call.state_started call.contract in
    let of-sheet = subst (λ (s : Sheet). promised state s plan) call.sheet_started of-state in
    subst (λ (l : List ℕ). promised state sheet l) call.plan_lent of-sheet

-- sheets with equal views, the same state and the same plan: the same answer
pub start_determined : {state : State} {s t : Sheet} {bytes : List ℕ} {a b : Stepped} → view_of s ≡ view_of t →
    Starts state s bytes a → Starts state t bytes b → a ≡ b
start_determined {state = state} {bytes = bytes} {a = a} {b = b} view first second =
    same_stepped a b
    (subst (λ (s : View). IsStepped (model-stepper.start s bytes (state_of state)) a.number a.state a.speed) view (start_is first))
    (start_is second)

-- advance

-- what an advance promises of this state, this sheet, this plan and this arrival
pub advance_is : {state : State} {sheet : Sheet} {bytes : List ℕ} {size deadline : ℕ} {answer : Stepped} →
    Advances state sheet bytes size deadline answer →
    IsStepped (model-stepper.advance (view_of sheet) bytes (state_of state) size deadline) answer.number answer.state answer.speed
advance_is {state = state} {sheet = sheet} {bytes = bytes} {size = size} {answer = answer} call =
    let promised : State → Sheet → List ℕ → ℕ → ℕ → Type 0 =
    λ x s l c d. IsStepped (model-stepper.advance (view_of s) l (state_of x) c d) answer.number answer.state answer.speed in
    let plan = call.lent.1.1.0.now in
    let arriving = call.lent.1.1.1.0 in
    let due = call.lent.1.1.1.1.0 in
    let of-state = subst (λ (x : State). promised x call.lent.1.0 plan arriving due) call.state_advanced call.contract in
    let of-sheet = subst (λ (s : Sheet). promised state s plan arriving due) call.sheet_advanced of-state in
    let of-plan = subst (λ (l : List ℕ). promised state sheet l arriving due) call.plan_followed of-sheet in
    let of_size = subst (λ (c : ℕ). promised state sheet bytes c due) call.size_is of-plan in
    subst (λ (d : ℕ). promised state sheet bytes size d) call.deadline_is of_size

-- sheets with equal views, the same state, the same plan and the same arrival: the same answer
pub advance_determined : {state : State} {s t : Sheet} {bytes : List ℕ} {size deadline : ℕ} {a b : Stepped} → view_of s ≡ view_of t →
    Advances state s bytes size deadline a → Advances state t bytes size deadline b → a ≡ b
advance_determined {state = state} {bytes = bytes} {size = size} {deadline = deadline} {a = a} {b = b} view first second =
    same_stepped a b
    (subst (λ (s : View). IsStepped (model-stepper.advance s bytes (state_of state) size deadline) a.number a.state a.speed) view
    (advance_is first))
    (advance_is second)
