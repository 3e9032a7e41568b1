-- Demand 1, over the calls' actual contracts. Each call's number is n exactly when a test of number n fails and every earlier one passes, 0
-- exactly when all pass (`Tells`, of the call's lines in the model, or of `read_lines`); it is one of the numbers listed (`OneOf`); and a
-- refused call answers and leaves what document 01 says.
use Prim.Native.Nat.{ℕ, zero, suc, ◌≤◌}
use mathlib.Core.Path.{◌≡◌, refl, sym, ap, ◌∙◌, subst}
use mathlib.Core.Bool.{Bool, true, false}
use mathlib.Core.List.{List, [], ◌∷◌}
use mathlib.Core.Logic.{⊎_elim, ◌⊎◌, inl, inr, ◌↔◌}
use mathlib.Core.Option.{Option, none, some, get_or}
use native.Mathlib.Nat.{zero-lt-suc}
use native.Mathlib.Omega.{arith}
use borrow.Author.Tests.{leb-false, ltb-true, ltb-false}
use lib.Dec.{leb, ltb}
use lib.ListN.{length}
use Rattle.process.proofs.Definite.{value_unique}
use Rattle.model.specs.Bytes.{sheet_bytes, write_lines, write_refusal, write}
use Rattle.model.specs.View.{View, view_of, in_memory, weight_at, zero_sheet, M}
use Rattle.model.specs.Listing.{listing, list_lines, list_refusal, list}
use Rattle.model.specs.Plan.{process_of, plan_lines, plan_refusal, number12, Filled, LeavesBy, row_lines, row_refusal}
use Rattle.model.specs.Plan as model-plan
use Rattle.model.specs.Pricing.{LeavesRuleBy, Priced, LeavesPriceBy}
use Rattle.model.specs.Pricing as model-pricing
use Rattle.model.specs.Queue.{empty_queue, bearable}
use Rattle.model.specs.Refusal.{N}
use Rattle.model.specs.Stepper as model-stepper
use Rattle.model.specs.Stepper.{queue_of, plan_byte, begins_right, start_lines, ending_lines, is_entry, moved, advance_lines, energy_limit, zero_state}
use Rattle.model.specs.Tests.{line, ◌⨾◌}
use Rattle.model.specs.declared.Sheet.{Sheet}
use Rattle.model.specs.Width.{narrow}
use Rattle.model.proofs.Leaves.{one_price}
use Rattle.laws.proofs.Listing.{list_number}
use Rattle.laws.proofs.Rooms.{row_none, row_past, row_there, row_accepted}
use Rattle.laws.proofs.RoundTrip.{write_number}
use Rattle.laws.proofs.Stepper.{start_number, advance_number, ending_accepted, byte_on_sheet, moved_by}
use Rattle.laws.proofs.Stepping.{energy_small}
use Rattle.laws.proofs.Written.{wrote_refused}
use Rattle.reader.specs.declared.ReadSheet.{ReadSheet}
use Rattle.writer.specs.declared.Written.{Written}
use Rattle.listing.specs.declared.call.Listed.{Listed}
use Rattle.planner.specs.declared.calls.PlanAnswer.{PlanAnswer}
use Rattle.old_rule.specs.declared.call.RuleAnswer.{RuleAnswer}
use Rattle.pricing.specs.declared.call.PriceAnswer.{PriceAnswer}
use Rattle.stepper.specs.Calls.{state_of}
use Rattle.stepper.specs.declared.state.State.{State}
use Rattle.stepper.specs.declared.state.Stepped.{Stepped}
use Rattle.demands.specs.Calls.{Reads, Writes, Plans, answered, IsValueOfEmpty, Rules, rule_answered, Prices, price_answered, IsPriceOfEmpty, Rows, Lists, Starts, Advances}
use Rattle.orders.specs.Numbers.{FailsFirst, Tells, Answers, AnswersOr12, sheet_in, read_lines}
use Rattle.demands.proofs.Demand2.{planned_filled}
use Rattle.demands.proofs.Determined.{read_is, write_is, plan_is, rule_is, price_is, row_is, list_is, start_is, advance_is}
use Rattle.orders.proofs.InOrder.{all_zero, all_or_fails, later, earlier, answers, NumberedOr12, answers_or_12}
use Rattle.orders.proofs.ReadInOrder.{read_number, read_zero, read_accepted}
use Rattle.orders.proofs.SheetInOrder.{each_field, each_limit, each_of_sheet}

-- read: "Reading goes field by field. .. then its own range is tested before the next field. After the last field: 3, 9, 10"
module _ {bytes : List ℕ} {a : ReadSheet} (call : Reads bytes a) where
  pub read_answers : Answers a.number (read_lines bytes) (1 ∷ 2 ∷ 3 ∷ 4 ∷ 5 ∷ 6 ∷ 7 ∷ 8 ∷ 9 ∷ 10 ∷ [])
  unfolding read_lines
  read_answers =
      let s = sheet_in bytes in
      answers _ _ (read_lines bytes) (each_field _ s _ (λ k. _) _, (_, each_limit _ s _ _ _)) ((read_is call).number_is ∙ read_number bytes)

  -- "A refused read gives an all-zero sheet"
  pub read_refused : (a.number ≡ 0 → ⊥) → a.sheet ≡ zero_sheet
  read_refused refused =
      let promised = read_is call in
      promised.sheet_is ∙ read_zero bytes (λ e. refused (promised.number_is ∙ e))

  -- one that is not refused gives the sheet that the numbers of the bytes are; "places past the counts are .. zero when read"
  pub read_done : a.number ≡ 0 → a.sheet ≡ in_memory (sheet_in bytes)
  read_done e =
      let promised = read_is call in
      promised.sheet_is ∙ read_accepted bytes (sym promised.number_is ∙ e)

-- write: "Planner, writer and row: 4 to 10, 11"
module _ {sheet : Sheet} {before after : List ℕ} {a : Written} (call : Writes sheet before a after) where
  pub write_answers : Answers a.number (write_lines (view_of sheet) (length before)) (4 ∷ 5 ∷ 6 ∷ 7 ∷ 8 ∷ 9 ∷ 10 ∷ 11 ∷ [])
  unfolding write_lines
  write_answers =
      let s = view_of sheet in
      answers _ _ (write_lines s (length before)) (each_of_sheet _ s _ _ _, _) ((write_is call).number_is ∙ write_number s before)

  -- "A refused write .. touches no lent place and reports zero for length"
  pub write_refused : (a.number ≡ 0 → ⊥) → (a.length ≡ 0) × (after ≡ before)
  unfolding write
  write_refused refused =
      let s = view_of sheet in
      wrote_refused (write_refusal s (length before)) (sheet_bytes s) before (write_is call) refused

-- plan: "Planner, writer and row: 4 to 10, 11", and "12: planned, but the empty queue at slot 0 has none"
module _ {sheet : Sheet} {values₀ plan₀ values bytes : List ℕ} {a : PlanAnswer} (call : Plans sheet values₀ plan₀ a values bytes) where
  abbrev s : View
  s = view_of sheet

  -- there is one such value
  one_value : (q r : Option ℕ) → IsValueOfEmpty s q → IsValueOfEmpty s r → q ≡ r
  one_value = value_unique (process_of s) s.job_count (weight_at s) _ (empty_queue s.bound)

  -- the number, by what the planner leaves
  numbered : (refusal : ℕ) → LeavesBy refusal narrow s values₀ plan₀ values bytes (answered a) → NumberedOr12 refusal a.number (IsValueOfEmpty s)
  numbered zero leaves = (leaves.empty.r, leaves.empty.is_value, leaves.empty.number)
  numbered (suc refusal) leaves = ap (λ (x : model-plan.PlanAnswer). x.number) leaves.answer

  pub plan_answers : AnswersOr12 a.number (plan_lines narrow s (length values₀) (length plan₀)) (IsValueOfEmpty s) (4 ∷ 5 ∷ 6 ∷ 7 ∷ 8 ∷ 9 ∷ 10 ∷ 11 ∷ [])
  unfolding plan_lines
  plan_answers =
      let refusal = plan_refusal narrow s (length values₀) (length plan₀) in
      answers_or_12 _ _ _ (plan_lines narrow s (length values₀) (length plan₀)) (each_of_sheet _ s _ _ _, _) (IsValueOfEmpty s)
      (λ v p q. let same = one_value none (some v) p q in let z : ◌≡◌ {A = ℕ} 0 1 = cc in omega arith) refusal refl
      (numbered refusal (plan_is call))

  -- "A refused .. plan touches no lent place and reports zero for .. N and least energy; 12 is the exception"
  pub plan_refused : (a.number ≡ 0 → ⊥) → (a.number ≡ 12 → ⊥) → (a.queues ≡ 0) × (a.least ≡ 0) × (values ≡ values₀) × (bytes ≡ plan₀)
  plan_refused other than-12 = go (plan_refusal narrow s (length values₀) (length plan₀)) (plan_is call)
    where
      planned : (r : Option ℕ) → a.number ≡ number12 r → ⊥
      planned none e = than-12 e
      planned (some v) e = other e

      go : (refusal : ℕ) → LeavesBy refusal narrow s values₀ plan₀ values bytes (answered a) →
          (a.queues ≡ 0) × (a.least ≡ 0) × (values ≡ values₀) × (bytes ≡ plan₀)
      go zero leaves = absurd (planned leaves.empty.r leaves.empty.number)
      go (suc refusal) leaves = (
        ap (λ (x : model-plan.PlanAnswer). x.queues) leaves.answer,
        ap (λ (x : model-plan.PlanAnswer). x.least) leaves.answer,
        leaves.values_same,
        leaves.plan_same,
      )

  -- 12 "fills both buffers and reports N, least energy 0"
  pub plan_12_fills : a.number ≡ 12 →
      Filled narrow s values₀ plan₀ values bytes (answered a) × (a.queues ≡ N s) × (a.least ≡ 0)
  plan_12_fills e =
      let (passed, is_none) = plan_answers.twelve.0 e in
      let filled = planned_filled call (all_zero (plan_lines narrow s (length values₀) (length plan₀)) passed) in
      let same = one_value filled.empty.r none filled.empty.is_value is_none in
      (filled, filled.queues, filled.empty.least ∙ ap (λ (r : Option ℕ). get_or r 0) same)

-- rule: request [2], "Refusals: 4 to 10, 11 as for the planner". It never answers 12
module _ {sheet : Sheet} {plan₀ bytes : List ℕ} {a : RuleAnswer} (call : Rules sheet plan₀ a bytes) where
  -- by what it leaves: the number, and what a refused call answers
  rule_left : (refusal : ℕ) → LeavesRuleBy refusal (view_of sheet) plan₀ bytes (rule_answered a) →
      (a.number ≡ refusal) × ((refusal ≡ 0 → ⊥) → (a.queues ≡ 0) × (bytes ≡ plan₀))
  rule_left zero (filled, e) = (ap (λ (x : model-pricing.RuleAnswer). x.number) e, λ other. absurd (other refl))
  rule_left (suc refusal) (same, e) =
      (ap (λ (x : model-pricing.RuleAnswer). x.number) e, λ other. (ap (λ (x : model-pricing.RuleAnswer). x.queues) e, same))

  pub rule_answers : Answers a.number (row_lines (view_of sheet) (length plan₀)) (4 ∷ 5 ∷ 6 ∷ 7 ∷ 8 ∷ 9 ∷ 10 ∷ 11 ∷ [])
  unfolding row_lines
  rule_answers =
      let s = view_of sheet in
      answers _ _ (row_lines s (length plan₀)) (each_of_sheet _ s _ _ _, _) (rule_left (row_refusal s (length plan₀)) (rule_is call)).0

  -- a refused call touches no lent place and reports zero for N
  pub rule_refused : (a.number ≡ 0 → ⊥) → (a.queues ≡ 0) × (bytes ≡ plan₀)
  rule_refused refused =
      let left = rule_left (row_refusal (view_of sheet) (length plan₀)) (rule_is call) in
      left.1 (λ e. refused (left.0 ∙ e))

-- price: request [2], "Refusals: 4 to 10, 11 as for the planner", and "with none it gives 12"
module _ {sheet : Sheet} {bytes values₀ values : List ℕ} {a : PriceAnswer} (call : Prices sheet bytes values₀ a values) where
  -- the number, by what is left
  price_numbered : (refusal : ℕ) → LeavesPriceBy refusal narrow (view_of sheet) bytes values₀ values (price_answered a) →
      NumberedOr12 refusal a.number (IsPriceOfEmpty (view_of sheet) bytes)
  price_numbered zero leaves = (leaves.empty, leaves.is_price, leaves.number)
  price_numbered (suc refusal) leaves = ap (λ (x : model-pricing.PriceAnswer). x.number) leaves.answer

  pub price_answers : AnswersOr12 a.number (plan_lines narrow (view_of sheet) (length values₀) (length bytes))
      (IsPriceOfEmpty (view_of sheet) bytes) (4 ∷ 5 ∷ 6 ∷ 7 ∷ 8 ∷ 9 ∷ 10 ∷ 11 ∷ [])
  unfolding plan_lines
  price_answers =
      let s = view_of sheet in
      let refusal = plan_refusal narrow s (length values₀) (length bytes) in
      answers_or_12 _ _ _ (plan_lines narrow s (length values₀) (length bytes)) (each_of_sheet _ s _ _ _, _) (IsPriceOfEmpty s bytes)
      (λ v p q.
      let same = one_price s bytes 0 (empty_queue s.bound) none (some v) p q in let z : ◌≡◌ {A = ℕ} 0 1 = cc in omega arith)
      refusal refl (price_numbered refusal (price_is call))

  -- a refused call touches no lent place and reports zero for N and the price
  pub price_refused : (a.number ≡ 0 → ⊥) → (a.number ≡ 12 → ⊥) → (a.queues ≡ 0) × (a.price ≡ 0) × (values ≡ values₀)
  price_refused other than-12 = go (plan_refusal narrow (view_of sheet) (length values₀) (length bytes)) (price_is call)
    where
      priced : (r : Option ℕ) → a.number ≡ number12 r → ⊥
      priced none e = than-12 e
      priced (some v) e = other e

      go : (refusal : ℕ) → LeavesPriceBy refusal narrow (view_of sheet) bytes values₀ values (price_answered a) →
          (a.queues ≡ 0) × (a.price ≡ 0) × (values ≡ values₀)
      go zero leaves = absurd (priced leaves.empty leaves.number)
      go (suc refusal) leaves = (
        ap (λ (x : model-pricing.PriceAnswer). x.queues) leaves.answer,
        ap (λ (x : model-pricing.PriceAnswer). x.price) leaves.answer,
        leaves.values_same,
      )

  -- "with none it gives 12, price 0, buffer filled"; N is reported
  pub price_12_fills : a.number ≡ 12 →
      Priced narrow (view_of sheet) bytes values₀ values (price_answered a) × (a.queues ≡ N (view_of sheet)) × (a.price ≡ 0)
  price_12_fills e =
      let s = view_of sheet in
      let (passed, is_none) = price_answers.twelve.0 e in
      let zero_is = all_zero (plan_lines narrow s (length values₀) (length bytes)) passed in
      let filled = subst (λ (n : ℕ). LeavesPriceBy n narrow s bytes values₀ values (price_answered a)) zero_is (price_is call) in
      let same = one_price s bytes 0 (empty_queue s.bound) filled.empty none filled.is_price is_none in
      (filled, filled.queues, filled.price ∙ ap (λ (r : Option ℕ). get_or r 0) same)

-- row: "A row call answers the part of the caller's plan that belongs to slot t, and an empty part on any refusal or when t is not below T.
-- N is at least 2, so an empty part always means no row". It gives no number

-- the part is empty exactly when a line fails or the slot is not one of the sheet's
pub row_empty : {sheet : Sheet} {bytes part : List ℕ} {slot : ℕ} → Rows sheet bytes slot part →
    (part ≡ []) ↔ (((n : ℕ) × FailsFirst (row_lines (view_of sheet) (length bytes)) n) ⊎ (sheet.horizon ≤ slot))
unfolding row_lines
row_empty {sheet = sheet} {bytes = bytes} {part = part} {slot = slot} call =
    (there (row_refusal s (length bytes)) refl (ltb slot sheet.horizon) refl, ⊎_elim refused past)
  where
    s : View
    s = view_of sheet

    tells : Tells (row_refusal s (length bytes)) (row_lines s (length bytes))
    tells = (answers (4 ∷ 5 ∷ 6 ∷ 7 ∷ 8 ∷ 9 ∷ 10 ∷ 11 ∷ []) _ (row_lines s (length bytes)) (each_of_sheet _ s _ _ _, _) refl).tells

    there : (number : ℕ) → row_refusal s (length bytes) ≡ number → (below : Bool) → ltb slot sheet.horizon ≡ below →
        part ≡ [] → ((n : ℕ) × FailsFirst (row_lines s (length bytes)) n) ⊎ (sheet.horizon ≤ slot)
    there (suc number) e below b empty = inl (suc number, (tells.refused (suc number) (zero-lt-suc number)).0 e)
    there zero e false b empty = inr (ltb-false slot sheet.horizon b)
    there zero e true b empty = absurd (row_there s bytes slot e (ltb-true slot sheet.horizon b) (sym (row_is call) ∙ empty))

    refused : (n : ℕ) × FailsFirst (row_lines s (length bytes)) n → part ≡ []
    refused (n, f) =
        row_is call ∙ sym (row_none s bytes slot refl (λ e. all_or_fails (row_lines s (length bytes)) n (tells.done.0 e) f))

    past : sheet.horizon ≤ slot → part ≡ []
    past h = row_is call ∙ sym (row_past s bytes slot h)

-- list: 4 to 10, then 11 for a plan or a buffer that is too short
module _ {sheet : Sheet} {least : ℕ} {bytes before after : List ℕ} {a : Listed} (call : Lists sheet least bytes before a after) where
  pub list_answers : Answers a.number (list_lines (view_of sheet) least bytes (length before)) (4 ∷ 5 ∷ 6 ∷ 7 ∷ 8 ∷ 9 ∷ 10 ∷ 11 ∷ [])
  unfolding list_lines
  list_answers =
      let s = view_of sheet in
      answers _ _ (list_lines s least bytes (length before)) (each_of_sheet _ s _ _ _, _)
      ((list_is call).number_is ∙ list_number s least bytes before)

  -- a refused listing touches no lent place and reports zero for length, as a refused write does
  pub list_refused : (a.number ≡ 0 → ⊥) → (a.length ≡ 0) × (after ≡ before)
  unfolding list
  list_refused refused =
      let s = view_of sheet in
      wrote_refused (list_refusal s least bytes (length before)) (listing s least bytes) before (list_is call) refused

-- start: request [1], "start checks 4 to 10, 11, 13, 16"
module _ {state : State} {sheet : Sheet} {bytes : List ℕ} {a : Stepped} (call : Starts state sheet bytes a) where
  pub start_answers : Answers a.number (start_lines (view_of sheet) bytes (state_of state)) (4 ∷ 5 ∷ 6 ∷ 7 ∷ 8 ∷ 9 ∷ 10 ∷ 11 ∷ 13 ∷ 16 ∷ [])
  unfolding start_lines row_lines
  start_answers =
      let s = view_of sheet in
      answers _ _ (start_lines s bytes (state_of state)) ((each_of_sheet _ s _ _ _, _), _)
      ((start_is call).number_is ∙ (start_number s bytes (state_of state)).0)

  -- "A refused start gives an all-zero state"; "a refused call's speed is 0"
  pub start_refused : (a.number ≡ 0 → ⊥) → (state_of a.state ≡ zero_state) × (a.speed ≡ 0)
  start_refused refused =
      let promised = start_is call in
      let gives = (start_number (view_of sheet) bytes (state_of state)).1 (λ e. refused (promised.number_is ∙ e)) in
      (promised.state_is ∙ gives.0, promised.speed_is ∙ gives.1)

-- advance: 4 to 10, 11, 13, 14 and 16 for the slot that ends, then 15; request [1], "advance ends with 17, 18, then 16 for the new slot"
module _ {state : State} {sheet : Sheet} {bytes : List ℕ} {size deadline : ℕ} {a : Stepped}
    (call : Advances state sheet bytes size deadline a) where
  pub advance_answers : Answers a.number (advance_lines (view_of sheet) bytes (state_of state) size deadline)
      (4 ∷ 5 ∷ 6 ∷ 7 ∷ 8 ∷ 9 ∷ 10 ∷ 11 ∷ 13 ∷ 14 ∷ 16 ∷ 15 ∷ 17 ∷ 18 ∷ [])
  unfolding advance_lines ending_lines row_lines
  advance_answers =
      let s = view_of sheet in
      answers _ _ (advance_lines s bytes (state_of state) size deadline) (((each_of_sheet _ s _ _ _, _), _), _)
      ((advance_is call).number_is ∙ (advance_number s bytes (state_of state) size deadline).0)

  -- "a refused advance hands back the state it got"; "a refused call's speed is 0"
  pub advance_refused : (a.number ≡ 0 → ⊥) → (state_of a.state ≡ state_of state) × (a.speed ≡ 0)
  advance_refused refused =
      let promised = advance_is call in
      let gives = (advance_number (view_of sheet) bytes (state_of state) size deadline).1 (λ e. refused (promised.number_is ∙ e)) in
      (promised.state_is ∙ gives.0, promised.speed_is ∙ gives.1)

  -- 18 is never answered: 13 bounds the state's energy
  pub advance_never_18 : a.number ≡ 18 → ⊥
  unfolding advance_lines ending_lines row_lines
  advance_never_18 e =
      let s = view_of sheet in
      let x = state_of state in
      let byte = plan_byte s bytes x in
      let next = moved s x byte size deadline in
      let entry = line 15 (is_entry s size deadline) in
      let queue = line 17 (bearable (M s) (queue_of s next)) in
      let energy = line 18 (leb next.energy energy_limit) in
      let begin = line 16 (begins_right s bytes next) in
      let fails = (advance_answers.tells.refused 18 (omega arith)).0 e in
      let (passed, fails-after) = later 18 (ending_lines s bytes x) (entry ⨾ (queue ⨾ energy) ⨾ begin) ((each_of_sheet _ s _ _ _, _), _) fails in
      let in_next = earlier 18 (queue ⨾ energy) begin _ (later 18 entry ((queue ⨾ energy) ⨾ begin) _ fails-after).1 in
      let over = (later 18 queue energy _ in_next).1.0 in
      let right = ending_accepted s bytes x (all_zero (ending_lines s bytes x) passed) in
      let small = energy_small s (row_accepted s (length bytes) right.0).0 x right.1 byte (byte_on_sheet s x byte right.3) in
      let same = ap (λ (y : model-stepper.State). y.energy) (moved_by s x byte size deadline) in
      omega (arith, leb-false next.energy energy_limit over, small, same)
