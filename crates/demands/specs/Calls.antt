-- The calls, as theorems speak of them: what a call was given, what it answered and what it left, where these meet the call's actual
-- contract (`Post` of the call, and no copy of it).
use Rattle.std.specs.Prelude.{ℕ, ◌≡◌, List, length}
use Rattle.std.proofs.Math.Option.{Option}
use borrow.Fn.Kinds.{Dens, res_t, ended_of}
use contract.Lifetimes.{Lfts}
use denote.Triple.Clauses.{AtExit}
use Rattle.model.specs.View.{View, view_of}
use Rattle.model.specs.Plan.{IsValueAt, plan_refusal}
use Rattle.model.specs.Plan as model-plan
use Rattle.model.specs.Pricing.{IsPriceAt}
use Rattle.model.specs.Pricing as model-pricing
use Rattle.model.specs.Queue.{empty_queue}
use Rattle.model.specs.declared.Sheet.{Sheet}
use Rattle.model.specs.Width.{narrow}
use Rattle.reader.specs.declared.ReadSheet.{ReadSheet}
use Rattle.writer.specs.declared.Written.{Written}
use Rattle.reader.proofs.read.Kinds as read-kinds
use Rattle.reader.proofs.read.Reads as read
use Rattle.writer.proofs.write.Kinds as write-kinds
use Rattle.writer.proofs.write.Reads as write
use Rattle.planner.specs.declared.calls.PlanAnswer.{PlanAnswer}
use Rattle.planner.proofs.plan.Kinds as plan-kinds
use Rattle.planner.proofs.plan.Reads as plan
use Rattle.old_rule.specs.declared.call.RuleAnswer.{RuleAnswer}
use Rattle.old_rule.proofs.rule.Kinds as rule-kinds
use Rattle.old_rule.proofs.rule.Reads as rule
use Rattle.pricing.specs.declared.call.PriceAnswer.{PriceAnswer}
use Rattle.pricing.proofs.price.Kinds as price-kinds
use Rattle.pricing.proofs.price.Reads as price
use Rattle.layout.proofs.row.Kinds as row-kinds
use Rattle.layout.proofs.row.Reads as row
use Rattle.listing.specs.declared.call.Listed.{Listed}
use Rattle.listing.proofs.list.Kinds as list-kinds
use Rattle.listing.proofs.list.Reads as list
use Rattle.stepper.specs.declared.state.State.{State}
use Rattle.stepper.specs.declared.state.Stepped.{Stepped}
use Rattle.stepper.proofs.state.State.start.Kinds as start-kinds
use Rattle.stepper.proofs.state.State.start.Reads as start
use Rattle.stepper.proofs.state.State.advance.Kinds as advance-kinds
use Rattle.stepper.proofs.state.State.advance.Reads as advance

-- "In memory a sheet has room for all entries". The checker sees an array as a list of any length; nine and 32 are what the machine gives
pub record HasPlaces (sheet : Sheet) : Type 0 where
  pub nine : length sheet.speeds ≡ 9
  pub thirty_two : length sheet.jobs ≡ 32

-- `read` was given these bytes and answered this
pub record Reads (bytes : List ℕ) (answer : ReadSheet) : Type 0 where
  pub lifetimes : Lfts 1
  pub lent : Dens lifetimes read-kinds.ps
  pub at_exit : AtExit (ended_of 1 read-kinds.ps read-kinds.r) lifetimes
  pub bytes_are : lent.0.now ≡ bytes
  pub contract : read.Post lifetimes lent answer at_exit

-- `write` was given this sheet and lent this buffer; it answered this and left the buffer so
pub record Writes (sheet : Sheet) (before : List ℕ) (answer : Written) (after : List ℕ) : Type 0 where
  pub lifetimes : Lfts 1
  pub lent : Dens lifetimes write-kinds.ps
  pub at_exit : AtExit (ended_of 1 write-kinds.ps write-kinds.r) lifetimes
  pub sheet_written : lent.0 ≡ sheet
  pub before_is : lent.1.0.now ≡ before
  pub after_is : at_exit.1.0.now ≡ after
  pub contract : write.Post lifetimes lent answer at_exit

-- `plan` was given this sheet and lent these values and this plan; it answered this and left them so
pub record Plans (sheet : Sheet) (values₀ plan₀ : List ℕ) (answer : PlanAnswer) (values bytes : List ℕ) : Type 0 where
  pub lifetimes : Lfts 2
  pub lent : Dens lifetimes plan-kinds.ps
  pub at_exit : AtExit (ended_of 2 plan-kinds.ps plan-kinds.r) lifetimes
  pub sheet_planned : lent.0 ≡ sheet
  pub values_before : lent.1.0.now ≡ values₀
  pub plan_before : lent.1.1.0.now ≡ plan₀
  pub values_after : at_exit.1.0.now ≡ values
  pub plan_after : at_exit.1.1.0.now ≡ bytes
  pub contract : plan.Post lifetimes lent answer at_exit

-- `plan` is not refused, where it is lent these: 4 to 11 all pass
abbrev pub IsUnrefused : Sheet → (values₀ plan₀ : List ℕ) → Type 0
IsUnrefused sheet values₀ plan₀ = plan_refusal narrow (view_of sheet) (length values₀) (length plan₀) ≡ 0

-- what a plan answers, as the model says it
abbrev pub answered : PlanAnswer → model-plan.PlanAnswer
answered a = record { number = a.number; queues = a.queues; least = a.least }

-- "12: planned, but the empty queue at slot 0 has none": the value by which `plan` tells 12
abbrev pub IsValueOfEmpty : View → Option ℕ → Type 0
IsValueOfEmpty s r = IsValueAt s 0 (empty_queue s.bound) r

-- `rule` was given this sheet and lent this plan; it answered this and left the plan so
pub record Rules (sheet : Sheet) (plan₀ : List ℕ) (answer : RuleAnswer) (bytes : List ℕ) : Type 0 where
  pub lifetimes : Lfts 1
  pub lent : Dens lifetimes rule-kinds.ps
  pub at_exit : AtExit (ended_of 1 rule-kinds.ps rule-kinds.r) lifetimes
  pub sheet_ruled : lent.0 ≡ sheet
  pub plan_before : lent.1.0.now ≡ plan₀
  pub plan_after : at_exit.1.0.now ≡ bytes
  pub contract : rule.Post lifetimes lent answer at_exit

-- what it answers, as the model says it
abbrev pub rule_answered : RuleAnswer → model-pricing.RuleAnswer
rule_answered a = record { number = a.number; queues = a.queues }

-- `price` was given this sheet and this plan, and lent these values; it answered this and left the values so
pub record Prices (sheet : Sheet) (bytes values₀ : List ℕ) (answer : PriceAnswer) (values : List ℕ) : Type 0 where
  pub lifetimes : Lfts 2
  pub lent : Dens lifetimes price-kinds.ps
  pub at_exit : AtExit (ended_of 2 price-kinds.ps price-kinds.r) lifetimes
  pub sheet_priced : lent.0 ≡ sheet
  pub lent_values : lent.1.0.now ≡ values₀
  pub plan_priced : lent.1.1.0.now ≡ bytes
  pub left_values : at_exit.1.0.now ≡ values
  pub contract : price.Post lifetimes lent answer at_exit

-- what it answers, as the model says it
abbrev pub price_answered : PriceAnswer → model-pricing.PriceAnswer
price_answered a = record { number = a.number; queues = a.queues; price = a.price }

-- [2]: "with none it gives 12": the price by which `price` tells 12
abbrev pub IsPriceOfEmpty : View → List ℕ → Option ℕ → Type 0
IsPriceOfEmpty s bytes r = IsPriceAt s bytes 0 (empty_queue s.bound) r

-- `row` was given this sheet, lent this plan and asked for this slot; it answered this part
pub record Rows (sheet : Sheet) (bytes : List ℕ) (slot : ℕ) (part : List ℕ) : Type 0 where
  pub lifetimes : Lfts 1
  pub lent : Dens lifetimes row-kinds.ps
  pub at_exit : AtExit (ended_of 1 row-kinds.ps row-kinds.r) lifetimes
  pub sheet_asked : lent.0 ≡ sheet
  pub plan_lent : lent.1.0.now ≡ bytes
  pub slot_is : lent.1.1.0 ≡ slot
  pub answer : (res_t row-kinds.r lifetimes).Denot
  pub answer_is : answer.now ≡ part
  pub contract : row.Post lifetimes lent answer at_exit

-- `list` was given this sheet, this least energy and this plan, and lent this buffer; it answered this and left the buffer so
pub record Lists (sheet : Sheet) (least : ℕ) (bytes before : List ℕ) (answer : Listed) (after : List ℕ) : Type 0 where
  pub lifetimes : Lfts 2
  pub lent : Dens lifetimes list-kinds.ps
  pub at_exit : AtExit (ended_of 2 list-kinds.ps list-kinds.r) lifetimes
  pub sheet_listed : lent.0 ≡ sheet
  pub least_is : lent.1.0 ≡ least
  pub plan_listed : lent.1.1.0.now ≡ bytes
  pub before_is : lent.1.1.1.0.now ≡ before
  pub after_is : at_exit.1.1.1.0.now ≡ after
  pub contract : list.Post lifetimes lent answer at_exit

-- `start` of this state was given this sheet and lent this plan; it answered this
pub record Starts (state : State) (sheet : Sheet) (bytes : List ℕ) (answer : Stepped) : Type 0 where
  pub lifetimes : Lfts 1
  pub lent : Dens lifetimes start-kinds.ps
  pub at_exit : AtExit (ended_of 1 start-kinds.ps start-kinds.r) lifetimes
  pub state_started : lent.0 ≡ state
  pub sheet_started : lent.1.0 ≡ sheet
  pub plan_lent : lent.1.1.0.now ≡ bytes
  pub contract : start.Post lifetimes lent answer at_exit

-- `advance` of this state was given this sheet, lent this plan and told of this arrival; it answered this
pub record Advances (state : State) (sheet : Sheet) (bytes : List ℕ) (size deadline : ℕ) (answer : Stepped) : Type 0 where
  pub lifetimes : Lfts 1
  pub lent : Dens lifetimes advance-kinds.ps
  pub at_exit : AtExit (ended_of 1 advance-kinds.ps advance-kinds.r) lifetimes
  pub state_advanced : lent.0 ≡ state
  pub sheet_advanced : lent.1.0 ≡ sheet
  pub plan_followed : lent.1.1.0.now ≡ bytes
  pub size_is : lent.1.1.1.0 ≡ size
  pub deadline_is : lent.1.1.1.1.0 ≡ deadline
  pub contract : advance.Post lifetimes lent answer at_exit
