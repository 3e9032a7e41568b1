-- `try_advance` meets its contract: behind the tests of the slot that ends the state is right and its speed the plan's, and behind 17 the next
-- queue is bearable.
use Rattle.std.proofs.Common.{ℕ, ◌≡◌, ◌≤◌, sym, ap, subst, ◌∙◌, arith}
use lib.Dec.{T}
use Rattle.laws.proofs.Stepper.{byte_on_sheet, ending_accepted, moved_by}
use Rattle.lookups.proofs.Looking.{entry_small}
use Rattle.model.specs.declared.Sheet.{Sheet}
use Rattle.model.specs.View.{view_of, on_sheet, M}
use Rattle.model.specs.Queue.{bearable}
use Rattle.model.specs.Refusal.{fields_refusal}
use Rattle.model.specs.Stepper as model
use Rattle.ranges.proofs.Answers.{passed_by}
use Rattle.sheets.specs.Sizes.{Sized}
use Rattle.stepper.proofs.Outcomes.{at_lent, next_bearable}
use Rattle.stepper.specs.Calls.{state_of}
use Rattle.stepper.proofs.state.State.try_advance.Goals as goal
use Rattle.stepper.proofs.state.State.try_advance.Goals.{In_ok-ended, After-ranged-ranged}

-- none of the tests of the slot that ends fails
ended : (c : In_ok-ended) → model.ending_refusal (view_of c.args.sheet) c.args.plan.now (state_of c.args.self) ≡ 0
ended c =
    let run = c.in_ok-run.run' in
    at_lent (λ s plan. model.ending_refusal s plan (state_of c.args.self) ≡ 0) run.tested.sheet c.args.sheet run.plan.now c.args.plan.now
    c.in_ok-run.ensures.given (sym c.in_ok-ended.ensures.number)

-- and the speed is the plan's
speed_is : (c : In_ok-ended) → c.in_ok-ended.ended ≡ model.plan_byte (view_of c.args.sheet) c.args.plan.now (state_of c.args.self)
speed_is c =
    let run = c.in_ok-run.run' in
    at_lent (λ s plan. c.in_ok-ended.ended ≡ model.plan_byte s plan (state_of c.args.self)) run.tested.sheet c.args.sheet run.plan.now c.args.plan.now
    c.in_ok-run.ensures.given c.in_ok-ended.ensures.speed

-- the sheet that was tested is the one lent
lent : (c : After-ranged-ranged) → c.ranged-ranged.result.sheet ≡ c.args.sheet
lent c = c.ranged-ranged.ensures ∙ c.in_ok-run.ensures.given.0

pub moved-requires : goal.moved-requires
moved-requires c =
    let a = c.args in
    let s = view_of a.sheet in
    let x = state_of a.self in
    let run = c.in_ok-run.run' in
    let same = c.in_ok-run.ensures.given.0 in
    let fields = subst (λ (sheet : Sheet). fields_refusal (view_of sheet) ≡ 0) same run.tested.fields in
    let lent-here = lent (goal.at.moved-requires c).After-ranged-ranged in
    let right = ending_accepted s a.plan.now x (ended (goal.at.moved-requires c).In_ok-ended) in
    subst
    (λ (sheet : Sheet). Sized (view_of sheet) run.tested.sizes × T (model.state_right (view_of sheet) x) ×
    T (on_sheet (view_of sheet) c.in_ok-ended.ended) × (a.size ≤ 255))
    (sym lent-here) (
      subst (λ (sheet : Sheet). Sized (view_of sheet) run.tested.sizes) same run.ready.sized,
      right.1,
      subst (λ (speed : ℕ). T (on_sheet s speed)) (sym (speed_is (goal.at.moved-requires c).In_ok-ended))
          (byte_on_sheet s x (model.plan_byte s a.plan.now x) right.3),
      entry_small a.sheet a.size a.deadline fields
          (subst (λ (sheet : Sheet). T (model.is_entry (view_of sheet) a.size a.deadline)) lent-here
          (subst T (sym (passed_by c.is_entry.ensures c.if-not-is_entry.false)) tt)),
    )

pub beginning-requires : goal.beginning-requires
beginning-requires c =
    let a = c.args in
    let s = view_of a.sheet in
    let x = state_of a.self in
    let same = c.in_ok-run.ensures.given.0 in
    let next = model.moved s x c.in_ok-ended.ended a.size a.deadline in
    let sheet_is = lent (goal.at.beginning-requires c).After-ranged-ranged in
    let state_is =
    subst (λ (sheet : Sheet). state_of c.in_ok-next.next ≡ model.moved (view_of sheet) x c.in_ok-ended.ended a.size a.deadline)
    sheet_is c.in_ok-next.ensures.state in
    let passed =
    subst
    (λ (sheet : Sheet).
    model.next_refusal (view_of sheet) (model.moved (view_of sheet) x c.in_ok-ended.ended a.size a.deadline) ≡ 0)
    sheet_is (sym c.in_ok-next.ensures.number) in
    let slot_is = ap (λ (y : model.State). y.slot) (state_is ∙ moved_by s x c.in_ok-ended.ended a.size a.deadline) in (
      subst (λ (sheet : Sheet). T (bearable (M (view_of sheet)) (model.queue_of (view_of sheet) (state_of c.in_ok-next.next)))) (sym same)
          (subst (λ (y : model.State). T (bearable (M s) (model.queue_of s y))) (sym state_is) (next_bearable s next passed)),
      omega (arith, slot_is, ap (λ (sheet : Sheet). sheet.horizon) same, (ending_accepted s a.plan.now x (ended (goal.at.beginning-requires c).In_ok-ended)).2),
    )
