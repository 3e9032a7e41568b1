-- `speed_of` meets its contract: the byte that it looks up is the plan's, and is right or not.
use Rattle.std.proofs.Common.{◌≡◌, ℕ, List, sym, ap, subst, ◌∙◌}
use lib.Dec.{T}
use Rattle.laws.proofs.Stepper.{byte_at_lem}
use Rattle.model.proofs.Tests.{check_true, check_false}
use Rattle.model.specs.View.{View, view_of}
use Rattle.model.specs.Plan.{byte_at}
use Rattle.model.specs.Queue.{queue_in, bearable, number_of}
use Rattle.model.specs.Stepper.{byte_right, plan_byte}
use Rattle.sheets.proofs.Measures.{sized_same}
use Rattle.model.specs.declared.Sheet.{Sheet}
use Rattle.sheets.specs.Sizes.{Sized}
use Rattle.sheets.specs.declared.sizes.Sizes.{Sizes}
use Rattle.layout.specs.Places.{byte_in}
use Rattle.layout.proofs.Within.{byte_is, row_within}
use Rattle.ranges.proofs.Answers.{passed_by, failed_by}
use Rattle.stepper.specs.declared.state.State.{State}
use Rattle.stepper.specs.Calls.{state_of}
use Rattle.stepper.proofs.run.Run.speed_of.Goals as goal
use Rattle.stepper.proofs.run.Run.speed_of.Goals.{After-byte_right}

-- the byte looked up is the plan's
byte_found : (s : View) {sizes : Sizes} → Sized s sizes → (plan : List ℕ) (state : State) {byte : ℕ} →
    byte ≡ byte_in sizes.queues plan state.slot (number_of sizes.largest (queue_in sizes.bound state.queue)) → byte ≡ plan_byte s plan (state_of state)
byte_found s sized plan state e =
    e ∙ byte_is s sized plan state.slot _ ∙
    sized_same sized (λ m D. byte_at s plan state.slot (number_of m (queue_in D state.queue))) ∙ sym (byte_at_lem s plan (state_of state))

-- what was asked of it is what 16 asks
asked : (c : After-byte_right) →
    let a = c.args in
    let s = view_of a.self.tested.sheet in
    c.byte_right.result ≡ byte_right s (state_of a.state) (plan_byte s a.self.plan.now (state_of a.state))
asked c =
    let a = c.args in
    let s = view_of a.self.tested.sheet in
    let sized = a.self.ready.sized in
    let plan = a.self.plan.now in
    subst (λ (sheet : Sheet). c.byte_right.result ≡ byte_right (view_of sheet) (state_of a.state) c.byte_of_queue-byte.result) c.ranged.ensures
    c.byte_right.ensures ∙
    ap (byte_right s (state_of a.state))
    (byte_found s sized plan a.state c.byte_of_queue-byte.ensures)

pub byte_of_queue-byte-requires : goal.byte_of_queue-byte-requires
byte_of_queue-byte-requires c =
    let a = c.args in
    let s = view_of a.self.tested.sheet in
    let sized = a.self.ready.sized in (
      a.self.tested.measured,
      row_within s sized a.self.plan.now a.state.slot a.self.ready.room c.requires.1,
      subst T (sym (sized_same sized (λ m D. bearable m (queue_in D a.state.queue)))) c.requires.0,
    )

pub returns-then-not-byte_right-clause-number : goal.returns-then-not-byte_right-clause-number
returns-then-not-byte_right-clause-number c =
    sym (check_false _ 16 (failed_by (asked (goal.at.returns-then-not-byte_right-clause-number c).After-byte_right) c.if-not-byte_right.true))

pub returns-clause-number : goal.returns-clause-number
returns-clause-number c =
    sym (check_true _ 16 (passed_by (asked (goal.at.returns-clause-number c).After-byte_right) c.if-not-byte_right.false))

pub returns-clause-speed : goal.returns-clause-speed
returns-clause-speed c =
    let a = c.args in
    byte_found (view_of a.self.tested.sheet) a.self.ready.sized a.self.plan.now a.state c.byte_of_queue-byte.ensures
