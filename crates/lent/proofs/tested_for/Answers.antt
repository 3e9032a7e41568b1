-- `tested_for` meets its contract: the sheet is refused, or the values are too short for T + 1 rows, or the plan for T, or none of these.
use Prim.Native.Nat.{ℕ, ◌*◌, ◌≤◌}
use mathlib.Core.Path.{◌≡◌, sym, ap, ◌∙◌}
use native.Mathlib.Omega.{arith}
use borrow.Author.Tests.{leb-true, leb-false}
use Rattle.model.proofs.Refusal.{accepted}
use Rattle.layout.proofs.Within.{place_is}
use Rattle.laws.proofs.Rooms.{plan_short_values, plan_short_plan, plan_fits}
use Rattle.model.specs.View.{view_of}
use Rattle.ranges.proofs.Answers.{passed_by, failed_by}
use Rattle.value.specs.Narrow.{width}
use Rattle.lent.proofs.Rooms.{needed_is}
use Rattle.lent.proofs.tested_for.Goals as goal
use Rattle.lent.proofs.tested_for.Goals.{In_ok-tested}
use Rattle.model.specs.Refusal.{sheet_refusal}

-- the sheet is accepted
passed : (c : In_ok-tested) → sheet_refusal width.limit (view_of c.args.sheet) ≡ 0
passed c = sym c.in_ok-tested.ensures.number

-- so that its queues and its slots are few
small : (c : In_ok-tested) → (c.in_ok-tested.tested.sizes.queues ≤ 65535) × (c.args.sheet.horizon ≤ 200)
small c = (
  c.in_ok-tested.tested.measured.queues_high,
  (accepted (view_of c.args.sheet) (let fact : sheet_refusal width.limit (view_of c.args.sheet) ≡ 0 = sym c.in_ok-tested.ensures.number in fact)).ranged.horizon_high,
)

pub place-requires : goal.place-requires
place-requires c = let few = small (goal.at.place-requires c).In_ok-tested in (few.0, omega (arith, few.1), omega (arith, few.0))

pub returns-then-not-fit-clause-number : goal.returns-then-not-fit-clause-number
returns-then-not-fit-clause-number c =
    let s = view_of c.args.sheet in
    plan_short_values s width c.args.values_room c.args.plan_room (passed (goal.at.returns-then-not-fit-clause-number c).In_ok-tested)
    (omega (
      arith,
      leb-false (c.place.result * width.places) c.args.values_room (failed_by c.fit.ensures c.if-not-fit.true),
      ap (λ (n : ℕ). n * width.places) (needed_is s c.in_ok-tested.ensures.sized.1 c.place.ensures),
    ))

pub place-requires-2 : goal.place-requires-2
place-requires-2 c = let few = small (goal.at.place-requires-2 c).In_ok-tested in (few.0, omega (arith, few.1), omega arith)

pub returns-then-plan_room-place-clause-number : goal.returns-then-plan_room-place-clause-number
returns-then-plan_room-place-clause-number c =
    let s = view_of c.args.sheet in
    plan_short_plan s width c.args.values_room c.args.plan_room (passed (goal.at.returns-then-plan_room-place-clause-number c).In_ok-tested)
    (omega (arith, c.if-plan_room-place.true, c.place-2.ensures ∙ place_is s c.in_ok-tested.ensures.sized.1 s.horizon 0))

pub returns-clause-number : goal.returns-clause-number
returns-clause-number c =
    let s = view_of c.args.sheet in
    plan_fits s width c.args.values_room c.args.plan_room (passed (goal.at.returns-clause-number c).In_ok-tested)
    (omega (
      arith,
      leb-true (c.place.result * width.places) c.args.values_room (passed_by c.fit.ensures c.if-not-fit.false),
      ap (λ (n : ℕ). n * width.places) (needed_is s c.in_ok-tested.ensures.sized.1 c.place.ensures),
    ))
    (omega (arith, c.if-plan_room-place.false, c.place-2.ensures ∙ place_is s c.in_ok-tested.ensures.sized.1 s.horizon 0))
