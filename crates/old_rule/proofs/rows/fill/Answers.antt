-- `fill` meets its contract. The loop's invariant: the rows of the slots passed are filled, and nothing else has changed.
use Rattle.std.proofs.Common.{◌≡◌, ℕ, ◌*◌, arith, subst}
use Rattle.model.proofs.Refusal.{ranged}
use Rattle.model.specs.View.{view_of}
use Rattle.model.specs.Refusal.{N}
use Rattle.layout.proofs.Within.{place_is}
use Rattle.old_rule.specs.Rows.{FilledTo}
use Rattle.old_rule.proofs.Filling.{filled_row}
use Rattle.old_rule.proofs.rows.fill.Goals as goal
use Rattle.old_rule.proofs.rows.fill.Goals.{After-place}

-- the row begins behind those of the slots before it
row_is : (c : After-place) → c.place.result ≡ c.loop-slot.slot * N (view_of c.args.tested.sheet)
row_is c = let s = view_of c.args.tested.sheet in omega (arith, place_is s c.requires.0 c.loop-slot.slot 0, c.place.ensures)

pub place-requires : goal.place-requires
place-requires c =
    let right = ranged (view_of c.args.tested.sheet) c.args.tested.fields in
    (c.args.tested.measured.queues_high, omega (arith, right.horizon_high), omega arith)

pub loop-slot-preserved : goal.loop-slot-preserved
loop-slot-preserved c =
    filled_row (view_of c.args.tested.sheet) c.loop-slot.slot c.place.result c.args.tested.sizes.queues c.args.plan.now c.loop-slot.plan c.copy_within.new.self
    c.loop-slot.auto.slot (row_is (goal.at.loop-slot-preserved c).After-place) c.requires.0.queues_is c.loop-slot.invariant c.copy_within.ensures.len
    c.copy_within.ensures.by_index

pub returns : goal.returns
returns c =
    let s = view_of c.args.tested.sheet in
    let last : c.loop-slot.slot ≡ c.args.tested.sheet.horizon = omega (arith, (ranged s c.args.tested.fields).horizon_low, c.loop-slot-test.false) in
    subst (λ (t : ℕ). FilledTo s (t * N s) c.args.plan.now c.loop-slot.plan) last c.loop-slot.invariant
