-- `fill_first` meets its contract. The loop's invariant: the bytes passed are the rule's speeds.
use Rattle.std.proofs.Common.{◌≤◌, ◌<◌, ◌≢◌, length, length-take, sym, subst, arith, below_more, get_or-set_other, get_or-set_same}
use lib.Dec.{T}
use Rattle.model.proofs.Refusal.{Ranged, ranged}
use Rattle.model.specs.View.{view_of, M}
use Rattle.model.specs.Queue.{queue_in, bearable}
use Rattle.model.specs.declared.Sheet.{Sheet}
use Rattle.model.specs.Pricing.{IsRuleSpeed}
use Rattle.old_rule.proofs.Filling.{first_filled, first_within, rule_small, number_low, queue_found, found_bearable}
use Rattle.old_rule.proofs.rows.fill_first.Goals as goal
use Rattle.old_rule.proofs.rows.fill_first.Goals.{Start, In-loop-number, After-speed_of}

-- the sheet keeps its ranges
ranges : (c : Start) → Ranged (view_of c.args.tested.sheet)
ranges c = ranged (view_of c.args.tested.sheet) c.args.tested.fields

-- the row is within the plan
within : (c : Start) → c.args.tested.sizes.queues ≤ length c.args.plan.now
within c = omega (arith, c.requires.0.queues_is, c.requires.1, first_within (view_of c.args.tested.sheet) (ranges c))

-- the number is a queue's
low : (c : In-loop-number) → c.loop-number.number < c.args.tested.sizes.queues
low c = omega (arith, c.loop-number-test.true, length-take c.args.tested.sizes.queues c.args.plan.now)

pub slice_bounds-byte-items-end : goal.slice_bounds-byte-items-end
slice_bounds-byte-items-end c = within (goal.at.slice_bounds-byte-items-end c).Start

pub slice_bounds-byte-items-end-2 : goal.slice_bounds-byte-items-end-2
slice_bounds-byte-items-end-2 c =
    omega (arith, within (goal.at.slice_bounds-byte-items-end-2 c).Start, length-take c.args.tested.sizes.queues c.args.plan.now)

pub queue_at-queue-requires : goal.queue_at-queue-requires
queue_at-queue-requires c =
    (c.args.tested.measured.ranges, number_low (ranges (goal.at.queue_at-queue-requires c).Start) c.requires.0 (low (goal.at.queue_at-queue-requires c).In-loop-number))

pub speed_of-requires : goal.speed_of-requires
speed_of-requires c =
    let at = goal.at.speed_of-requires c in
    subst (λ (s : Sheet). T (bearable (M (view_of s)) (queue_in s.bound c.queue_at-queue.result))) (sym c.ranged-sheet.ensures)
    (found_bearable (ranges at.Start) c.requires.0 (low at.In-loop-number) c.queue_at-queue.ensures)

-- the speed that is set is the rule's
set : (c : After-speed_of) →
    let s = c.args.tested.sheet in
    IsRuleSpeed (view_of s) (queue_in s.bound c.queue_at-queue.result) c.speed_of.result
set c =
    subst (λ (s : Sheet). IsRuleSpeed (view_of s) (queue_in s.bound c.queue_at-queue.result) c.speed_of.result) c.ranged-sheet.ensures
    c.speed_of.ensures

pub overflow_cast-byte : goal.overflow_cast-byte
overflow_cast-byte c =
    omega (arith, rule_small (view_of c.args.tested.sheet) (ranges (goal.at.overflow_cast-byte c).Start) (set (goal.at.overflow_cast-byte c).After-speed_of))

pub loop-number-preserved : goal.loop-number-preserved
loop-number-preserved c =
    let s = view_of c.args.tested.sheet in
    let right = ranges (goal.at.loop-number-preserved c).Start in
    let low-here = low (goal.at.loop-number-preserved c).In-loop-number in
    let here : c.loop-number.number < length c.loop-number.byte-items = omega (arith, c.loop-number.auto.byte-items, c.loop-number-test.true) in
    let speed = subst (λ w. IsRuleSpeed s w c.speed_of.result) (queue_found right c.requires.0 low-here c.queue_at-queue.ensures) (set (goal.at.loop-number-preserved c).After-speed_of) in
    below_more _ _
    (λ i h. let other : i ≢ c.loop-number.number = omega arith in rw get_or-set_other (c.loop-number.invariant i h)) (rw get_or-set_same speed)

pub returns : goal.returns
returns c =
    let all = within (goal.at.returns c).Start in
    let whole = length-take c.args.tested.sizes.queues c.args.plan.now in
    first_filled (view_of c.args.tested.sheet) c.args.tested.sizes.queues c.args.plan.now c.loop-number.byte-items c.requires.0.queues_is all
    (omega (arith, whole, c.loop-number.auto.byte-items)) (λ i h. c.loop-number.invariant i (omega (arith, whole, c.loop-number-test.false)))
