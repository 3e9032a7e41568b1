-- `fill_block` meets its contract. The loop's invariant: the queues of the block's first so many steps are filled, and a lane has risen as
-- far as it does in as many steps.
use Prim.Native.Nat.{ℕ, suc, pred, ◌+◌, ◌*◌, ◌≤◌, ◌<◌}
use mathlib.Core.Path.{◌≡◌, ap, subst}
use mathlib.Core.List.{List}
use native.Mathlib.Omega.{arith}
use Rattle.model.specs.View.{View}
use Rattle.queues.specs.Blocks.{start_of, lowest_of, InBlock}
use Rattle.queues.proofs.Blocks.{risen_none, risen_more}
use Rattle.sheets.specs.Sizes.{Measured}
use Rattle.sheets.specs.declared.sizes.Sizes.{Sizes}
use Rattle.buffers.specs.Fills.{FillsWhere}
use Rattle.model.specs.Width.{value_in}
use Rattle.value.specs.Narrow.{width}
use Rattle.buffers.proofs.Filling.{fewer_fit, value_local}
use Rattle.rows.proofs.Blocks.{block_none, block_more}
use Rattle.rows.proofs.Room.{after_room}
use Rattle.rows.specs.Tables.{IsLine}
use Rattle.entry_lanes.specs.Lanes.{entry_line}
use Rattle.ahead.specs.Pass.{Within, stepped}
use Rattle.ahead.specs.Steps.{sheet_of, sizes_of, ahead_by}
use Rattle.ahead.proofs.Passing.{most_is, block_low, lowest_high, number_low, risen_small}
use Rattle.ahead.proofs.pass.Pass.fill_block.Goals as goal
use Rattle.ahead.proofs.pass.Pass.fill_block.Goals.{In-loop-steps}

-- the numbers that the code works with: D times M and M, and the line's
record Here (found sizes : Sizes) (b number lowest : ℕ) : Type 0 where
  pub most_is : found.bound * found.largest ≡ sizes.bound * sizes.largest
  pub largest_is : found.largest ≡ sizes.largest
  pub number_is : number ≡ start_of sizes.largest (pred sizes.bound) b
  pub lowest_is : lowest ≡ lowest_of sizes.largest (pred sizes.bound) b
  pub most_fewer : pred sizes.bound * sizes.largest + sizes.largest ≡ sizes.bound * sizes.largest
  pub most_high : sizes.bound * sizes.largest ≤ 48
  pub lowest_low : lowest ≤ pred sizes.bound * sizes.largest

here : (s : View) {found sizes : Sizes} {b number lowest third : ℕ} {lanes : List ℕ} → Measured sizes → b < sizes.blocks → found ≡ sizes →
    IsLine s.job_count (entry_line sizes.largest sizes.bound s b) number lowest third lanes → Here found sizes b number lowest
here s m block e line =
    record {
      most_is = ap (λ (z : Sizes). z.bound * z.largest) e;
      largest_is = ap (λ (z : Sizes). z.largest) e;
      number_is = line.number_is;
      lowest_is = line.lowest_is;
      most_fewer = (most_is m).0;
      most_high = (most_is m).1;
      lowest_low = omega (arith, line.lowest_is, lowest_high m block);
    }

-- a turn of the loop
module _ (c : In-loop-steps) where
  abbrev measured : Measured (sizes_of c.args.self.now)
  measured = c.args.self.now.lanes.now.of.tested.now.measured

  numbers : Here c.sizes-sizes.result (sizes_of c.args.self.now) c.args.block c.line-line.result.number c.line-line.result.lowest
  numbers = here (sheet_of c.args.self.now) measured c.requires.0 c.sizes-sizes.ensures c.line-line.ensures

  -- it is at a queue of the block
  within : Within (sizes_of c.args.self.now) c.args.block c.loop-steps.steps
  within = record { block_low = c.requires.0; steps_high = omega (arith, c.loop-steps-test.true, numbers) }

  -- so that no number is large: the queue's, and how far a lane has risen
  small : (c.line-line.result.number + c.loop-steps.steps < (sizes_of c.args.self.now).after) × (c.line-line.result.number + c.loop-steps.steps < 7084) ×
      (c.loop-steps.far ≤ 48 * 49)
  small = (
    omega (arith, numbers, number_low measured within),
    omega (arith, numbers, number_low measured within, after_room measured),
    omega (arith, c.loop-steps.invariant.0, risen_small measured within),
  )

pub overflow_sub-steps-end-2 : goal.overflow_sub-steps-end-2
overflow_sub-steps-end-2 c =
    omega (arith, here (sheet_of c.args.self.now) c.args.self.now.lanes.now.of.tested.now.measured c.requires.0 c.sizes-sizes.ensures c.line-line.ensures)

pub loop-steps-init : goal.loop-steps-init
loop-steps-init c = (
  risen_none _,
  block_none (value_local width) (block_low c.args.self.now.lanes.now.of.tested.now.measured c.requires.0) (omega arith),
)

pub overflow_add-line : goal.overflow_add-line
overflow_add-line c = omega (arith, small (goal.at.overflow_add-line c).In-loop-steps)

pub invariant_of-step : goal.invariant_of-step
invariant_of-step c =
    record {
      at = record { within = within (goal.at.invariant_of-step c).In-loop-steps; far_is = c.loop-steps.invariant.0; line = c.line-line.ensures };
    }

pub store-requires : goal.store-requires
store-requires c =
    fewer_fit width {m = (sizes_of c.args.self.now).after} (small (goal.at.store-requires c).In-loop-steps).0
    (omega (arith, c.requires.1, c.loop-steps.invariant.1.same_length))

pub overflow_add-far-in-loop-steps : goal.overflow_add-far-in-loop-steps
overflow_add-far-in-loop-steps c =
    let turn = (goal.at.overflow_add-far-in-loop-steps c).In-loop-steps in
    omega (arith, small turn, numbers turn)

pub loop-steps-preserved : goal.loop-steps-preserved
loop-steps-preserved c =
    let turn = (goal.at.loop-steps-preserved c).In-loop-steps in
    let l = c.loop-steps in
    let sizes = sizes_of c.args.self.now in
    let n = numbers turn in (
      risen_more _ l.steps l.invariant.0 (omega (arith, n)),
      block_more (value_local width) (block_low (measured turn) c.requires.0)
          (stepped sizes c.args.block l.steps) (omega arith) (within turn).steps_high (omega arith) (omega arith)
          (omega (arith, n)) c.sum.ensures l.invariant.1 c.store.ensures,
    )

pub returns : goal.returns
returns c =
    let sizes = sizes_of c.args.self.now in
    let n = here (sheet_of c.args.self.now) c.args.self.now.lanes.now.of.tested.now.measured c.requires.0 c.sizes-sizes.ensures c.line-line.ensures in
    let last : lowest_of sizes.largest (pred sizes.bound) c.args.block + c.loop-steps.steps ≡ suc (pred sizes.bound * sizes.largest) =
    omega (arith, c.loop-steps.auto, c.loop-steps-test.false, n) in
    subst
    (λ (x : ℕ). FillsWhere width.places (value_in width) (ahead_by c.args.self.now) 0 (InBlock sizes.largest (pred sizes.bound) c.args.block x)
    c.args.ahead.now c.loop-steps.ahead) last c.loop-steps.invariant.1
