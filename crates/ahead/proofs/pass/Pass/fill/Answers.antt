-- `fill` meets its contract. The loop's invariant: what is ahead of the queues of the blocks passed is filled.
use mathlib.Core.Path.{ap}
use native.Mathlib.Omega.{arith}
use Rattle.sheets.specs.declared.sizes.Sizes.{Sizes}
use Rattle.value.specs.Narrow.{width}
use Rattle.buffers.proofs.Filling.{value_local}
use Rattle.rows.proofs.Blocks.{blocks_more, blocks_whole}
use Rattle.ahead.proofs.Passing.{block_low}
use Rattle.ahead.proofs.pass.Pass.fill.Goals as goal
use Rattle.ahead.proofs.pass.Pass.fill.Goals.{Start}

pub loop-block-preserved : goal.loop-block-preserved
loop-block-preserved c =
    let many = ap (λ (z : Sizes). z.blocks) c.sizes-block-end.ensures in
    blocks_more (value_local width) (block_low c.args.self.now.lanes.now.of.tested.now.measured (omega (arith, c.loop-block-test.true, many)))
    c.loop-block.invariant c.fill_block.ensures

pub returns : goal.returns
returns c =
    let measured = c.args.self.now.lanes.now.of.tested.now.measured in
    let many = ap (λ (z : Sizes). z.blocks) c.sizes-block-end.ensures in
    blocks_whole (value_local width) (omega (arith, c.loop-block.auto, c.loop-block-test.false, many, measured.blocks_is)) measured.after_is
    c.loop-block.invariant
