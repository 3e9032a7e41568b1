-- `fill_block` meets its contract. The loop's invariant: the queues of the block's first so many steps are filled, and a lane has risen as
-- far as it does in as many steps.
use Prim.Native.Nat.{pred, ◌+◌}
use mathlib.Core.Path.{◌≡◌}
use Rattle.queues.specs.Blocks.{lowest_of, InBlock}
use Rattle.buffers.specs.Fills.{FillsWhere}
use Rattle.value.specs.Narrow.{width}
use Rattle.model.specs.Width.{value_in}
use Rattle.ahead.specs.Pass.{rise_of}
use Rattle.ahead.specs.Steps.{sizes_of, ahead_by}
use Rattle.ahead.proofs.pass.Pass.fill_block.Given as goal

abbrev pub invariant-loop-steps : goal.invariant-loop-steps
invariant-loop-steps l =
    let sizes = sizes_of l.self in
    (l.far ≡ rise_of sizes l.block l.steps) ×
    FillsWhere width.places (value_in width) (ahead_by l.self) 0
    (InBlock sizes.largest (pred sizes.bound) l.block (lowest_of sizes.largest (pred sizes.bound) l.block + l.steps)) l.initial.ahead l.ahead
