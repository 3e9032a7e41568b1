-- `fill` meets its contract. The loop's invariant: what is ahead of the queues of the blocks passed is filled.
use Prim.Native.Nat.{pred}
use Rattle.queues.specs.Blocks.{InBlocks}
use Rattle.buffers.specs.Fills.{FillsWhere}
use Rattle.value.specs.Narrow.{width}
use Rattle.model.specs.Width.{value_in}
use Rattle.ahead.specs.Steps.{sizes_of, ahead_by}
use Rattle.ahead.proofs.pass.Pass.fill.Given as goal

abbrev pub invariant-loop-block : goal.invariant-loop-block
invariant-loop-block l =
    FillsWhere width.places (value_in width) (ahead_by l.self) 0 (InBlocks (sizes_of l.self).largest (pred (sizes_of l.self).bound) l.block)
    l.initial.ahead l.ahead
