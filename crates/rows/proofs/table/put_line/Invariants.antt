-- `put_line` meets its contract. The loop's invariant: the head of the line and the lanes passed are put.
use Prim.Native.Nat.{◌+◌}
use Rattle.buffers.specs.Fills.{Fills, number_at}
use Rattle.rows.proofs.table.put_line.Given as goal

abbrev pub invariant-loop-place : goal.invariant-loop-place
invariant-loop-place g l =
    Fills 1 number_at (g.L.Lanes.line l.of l.block.place) l.at (3 + l.place) l.fn.numbers l.numbers
