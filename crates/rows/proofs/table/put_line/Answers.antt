-- `put_line` meets its contract. The loop's invariant: the head of the line and the lanes passed are put.
use Rattle.rows.proofs.table.put_line.Goals as goal

pub loop-place-init : goal.loop-place-init
loop-place-init g c = c.put_head.ensures _ c.head.ensures.0 c.head.ensures.1 c.head.ensures.2
