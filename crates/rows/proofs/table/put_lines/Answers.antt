-- `put_lines` meets its contract. The loop's invariant: the lines of the blocks passed are put.
use native.Mathlib.Omega.{arith}
use Rattle.rows.proofs.Tables.{put_more}
use Rattle.rows.proofs.table.put_lines.Goals as goal

pub loop-place-preserved : goal.loop-place-preserved
loop-place-preserved g c =
    put_more (g.L.Lanes.blocks c.args.of.now) (omega (arith, c.loop-place-test.true, c.blocks-place-end.ensures.0)) c.requires
    c.put_line.ensures c.loop-place.invariant
