-- `put_lines` meets its contract. The loop's invariant: the lines of the blocks passed are put.
use Rattle.rows.specs.Tables.{LinesPut}
use Rattle.rows.proofs.table.put_lines.Given as goal

abbrev pub invariant-loop-place : goal.invariant-loop-place
invariant-loop-place g l = LinesPut g.L.Lanes.column (g.L.Lanes.count l.of) l.place (g.L.Lanes.line l.of) l.initial.numbers l.numbers
