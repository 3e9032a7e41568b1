-- `put_columns` meets its contract. The loop's invariant: the numbers at the places passed stand in both columns.
use Rattle.rows.specs.Tables.{Columns}
use Rattle.rows.proofs.table.put_columns.Given as goal

abbrev pub invariant-loop-place : goal.invariant-loop-place
invariant-loop-place g l = Columns g.L.Lanes.column l.place (g.L.Lanes.first l.of) (g.L.Lanes.second l.of) l.numbers
