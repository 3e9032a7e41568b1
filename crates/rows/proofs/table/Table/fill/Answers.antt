-- `fill` meets its contract: the columns, and behind them the lines, which leave the columns as they are.
use mathlib.Core.Path.{refl}
use Rattle.rows.proofs.Tables.{table_whole}
use Rattle.rows.proofs.table.Table.fill.Goals as goal

pub invariant_of-result : goal.invariant_of-result
invariant_of-result g c =
    record {
      filled = table_whole c.put_columns.ensures.few.0 refl c.put_columns.ensures.columns.1 c.put_lines.ensures.lines;
      few = (c.put_columns.ensures.few.0, c.put_columns.ensures.few.1, c.put_lines.ensures.few);
    }
