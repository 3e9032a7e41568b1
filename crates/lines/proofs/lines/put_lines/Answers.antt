-- `put_lines` meets its contract. The loop's invariant: the lines passed are put. Each has room, since all of them have.
use Rattle.sinks.proofs.Parts.{put_to_none, put_to_room, put_to_more, put_to_whole}
use Rattle.lines.proofs.Rows.{row_of_slot, row_line}
use Rattle.lines.proofs.lines.put_lines.Goals as goal

pub loop-slot-init : goal.loop-slot-init
loop-slot-init g c = put_to_none g.met.S.Sink.takes c.requires.1

pub row_of-requires : goal.row_of-requires
row_of-requires g c = row_of_slot c.requires.0 c.loop-slot-test.true

pub put_line-requires : goal.put_line-requires
put_line-requires g c = put_to_room g.met.S.Sink.takes c.loop-slot.invariant c.loop-slot-test.true (row_line (row_of_slot c.requires.0 c.loop-slot-test.true) c.row_of.ensures)

pub loop-slot-preserved : goal.loop-slot-preserved
loop-slot-preserved g c = put_to_more g.met.S.Sink.takes c.loop-slot.invariant c.loop-slot-test.true (row_line (row_of_slot c.requires.0 c.loop-slot-test.true) c.row_of.ensures) c.put_line.ensures

pub returns : goal.returns
returns g c = put_to_whole g.met.S.Sink.takes c.loop-slot.invariant c.loop-slot-test.false
