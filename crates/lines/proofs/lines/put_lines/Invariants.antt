-- `put_lines` meets its contract. The loop's invariant: the lines passed are put. Each has room, since all of them have.
use Rattle.lines.specs.Lines.{line_at}
use Rattle.sinks.proofs.Parts.{PutTo}
use Rattle.lines.proofs.lines.put_lines.Given as goal

abbrev pub invariant-loop-slot : goal.invariant-loop-slot
invariant-loop-slot g l = PutTo g.S.Sink.HasRoom g.S.Sink.Puts (line_at l.plan l.queues) l.slots l.initial.sink l.slot l.sink
