-- `put_bytes` meets its contract. The loop's invariant: the plan bytes passed are put. Each has room, since all of them have.
use Rattle.std.proofs.Common.{length}
use Rattle.buffers.specs.Fills.{number_at}
use Rattle.lines.specs.Lines.{byte_listed}
use Rattle.sinks.proofs.Parts.{PutTo}
use Rattle.lines.proofs.lines.put_bytes.Given as goal

abbrev pub invariant-loop-byte : goal.invariant-loop-byte
invariant-loop-byte g l = PutTo g.S.Sink.HasRoom g.S.Sink.Puts (λ i. byte_listed (number_at l.row i)) (length l.row) l.initial.sink l.byte-index l.sink
