-- `put_number` meets its contract. The loop's invariant: the groups passed are put, and the others are the code of what is left. What is left
-- gets smaller.
use Rattle.writer.proofs.Coding.{PutGroups}
use Rattle.writer.proofs.numbers.put_number.Given as goal

abbrev pub invariant-loop-rest : goal.invariant-loop-rest
invariant-loop-rest g l = PutGroups g.S.Sink.HasRoom g.S.Sink.Puts l.x l.initial.sink l.rest l.sink

abbrev pub decreases-loop-rest : goal.decreases-loop-rest
decreases-loop-rest g l = l.rest
