-- `put_number` meets its contract. The loop's invariant: the groups passed are put, and the others are the code of what is left.
use Rattle.writer.proofs.Coding.{groups_none, groups_room, groups_more, groups_last_room, groups_all}
use Rattle.writer.proofs.numbers.put_number.Goals as goal

pub loop-rest-init : goal.loop-rest-init
loop-rest-init g c = groups_none g.met.S.Sink.takes c.requires.0 c.requires.1

pub put-requires : goal.put-requires
put-requires g c = groups_room g.met.S.Sink.takes c.loop-rest.invariant c.loop-rest-test.true

pub loop-rest-preserved : goal.loop-rest-preserved
loop-rest-preserved g c = groups_more g.met.S.Sink.takes c.loop-rest.invariant c.loop-rest-test.true c.put.ensures

pub put-requires-2 : goal.put-requires-2
put-requires-2 g c = groups_last_room g.met.S.Sink.takes c.loop-rest.invariant c.loop-rest-test.false

pub returns : goal.returns
returns g c = groups_all g.met.S.Sink.takes c.loop-rest.invariant c.loop-rest-test.false c.put-2.ensures
