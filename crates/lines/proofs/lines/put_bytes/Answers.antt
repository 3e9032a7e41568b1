-- `put_bytes` meets its contract. The loop's invariant: the plan bytes passed are put. Each has room, since all of them have.
use mathlib.Core.Path.{refl}
use Rattle.model.specs.Listing.{bytes_listed}
use Rattle.sinks.proofs.Parts.{put_to_none, put_to_room, put_to_more, put_to_whole}
use Rattle.lines.proofs.lines.put_bytes.Goals as goal

pub loop-byte-init : goal.loop-byte-init
unfolding bytes_listed
loop-byte-init g c = put_to_none g.met.S.Sink.takes c.requires

pub put_with_text-requires : goal.put_with_text-requires
put_with_text-requires g c = put_to_room g.met.S.Sink.takes c.loop-byte.invariant c.loop-byte-test.true refl

pub loop-byte-preserved : goal.loop-byte-preserved
loop-byte-preserved g c = put_to_more g.met.S.Sink.takes c.loop-byte.invariant c.loop-byte-test.true refl c.put_with_text.ensures

pub returns : goal.returns
unfolding bytes_listed
returns g c = put_to_whole g.met.S.Sink.takes c.loop-byte.invariant c.loop-byte-test.false
