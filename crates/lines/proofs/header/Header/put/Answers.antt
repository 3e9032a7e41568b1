-- `put` meets its contract: the three texts with their numbers and the line feed are put, each behind the one before it.
use Prim.Native.Nat.{ℕ}
use mathlib.Core.List.{List, ◌++◌}
use Rattle.model.specs.Listing.{text, decimal, header}
use Rattle.lines.specs.declared.header.Header.{Header}
use Rattle.sinks.proofs.Parts.{room_first, room_then}
use Rattle.lines.proofs.header.Header.put.Goals as goal

-- the header's parts, and the header from the second and the third on

abbrev queues : Header → List ℕ
queues h = text "queues " ++ decimal h.queues

abbrev scale : Header → List ℕ
scale h = text " scale " ++ decimal h.scale

abbrev least : Header → List ℕ
least h = text " least " ++ decimal h.least

abbrev from_least : Header → List ℕ
from_least h = least h ++ text "\n"

abbrev from_scale : Header → List ℕ
from_scale h = scale h ++ from_least h

pub put_with_text-requires : goal.put_with_text-requires
unfolding header
put_with_text-requires g c = room_first g.met.S.Sink.takes (queues c.args.self) (from_scale c.args.self) c.requires

pub put_with_text-requires-2 : goal.put_with_text-requires-2
unfolding header
put_with_text-requires-2 g c =
    let takes = g.met.S.Sink.takes in
    let h = c.args.self in
    room_first takes (scale h) (from_least h) (room_then takes (queues h) (from_scale h) c.put_with_text.ensures c.requires)

pub put_with_text-requires-3 : goal.put_with_text-requires-3
unfolding header
put_with_text-requires-3 g c =
    let takes = g.met.S.Sink.takes in
    let h = c.args.self in
    room_first takes (least h) (text "\n")
    (room_then takes (scale h) (from_least h) c.put_with_text-2.ensures (room_then takes (queues h) (from_scale h) c.put_with_text.ensures c.requires))

pub put-requires : goal.put-requires
unfolding header
put-requires g c =
    let takes = g.met.S.Sink.takes in
    let h = c.args.self in
    room_then takes (least h) (text "\n") c.put_with_text-3.ensures
    (room_then takes (scale h) (from_least h) c.put_with_text-2.ensures (room_then takes (queues h) (from_scale h) c.put_with_text.ensures c.requires))

pub returns : goal.returns
unfolding header
returns g c =
    let takes = g.met.S.Sink.takes in
    let h = c.args.self in
    takes.more _ _ _ (queues h) (from_scale h) c.put_with_text.ensures
    (takes.more _ _ _ (scale h) (from_least h) c.put_with_text-2.ensures
    (takes.more _ _ _ (least h) (text "\n") c.put_with_text-3.ensures c.put.ensures))
