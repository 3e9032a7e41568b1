-- `put_line` meets its contract: the slot, the colon, the plan bytes and the line feed are put, each behind the one before it.
use Prim.Native.Nat.{ℕ}
use mathlib.Core.List.{List, ◌++◌}
use lib.ListN.{length}
use Rattle.model.specs.Listing.{text, decimal, bytes_listed, line_of}
use Rattle.buffers.specs.Fills.{number_at}
use Rattle.sinks.proofs.Parts.{room_first, room_then}
use Rattle.lines.proofs.lines.put_line.Goals as goal

-- the line from a part on, where the plan bytes are those of a row

abbrev bytes : List ℕ → List ℕ
bytes row = bytes_listed (number_at row) (length row)

abbrev from_bytes : List ℕ → List ℕ
from_bytes row = bytes row ++ text "\n"

abbrev from_colon : List ℕ → List ℕ
from_colon row = text ":" ++ from_bytes row

pub put_decimal-requires : goal.put_decimal-requires
unfolding line_of
put_decimal-requires g c = room_first g.met.S.Sink.takes (decimal c.args.slot) (from_colon c.args.row.now) c.requires

pub put-requires : goal.put-requires
unfolding line_of
put-requires g c =
    let takes = g.met.S.Sink.takes in
    let row = c.args.row.now in
    room_first takes (text ":") (from_bytes row) (room_then takes (decimal c.args.slot) (from_colon row) c.put_decimal.ensures c.requires)

pub put_bytes-requires : goal.put_bytes-requires
unfolding line_of
put_bytes-requires g c =
    let takes = g.met.S.Sink.takes in
    let row = c.args.row.now in
    room_first takes (bytes row) (text "\n")
    (room_then takes (text ":") (from_bytes row) c.put.ensures (room_then takes (decimal c.args.slot) (from_colon row) c.put_decimal.ensures c.requires))

pub put-requires-2 : goal.put-requires-2
unfolding line_of
put-requires-2 g c =
    let takes = g.met.S.Sink.takes in
    let row = c.args.row.now in
    room_then takes (bytes row) (text "\n") c.put_bytes.ensures
    (room_then takes (text ":") (from_bytes row) c.put.ensures (room_then takes (decimal c.args.slot) (from_colon row) c.put_decimal.ensures c.requires))

pub returns : goal.returns
unfolding line_of
returns g c =
    let takes = g.met.S.Sink.takes in
    let row = c.args.row.now in
    takes.more _ _ _ (decimal c.args.slot) (from_colon row) c.put_decimal.ensures
    (takes.more _ _ _ (text ":") (from_bytes row) c.put.ensures (takes.more _ _ _ (bytes row) (text "\n") c.put_bytes.ensures c.put-2.ensures))
