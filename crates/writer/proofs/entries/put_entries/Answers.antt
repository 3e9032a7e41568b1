-- `put_entries` meets its contract. The loop's invariant: the entries passed are put. Each has room, since all of them have.
use Rattle.std.proofs.Common.{◌+◌, length, take, ap, sym, subst, arith}
use Rattle.std.proofs.lemmas.List.Folds.{length-flat_map-take}
use Rattle.std.specs.List.{flat_map}
use Rattle.writer.proofs.entries.put_entries.Goals as goal

pub put-requires : goal.put-requires
put-requires g c =
    let entries = c.args.entries.now in
    let i = c.loop-entry.entry-index in
    let entry = c.entry-item.result in
    let code = g.E.Entry.code in
    let before = flat_map code (take i entries) in
    let upto = length-flat_map-take code entries i entry c.loop-entry-test.true in
    let here = ap (λ e. length (code e)) c.entry-item.is in
    let takes = g.met.S.Sink.takes in (
      subst g.E.Entry.IsShort (sym c.entry-item.is) (c.requires.0 i entry c.loop-entry-test.true),
      takes.room_left _ _ before (length (code entry)) c.loop-entry.invariant.first
          (takes.room_less _ (length before + length (code entry)) (length (flat_map code entries)) (omega (arith, upto, here)) c.loop-entry.invariant.room),
    )
