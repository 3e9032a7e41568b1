-- `put_entries` meets its contract. The loop's invariant: the entries passed are put, and there was room for all.
use Rattle.std.proofs.Common.{length, take}
use Rattle.std.specs.List.{flat_map}
use Rattle.writer.proofs.entries.put_entries.Given as goal

abbrev pub invariant-loop-entry : goal.invariant-loop-entry
invariant-loop-entry g l =
    record {
      room : g.S.Sink.HasRoom l.initial.sink (length (flat_map g.E.Entry.code l.entries));
      first : g.S.Sink.Puts l.initial.sink (flat_map g.E.Entry.code (take l.entry-index l.entries)) l.sink;
    }
