-- `entries_at` meets its contract. The loop's invariant: the entries so far stand in their places, and followed by those that are left they
-- are all the entries that are read.
use Prim.Native.Nat.{◌-◌}
use Rattle.tables.proofs.Rows.{SoFar}
use Rattle.tables.proofs.entries_at.Given as goal

abbrev pub invariant-loop-place : goal.invariant-loop-place
invariant-loop-place g l =
    let all = g.E.Entries.all l.kind in
    SoFar g.row.N g.E.Entries.NONE l.place l.entries (all l.count 0 g.E.Entries.NONE l.bytes l.at) (all (l.count - l.place) l.place l.before l.bytes l.next)
