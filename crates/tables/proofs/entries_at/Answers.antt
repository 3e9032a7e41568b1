-- `entries_at` meets its contract.
use Rattle.std.proofs.Common.{rules, sym, ap, arith, ◌∙◌}
use Rattle.fields.specs.Answers.{answer}
use Rattle.fields.proofs.Told.{passed_on}
use Rattle.tables.proofs.Rows.{begins, goes_on, stops, ends, next_entry, no_entry_left}
use Rattle.tables.proofs.entries_at.Goals as goal

pub loop-place-init : goal.loop-place-init
loop-place-init g c =
    let E = g.E.Entries in
    rw c.NONE-before.ensures (begins _ _ (λ left. E.all c.args.kind.now left 0 E.NONE c.args.bytes.now c.args.at) _ (search rules))

pub returns-in_err-entry : goal.returns-in_err-entry
returns-in_err-entry g c =
    let m = g.met.E.Entries.means c.args.kind.now in
    ap answer (passed_on _ _ c.from_residual.ensures.1) ∙
    stops (next_entry m _ _ _ c.loop-place-test.true) c.loop-place.invariant (sym c.in_err-entry.ensures)

pub loop-place-preserved : goal.loop-place-preserved
loop-place-preserved g c =
    let m = g.met.E.Entries.means c.args.kind.now in
    goes_on (next_entry m _ _ _ c.loop-place-test.true) c.loop-place.invariant (omega arith) (sym c.in_ok-entry.ensures)

pub returns : goal.returns
returns g c =
    let m = g.met.E.Entries.means c.args.kind.now in
    ends c.loop-place.invariant (no_entry_left m _ _ _ _ _ c.loop-place-test.false) (omega arith)
