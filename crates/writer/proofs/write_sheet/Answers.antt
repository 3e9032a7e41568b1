-- `write_sheet` meets its contract: the sheet is refused, or the buffer is too short for its bytes, or they are written.
use Rattle.std.proofs.Common.{sym, arith}
use Rattle.std.proofs.lemmas.Result.{err_from_is_err_and}
use Rattle.model.specs.View.{view_of}
use Rattle.model.specs.Refusal.{value_limit}
use Rattle.model.proofs.Refusal.{fields_right}
use Rattle.writer.proofs.Lengths.{sheet_upto}
use Rattle.writer.proofs.Outcomes.{write_refused, write_ends}
use Rattle.writer.proofs.write_sheet.Goals as goal

pub returns-in_err-sheet_refusal : goal.returns-in_err-sheet_refusal
returns-in_err-sheet_refusal c =
    let p = err_from_is_err_and c.from_residual.result c.from_residual.ensures.1 in
    rw (p.1, p.2) (write_refused (view_of c.args.sheet) c.args.buffer.now c.in_err-sheet_refusal.field-0.0 c.in_err-sheet_refusal.ensures)

pub invariant_of-coded : goal.invariant_of-coded
invariant_of-coded c = record { fields = fields_right value_limit (view_of c.args.sheet) (sym c.in_ok-sheet_refusal.ensures) }

pub write-requires : goal.write-requires
write-requires c =
    let few = sheet_upto (view_of c.args.sheet) (fields_right value_limit (view_of c.args.sheet) (sym c.in_ok-sheet_refusal.ensures)) in
    omega (arith, few)

pub returns : goal.returns
returns c =
    write_ends (view_of c.args.sheet) (sym c.in_ok-sheet_refusal.ensures) c.args.buffer.now c.write.new.buffer c.write.result c.write.ensures
