-- `Tested::new` meets its contract: a sheet that passed 4 to 10 is accepted, and the sizes of an accepted sheet are measured.
use Rattle.std.proofs.Common.{sym}
use Rattle.model.specs.View.{view_of}
use Rattle.model.specs.Refusal.{value_limit}
use Rattle.model.proofs.Refusal.{accepted, fields_right}
use Rattle.sheets.proofs.Measures.{measured}
use Rattle.sheets.proofs.tested.Tested.new.Goals as goal

pub invariant_of-sizes_of : goal.invariant_of-sizes_of
invariant_of-sizes_of c = record { fields = fields_right value_limit (view_of c.args.sheet) (sym c.in_ok-sheet_refusal.ensures) }

pub invariant_of-result : goal.invariant_of-result
invariant_of-result c =
    let s = view_of c.args.sheet in
    let passed = sym c.in_ok-sheet_refusal.ensures in
    record {
      fields = fields_right value_limit s passed;
      measured = measured s c.sizes_of-sizes.result (accepted s passed) c.sizes_of-sizes.ensures;
    }
