-- `scale_of` meets its contract: W to the power T is within number 9's limit, and so it fits.
use native.Mathlib.Omega.{arith}
use Rattle.model.proofs.Refusal.{accepted, fields_right, power_fits}
use Rattle.model.specs.View.{view_of}
use Rattle.model.specs.Refusal.{value_limit}
use Rattle.lines.proofs.header.scale_of.Goals as goal

pub invariant_of-weights : goal.invariant_of-weights
invariant_of-weights c = record { fields = fields_right value_limit (view_of c.args.sheet) c.requires }

pub pow-requires : goal.pow-requires
pow-requires c =
    let s = view_of c.args.sheet in
    let fits = power_fits s (accepted s c.requires) c.args.sheet.horizon (omega arith) in
    rw (c.weights-weight_sum.ensures) (omega (arith, fits))
