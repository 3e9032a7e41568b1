-- `listing` is safe: the length that the listing reports is within the lent bytes.
use native.Mathlib.Omega.{arith}
use lib.Seq.{length-take-le}
use Rattle.model.specs.View.{view_of}
use Rattle.listing.proofs.Within.{listed_within}
use Rattle.console.proofs.listing.Goals as goal

pub slice_bounds-result-end : goal.slice_bounds-result-end
slice_bounds-result-end c =
    let listed = listed_within (view_of c.args.sheet) c.args.least c.args.plan.now _ c.list-listed.ensures in
    let long = length-take-le c.list-listed.result.length c.list-listed.new.buffer (omega (arith, listed)) in
    omega (arith, listed, long)
