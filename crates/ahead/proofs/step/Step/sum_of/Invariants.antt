-- `sum_of` meets its contract. The loop's invariant: the sum so far is that over the entries passed. Once a value is none, so is the sum.
-- That no sum passes the limit need not be in it: it is given for the sum over any number of first entries.
use mathlib.Core.Path.{◌≡◌}
use Rattle.value.specs.Narrow.{width}
use Rattle.ahead.specs.Pass.{sum_left}
use Rattle.ahead.specs.Steps.{sheet_of, sizes_of, number_of}
use Rattle.ahead.proofs.step.Step.sum_of.Given as goal

abbrev pub invariant-loop-place : goal.invariant-loop-place
invariant-loop-place l =
    let pass = l.self.pass in
    l.sum ≡ sum_left width (sheet_of pass) (sizes_of pass) pass.next pass.values.now (number_of l.self) l.place
