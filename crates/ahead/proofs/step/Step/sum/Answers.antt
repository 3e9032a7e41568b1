-- `sum` meets its contract: none from the end of the lanes on, else the sum over the entries.
use mathlib.Core.Path.{sym}
use native.Mathlib.Omega.{arith}
use Rattle.value.specs.Narrow.{width}
use Rattle.ahead.specs.Steps.{sheet_of}
use Rattle.ahead.proofs.Passing.{sum_past}
use Rattle.ahead.proofs.step.Step.sum.Goals as goal

pub returns-then-self : goal.returns-then-self
returns-then-self c =
    let at = c.args.self.now in
    sym (sum_past at.pass.lanes.now.of.tested.now.measured at.at.within (sheet_of at.pass) width at.pass.next at.pass.values.now
    (omega (arith, c.if-self.true, at.at.line.third_is)))
