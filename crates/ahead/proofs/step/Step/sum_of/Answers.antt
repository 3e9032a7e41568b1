-- `sum_of` meets its contract. The loop's invariant: the sum so far is that over the entries passed. Once a value is none, so is the sum.
-- That no sum passes the limit need not be in it: it is given for the sum over any number of first entries.
use Prim.Native.Nat.{◌+◌, ◌<◌}
use mathlib.Core.Path.{◌≡◌, sym, ◌∙◌}
use native.Mathlib.Omega.{arith}
use Rattle.process.specs.Recursion.{plus, times}
use Rattle.value.specs.Narrow.{width}
use Rattle.value.specs.Values.{Fits}
use Rattle.value.proofs.Decoding.{missing_none}
use Rattle.ahead.specs.Pass.{sum_left}
use Rattle.ahead.specs.Steps.{sheet_of, sizes_of, number_of}
use Rattle.ahead.proofs.Adding.{sum_begun, sum_none}
use Rattle.ahead.proofs.Passing.{sum_on}
use Rattle.ahead.proofs.step.Step.sum_of.Goals as goal
use Rattle.ahead.proofs.step.Step.sum_of.Goals.{After-value_on-value, After-first}

-- the place is one of an entry
below : (c : After-value_on-value) → c.loop-place.place < (sheet_of c.args.self.now.pass).job_count
below c = omega (arith, c.loop-place-test.true, c.args.self.now.at.line.long)

-- with its value the sum is the next
next : (c : After-first) →
    let pass = c.args.self.now.pass in
    let more = plus c.loop-place.sum (times c.first.result c.value_on-value.result) in
    (more ≡ sum_left width (sheet_of pass) (sizes_of pass) pass.next pass.values.now (number_of c.args.self.now) (c.loop-place.place + 1)) × Fits width more
next c =
    let at = c.args.self.now in
    sum_on at.pass.lanes.now.of.tested.now.measured at.at.within (sheet_of at.pass) at.pass.given (omega (arith, c.loop-place-test.true, at.at.line.long))
    c.first.ensures c.loop-place.invariant c.value_on-value.ensures

pub loop-place-init : goal.loop-place-init
loop-place-init c = c.from-sum.ensures ∙ sum_begun (sheet_of c.args.self.now.pass) _ _

pub returns-then-is_none : goal.returns-then-is_none
returns-then-is_none c =
    let gone = missing_none c.value_on-value.result (sym c.is_none.ensures ∙ c.if-is_none.true) in
    sym
    (sum_none (sheet_of c.args.self.now.pass) _ _ (sheet_of c.args.self.now.pass).job_count c.loop-place.place
    (below (goal.at.returns-then-is_none c).After-value_on-value) (sym c.value_on-value.ensures ∙ gone))

pub plus_times-sum-requires : goal.plus_times-sum-requires
plus_times-sum-requires c = (next (goal.at.plus_times-sum-requires c).After-first).1

pub loop-place-preserved : goal.loop-place-preserved
loop-place-preserved c = c.plus_times-sum.ensures ∙ (next (goal.at.loop-place-preserved c).After-first).0
