-- `choose` meets its contract. The loop's invariant: the least so far is the least over the speeds passed, and the cost of those before the
-- first that leads on is none.
use mathlib.Core.Path.{refl}
use native.Mathlib.Omega.{arith}
use Rattle.model.specs.View.{speed_at}
use Rattle.choose.specs.Pass.{sheet_of}
use Rattle.choose.proofs.Choices.{least_begun, least_more}
use Rattle.choose.proofs.Passing.{slowest_few, slower_none}
use Rattle.choose.proofs.pass.Pass.choose.Goals as goal

pub loop-place-init : goal.loop-place-init
loop-place-init c =
    let given = c.args.self.now.given in
    let from = c.requires.line.third_is in (
      omega (arith, from),
      omega (arith, from, slowest_few given c.requires.within.block_low),
      least_begun (speed_at (sheet_of c.args.self.now.lanes.now.of)) _ _ (λ j h. slower_none given c.requires.within j (omega (arith, from)))
          refl,
    )

pub loop-place-preserved : goal.loop-place-preserved
loop-place-preserved c =
    let low = c.loop-place-test.true in (
      omega (arith, c.loop-place.invariant.0),
      omega (arith, low),
      least_more (speed_at (sheet_of c.args.self.now.lanes.now.of)) _ c.loop-place.place
          c.first.ensures c.cost.ensures c.loop-place.invariant.2 c.better-best.ensures,
    )
