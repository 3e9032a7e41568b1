-- `new` meets its contract: the constant passes the test of specs/Rule.antt, which the checker computes here.
use mathlib.Core.Path.{refl}
use Rattle.process.specs.Sums.{sum}
use Rattle.model.specs.Tests.{everywhere}
use Rattle.counts.specs.Rule.{row, rule, row_ruled, ruled}
use Rattle.counts.proofs.Rule.{ruled_holds}
use Rattle.counts.proofs.Counts.new.Goals as goal

pub invariant_of-result : goal.invariant_of-result
unfolding ruled row_ruled row rule everywhere sum
invariant_of-result c = record { holds = ruled_holds _ refl tt }
