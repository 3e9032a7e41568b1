-- `fill` meets its contract. The loop's invariant: the rows of the slots passed are filled, and nothing else has changed.
use Rattle.std.proofs.Common.{◌*◌}
use Rattle.model.specs.View.{view_of}
use Rattle.model.specs.Refusal.{N}
use Rattle.old_rule.specs.Rows.{FilledTo}
use Rattle.old_rule.proofs.rows.fill.Given as goal

abbrev pub invariant-loop-slot : goal.invariant-loop-slot
invariant-loop-slot l = let s = view_of l.fn.tested.sheet in FilledTo s (l.slot * N s) l.fn.plan l.plan
