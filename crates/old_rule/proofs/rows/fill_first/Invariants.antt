-- `fill_first` meets its contract. The loop's invariant: the bytes passed are the rule's speeds.
use Rattle.std.proofs.Common.{ℕ, ◌<◌, get_or}
use Rattle.model.specs.View.{view_of}
use Rattle.model.specs.Plan.{queue_at}
use Rattle.model.specs.Pricing.{IsRuleSpeed}
use Rattle.old_rule.proofs.rows.fill_first.Given as goal

abbrev pub invariant-loop-number : goal.invariant-loop-number
invariant-loop-number l =
    let s = view_of l.tested.sheet in
    (i : ℕ) → i < l.number → IsRuleSpeed s (queue_at s i) (get_or l.byte-items i 0)
