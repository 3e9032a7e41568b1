-- `walk` is safe: each turn meets one queue at most.
use Prim.Native.Nat.{◌≤◌}
use Rattle.walk_queues.proofs.Size.walk.Given as goal

abbrev pub invariant-loop-turn : goal.invariant-loop-turn
invariant-loop-turn l = (l.walked.queues ≤ l._turn) × (l.walked.right ≤ l.walked.queues)
