-- `earlier` meets its contract: at a position of a bearable queue nothing wraps, and the counts that it sums are those that are wanted.
use Prim.Native.Nat.{◌+◌, ◌*◌, ◌≤◌}
use native.Mathlib.Omega.{arith}
use Rattle.model.specs.Queue.{total}
use Rattle.queues.proofs.Numbering.{position_safe, position_needed, position_earlier}
use lib.ListN.{get_or}
use Rattle.queues.proofs.earlier.Goals as goal
use Rattle.queues.proofs.earlier.Goals.{Start}

-- what is known of the position
known : (c : Start) → (total c.args.queue c.args.u ≤ get_or c.args.queue c.args.u 0) ×
    (get_or c.args.queue c.args.u 0 ≤ (c.args.u + 1) * c.args.largest) × ((c.args.u + 1) * c.args.largest ≤ 48)
known c = position_safe c.requires.1 (omega arith) c.args.u c.requires.0

pub overflow_sub-own : goal.overflow_sub-own
overflow_sub-own c = (known (goal.at.overflow_sub-own c).Start).1

pub overflow_sub-first : goal.overflow_sub-first
overflow_sub-first c =
    let (low, high, _) = known (goal.at.overflow_sub-first c).Start in
    omega (arith, c.total.ensures, low, high)

pub sum_of_counts-requires : goal.sum_of_counts-requires
sum_of_counts-requires c = λ g h l. position_needed c.requires.1 (omega arith) c.args.u c.requires.0 g (omega arith)

pub returns : goal.returns
returns c =
    position_earlier c.requires.1 (omega arith) c.args.u c.requires.0
    c.total.result c.sum_of_counts.result c.total.ensures c.sum_of_counts.ensures
