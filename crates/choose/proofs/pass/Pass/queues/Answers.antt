-- `queues` meets its contract: there is a block, and its first queue is one of the row.
use native.Mathlib.Omega.{arith}
use Rattle.choose.proofs.Walk.{some_block}
use Rattle.choose.proofs.pass.Pass.queues.Goals as goal

pub first_queue-requires : goal.first_queue-requires
first_queue-requires c = some_block c.args.self.now.given.measured

pub invariant_of-result : goal.invariant_of-result
invariant_of-result c =
    let queue = c.first_queue.ensures.0 in
    record {
      at = record {
        block_low = queue.within.block_low;
        last_low = queue.within.last_low;
        last_high = omega (arith, queue.within.last_high);
        line = queue.line;
      };
    }
