-- `stands_at` is safe: the number of a bearable queue is below N.
use native.Mathlib.Omega.{arith}
use Rattle.queues.proofs.RoundTrip.{number_in_below}
use Rattle.walk_queues.proofs.Size.stands_at.Goals as goal

pub queue_at-requires : goal.queue_at-requires
queue_at-requires c =
    let size = c.args.self.now in (
      size.ranges,
      omega (arith, c.number-found.ensures, number_in_below size.largest size.bound c.args.queue (omega arith) c.requires),
    )
