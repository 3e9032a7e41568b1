-- What is ahead of a queue after a slot, before the arrival: the weighted sum, over the entries, of what a function gives for the queue
-- with each entry's arrival; none as soon as one of these is none. The function may be any from queues to values.
use Rattle.std.specs.Prelude.{ℕ}
use Rattle.std.proofs.Math.Option.{Option}
use Rattle.process.specs.Recursion.{times, sum_or_none}
use Rattle.model.specs.View.{View, weight_at}
use Rattle.model.specs.Queue.{Queue}
use Rattle.entry_lanes.specs.Lanes.{joined}

-- the weighted sum over the first n entries
unfoldable pub sum_to : View → (Queue → Option ℕ) → Queue → ℕ → Option ℕ
sum_to s f v n = sum_or_none (λ j. times (weight_at s j) (f (joined s v j))) n
