-- The number of a queue and the queue of a number undo each other, in the six places that a queue stands in: what callers need to know of
-- `number` and `queue_at` together.
use Prim.Native.Nat.{ℕ, ◌≤◌, ◌<◌}
use mathlib.Core.Path.{◌≡◌}
use mathlib.Core.List.{List, []}
use native.Mathlib.Omega.{arith}
use lib.ListN.{length, get_or}
use Rattle.model.specs.Queue.{queue_in, places_of, bearable_queues, queue_count, number_of}
use Rattle.model.proofs.Queues.{listed_bearable, number_below, number_place, number_of_place, length_in, in_first_places}
use Rattle.queues.specs.Order.{Ranges, Numbered}
use Rattle.slot.proofs.Places.{places_in}

-- of a queue in the first D places

module _ (M D : ℕ) (places : List ℕ) (six : length places ≡ 6) (n : Numbered M D places) where
  -- it has D positions
  long : length (queue_in D places) ≡ D
  long = length_in D places (omega (arith, n.ranges.bound_high))

  -- its number is below N
  pub number_in_below : number_of M (queue_in D places) < queue_count M D
  number_in_below = number_below M (queue_in D places) long n.is_bearable

  -- the queue of its number is this queue, and so it stands in these places, where the unused ones are zero
  pub places_of_number : ((i : ℕ) → D ≤ i → i < 6 → get_or places i 0 ≡ 0) →
      places_of (get_or (bearable_queues M D) (number_of M (queue_in D places)) []) ≡ places
  places_of_number unused = rw (number_place M (queue_in D places) long n.is_bearable) (places_in D places six unused)

-- the queue of a number below N, in its places, has this number
pub number_of_queue : (M D i : ℕ) → Ranges M D → i < queue_count M D →
    number_of M (queue_in D (places_of (get_or (bearable_queues M D) i []))) ≡ i
number_of_queue M D i n h =
    rw (in_first_places D (get_or (bearable_queues M D) i []) (listed_bearable M D i h).0 n.bound_high) (number_of_place M D i h)
