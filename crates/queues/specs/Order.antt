-- Dictionary order: which queues have a number, the sums of counts that a number is made of, and the search that leads from a number to
-- its queue.
use Rattle.std.specs.Prelude.{ℕ, suc, ◌+◌, ◌*◌, ◌-◌, ◌≤◌, ◌<◌, ◌≡◌, List, [], ◌∷◌, T, length, get_or}
use Rattle.process.specs.Sums.{sum}
use Rattle.model.specs.Queue.{Queue, total, bearable, queue_in, continuations, continuation_count}

-- the largest speed of an accepted sheet, and a number of positions: its deadline bound or fewer
pub record Ranges (M D : ℕ) : Type 0 where
  pub speed_low : 1 ≤ M
  pub speed_high : M ≤ 8
  pub bound_high : D ≤ 6

-- in the first D places stands a queue that has a number
pub record Numbered (M D : ℕ) (places : List ℕ) : Type 0 where
  pub ranges : Ranges M D
  pub is_bearable : T (bearable M (queue_in D places))

-- what comes before w at w(u+1): the counts of those that agree with w up to w(u) and have less there. Their totals there are w(u) to
-- w(u+1) - 1, so that their slacks there are as many numbers, from one above w's own slack on. That a number is the sum of these is
-- `number_sum`
unfoldable pub earlier_at : ℕ → Queue → ℕ → ℕ
earlier_at M w u =
    sum (λ j. continuation_count M (length w - suc u) (suc (suc u * M - total w (suc u)) + j)) (total w (suc u) - total w u)

-- the queue at a place in the list of all queues of r positions that may follow a total with its slack
abbrev pub following : ℕ → ℕ → ℕ → ℕ → ℕ → Queue
following M r total slack place = get_or (continuations M r total slack) place []

-- a place in that list
pub record Leads (M r total slack place : ℕ) : Type 0 where
  pub ranges : Ranges M r
  pub slack_high : slack ≤ (6 - r) * M
  pub total_high : total + slack ≤ 48
  pub place_low : place < continuation_count M r slack

-- the queue that followed begins with the next total, and goes on at the next place
pub record Follows (M r total slack place total' slack' place' : ℕ) : Type 0 where
  pub same_queue : following M (suc r) total slack place ≡ total' ∷ following M r total' slack' place'
  pub same_sum : total' + slack' ≡ total + slack + M
  pub place_low : place' < continuation_count M r slack'
