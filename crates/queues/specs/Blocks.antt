-- Blocks of queues. A block has the queues of d positions that differ in their last total alone. In dictionary order they follow each other,
-- and the last total rises by one from each to the next; so do their numbers, which is why a planner needs one number for a block. A
-- block's number is the number of what stands before the last total, which is a queue of one position fewer.
use Rattle.std.specs.Prelude.{ℕ, suc, pred, ◌+◌, ◌-◌, ◌<◌, ◌≡◌, [], length, get_or}
use Rattle.process.specs.Sums.{sum}
use Rattle.model.specs.Queue.{Queue, total, queue_in, bearable_queues, queue_count, number_of}
use Rattle.slot.specs.Slot.{last_twice}

-- the queue of d positions with number n
abbrev pub queue_with : ℕ → ℕ → ℕ → Queue
queue_with M d n = get_or (bearable_queues M d) n []

-- the block that it is in
abbrev pub block_of : ℕ → ℕ → ℕ → ℕ
block_of M d n = number_of M (queue_in (pred d) (queue_with M d n))

-- its last total
abbrev pub last_of : ℕ → ℕ → ℕ → ℕ
last_of M d n = total (queue_with M d n) d

-- the first queue of block b: what stands before the last total, with its own last total once more. (With no position there is one queue,
-- and one block)
abbrev pub first_of : ℕ → ℕ → ℕ → Queue
first_of M d b = queue_in d (last_twice (queue_with M (pred d) b))

-- its number
abbrev pub start_of : ℕ → ℕ → ℕ → ℕ
start_of M d b = number_of M (first_of M d b)

-- its last total, the lowest of the block
abbrev pub lowest_of : ℕ → ℕ → ℕ → ℕ
lowest_of M d b = total (queue_with M (pred d) b) (pred d)

-- the number of the queue of block b that has the last total x
abbrev pub number_in : ℕ → ℕ → ℕ → ℕ → ℕ
number_in M d b x = start_of M d b + (x - lowest_of M d b)

-- there is a queue with number n, and it is in one of the first b blocks
pub record InBlocks (M d b n : ℕ) : Type 0 where
  pub within : n < queue_count M d
  pub block_low : block_of M d n < b

-- there is one, in block b, and its last total is below x
pub record InBlock (M d b x n : ℕ) : Type 0 where
  pub within : n < queue_count M d
  pub block_is : block_of M d n ≡ b
  pub last_low : last_of M d n < x

-- two queues of d positions that differ in their last total alone
pub record Alike (d : ℕ) (v w : Queue) : Type 0 where
  pub long : length v ≡ d
  pub long_too : length w ≡ d
  pub same : (u : ℕ) → u < d → total v u ≡ total w u

-- two queues of d + 1 positions that differ in their last two totals alone, both by k
pub record Shifted (d k : ℕ) (v w : Queue) : Type 0 where
  pub long : length v ≡ suc d
  pub long_too : length w ≡ suc d
  pub same : (u : ℕ) → u < d → total v u ≡ total w u
  pub before_is : total w d ≡ total v d + k
  pub last_is : total w (suc d) ≡ total v (suc d) + k

-- how far a number rises in k steps where it rises by r in the first, and in each later step by one less than before
unfoldable pub risen : ℕ → ℕ → ℕ
risen r k = sum (λ i. r - i) k
