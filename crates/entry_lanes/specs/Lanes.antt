-- The lanes of the entries. Along a block of queues after a slot (queues/specs/Blocks.antt), before the arrival, the last two totals rise
-- together, by one from each queue to the next. With an entry's arrival they do so too, and the number of the queue then rises by some
-- number in the first step and by one less in each later step than in the one before (`risen`). So it is worked out for the first queue of
-- each block alone, once per plan, and kept in a table (rows/specs/Tables.antt).
use Rattle.std.specs.Prelude.{ℕ, zero, suc, pred, min, ◌+◌, ◌*◌, ◌-◌, ◌≤◌, ◌<◌, ◌≡◌, false, cond, List, T, leb}
use Rattle.model.specs.View.{View, weight_at, size_at, deadline_at}
use Rattle.model.specs.Queue.{Queue, total, bearable, queue_count, number_of, arrive}
use Rattle.queues.specs.Blocks.{first_of, start_of, lowest_of, risen}
use Rattle.slot.specs.Slot.{last_twice}
use Rattle.rows.specs.Tables.{line_of, Table}

-- the first queue of block b of the queues after a slot
abbrev pub first_after : ℕ → ℕ → ℕ → Queue
first_after M D b = last_twice (first_of M (pred D) b)

-- a queue with the arrival of the entry at place j
abbrev pub joined : View → Queue → ℕ → Queue
joined s v j = arrive v (size_at s j) (deadline_at s j)

-- how much an entry lifts the last total but one: by its size, where it is due before D
abbrev pub lift_of : ℕ → ℕ → ℕ → ℕ
lift_of D size deadline = cond (leb deadline (pred D)) size 0

-- for how many steps a queue stays bearable when its last two totals rise by one in each step; 0 where it is not bearable
abbrev pub steps_of : ℕ → ℕ → Queue → ℕ
steps_of M D w = cond (bearable M w) (suc (min (pred D * M - total w (pred D)) (D * M - total w D))) 0

-- for how many steps from v on the queues with each of the first n arrivals stay bearable, and at most as many as the block has
unfoldable pub steps_to : ℕ → ℕ → View → Queue → ℕ → ℕ
steps_to M D s v zero = suc (pred D * M - total v D)
steps_to M D s v (suc j) = min (steps_to M D s v j) (steps_of M D (joined s v j))

-- where the lane of an entry begins: the number of the queue with its arrival
abbrev pub lane_of : ℕ → Queue → ℕ
lane_of M w = cond (bearable M w) (number_of M w) 0

-- the line of block b
abbrev pub entry_line : ℕ → ℕ → View → ℕ → ℕ → ℕ
entry_line M D s b =
    line_of (start_of M (pred D) b) (lowest_of M (pred D) b) (steps_to M D s (first_after M D b) s.job_count)
    (λ j. lane_of M (joined s (first_after M D b) j))

-- the table: the weights of the entries, of which a sheet has at most 32, and how much each lifts, and a line for each block
abbrev pub EntryTable : ℕ → ℕ → View → List ℕ → Type 0
EntryTable M D s l =
    Table 32 s.job_count (queue_count M (pred (pred D))) (weight_at s) (λ j. lift_of D (size_at s j) (deadline_at s j)) (entry_line M D s) l

-- what the lane of an entry says of a queue that is k steps on from the first one; with the arrival the first is w' and this one v'. As
-- long as w' stays bearable, v' is bearable, and its number is as far from the lane's place as numbers rise in k steps, less what the entry
-- lifts in each step
pub record Lane (M D : ℕ) (w' v' : Queue) (lift lowest k : ℕ) : Type 0 where
  pub goes : k < steps_of M D w' → T (bearable M v') × (number_of M v' + k * lift ≡ lane_of M w' + risen (D * M + 1 - lowest) k)
  pub ends : steps_of M D w' ≤ k → bearable M v' ≡ false
