-- The lanes of the speeds. Along a block of queues (queues/specs/Blocks.antt), which differ in their last total alone, the number of the
-- queue after a slot at a speed stays the same while the last total is below the speed, and then rises with it. So it is worked out for
-- the first queue of each block alone, once per plan, and kept in a table (rows/specs/Tables.antt).
use Rattle.std.specs.Prelude.{ℕ, pred, ◌+◌, ◌*◌, ◌-◌, ◌≤◌, ◌<◌, ◌≡◌, Bool, false, cond, ◌&&◌, List, T, leb}
use Rattle.model.specs.View.{View, speed_at, energy_at}
use Rattle.model.specs.Queue.{Queue, total, queue_in, bearable, queue_count, number_of, run}
use Rattle.model.specs.Tests.{first_place}
use Rattle.queues.specs.Blocks.{first_of, start_of, lowest_of}
use Rattle.rows.specs.Tables.{line_of, Table}

-- the positions that determine the queue after a slot
abbrev pub after_of : ℕ → Queue → ℕ → Queue
after_of D w speed = queue_in (pred D) (run w speed)

-- a speed leads on: it is at least w(1), and the queue after the slot is bearable
abbrev pub leads_on : ℕ → ℕ → Queue → ℕ → Bool
leads_on M D w speed = leb (total w 1) speed && bearable M (after_of D w speed)

-- the place of the slowest speed of the sheet that leads on: then every faster one does so too
abbrev pub slowest_in : ℕ → ℕ → View → Queue → ℕ
slowest_in M D s w = first_place (λ j. leads_on M D w (speed_at s j)) s.speed_count

-- where the lane of a speed begins, from a queue on: the number of the queue after the slot
abbrev pub lane_of : ℕ → ℕ → Queue → ℕ → ℕ
lane_of M D w speed = cond (leads_on M D w speed) (number_of M (after_of D w speed)) 0

-- the line of block b
abbrev pub speed_line : ℕ → ℕ → View → ℕ → ℕ → ℕ
speed_line M D s b =
    line_of (start_of M D b) (lowest_of M D b) (slowest_in M D s (first_of M D b)) (λ j. lane_of M D (first_of M D b) (speed_at s j))

-- the table: the speeds and their energies, of which a sheet has at most nine, and a line for each block
abbrev pub SpeedTable : ℕ → ℕ → View → List ℕ → Type 0
SpeedTable M D s l = Table 9 s.speed_count (queue_count M (pred D)) (speed_at s) (energy_at s) (speed_line M D s) l

-- what a lane says of a queue w of its block. Up to a last total of (D-1) times M plus the speed, the speed leads on, and the queue after
-- the slot stands as far from the lane's place as the last total is above `from`; beyond that, the speed does not lead on
pub record Lane (M D : ℕ) (w : Queue) (speed place from : ℕ) : Type 0 where
  pub goes : total w D ≤ pred D * M + speed → T (leads_on M D w speed) × (number_of M (after_of D w speed) ≡ place + (total w D - from))
  pub ends : pred D * M + speed < total w D → leads_on M D w speed ≡ false
