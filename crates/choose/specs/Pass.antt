-- What the functions of the second pass ask for and what they leave, over any width of a value and whatever is ahead.
use Rattle.std.specs.Prelude.{ℕ, suc, ◌+◌, ◌*◌, ◌-◌, ◌≤◌, ◌<◌, ◌≡◌, ◌⊎◌, List, length}
use Rattle.std.proofs.Math.Option.{Option, some}
use Rattle.process.specs.Recursion.{worth}
use Rattle.model.specs.View.{View, view_of}
use Rattle.model.specs.Refusal.{fields_refusal}
use Rattle.model.specs.Queue.{Queue, queue_count}
use Rattle.queues.specs.Blocks.{queue_with, first_of, lowest_of, last_of, block_of, number_in}
use Rattle.buffers.specs.Fills.{Fills, FillsWhere, number_at}
use Rattle.model.specs.Width.{Width, value_in}
use Rattle.sheets.specs.Sizes.{Measured}
use Rattle.sheets.specs.declared.sizes.Sizes.{Sizes}
use Rattle.rows.specs.Tables.{IsLine}
use Rattle.speed_lanes.specs.declared.speeds.Speeds.{Speeds}
use Rattle.speed_lanes.specs.Lanes.{slowest_in, speed_line}
use Rattle.choose.specs.declared.pass.Queue as row
use Rattle.choose.specs.Choice.{cost_at, least_in, byte_of}

-- of the speeds of a tested sheet: the sheet, and its sizes
abbrev pub sheet_of : Speeds → View
sheet_of speeds = view_of speeds.tested.now.sheet

abbrev pub sizes_of : Speeds → Sizes
sizes_of speeds = speeds.tested.now.sizes

-- what the pass is given: a sheet whose fields are in range and its sizes, a buffer of what is ahead, and a scale with which no cost exceeds
-- the limit of a value
pub record Given (width : Width) (s : View) (sizes : Sizes) (scale : Option ℕ) (ahead : List ℕ) : Type 0 where
  pub fields : fields_refusal s ≡ 0
  pub measured : Measured sizes
  pub room : sizes.after * width.places ≤ length ahead
  pub fits : (n j v : ℕ) → n < sizes.queues → j < s.speed_count →
      cost_at width sizes.largest sizes.bound s ahead scale (queue_with sizes.largest sizes.bound n) j ≡ some v → v ≤ width.limit

-- block b has a queue with the last total x
pub record Within (sizes : Sizes) (b x : ℕ) : Type 0 where
  pub block_low : b < sizes.after
  pub last_low : lowest_of sizes.largest sizes.bound b ≤ x
  pub last_high : x ≤ sizes.bound * sizes.largest

-- the number of that queue, and the queue
abbrev pub number_of : Sizes → ℕ → ℕ → ℕ
number_of sizes b x = number_in sizes.largest sizes.bound b x

abbrev pub queue_of : Sizes → ℕ → ℕ → Queue
queue_of sizes b x = queue_with sizes.largest sizes.bound (number_of sizes b x)

-- the place on the sheet of the slowest speed that leads on from the block's first queue
abbrev pub slowest_of : Sizes → View → ℕ → ℕ
slowest_of sizes s b = slowest_in sizes.largest sizes.bound s (first_of sizes.largest sizes.bound b)

-- the queues of a row, one after the other: each by its block, its last total, and its block's line

-- the line that stands there is that of the block
abbrev pub HasLine : Speeds → row.Queue → Type 0
HasLine speeds queue =
    let sizes = sizes_of speeds in
    IsLine (sheet_of speeds).speed_count (speed_line sizes.largest sizes.bound (sheet_of speeds) queue.block)
    queue.line.number queue.line.lowest queue.line.third queue.line.lanes.now

-- such a queue: its block has one with that last total, and the line is that of the block
pub record IsQueue (speeds : Speeds) (queue : row.Queue) : Type 0 where
  pub within : Within (sizes_of speeds) queue.block queue.last
  pub line : HasLine speeds queue

-- where a row goes on: at a queue of a block, or behind the block's last one, with a last total one too high; in either case with the line
pub record At (speeds : Speeds) (queue : row.Queue) : Type 0 where
  pub block_low : queue.block < (sizes_of speeds).after
  pub last_low : lowest_of (sizes_of speeds).largest (sizes_of speeds).bound queue.block ≤ queue.last
  pub last_high : queue.last ≤ suc ((sizes_of speeds).bound * (sizes_of speeds).largest)
  pub line : HasLine speeds queue

-- where it goes on with the last total x in block b, the next queue is the one of block b' with the last total x': that one, and behind the
-- highest last total of a block the first one of the next block
pub record Next (sizes : Sizes) (b x b' x' : ℕ) : Type 0 where
  pub same_block : x ≤ sizes.bound * sizes.largest → (b' ≡ b) × (x' ≡ x)
  pub next_block : sizes.bound * sizes.largest < x → (b' ≡ suc b) × (x' ≡ lowest_of sizes.largest sizes.bound b')

-- there is none: it is behind the last block
pub record Ended (sizes : Sizes) (b x : ℕ) : Type 0 where
  pub last_block : suc b ≡ sizes.after
  pub passed : sizes.bound * sizes.largest < x

-- so many queues are left at most
abbrev pub queues_left : Sizes → ℕ → ℕ → ℕ
queues_left sizes b x =
    (sizes.after - b) * suc (sizes.bound * sizes.largest) + (suc (sizes.bound * sizes.largest) - x)

-- the queue with number n comes before the one of block b with the last total x
pub record Before (sizes : Sizes) (b x n : ℕ) : Type 0 where
  pub within : n < queue_count sizes.largest sizes.bound
  pub passed : (block_of sizes.largest sizes.bound n < b) ⊎
      ((block_of sizes.largest sizes.bound n ≡ b) × (last_of sizes.largest sizes.bound n < x))

-- what the pass leaves at each queue: a value, and a plan byte

abbrev pub value_left : Width → View → Sizes → Option ℕ → List ℕ → ℕ → Option ℕ
value_left width s sizes scale ahead n =
    worth (least_in width sizes.largest sizes.bound s ahead scale (queue_with sizes.largest sizes.bound n))

abbrev pub byte_left : Width → View → Sizes → Option ℕ → List ℕ → ℕ → ℕ
byte_left width s sizes scale ahead n =
    byte_of (least_in width sizes.largest sizes.bound s ahead scale (queue_with sizes.largest sizes.bound n))

-- at each queue whose number is done
pub record LeftWhere (width : Width) (s : View) (sizes : Sizes) (scale : Option ℕ) (ahead : List ℕ) (this row : ℕ) (done : ℕ → Type 0)
    (values₀ plan₀ values plan : List ℕ) : Type 0 where
  pub values_filled : FillsWhere width.places (value_in width) (value_left width s sizes scale ahead) this done values₀ values
  pub plan_filled : FillsWhere 1 number_at (byte_left width s sizes scale ahead) row done plan₀ plan

-- at every queue
pub record LeftAll (width : Width) (s : View) (sizes : Sizes) (scale : Option ℕ) (ahead : List ℕ) (this row : ℕ)
    (values₀ plan₀ values plan : List ℕ) : Type 0 where
  pub values_filled : Fills width.places (value_in width) (value_left width s sizes scale ahead) this sizes.queues values₀ values
  pub plan_filled : Fills 1 number_at (byte_left width s sizes scale ahead) row sizes.queues plan₀ plan
