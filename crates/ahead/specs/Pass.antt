-- What the functions of the first pass ask for and what they leave, over any width of a value and whatever the row says.
use Rattle.std.specs.Prelude.{ℕ, pred, ◌+◌, ◌*◌, ◌-◌, ◌≤◌, ◌<◌, ◌≡◌, List, length}
use Rattle.std.proofs.Math.Option.{Option, some}
use Rattle.model.specs.View.{View}
use Rattle.queues.specs.Blocks.{start_of, lowest_of, risen}
use Rattle.model.specs.Width.{Width}
use Rattle.rows.specs.Rows.{value_in_row, after_with}
use Rattle.rows.specs.Tables.{IsLine}
use Rattle.sheets.specs.declared.sizes.Sizes.{Sizes}
use Rattle.entry_lanes.specs.Lanes.{entry_line}
use Rattle.ahead.specs.Sums.{sum_to}

-- what is ahead of the queue after a slot with number i, over the first n entries, by the row that begins at place `next`
abbrev pub sum_left : Width → View → Sizes → ℕ → List ℕ → ℕ → ℕ → Option ℕ
sum_left width s sizes next values i n =
    sum_to s (value_in_row width sizes.largest values next) (after_with sizes.largest sizes.bound i) n

-- what the pass is given, beside a tested sheet and its table: a row such that no sum over the first so many entries exceeds the limit of a
-- value
pub record Given (width : Width) (s : View) (sizes : Sizes) (next : ℕ) (values : List ℕ) : Type 0 where
  pub room : (next + sizes.queues) * width.places ≤ length values
  pub fits : (i n v : ℕ) → i < sizes.after → n ≤ s.job_count → sum_left width s sizes next values i n ≡ some v → v ≤ width.limit

-- k steps on from its first queue, block b still has a queue
pub record Within (sizes : Sizes) (b k : ℕ) : Type 0 where
  pub block_low : b < sizes.blocks
  pub steps_high : lowest_of sizes.largest (pred sizes.bound) b + k ≤ pred sizes.bound * sizes.largest

-- how far a lane of that block has risen by then
abbrev pub rise_of : Sizes → ℕ → ℕ → ℕ
rise_of sizes b k = risen (sizes.bound * sizes.largest + 1 - lowest_of sizes.largest (pred sizes.bound) b) k

-- the number of the queue there
abbrev pub stepped : Sizes → ℕ → ℕ → ℕ
stepped sizes b k = start_of sizes.largest (pred sizes.bound) b + k

-- such a step of the block, and the block's line
pub record Stepped (s : View) (sizes : Sizes) (b k far number lowest third : ℕ) (lanes : List ℕ) : Type 0 where
  pub within : Within sizes b k
  pub far_is : far ≡ rise_of sizes b k
  pub line : IsLine s.job_count (entry_line sizes.largest sizes.bound s b) number lowest third lanes
