-- A table that a pass reads along the blocks of a row (queues/specs/Blocks.antt). What is the same for every block stands in two columns,
-- two numbers for each speed, or for each entry. Behind them stands a line for each block: three numbers of the block, and then one for
-- each speed, or each entry: the place that its lane begins at. A lane is what one speed, or one entry, finds along a block.
use Rattle.std.specs.Prelude.{ℕ, zero, suc, ◌+◌, ◌*◌, ◌≤◌, ◌<◌, ◌≡◌, List, length, get_or}

-- a line, place by place
abbrev pub line_of : ℕ → ℕ → ℕ → (ℕ → ℕ) → ℕ → ℕ
line_of number lowest third lane zero = number
line_of number lowest third lane (suc zero) = lowest
line_of number lowest third lane (suc (suc zero)) = third
line_of number lowest third lane (suc (suc (suc j))) = lane j

-- where the line of block b begins, behind columns of c places, where each line has n lanes
abbrev pub line_at : ℕ → ℕ → ℕ → ℕ
line_at c n b = c + c + b * (n + 3)

-- the first n places of both columns
pub record Columns (c n : ℕ) (first second : ℕ → ℕ) (l : List ℕ) : Type 0 where
  pub firsts : (j : ℕ) → j < n → get_or l j 0 ≡ first j
  pub seconds : (j : ℕ) → j < n → get_or l (c + j) 0 ≡ second j

-- the lines of the first so many blocks
pub record Lines (c n blocks : ℕ) (line : ℕ → ℕ → ℕ) (l : List ℕ) : Type 0 where
  pub room : line_at c n blocks ≤ length l
  pub right : (b i : ℕ) → b < blocks → i < n + 3 → get_or l (line_at c n b + i) 0 ≡ line b i

-- .. put behind the columns of l₀, which stay as they are
pub record LinesPut (c n blocks : ℕ) (line : ℕ → ℕ → ℕ) (l₀ l : List ℕ) : Type 0 where
  pub same_length : length l ≡ length l₀
  pub lines : Lines c n blocks line l
  pub columns_same : (p : ℕ) → p < c + c → get_or l p 0 ≡ get_or l₀ p 0

-- a whole table
pub record Table (c n blocks : ℕ) (first second : ℕ → ℕ) (line : ℕ → ℕ → ℕ) (l : List ℕ) : Type 0 where
  pub columns : Columns c n first second l
  pub lines : Lines c n blocks line l

-- a line as it is found: its three numbers, and its n lanes
pub record IsLine (n : ℕ) (line : ℕ → ℕ) (number lowest third : ℕ) (lanes : List ℕ) : Type 0 where
  pub number_is : number ≡ line 0
  pub lowest_is : lowest ≡ line 1
  pub third_is : third ≡ line 2
  pub long : length lanes ≡ n
  pub lane_is : (j : ℕ) → j < n → get_or lanes j 0 ≡ line (suc (suc (suc j)))
