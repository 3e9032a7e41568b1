-- Laws of tables (specs/Tables.antt): one line more; what is written behind leaves what stands before as it is.
use Prim.Native.Nat.{ℕ, ◌+◌, ◌*◌, ◌≤◌, ◌<◌}
use mathlib.Core.Path.{◌≡◌, ◌∙◌}
use mathlib.Core.List.{List}
use mathlib.Core.Logic.{inl}
use native.Mathlib.Nat.{suc-mul, mul-le-mul_right}
use native.Mathlib.Omega.{arith}
use borrow.Author.Count.{below_more}
use lib.ListN.{length, get_or}
use Rattle.buffers.specs.Fills.{Fills, number_at}
use Rattle.rows.specs.Tables.{line_at, Columns, LinesPut, Table}

-- a line lies within a table that has room for it
pub line_within : (c n b blocks : ℕ) {room : ℕ} → b < blocks → line_at c n blocks ≤ room → line_at c n b + (n + 3) ≤ room
line_within c n b blocks h room = omega (arith, mul-le-mul_right (n + 3) h, suc-mul b (n + 3))

-- the lines

-- one more is put, and leaves the columns and the lines before it
pub put_more : (blocks : ℕ) {c n b : ℕ} {line : ℕ → ℕ → ℕ} {l₀ l l' : List ℕ} → b < blocks → line_at c n blocks ≤ length l₀ →
    Fills 1 number_at (line b) (line_at c n b) (n + 3) l l' → LinesPut c n b line l₀ l → LinesPut c n (b + 1) line l₀ l'
put_more blocks {c} {n} {b} {line} {l' = l'} low room fill so_far =
    record {
      same_length = fill.same_length ∙ so_far.same_length;
      lines =
          record {
            room = omega (arith, line_within c n b blocks low room, fill.same_length, so_far.same_length, suc-mul b (n + 3));
            right = λ k i h l.
                below_more (λ k. (i : ℕ) → i < n + 3 → get_or l' (line_at c n k + i) 0 ≡ line k i) b earlier fill.filled k h i l;
          };
      columns_same = λ p h. fill.outside p (inl (omega arith)) ∙ so_far.columns_same p h;
    }
  where
    earlier : (k : ℕ) → k < b → (i : ℕ) → i < n + 3 → get_or l' (line_at c n k + i) 0 ≡ line k i
    earlier k h i j =
        let before : k * (n + 3) + (n + 3) ≤ b * (n + 3) = omega (arith, mul-le-mul_right (n + 3) h, suc-mul k (n + 3)) in
        fill.outside (line_at c n k + i) (inl (omega arith)) ∙ so_far.lines.right k i h j

-- as many are put as there are
pub put_all : {c n blocks all : ℕ} {line : ℕ → ℕ → ℕ} {l₀ l : List ℕ} → blocks ≡ all → LinesPut c n blocks line l₀ l →
    LinesPut c n all line l₀ l
put_all e put = rw (← e) put

-- the columns, and behind them the lines of all blocks, are the table
pub table_whole : {c n blocks all : ℕ} {f g : ℕ → ℕ} {line : ℕ → ℕ → ℕ} {l l' : List ℕ} → n ≤ c → blocks ≡ all → Columns c n f g l →
    LinesPut c n blocks line l l' → Table c n all f g line l'
table_whole {c} few e columns put =
    record {
      columns =
          record {
            firsts = λ j h. put.columns_same j (omega arith) ∙ columns.firsts j h;
            seconds = λ j h. put.columns_same (c + j) (omega arith) ∙ columns.seconds j h;
          };
      lines = (put_all e put).lines;
    }
