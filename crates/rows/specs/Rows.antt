-- A row of values: one for each bearable queue, in the order of their numbers.
use Rattle.std.specs.Prelude.{ℕ, pred, ◌+◌, ◌*◌, ◌≤◌, ◌<◌, ◌≡◌, false, List, length}
use Rattle.std.proofs.Math.Option.{Option, none}
use Rattle.process.specs.Recursion.{only}
use Rattle.model.specs.Queue.{Queue, NeverFalls, bearable, queue_count, number_of}
use Rattle.queues.specs.Blocks.{queue_with}
use Rattle.slot.specs.Slot.{last_twice}
use Rattle.model.specs.Width.{Width, value_in}

-- what the row that begins at place `from` says of a queue: none for one that is not bearable
unfoldable pub value_in_row : Width → ℕ → List ℕ → ℕ → Queue → Option ℕ
value_in_row width largest l from w = only (bearable largest w) (value_in width l (from + number_of largest w))

-- n values stand there, those that f gives
pub record Row (width : Width) (f : ℕ → Option ℕ) (from n : ℕ) (l : List ℕ) : Type 0 where
  pub room : (from + n) * width.places ≤ length l
  pub right : (i : ℕ) → i < n → value_in width l (from + i) ≡ f i

-- a row of a function from queues to values: what it gives for each bearable queue of D positions; for any other queue it gives none
pub record RowOf (width : Width) (M D : ℕ) (f : Queue → Option ℕ) (from : ℕ) (l : List ℕ) : Type 0 where
  pub row : Row width (λ i. f (queue_with M D i)) from (queue_count M D) l
  pub strict : (w : Queue) → bearable M w ≡ false → f w ≡ none

-- the queues after a slot: "with w(D) standing for w(D+1)" the last total stands twice, and they are numbered by the positions before it
abbrev pub after_with : ℕ → ℕ → ℕ → Queue
after_with M D i = last_twice (queue_with M (pred D) i)

-- a row of a function from those: what it gives for each bearable one; for any other it gives none
pub record RowAfter (width : Width) (M D : ℕ) (g : Queue → Option ℕ) (from : ℕ) (l : List ℕ) : Type 0 where
  pub row : Row width (λ i. g (after_with M D i)) from (queue_count M (pred D)) l
  pub strict : (v : Queue) → NeverFalls v → bearable M v ≡ false → g v ≡ none
