-- What writing into a lent buffer leaves: a list laid over its places from a place on, the other places untouched.
use Rattle.std.specs.Prelude.{ℕ, ◌+◌, ◌≡◌, List, length}
use Rattle.buffers.specs.Fills.{Fills, number_at}

-- the buffer before and after, and the place that follows
pub record Laid (at : ℕ) (l before after : List ℕ) (next : ℕ) : Type 0 where
  pub next_is : next ≡ at + length l
  pub filled : Fills 1 number_at (number_at l) at (length l) before after
