-- What the call promises: that what it answers, and what it leaves in lent memory, is what document 01 says (`write` of the model), place
-- by place and for refusals too.
use Rattle.std.specs.Prelude.{ℕ, List}
use Rattle.model.specs.Bytes.{Wrote, write}
use Rattle.model.specs.View.{View}

-- what a write answers, and the lent buffer before and after it
abbrev pub IsWritten : View → (before : List ℕ) → (number written : ℕ) → (after : List ℕ) → Type 0
IsWritten s before number written after = Wrote (write s before) number written after
