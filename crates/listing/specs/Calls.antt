-- What the call promises: that what it answers, and what it leaves in lent memory, is what document 01 says (`list` of the model), place by
-- place and for refusals too.
use Rattle.std.specs.Prelude.{ℕ, List}
use Rattle.model.specs.Bytes.{Wrote}
use Rattle.model.specs.View.{View}
use Rattle.model.specs.Listing.{list}

-- `list` of the sheet s, its least energy and its plan, lent the buffer `before`, answers these two numbers and leaves `after`
abbrev pub IsListed : View → (least : ℕ) → (plan before : List ℕ) → (number length : ℕ) → (after : List ℕ) → Type 0
IsListed s least plan before number length after = Wrote (list s least plan before) number length after
