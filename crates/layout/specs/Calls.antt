-- What `row` promises: that it answers the part of the plan that the model's `row` gives, for refusals too.
use Rattle.std.specs.Prelude.{ℕ, ◌≡◌, List}
use Rattle.model.specs.View.{View}
use Rattle.model.specs.Plan.{row}

-- `row` of the sheet s and slot t, lent this plan, answers this part of it
abbrev pub IsRow : View → List ℕ → ℕ → List ℕ → Type 0
IsRow s plan t part = part ≡ row s plan t
