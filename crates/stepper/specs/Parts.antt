-- What a run of the stepper goes by.
use Rattle.std.specs.Prelude.{ℕ, ◌≡◌, List, length}
use Rattle.model.specs.View.{View}
use Rattle.model.specs.Plan.{row_refusal}
use Rattle.sheets.specs.Sizes.{Sized}
use Rattle.sheets.specs.declared.sizes.Sizes.{Sizes}

-- a sheet and a plan of which 4 to 10 and 11 find nothing wrong, and the sheet's sizes
pub record Ready (s : View) (sizes : Sizes) (plan : List ℕ) : Type 0 where
  pub room : row_refusal s (length plan) ≡ 0
  pub sized : Sized s sizes
