-- What the call promises: that what it answers is what document 01 says (`read` of the model), place by place and for refusals too.
use Rattle.std.specs.Prelude.{ℕ, ◌≡◌, List}
use Rattle.model.specs.Reading.{read}
use Rattle.model.specs.declared.Sheet.{Sheet}

-- what a read answers
pub record IsRead (bytes : List ℕ) (number : ℕ) (sheet : Sheet) : Type 0 where
  pub number_is : number ≡ (read bytes).number
  pub sheet_is : sheet ≡ (read bytes).sheet
