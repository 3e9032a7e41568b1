-- What the benchmark's function leaves in lent memory: what `plan` leaves for the sheet that `read` answers; where the bytes are refused,
-- it is as it was.
use Rattle.std.specs.Prelude.{ℕ, zero, suc, ◌≡◌, List}
use Rattle.model.specs.View.{View, view_of}
use Rattle.model.specs.Plan.{PlanAnswer, Leaves, Untouched}
use Rattle.model.specs.Width.{narrow}
use Rattle.model.specs.Reading.{read}

-- by the reader's number
abbrev pub LeavesRead : ℕ → View → (values₀ plan₀ values plan : List ℕ) → PlanAnswer → Type 0
LeavesRead zero s values₀ plan₀ values plan a = Leaves narrow s values₀ plan₀ values plan a
LeavesRead (suc number) s values₀ plan₀ values plan a = Untouched (suc number) values₀ plan₀ values plan a

-- of the planner's answer the function hands on the number alone
pub record IsPlanned (bytes values₀ plan₀ values plan : List ℕ) (number : ℕ) : Type 0 where
  pub answer : PlanAnswer
  pub number_is : number ≡ answer.number
  pub leaves : LeavesRead (read bytes).number (view_of (read bytes).sheet) values₀ plan₀ values plan answer
