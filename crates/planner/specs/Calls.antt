-- What `plan` promises: that what it answers, and what it leaves in lent memory, is right by the published problem (`Leaves` of the model, over
-- ways, values standing as document 01 has them), place by place and for refusals too.
use Rattle.std.specs.Prelude.{ℕ, List}
use Rattle.model.specs.View.{View}
use Rattle.model.specs.Plan.{Leaves}
use Rattle.model.specs.Width.{narrow}

-- `plan` of the sheet s, lent values₀ and plan₀, leaves values and plan and answers these three numbers
abbrev pub IsPlan : View → (values₀ plan₀ values plan : List ℕ) → ℕ → ℕ → ℕ → Type 0
IsPlan s values₀ plan₀ values plan number queues least =
    Leaves narrow s values₀ plan₀ values plan (record { number = number; queues = queues; least = least })
