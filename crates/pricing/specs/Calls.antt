-- What `price` promises: that what it answers, and what it leaves in the lent values, is right by the definition of a plan's price
-- (`LeavesPrice` of the model, over ways, values standing as document 01 has them), place by place and for refusals too.
use Rattle.std.specs.Prelude.{ℕ, List}
use Rattle.model.specs.View.{View}
use Rattle.model.specs.Pricing.{LeavesPrice}
use Rattle.model.specs.Width.{narrow}

-- `price` of the sheet s and the plan, lent values₀, leaves values and answers these three numbers
abbrev pub IsPriced : View → (plan values₀ values : List ℕ) → ℕ → ℕ → ℕ → Type 0
IsPriced s plan values₀ values number queues price =
    LeavesPrice narrow s plan values₀ values (record { number = number; queues = queues; price = price })
