-- What the functions that fill the rows of prices promise each other and the call, over any width of a value. They compute the recursion of
-- process/specs/Recursion.antt by a lent plan; what the call promises is in Calls.antt and mentions none of this.
use Rattle.std.specs.Prelude.{ℕ, suc, ◌-◌, ◌+◌, ◌≤◌, ◌≡◌, List, length}
use Rattle.std.proofs.Math.Option.{Option}
use Rattle.process.specs.Recursion.{price_by}
use Rattle.model.specs.View.{View, weight_at}
use Rattle.model.specs.Plan.{process_of, queue_at, place_at}
use Rattle.model.specs.Pricing.{speed_by_plan}
use Rattle.model.specs.Queue.{Queue}
use Rattle.model.specs.Refusal.{N}
use Rattle.model.specs.Width.{Width, value_in}
use Rattle.buffers.specs.Fills.{Fills}

-- the price of a queue with k slots left
unfoldable pub price_with : View → List ℕ → ℕ → Queue → Option ℕ
price_with s plan k w = price_by (process_of s) s.job_count (weight_at s) (speed_by_plan s plan) k w

-- the plan bytes of the slot with so many left after it begin at place `row`, and the lent plan has them
pub record InRow (s : View) (left row : ℕ) (plan : List ℕ) : Type 0 where
  pub row_is : row ≡ place_at s (s.horizon - suc left) 0
  pub room : row + N s ≤ length plan

-- what that slot leaves: the price of every queue, in the row of the values that begins at place `this`
abbrev pub PricedRow : Width → View → List ℕ → ℕ → ℕ → (values₀ values : List ℕ) → Type 0
PricedRow width s plan left this values₀ values =
    Fills width.places (value_in width) (λ i. price_with s plan (suc left) (queue_at s i)) this (N s) values₀ values
