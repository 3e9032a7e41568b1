-- What `rule` promises: that what it answers, and what it leaves in the lent plan, is right by the definition of the rule (the model's
-- `LeavesRule`), byte by byte and for refusals too.
use Rattle.std.specs.Prelude.{ℕ, List}
use Rattle.model.specs.View.{View}
use Rattle.model.specs.Pricing.{LeavesRule}

-- `rule` of the sheet s, lent plan₀, leaves plan and answers these two numbers
abbrev pub IsRule : View → (plan₀ plan : List ℕ) → ℕ → ℕ → Type 0
IsRule s plan₀ plan number queues = LeavesRule s plan₀ plan (record { number = number; queues = queues })
