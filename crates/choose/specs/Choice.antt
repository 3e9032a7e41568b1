-- What the second pass works out in one queue: what each speed costs, where any function says what is ahead of the queue after the slot, and
-- the least over the speeds. The pass itself goes by what a buffer says.
use Rattle.std.specs.Prelude.{ℕ, zero, suc, pred, ◌≡◌, List, leb}
use Rattle.std.proofs.Math.Option.{Option}
use Rattle.process.specs.Recursion.{plus, times, only, Choice, nothing, chosen, better, worth}
use Rattle.model.specs.View.{View, speed_at, energy_at}
use Rattle.model.specs.Plan.{no_speed}
use Rattle.model.specs.Queue.{Queue, total, queue_in, run}
use Rattle.model.specs.Width.{Width}
use Rattle.rows.specs.Rows.{value_in_row}

-- what a speed costs in a queue: none below w(1), else what is ahead of the queue after the slot and the scaled energy
unfoldable pub cost_by : (Queue → Option ℕ) → Option ℕ → Queue → ℕ → ℕ → Option ℕ
cost_by g scale w speed energy = only (leb (total w 1) speed) (plus (g (run w speed)) (times energy scale))

-- the least over the first j of several speeds at their costs; of two that cost the same the first
unfoldable pub least_to : (ℕ → ℕ) → (ℕ → Option ℕ) → ℕ → Choice
least_to speed cost zero = nothing
least_to speed cost (suc j) = better (least_to speed cost j) (speed j) (cost j)

-- the least over the speeds of a sheet
abbrev pub least_by : (Queue → Option ℕ) → View → Option ℕ → Queue → Choice
least_by g s scale w = least_to (speed_at s) (λ j. cost_by g scale w (speed_at s j) (energy_at s j)) s.speed_count

-- by the buffer `ahead`, of queues of D positions

-- what it says of a queue after a slot
abbrev pub ahead_in : Width → ℕ → ℕ → List ℕ → Queue → Option ℕ
ahead_in width largest D ahead v = value_in_row width largest ahead 0 (queue_in (pred D) v)

-- what the speed at place j of the sheet costs
abbrev pub cost_at : Width → ℕ → ℕ → View → List ℕ → Option ℕ → Queue → ℕ → Option ℕ
cost_at width largest D s ahead scale w j = cost_by (ahead_in width largest D ahead) scale w (speed_at s j) (energy_at s j)

-- and the least
abbrev pub least_in : Width → ℕ → ℕ → View → List ℕ → Option ℕ → Queue → Choice
least_in width largest D s ahead scale w = least_by (ahead_in width largest D ahead) s scale w

-- a choice as the code keeps it: a speed, 255 where there is none, and a value
abbrev pub byte_of : Choice → ℕ
byte_of nothing = no_speed
byte_of (chosen a v) = a

pub record IsChoice (c : Choice) (speed : ℕ) (r : Option ℕ) : Type 0 where
  pub speed_is : speed ≡ byte_of c
  pub value_is : r ≡ worth c

-- one speed more: whatever the choice was before, it is now the better of that and this speed at its cost
abbrev pub IsBetter : ℕ → Option ℕ → ℕ → Option ℕ → ℕ → Option ℕ → Type 0
IsBetter before r a cost speed q = (c : Choice) → IsChoice c before r → IsChoice (better c a cost) speed q
