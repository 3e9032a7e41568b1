-- What a plan byte costs in a queue, and what the functions of this pass leave, over any width of a value, whatever is ahead and whatever the
-- bytes are. What the pass is given is what the planner's second pass is given (choose/specs/Pass.antt).
use Rattle.std.specs.Prelude.{ℕ, ◌+◌, ◌≤◌, ◌≡◌, List, get_or}
use Rattle.std.proofs.Math.Option.{Option}
use Rattle.process.specs.Recursion.{only}
use Rattle.model.specs.View.{View, on_sheet, energy_of, place_of_speed}
use Rattle.model.specs.Queue.{Queue}
use Rattle.model.specs.Width.{Width}
use Rattle.queues.specs.Blocks.{queue_with}
use Rattle.sheets.specs.declared.sizes.Sizes.{Sizes}
use Rattle.choose.specs.Choice.{cost_by, ahead_in}

-- the place of each speed from 0 to 8 stands at that place
abbrev pub ArePlaces : View → List ℕ → Type 0
ArePlaces s places = (speed : ℕ) → speed ≤ 8 → get_or places speed 0 ≡ place_of_speed s speed

-- what a byte costs, where any function says what is ahead of the queue after the slot: none where it is no speed of the sheet
abbrev pub byte_cost_by : (Queue → Option ℕ) → View → Option ℕ → Queue → ℕ → Option ℕ
byte_cost_by g s scale w byte = only (on_sheet s byte) (cost_by g scale w byte (energy_of s byte))

-- the same by the buffer `ahead`
abbrev pub byte_cost_in : Width → View → Sizes → List ℕ → Option ℕ → Queue → ℕ → Option ℕ
byte_cost_in width s sizes ahead scale w byte = byte_cost_by (ahead_in width sizes.largest sizes.bound ahead) s scale w byte

-- what the pass leaves at the queue with number n, whose byte stands in the row of the plan that begins at place `row`
abbrev pub cost_left : Width → View → Sizes → List ℕ → Option ℕ → List ℕ → ℕ → ℕ → Option ℕ
cost_left width s sizes ahead scale plan row n =
    byte_cost_in width s sizes ahead scale (queue_with sizes.largest sizes.bound n) (get_or plan (row + n) 0)
