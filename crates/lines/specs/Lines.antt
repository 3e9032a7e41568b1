-- The lines of a listing as the code puts them: of so many slots and queues.
use Rattle.std.specs.Prelude.{ℕ, ◌≤◌, List, ◌++◌, length}
use Rattle.model.specs.Listing.{text, decimal, line_of}
use Rattle.model.specs.Tests.{in_turn}
use Rattle.layout.specs.Places.{place_in, byte_in}

-- one plan byte, after its space
abbrev pub byte_listed : ℕ → List ℕ
byte_listed byte = text " " ++ decimal byte

-- the line of a slot, and those of the first slots
abbrev pub line_at : List ℕ → (queues slot : ℕ) → List ℕ
line_at plan queues slot = line_of slot (byte_in queues plan slot) queues

abbrev pub lines_to : List ℕ → (queues slots : ℕ) → List ℕ
lines_to plan queues slots = in_turn (line_at plan queues) slots

-- what the parts ask for: no more slots and queues than an accepted sheet has, and a plan with all its rows
pub record HasRows (plan : List ℕ) (queues slots : ℕ) : Type 0 where
  pub few_queues : queues ≤ 65535
  pub few_slots : slots ≤ 200
  pub rows : place_in queues slots 0 ≤ length plan
