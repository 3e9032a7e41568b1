-- Where plan bytes and values stand, as the code works it out: from how many queues there are.
use Rattle.std.specs.Prelude.{ℕ, ◌+◌, ◌*◌, ◌≤◌, List, length, get_or}

-- the place of slot t and the queue with number i: rows stand one behind the other
abbrev pub place_in : (queues t i : ℕ) → ℕ
place_in queues t i = t * queues + i

-- the plan byte there
abbrev pub byte_in : (queues : ℕ) → List ℕ → (t i : ℕ) → ℕ
byte_in queues plan t i = get_or plan (place_in queues t i) 0

-- what a look-up asks for: no more queues and slots than an accepted sheet has, and the slot's row within the plan
pub record HasRow (plan : List ℕ) (queues t : ℕ) : Type 0 where
  pub few_queues : queues ≤ 65535
  pub few_slots : t ≤ 200
  pub within : place_in queues t queues ≤ length plan
