-- The whole listing as the code puts it: of so many slots and queues.
use Rattle.std.specs.Prelude.{ℕ, List, ◌++◌}
use Rattle.model.specs.Listing.{header}
use Rattle.lines.specs.Lines.{lines_to}

-- the header and all the lines
abbrev pub whole_listing : (queues scale least : ℕ) → (plan : List ℕ) → (slots : ℕ) → List ℕ
whole_listing queues scale least plan slots = header queues scale least ++ lines_to plan queues slots
