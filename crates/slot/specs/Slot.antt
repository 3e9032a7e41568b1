-- What a slot asks of a queue, and what it leaves.
use Rattle.std.specs.Prelude.{ℕ, ◌≤◌, [], ◌∷◌, ◌++◌, length}
use Rattle.model.specs.Queue.{Queue, total}

-- no total is above 48, which is 6 times 8: a size of at most 255 can then be added
abbrev pub Small : Queue → Type 0
Small w = (u : ℕ) → total w u ≤ 48

-- a queue with its last total standing once more: after a slot at a speed of at least w(1), w(D) is w(D-1)
abbrev pub last_twice : Queue → Queue
last_twice v = v ++ (total v (length v) ∷ [])
