-- Document 01, "Queues": what a queue is, when it is bearable, what one slot does to it, and how the bearable queues are numbered.
use Rattle.std.specs.Prelude.{ℕ, zero, suc, ◌+◌, ◌*◌, ◌-◌, min, ◌≤◌, ◌<◌, ◌≡◌, Bool, cond, ◌&&◌, List, [], ◌∷◌, ◌++◌, map, ◌⊎◌, leb, eqb, length, get_or, take}
use Rattle.process.specs.Sums.{sum, same}
use Rattle.model.specs.Tests.{everywhere, listed, padded}

-- "A queue is w(1) to w(D), never falling; w(u) is the work that must be done within u slots": a list of D totals
abbrev pub Queue : Type 0
Queue = List ℕ

-- w(u), u from 1 to D; w(0), work that should be done by now, is 0
abbrev pub total : Queue → ℕ → ℕ
total w zero = 0
total w (suc i) = get_or w i 0

-- the queue of D totals that is f u at each u from 1 to D
abbrev pub totals : ℕ → (ℕ → ℕ) → Queue
totals D f = listed (λ i. f (suc i)) D

-- nothing waits
abbrev pub empty_queue : ℕ → Queue
empty_queue D = totals D (λ u. 0)

-- "never falling"
abbrev pub NeverFalls : Queue → Type 0
NeverFalls w = (u : ℕ) → u < length w → total w u ≤ total w (suc u)

-- at no u is the total of v above that of w
abbrev pub NoLonger : Queue → Queue → Type 0
NoLonger v w = (u : ℕ) → total v u ≤ total w u

-- at the position after u: "never falling", and at most so many times M
abbrev pub bearable_at : ℕ → Queue → ℕ → Bool
bearable_at M w u = leb (total w u) (total w (suc u)) && leb (total w (suc u)) (suc u * M)

-- "It is bearable (finishable) when w(u) is at most u times M for each u", and a queue never falls
unfoldable pub bearable : ℕ → Queue → Bool
bearable M w = everywhere (bearable_at M w) (length w)

-- in memory a queue stands in six places: "Positions past D are unused and zero"

abbrev pub positions : ℕ
positions = 6

-- w(1) to w(D) of what stands in the places
abbrev pub queue_in : ℕ → List ℕ → Queue
queue_in D places = take D places

-- the queue in its places, the unused ones zero
abbrev pub places_of : Queue → List ℕ
places_of w = padded positions 0 w

-- the place i past the first D is zero
abbrev pub unused_at : ℕ → List ℕ → ℕ → Bool
unused_at D places i = eqb (get_or places (D + i) 0) 0

-- all of them are
abbrev pub unused_zero : ℕ → List ℕ → Bool
unused_zero D places = everywhere (unused_at D places) (positions - D)

-- the part of 13 about the queue: what stands in the places is a bearable queue of D positions, unless "the queue falls or is not bearable,
-- an unused position is not zero"
unfoldable pub bearable_in : ℕ → ℕ → List ℕ → Bool
bearable_in M D places = bearable M (queue_in D places) && unused_zero D places

-- "One slot at speed s ..: first w'(u) = w(u+1) - s, or 0 if that is negative, with w(D) standing for w(D+1)"
unfoldable pub run : Queue → ℕ → Queue
run w s = totals (length w) (λ u. total w (min (suc u) (length w)) - s)

-- "then an arrival of size c and deadline d: .. then c is added to w'(u) for every u from d to D"
unfoldable pub arrive : Queue → ℕ → ℕ → Queue
arrive w c d = totals (length w) (λ u. total w u + cond (leb d u) c 0)

-- "One slot at speed s, then an arrival of size c and deadline d". "This is earliest deadline first": the jobs crate proves it of single jobs
abbrev pub one_slot : Queue → ℕ → ℕ → ℕ → Queue
one_slot w s c d = arrive (run w s) c d

-- "dictionary order of w(1), w(2), and so on": v comes before w where, at the first position at which they differ, v has less
abbrev pub before : Queue → Queue → Type 0
before [] w = ⊥
before (x ∷ v) [] = ⊥
before (x ∷ v) (y ∷ w) = (x < y) ⊎ ((x ≡ y) × before v w)

-- "Bearable queues are numbered from 0 in dictionary order of w(1), w(2), and so on": the list of them all. It is built position by
-- position. After a total w whose slack is g, the next total is each of w, w + 1, .., w + g + M in turn, and its slack falls from g + M
-- to 0 meanwhile

-- each total from x on, with the slacks c - 1, .., 0, before each of the queues that continue it
unfoldable pub each_total : (ℕ → ℕ → List Queue) → ℕ → ℕ → List Queue
each_total continued x zero = []
each_total continued x (suc c) = map (λ rest. x ∷ rest) (continued x c) ++ each_total continued (suc x) c

-- all that can fill r positions more after a total w with slack g
unfoldable pub continuations : ℕ → ℕ → ℕ → ℕ → List Queue
continuations M zero w g = [] ∷ []
continuations M (suc r) w g = each_total (continuations M r) w (suc (g + M))

-- "The slack at a position is u times M minus w(u)": before the first position the total and its slack are 0
unfoldable pub bearable_queues : ℕ → ℕ → List Queue
bearable_queues M D = continuations M D 0 0

-- "Their number is N"
unfoldable pub queue_count : ℕ → ℕ → ℕ
queue_count M D = length (bearable_queues M D)

-- the place of a queue in a list of queues; the list's length where it has no place
unfoldable pub place_in : List Queue → Queue → ℕ
place_in [] w = 0
place_in (v ∷ rest) w = cond (same v w) 0 (suc (place_in rest w))

-- the number of a bearable queue of D positions
unfoldable pub number_of : ℕ → Queue → ℕ
number_of M w = place_in (bearable_queues M (length w)) w

-- "With r positions still to fill and slack g, the number of continuations is 1 when r is 0, else the sum of the continuations with r-1
-- positions over slacks 0 to g+M"
unfoldable pub continuation_count : ℕ → ℕ → ℕ → ℕ
continuation_count M zero g = 1
continuation_count M (suc r) g = sum (continuation_count M r) (suc (g + M))
