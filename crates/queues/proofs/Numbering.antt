-- The number of a bearable queue is a sum of counts, position by position: at each, the counts of the queues that agree so far and have
-- less there.
use Prim.Native.Nat.{ℕ, zero, suc, ◌+◌, ◌*◌, ◌-◌, ◌^◌, ◌≤◌, ◌<◌}
use mathlib.Core.Path.{◌≡◌, refl, sym, ap, ◌∙◌}
use mathlib.Core.Bool.{Bool, true, false, cond}
use mathlib.Core.List.{List, [], ◌∷◌, ◌++◌, map}
use mathlib.Core.Logic.{⊎_elim}
use native.Mathlib.Nat.{zero-add, add-zero, add-suc, suc-mul, eq-or-lt_of_le, not-suc-le-zero, mul-le-mul}
use native.Mathlib.Numerals.{add-one}
use native.Mathlib.Omega.{arith}
use lib.Dec.{T}
use lib.ListN.{length, get_or, drop, length-drop}
use lib.Seq.{drop-cons, drop-length, get_or-drop}
use borrow.Author.Tests.{eq-eqb, ne_eqb}
use Rattle.process.specs.Sums.{sum, same}
use Rattle.process.proofs.Sums.{sum_more, sum_same}
use Rattle.model.specs.Queue.{Queue, total, queue_in, bearable, each_total, continuations, bearable_queues, queue_count, place_in, number_of, continuation_count}
use Rattle.model.proofs.Queues.{GoesOn, bearable_at_lem, bearable_upto, continuations_count, continuations_in, place_found, number_below, queue_count_lem, length_in}
use Rattle.counts.specs.Counts.{InTable}
use Rattle.queues.specs.Order.{Numbered, earlier_at}
use Rattle.queues.proofs.Bounds.{queues_few, in_table}
use Rattle.slot.proofs.Places.{total_in}

-- queues that begin with another total are all passed
place_passed : (y x : ℕ) (q : Queue) (l rest : List Queue) → (y ≡ x → ⊥) →
    place_in (map (λ v. y ∷ v) l ++ rest) (x ∷ q) ≡ length l + place_in rest (x ∷ q)
unfolding place_in same
place_passed y x q [] rest h = sym (zero-add (place_in rest (x ∷ q)))
place_passed y x q (v ∷ l) rest h = rw (ne_eqb y x h) (omega (arith, place_passed y x q l rest h))

-- among queues that begin with its own total a queue stands where the rest of it stands
place_among : (x : ℕ) (q : Queue) (l rest : List Queue) → place_in l q < length l →
    place_in (map (λ v. x ∷ v) l ++ rest) (x ∷ q) ≡ place_in l q
unfolding place_in same
place_among x q [] rest h = absurd (not-suc-le-zero h)
place_among x q (v ∷ l) rest h = rw (eq-eqb x x refl) (go (place_among x q l rest) (same v q) h)
  where
    go : (place_in l q < length l → place_in (map (λ p. x ∷ p) l ++ rest) (x ∷ q) ≡ place_in l q) → (b : Bool) →
        cond b 0 (suc (place_in l q)) < suc (length l) →
        cond b 0 (suc (place_in (map (λ p. x ∷ p) l ++ rest) (x ∷ q))) ≡ cond b 0 (suc (place_in l q))
    go ih true k = refl
    go ih false k = ap suc (ih (omega arith))

-- the place of a queue that begins with x, among those that begin with y and more: the counts of the slacks above that of x come before
place_each : (f : ℕ → ℕ → List Queue) (n : ℕ → ℕ) → ((t g : ℕ) → length (f t g) ≡ n g) → (x k : ℕ) (q : Queue) →
    place_in (f x k) q < length (f x k) → (y c : ℕ) → y ≤ x → y + c ≡ suc (x + k) →
    place_in (each_total f y c) (x ∷ q) ≡ sum (λ j. n (suc k + j)) (x - y) + place_in (f x k) q
unfolding each_total sum
place_each f n e x k q h y zero low s = absurd (omega arith)
place_each f n e x k q h y (suc c) low s =
    ⊎_elim
    (λ (d : y ≡ x). let last : c ≡ k = omega arith in
    let none : x - x ≡ 0 = omega arith in
    rw (d, last, none, zero-add) (place_among x q (f x k) (each_total f (suc x) k) h))
    (λ (l : y < x). let rest = place_each f n e x k q h (suc y) c l (omega arith) in
    let slack : suc k + (x - suc y) ≡ c = omega arith in
    let one : x - y ≡ suc (x - suc y) = omega arith in
    rw (place_passed y x q (f y c) (each_total f (suc y) c) (λ d. omega arith), one, slack, e y c) (omega arith))
    (eq-or-lt_of_le low)

-- the totals from w(u) on
total_drop : (w : Queue) (u i : ℕ) → get_or (total w u ∷ drop u w) i 0 ≡ total w (u + i)
total_drop w u zero = ap (total w) (sym (add-zero u))
total_drop w u (suc i) = get_or-drop u w i 0 ∙ ap (total w) (sym (add-suc u i))

-- what is left of a queue after u of its positions, its place among all that may fill the r that are left
abbrev rest_at : ℕ → Queue → ℕ → ℕ → ℕ
rest_at M w u r = place_in (continuations M r (total w u) (u * M - total w u)) (drop u w)

-- what is left of a bearable queue is one of those that may follow
rest_found : (M : ℕ) (w : Queue) → T (bearable M w) → (u r : ℕ) → u + r ≡ length w →
    rest_at M w u r < length (continuations M r (total w u) (u * M - total w u))
rest_found M w t u r e =
    let left : length (drop u w) ≡ r = simp length-drop (omega arith) in
    let slack : total w u + (u * M - total w u) ≡ u * M = omega (arith, bearable_upto M w t u (omega arith)) in
    let goes : GoesOn M u (total w u) (drop u w) = λ i h.
    rw (total_drop w u i, get_or-drop u w i 0) (bearable_at_lem M w t (u + i) (omega arith)) in
    (place_found (drop u w) (continuations M r (total w u) (u * M - total w u))
    (rw (← left) (continuations_in M u (total w u) (u * M - total w u) (drop u w) slack goes))).0

-- one position: the counts of those with less there, and the place of what is left after it
rest_step : (M : ℕ) (w : Queue) → T (bearable M w) → (u r : ℕ) → u + suc r ≡ length w →
    rest_at M w u (suc r) ≡ earlier_at M w u + rest_at M w (suc u) r
unfolding continuations earlier_at
rest_step M w t u r e =
    let x = total w (suc u) in
    let k = suc u * M - x in
    let y = total w u in
    let high = bearable_upto M w t (suc u) (omega arith) in
    let low = (bearable_at_lem M w t u (omega arith)).0 in
    let left : length w - suc u ≡ r = omega arith in
    let sums : y + suc (u * M - y + M) ≡ suc (x + k) = omega (arith, bearable_upto M w t u (omega arith), suc-mul u M) in
    rw (drop-cons w u 0 (omega arith), left)
    (place_each (continuations M r) (continuation_count M r) (continuations_count M r) x k (drop (suc u) w)
    (rest_found M w t (suc u) r (omega arith)) y (suc (u * M - y + M)) low sums)

-- up to a position: the counts at each one before it, and the place of what is left after them
rest_sum : (M : ℕ) (w : Queue) → T (bearable M w) → (u r : ℕ) → u + r ≡ length w →
    rest_at M w 0 (length w) ≡ sum (earlier_at M w) u + rest_at M w u r
unfolding sum
rest_sum M w t zero r e = simp (← e, zero-add)
rest_sum M w t (suc u) r e = omega (arith, rest_sum M w t u (suc r) (omega arith), rest_step M w t u r (omega arith))

-- the number of a bearable queue is the sum of what comes before it at each position
pub number_sum : (M : ℕ) (w : Queue) → T (bearable M w) → number_of M w ≡ sum (earlier_at M w) (length w)
unfolding number_of bearable_queues continuations place_in same
number_sum M w t =
    let none : 0 * M - 0 ≡ 0 = omega arith in
    (rw none at (rest_sum M w t (length w) 0 (add-zero (length w)))) ∙ rw (drop-length, add-zero)

-- what comes before it at the first positions alone is no more than its number, and so below N
pub sum_below : (M : ℕ) (w : Queue) → T (bearable M w) → (u : ℕ) → u ≤ length w → sum (earlier_at M w) u < queue_count M (length w)
sum_below M w t u h =
    omega (arith, number_below M w refl t, number_sum M w t, sum_more (earlier_at M w) u (length w) h)

-- a queue that stands in the first D of six places

module _ {M D : ℕ} {places : List ℕ} (n : Numbered M D places) (six : length places ≡ 6) where
  -- it has D positions
  long : length (queue_in D places) ≡ D
  long = length_in D places (omega (arith, n.ranges.bound_high))

  -- the sum over all positions is the number
  pub number_whole : sum (λ u. earlier_at M (queue_in D places) (0 + u)) (D - 0) ≡ number_of M (queue_in D places)
  number_whole =
      let all : D - 0 ≡ D = omega arith in
      rw (number_sum M (queue_in D places) n.is_bearable, long, all) (sum_same D (λ u l. ap (earlier_at M (queue_in D places)) (zero-add u)))

  -- which does not wrap
  pub number_fits : number_of M (queue_in D places) ≤ 49 ^ 6
  number_fits =
      omega (
        arith,
        number_below M (queue_in D places) long n.is_bearable,
        queues_few M D n.ranges.speed_high n.ranges.bound_high,
      )

  -- one position of it
  module _ (u : ℕ) (h : u < D) where
    -- no product or difference there wraps
    pub position_safe : (total places u ≤ get_or places u 0) × (get_or places u 0 ≤ (u + 1) * M) × ((u + 1) * M ≤ 48)
    position_safe =
        let at = bearable_at_lem M (queue_in D places) n.is_bearable u (omega (arith, long)) in
        let few : u + 1 ≤ 6 = omega (arith, n.ranges.bound_high) in
        let here = total_in D places (suc u) h in
        (omega (arith, at.0, total_in D places u (omega arith)), rw add-one (omega (arith, at.1)), mul-le-mul few n.ranges.speed_high)

    -- the slacks there are in the table
    pub position_needed : (g : ℕ) → g ≤ (u + 1) * M → InTable M (D - 1 - u) g
    position_needed g l = in_table u (D - 1 - u) n.ranges (omega arith) (rw (← add-one u) l)

    -- and the sum of the counts of those above its own, up to that of w(u), is what comes before
    pub position_earlier : (b k : ℕ) → b ≡ total places u →
        k ≡ sum (λ j. continuation_count M (D - 1 - u) ((u + 1) * M - get_or places u 0 + 1 + j)) ((u + 1) * M - b + 1 - ((u + 1) * M - get_or places u 0 + 1)) →
        k ≡ earlier_at M (queue_in D places) u
    unfolding earlier_at
    position_earlier b k e d =
        let left : D - suc u ≡ D - 1 - u = omega arith in
        let safe = position_safe in
        let many : (u + 1) * M - b + 1 - ((u + 1) * M - get_or places u 0 + 1) ≡ get_or places u 0 - b = omega arith in
        d ∙ rw many (simp (long, total_in D places (suc u) h, total_in D places u (omega arith), left, e, add-one) refl)

-- N

-- with no position there is one queue
pub queues_none : (M D : ℕ) → D ≡ 0 → 1 ≡ queue_count M D
unfolding continuation_count
queues_none M D e = rw (e, queue_count_lem)

-- else N is the sum of the counts of the slacks 0 to M at the first position
pub queues_counted : (M D : ℕ) → (D ≡ 0 → ⊥) → sum (λ j. continuation_count M (D - 1) (0 + j)) (M + 1 - 0) ≡ queue_count M D
unfolding continuation_count
queues_counted M zero h = absurd (h refl)
queues_counted M (suc r) h =
    let left : suc r - 1 ≡ r = omega arith in
    let all : M + 1 - 0 ≡ suc M = omega arith in
    simp (left, all, zero-add, queue_count_lem)
