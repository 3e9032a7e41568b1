-- A queue and the six places that it stands in: the queue in the first D places, the places of a queue, the total in a place after a slot
-- and with an arrival, and the tests of every place. The proofs of src/lib.rt stand on these laws; those that the model's
-- own laws need are in its proofs/Queues.antt.
use Prim.Native.Nat.{ℕ, zero, suc, ◌+◌, ◌-◌, min, ◌≤◌, ◌<◌}
use mathlib.Core.Path.{◌≡◌, refl, sym, ap, ◌∙◌}
use mathlib.Core.Bool.{Bool, true, false, cond, ◌&&◌}
use mathlib.Core.List.{List, [], ◌∷◌, ◌++◌}
use native.Mathlib.Nat.{zero-add}
use native.Mathlib.Numerals.{add-one}
use native.Mathlib.Omega.{arith}
use borrow.Author.Tests.{ltb-true, ltb-false}
use lib.Dec.{leb, ltb, eqb}
use lib.ListN.{length, get_or, replicate, drop, length-take, length-drop}
use lib.Seq.{get_or-take, get_or-drop, ext_get_or, take-take, take-append-le}
use Rattle.std.specs.List.{list_all, range_with_len}
use Rattle.std.proofs.lemmas.List.FromFn.{length-range_with_len, get_or-range_with_len}
use Rattle.model.specs.Tests.{everywhere}
use Rattle.model.specs.Queue.{Queue, total, queue_in, places_of, bearable_at, bearable, unused_at, unused_zero, run, arrive}
use Rattle.model.proofs.Tests.{everywhere_same}
use Rattle.model.proofs.Queues.{length_in, length_places, total_places, total_past, length_run, length_arrive, total_run, total_arrive}
use Rattle.slot.specs.Slot.{Small}

-- in a test of the first n + 1 places the first of them may be tested first
and_assoc : (a b c : Bool) → (a && b) && c ≡ a && (b && c)
and_assoc true b c = refl
and_assoc false b c = refl

everywhere_front : (test : ℕ → Bool) (n : ℕ) → everywhere test (suc n) ≡ test 0 && everywhere (λ i. test (suc i)) n
unfolding everywhere
everywhere_front test zero = cases (test 0)
  where
    cases : (b : Bool) → true && b ≡ b && true
    cases true = refl
    cases false = refl
everywhere_front test (suc n) = ap (λ b. b && test (suc n)) (everywhere_front test n) ∙ and_assoc (test 0) (everywhere (λ i. test (suc i)) n) (test (suc n))

-- the queue in the first D places

-- however few places there are, it has no more than D totals
pub length_in_upto : (D : ℕ) (places : List ℕ) → length (queue_in D places) ≤ D
length_in_upto D places = omega (arith, length-take D places)

-- its totals up to D are those in the places
pub total_in : (D : ℕ) (places : List ℕ) (u : ℕ) → u ≤ D → total (queue_in D places) u ≡ total places u
total_in D places zero h = refl
total_in D places (suc i) h = get_or-take D places i 0 h

-- its totals past D are 0
pub total_in_past : (D : ℕ) (places : List ℕ) (u : ℕ) → D < u → total (queue_in D places) u ≡ 0
total_in_past D places u h = total_past (queue_in D places) u (omega (arith, length_in_upto D places))

-- where no total of the queue is above 48, nothing in its places is
pub small_in : (D : ℕ) (places : List ℕ) (place : ℕ) → place < D → Small (queue_in D places) → get_or places place 0 ≤ 48
small_in D places place h small = omega (arith, total_in D places (suc place) h, small (suc place))

-- the places of a queue

-- its first positions stand in the first places
pub positions_in : (n : ℕ) (w : Queue) → n ≤ 6 → n ≤ length w → queue_in n (places_of w) ≡ queue_in n w
positions_in n w few long = take-take n 6 (w ++ replicate 6 0) few ∙ take-append-le n w (replicate 6 0) long

-- they are the first six totals, one after the other
pub six_places : (w : Queue) → places_of w ≡ total w 1 ∷ total w 2 ∷ total w 3 ∷ total w 4 ∷ total w 5 ∷ total w 6 ∷ []
six_places [] = refl
six_places (a ∷ []) = refl
six_places (a ∷ b ∷ []) = refl
six_places (a ∷ b ∷ c ∷ []) = refl
six_places (a ∷ b ∷ c ∷ d ∷ []) = refl
six_places (a ∷ b ∷ c ∷ d ∷ e ∷ []) = refl
six_places (a ∷ b ∷ c ∷ d ∷ e ∷ f ∷ w) = refl

-- six numbers that are the totals in turn are its places
pub places_by : (w : Queue) {a b c d e f : ℕ} → a ≡ total w 1 → b ≡ total w 2 → c ≡ total w 3 → d ≡ total w 4 → e ≡ total w 5 →
    f ≡ total w 6 → a ∷ b ∷ c ∷ d ∷ e ∷ f ∷ [] ≡ places_of w
places_by w p q r s t u = cc (six_places w)

-- the places of the queue in the first D of six places are these places, where the ones past D are zero
pub places_in : (D : ℕ) (places : List ℕ) → length places ≡ 6 → ((i : ℕ) → D ≤ i → i < 6 → get_or places i 0 ≡ 0) →
    places_of (queue_in D places) ≡ places
places_in D places six unused =
    ext_get_or 0 (places_of (queue_in D places)) places (length_places (queue_in D places) ∙ sym six)
    (λ i h. let l : i < 6 = omega (arith, length_places (queue_in D places)) in
    total_places (queue_in D places) (suc i) l ∙ each i l (ltb i D) refl)
  where
    each : (i : ℕ) → i < 6 → (b : Bool) → ltb i D ≡ b → total (queue_in D places) (suc i) ≡ get_or places i 0
    each i l true e = total_in D places (suc i) (ltb-true i D e)
    each i l false e = total_in_past D places (suc i) (omega (arith, ltb-false i D e)) ∙ sym (unused i (ltb-false i D e) l)

-- the total in a place after a slot

-- past the first D places nothing stands
pub after_past : (D : ℕ) (places : List ℕ) (s place : ℕ) → D ≤ place → total (run (queue_in D places) s) (place + 1) ≡ 0
after_past D places s place h =
    total_past (run (queue_in D places) s) (place + 1)
    (omega (arith, length_run (queue_in D places) s, length_in_upto D places))

-- in them it is what stood in the next place, or in the last one, less the speed
pub after_in : (D : ℕ) (places : List ℕ) (s place next : ℕ) → D ≤ length places → place < D → next ≡ min (place + 1) (D - 1) →
    total (run (queue_in D places) s) (place + 1) ≡ get_or places next 0 - s
after_in D places s place next long h e =
    let w = queue_in D places in
    let l : length w ≡ D = length_in D places long in
    let u : min (suc (place + 1)) (length w) ≡ suc next = omega arith in
    rw (total_run w s (place + 1) (omega arith) (omega arith), u, total_in D places (suc next) (omega arith))

-- the total in a place with an arrival

-- past the first D places nothing stands
pub with_past : (D : ℕ) (places : List ℕ) (c d place : ℕ) → D ≤ place → total (arrive (queue_in D places) c d) (place + 1) ≡ 0
with_past D places c d place h =
    total_past (arrive (queue_in D places) c d) (place + 1)
    (omega (arith, length_arrive (queue_in D places) c d, length_in_upto D places))

-- in them it is what stood there, and the size where the deadline is no later
pub with_in : (D : ℕ) (places : List ℕ) (c d place : ℕ) (b : Bool) → D ≤ length places → place < D → leb d (place + 1) ≡ b →
    total (arrive (queue_in D places) c d) (place + 1) ≡ get_or places place 0 + cond b c 0
with_in D places c d place b long h e =
    let l : length (queue_in D places) ≡ D = length_in D places long in
    rw (total_arrive (queue_in D places) c d (place + 1) (omega arith) (omega arith), e, add-one, total_in D places (suc place) h)

-- tests of every place

-- a test of every item of a list is one of every place
pub list_all_places : (test : ℕ → Bool) (places : List ℕ) → list_all test places ≡ everywhere (λ i. test (get_or places i 0)) (length places)
unfolding everywhere
list_all_places test [] = refl
list_all_places test (x ∷ places) = ap (λ b. test x && b) (list_all_places test places) ∙ sym (everywhere_front _ (length places))

-- a test of every number of a range is one of every place below its end
pub list_all_range : (test : ℕ → Bool) (n : ℕ) → list_all test (range_with_len 0 n) ≡ everywhere test n
list_all_range test n =
    list_all_places test (range_with_len 0 n) ∙ ap (everywhere _) (length-range_with_len 0 n) ∙ everywhere_same _ test n
    (λ i h. ap test (get_or-range_with_len 0 n i 0 h ∙ zero-add i))

-- the queue in the first D places is bearable where the test for it holds in each of them
pub bearable_in_lem : (M D : ℕ) (places : List ℕ) → D ≤ length places → bearable M (queue_in D places) ≡ everywhere (bearable_at M places) D
unfolding bearable
bearable_in_lem M D places long =
    let w = queue_in D places in
    ap (everywhere (bearable_at M w)) (length_in D places long) ∙ everywhere_same (bearable_at M w) (bearable_at M places) D
    (λ i h. rw (total_in D places i (omega arith), total_in D places (suc i) h))

-- the places past the first D are zero where each number that stands in them is
pub unused_all : (D : ℕ) (places : List ℕ) → length places ≡ 6 → list_all (λ x. eqb x 0) (drop D places) ≡ unused_zero D places
unused_all D places six =
    let rest : length (drop D places) ≡ 6 - D = omega (arith, length-drop D places) in
    list_all_places (λ x. eqb x 0) (drop D places) ∙ ap (everywhere _) rest ∙ everywhere_same _ (unused_at D places) (6 - D)
    (λ i h. rw (get_or-drop D places i 0) refl)
