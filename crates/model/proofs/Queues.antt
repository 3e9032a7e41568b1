-- Laws of queues, of the list of all bearable queues and of the number of a queue (specs/Queue.antt): a total at each u after a slot and an
-- arrival, what bearable says position by position, how many queues the list has, that they are the bearable ones, each once and in
-- dictionary order, and so that a queue's number is its place. Elsewhere these laws are used, and not the definitions' text.
use Prim.Native.Nat.{ℕ, zero, suc, ◌+◌, ◌*◌, ◌-◌, min, ◌≤◌, ◌<◌, zero-le}
use mathlib.Core.Path.{◌≡◌, refl, sym, ap, ◌∙◌, subst, subst₂}
use mathlib.Core.Bool.{Bool, true, false, cond}
use mathlib.Core.List.Memᴰ
use mathlib.Core.List.{List, [], ◌∷◌, ◌++◌, map, Memᴰ}
use mathlib.Core.Logic.{⊎_elim, ◌⊎◌, inl, inr}
use native.Mathlib.Nat.{zero-add, le_of_suc-le-suc, le_refl, not-suc-le-zero, eq-or-lt_of_le, lt_irrefl, zero-lt-suc}
use native.Mathlib.Omega.{arith}
use borrow.Author.Tests.{ltb-true, ltb-false}
use lib.Dec.{T, leb, ltb, eqb, leb→le, le→leb}
use lib.ListN.{length, get_or, replicate, length-append, length-map, length-replicate, get_or-eq_default}
use lib.Seq.{ext_get_or, length-take-le, get_or-take, take-take, take-append_seam}
use Rattle.process.specs.Sums.{sum, same}
use Rattle.process.proofs.Sums.{same_refl, same_true}
use Rattle.model.specs.Tests.{listed}
use Rattle.model.specs.Queue.{Queue, total, totals, empty_queue, positions, queue_in, places_of, bearable_at, bearable, unused_at, unused_zero, bearable_in, run, arrive, one_slot, before, each_total, continuations, bearable_queues, queue_count, place_in, number_of, continuation_count}
use Rattle.model.proofs.Tests.{check_passes, and_left, and_right, and_both, everywhere_at, everywhere_all, length_listed, get_or_listed}

-- a queue by its totals

-- it has as many totals as it was made with
pub length_totals : (D : ℕ) (f : ℕ → ℕ) → length (totals D f) ≡ D
length_totals D f = length_listed (λ i. f (suc i)) D

-- the total at u is the one that it was made with
pub total_totals : (D : ℕ) (f : ℕ → ℕ) (u : ℕ) → 1 ≤ u → u ≤ D → total (totals D f) u ≡ f u
total_totals D f zero h k = absurd (not-suc-le-zero h)
total_totals D f (suc i) h k = get_or_listed (λ j. f (suc j)) D i 0 k

-- past the last position a total is 0
pub total_past : (w : Queue) (u : ℕ) → length w < u → total w u ≡ 0
total_past w zero h = refl
total_past w (suc i) h = get_or-eq_default w 0 (le_of_suc-le-suc h)

-- a slot keeps the number of positions
pub length_run : (w : Queue) (s : ℕ) → length (run w s) ≡ length w
unfolding run
length_run w s = length_listed _ (length w)

-- an arrival keeps the number of positions
pub length_arrive : (w : Queue) (c d : ℕ) → length (arrive w c d) ≡ length w
unfolding arrive
length_arrive w c d = length_listed _ (length w)

-- and so do both, one after the other
pub length_slot : (w : Queue) (s c d : ℕ) → length (one_slot w s c d) ≡ length w
length_slot w s c d = length_arrive (run w s) c d ∙ length_run w s

-- after a slot at speed s the total at u is what was at u + 1, or at the last position, less s
pub total_run : (w : Queue) (s u : ℕ) → 1 ≤ u → u ≤ length w → total (run w s) u ≡ total w (min (suc u) (length w)) - s
unfolding run
total_run w s u h k = total_totals (length w) (λ v. total w (min (suc v) (length w)) - s) u h k

-- after an arrival of size c and deadline d the total at u is c more, from d on
pub total_arrive : (w : Queue) (c d u : ℕ) → 1 ≤ u → u ≤ length w → total (arrive w c d) u ≡ total w u + cond (leb d u) c 0
unfolding arrive
total_arrive w c d u h k = total_totals (length w) (λ v. total w v + cond (leb d v) c 0) u h k

-- after both
pub total_slot : (w : Queue) (s c d u : ℕ) → 1 ≤ u → u ≤ length w →
    total (one_slot w s c d) u ≡ total w (min (suc u) (length w)) - s + cond (leb d u) c 0
total_slot w s c d u h k =
    total_arrive (run w s) c d u h (omega (arith, length_run w s)) ∙ ap (λ n. n + cond (leb d u) c 0) (total_run w s u h k)

-- queues of as many positions with equal totals are equal
pub same_totals : (v w : Queue) → length v ≡ length w → ((u : ℕ) → 1 ≤ u → u ≤ length v → total v u ≡ total w u) → v ≡ w
same_totals v w e h = ext_get_or 0 v w e (λ i l. h (suc i) (omega arith) l)

-- bearable, position by position

-- a bearable queue falls nowhere and is nowhere above u * M
pub bearable_at_lem : (M : ℕ) (w : Queue) → T (bearable M w) → (i : ℕ) → i < length w →
    (total w i ≤ total w (suc i)) × (total w (suc i) ≤ suc i * M)
unfolding bearable
bearable_at_lem M w t i h =
    let a = leb (total w i) (total w (suc i)) in
    let b = leb (total w (suc i)) (suc i * M) in
    let both = everywhere_at (bearable_at M w) (length w) t i h in
    (leb→le (total w i) (total w (suc i)) (and_left a b both), leb→le (total w (suc i)) (suc i * M) (and_right a b both))

-- its total at u is at most u * M, for u from 0 on
pub bearable_upto : (M : ℕ) (w : Queue) → T (bearable M w) → (u : ℕ) → u ≤ length w → total w u ≤ u * M
bearable_upto M w t zero h = zero-le
bearable_upto M w t (suc i) h = (bearable_at_lem M w t i h).1

-- a queue that falls nowhere and is nowhere above u * M is bearable
pub bearable_all : (M : ℕ) (w : Queue) → ((i : ℕ) → i < length w → (total w i ≤ total w (suc i)) × (total w (suc i) ≤ suc i * M)) →
    T (bearable M w)
unfolding bearable
bearable_all M w all =
    everywhere_all (bearable_at M w) (length w)
    (λ i h. and_both (leb (total w i) (total w (suc i))) (leb (total w (suc i)) (suc i * M))
    (le→leb (total w i) (total w (suc i)) (all i h).0) (le→leb (total w (suc i)) (suc i * M) (all i h).1))

-- six places that hold a bearable queue: it stands in the first D
pub held_bearable : (M D : ℕ) (places : List ℕ) → T (bearable_in M D places) → T (bearable M (queue_in D places))
unfolding bearable_in
held_bearable M D places t = and_left (bearable M (queue_in D places)) _ t

-- and the others are zero
pub held_unused : (M D : ℕ) (places : List ℕ) → T (bearable_in M D places) → T (unused_zero D places)
unfolding bearable_in
held_unused M D places t = and_right (bearable M (queue_in D places)) _ t

-- a queue and the six places that it stands in

-- the queue in the first D places has D totals
pub length_in : (D : ℕ) (places : List ℕ) → D ≤ length places → length (queue_in D places) ≡ D
length_in D places h = length-take-le D places h

-- zeros after a list change no total
pub get_D_zeros : (l : List ℕ) (n i : ℕ) → get_or (l ++ replicate n 0) i 0 ≡ get_or l i 0
get_D_zeros [] zero i = refl
get_D_zeros [] (suc n) zero = refl
get_D_zeros [] (suc n) (suc i) = get_D_zeros [] n i
get_D_zeros (x ∷ l) n zero = refl
get_D_zeros (x ∷ l) n (suc i) = get_D_zeros l n i

-- there are six
pub length_places : (w : Queue) → length (places_of w) ≡ 6
length_places w = length-take-le 6 (w ++ replicate 6 0) (omega (arith, length-append w (replicate 6 0), length-replicate {A = ℕ} 6 0))

-- in them stand the totals
pub total_places : (w : Queue) (u : ℕ) → u ≤ 6 → total (places_of w) u ≡ total w u
total_places w zero h = refl
total_places w (suc i) h = get_or-take 6 (w ++ replicate 6 0) i 0 h ∙ get_D_zeros w 6 i

-- the queue in the places of a queue of at most six positions is that queue
pub in_places : (w : Queue) → length w ≤ 6 → queue_in (length w) (places_of w) ≡ w
in_places w h = take-take (length w) 6 (w ++ replicate 6 0) h ∙ take-append_seam w (replicate 6 0)

-- and so is what stands in the first D of them, where it has D positions
pub in_first_places : (D : ℕ) (w : Queue) → length w ≡ D → D ≤ 6 → queue_in D (places_of w) ≡ w
in_first_places D w e h = subst (λ (n : ℕ). queue_in n (places_of w) ≡ w) e (in_places w (omega arith))

-- the places of a bearable queue of at most six positions hold it: it stands in the first ones, and the others are zero
pub places_hold : (M : ℕ) (w : Queue) → length w ≤ 6 → T (bearable M w) → T (bearable_in M (length w) (places_of w))
unfolding bearable_in
places_hold M w h t =
    and_both (bearable M (queue_in (length w) (places_of w))) _ (subst (λ (v : Queue). T (bearable M v)) (sym (in_places w h)) t)
    (everywhere_all (unused_at (length w) (places_of w)) (positions - length w) (λ i l. unused i (omega arith)))
  where
    unused : (i : ℕ) → length w + i < 6 → T (unused_at (length w) (places_of w) i)
    unused i l =
        let zero-there = total_places w (suc (length w + i)) l ∙ total_past w (suc (length w + i)) (omega arith) in
        subst (λ (n : ℕ). T (eqb n 0)) (sym zero-there) tt

-- how many there are

each_count : (f : ℕ → ℕ → List Queue) (n : ℕ → ℕ) → ((x g : ℕ) → length (f x g) ≡ n g) → (x c : ℕ) → length (each_total f x c) ≡ sum n c
unfolding each_total sum
each_count f n h x zero = refl
each_count f n h x (suc c) =
    length-append (map (λ rest. x ∷ rest) (f x c)) (each_total f (suc x) c) ∙
    omega (arith, length-map (f x c) (λ rest. x ∷ rest), h x c, each_count f n h (suc x) c)

-- the list of continuations is as long as the recursion says, whatever the total they follow
pub continuations_count : (M r w g : ℕ) → length (continuations M r w g) ≡ continuation_count M r g
unfolding continuations continuation_count
continuations_count M zero w g = refl
continuations_count M (suc r) w g = each_count (continuations M r) (continuation_count M r) (continuations_count M r) w (suc (g + M))

-- N is the number of continuations with all D positions to fill and slack 0
pub queue_count_lem : (M D : ℕ) → queue_count M D ≡ continuation_count M D 0
unfolding queue_count bearable_queues
queue_count_lem M D = continuations_count M D 0 0

-- what holds of every queue of a list

abbrev All : (Queue → Type 0) → List Queue → Type 0
All P [] = Unit {0}
All P (v ∷ l) = P v × All P l

all_append : (P : Queue → Type 0) (l m : List Queue) → All P l → All P m → All P (l ++ m)
all_append P [] m a b = b
all_append P (v ∷ l) m a b = (a.0, all_append P l m a.1 b)

all_map : (P Q : Queue → Type 0) (f : Queue → Queue) → ((q : Queue) → P q → Q (f q)) → (l : List Queue) → All P l → All Q (map f l)
all_map P Q f h [] a = tt
all_map P Q f h (v ∷ l) a = (h v a.0, all_map P Q f h l a.1)

all_made : (P : Queue → Type 0) (f : Queue → Queue) → ((q : Queue) → P (f q)) → (l : List Queue) → All P (map f l)
all_made P f h [] = tt
all_made P f h (v ∷ l) = (h v, all_made P f h l)

all_at : (P : Queue → Type 0) (l : List Queue) → All P l → (i : ℕ) → i < length l → P (get_or l i [])
all_at P [] a i h = absurd (not-suc-le-zero h)
all_at P (v ∷ l) a zero h = a.0
all_at P (v ∷ l) a (suc i) h = all_at P l a.1 i (le_of_suc-le-suc h)

-- the listed queues are the bearable ones

-- the totals q go on, bearably, from a total w at position u
abbrev pub GoesOn : ℕ → ℕ → ℕ → Queue → Type 0
GoesOn M u w q = (i : ℕ) → i < length q → (get_or (w ∷ q) i 0 ≤ get_or q i 0) × (get_or q i 0 ≤ suc (u + i) * M)

-- a total that may follow w, and totals that go on from it
goes_on : (M u w x : ℕ) (q : Queue) → w ≤ x → x ≤ suc u * M → GoesOn M (suc u) x q → GoesOn M u w (x ∷ q)
goes_on M u w x q low high s zero h = (low, omega arith)
goes_on M u w x q low high s (suc i) h = let k = s i (le_of_suc-le-suc h) in (k.0, omega arith)

-- the totals after the first go on from the first
went_on : (M u w x : ℕ) (q : Queue) → GoesOn M u w (x ∷ q) → GoesOn M (suc u) x q
went_on M u w x q s i h = let k = s (suc i) (omega arith) in (k.0, omega arith)

total_before : (w : Queue) (i : ℕ) → total w i ≡ get_or (0 ∷ w) i 0
total_before w zero = refl
total_before w (suc i) = refl

bearable_goes_on : (M : ℕ) (w : Queue) → T (bearable M w) → GoesOn M 0 0 w
bearable_goes_on M w t i h = let k = bearable_at_lem M w t i h in (subst (λ (x : ℕ). x ≤ get_or w i 0) (total_before w i) k.0, omega arith)

goes_on_bearable : (M : ℕ) (w : Queue) → GoesOn M 0 0 w → T (bearable M w)
goes_on_bearable M w s =
    bearable_all M w (λ i h. let k = s i h in (subst (λ (x : ℕ). x ≤ get_or w i 0) (sym (total_before w i)) k.0, omega arith))

-- r totals that go on from w at u
abbrev Fills : ℕ → ℕ → ℕ → ℕ → Queue → Type 0
Fills M r u w q = (length q ≡ r) × GoesOn M u w q

each_fills : (M r u w : ℕ) (f : ℕ → ℕ → List Queue) → ((x g : ℕ) → x + g ≡ suc u * M → All (Fills M r (suc u) x) (f x g)) →
    (x c : ℕ) → w ≤ x → x + c ≡ suc (suc u * M) → All (Fills M (suc r) u w) (each_total f x c)
unfolding each_total
each_fills M r u w f h x zero low e = tt
each_fills M r u w f h x (suc c) low e =
    all_append (Fills M (suc r) u w) (map (λ rest. x ∷ rest) (f x c)) (each_total f (suc x) c)
    (all_map (Fills M r (suc u) x) (Fills M (suc r) u w) (λ rest. x ∷ rest)
    (λ q p. (ap suc p.0, goes_on M u w x q low (omega arith) p.1)) (f x c) (h x c (omega arith)))
    (each_fills M r u w f h (suc x) c (omega arith) (omega arith))

-- every continuation after w, with slack g at position u, goes on from w bearably
continuations_fill : (M r u w g : ℕ) → w + g ≡ u * M → All (Fills M r u w) (continuations M r w g)
unfolding continuations
continuations_fill M zero u w g e = ((refl, λ i h. absurd (not-suc-le-zero h)), tt)
continuations_fill M (suc r) u w g e =
    each_fills M r u w (continuations M r) (continuations_fill M r (suc u)) w (suc (g + M)) (le_refl w) (omega arith)

-- every queue of the list has D positions and is bearable
pub listed_bearable : (M D i : ℕ) → i < queue_count M D →
    (length (get_or (bearable_queues M D) i []) ≡ D) × T (bearable M (get_or (bearable_queues M D) i []))
unfolding queue_count bearable_queues
listed_bearable M D i h =
    let fills = all_at (Fills M D 0 0) (continuations M D 0 0) (continuations_fill M D 0 0 0 (omega arith)) i h in
    (fills.0, goes_on_bearable M (get_or (continuations M D 0 0) i []) fills.1)

each_in : (f : ℕ → ℕ → List Queue) (x b : ℕ) (q : Queue) → x ≤ b → ((g : ℕ) → x + g ≡ b → Memᴰ q (f x g)) →
    (y c : ℕ) → y ≤ x → y + c ≡ suc b → Memᴰ (x ∷ q) (each_total f y c)
unfolding each_total
each_in f x b q high h y zero low e = absurd (omega arith)
each_in f x b q high h y (suc c) low e =
    ⊎_elim (λ d. Memᴰ.append_left (each_total f (suc y) c)
    (subst (λ (z : ℕ). Memᴰ (x ∷ q) (map (λ rest. z ∷ rest) (f z c))) (sym d) (Memᴰ.map (λ rest. x ∷ rest) (h c (omega arith)))))
    (λ l. Memᴰ.append_right (map (λ rest. y ∷ rest) (f y c)) (each_in f x b q high h (suc y) c l (omega arith))) (eq-or-lt_of_le low)

-- every list of totals that goes on from w bearably is a continuation after w
pub continuations_in : (M u w g : ℕ) (q : Queue) → w + g ≡ u * M → GoesOn M u w q → Memᴰ q (continuations M (length q) w g)
unfolding continuations
continuations_in M u w g [] e s = Memᴰ.head refl
continuations_in M u w g (x ∷ q) e s =
    let first = s 0 (zero-lt-suc (length q)) in
    each_in (continuations M (length q)) x (suc u * M) q (omega arith)
    (λ k d. continuations_in M (suc u) x k q d (went_on M u w x q s)) w (suc (g + M)) first.0 (omega arith)

-- a queue of a list stands at its place there
pub place_found : (w : Queue) (l : List Queue) → Memᴰ w l → (place_in l w < length l) × (get_or l (place_in l w) [] ≡ w)
unfolding place_in
place_found w [] m = absurd (Memᴰ.not-nil m)
place_found w (v ∷ l) m = go (place_found w l) (same v w) refl (Memᴰ.cases_cons m)
  where
    go : (Memᴰ w l → (place_in l w < length l) × (get_or l (place_in l w) [] ≡ w)) → (b : Bool) → same v w ≡ b → (w ≡ v) ⊎ Memᴰ w l →
        (cond b 0 (suc (place_in l w)) < suc (length l)) × (get_or (v ∷ l) (cond b 0 (suc (place_in l w))) [] ≡ w)
    go ih true e m = (zero-lt-suc (length l), same_true v w (subst T (sym e) tt))
    go ih false e (inl d) = absurd (subst T e (subst (λ (z : Queue). T (same z w)) d (same_refl w)))
    go ih false e (inr m) = let r = ih m in (omega arith, r.1)

bearable_found : (M : ℕ) (w : Queue) → T (bearable M w) →
    (number_of M w < queue_count M (length w)) × (get_or (bearable_queues M (length w)) (number_of M w) [] ≡ w)
unfolding number_of queue_count bearable_queues
bearable_found M w t =
    place_found w (continuations M (length w) 0 0) (continuations_in M 0 0 0 w (omega arith) (bearable_goes_on M w t))

-- the number of a bearable queue of D positions is below N
pub number_below : (M : ℕ) (w : Queue) {D : ℕ} → length w ≡ D → T (bearable M w) → number_of M w < queue_count M D
number_below M w long t = subst (λ (D : ℕ). number_of M w < queue_count M D) long (bearable_found M w t).0

-- every bearable queue of D positions stands in the list, at its number
pub number_place : (M : ℕ) (w : Queue) {D : ℕ} → length w ≡ D → T (bearable M w) → get_or (bearable_queues M D) (number_of M w) [] ≡ w
number_place M w long t = subst (λ (D : ℕ). get_or (bearable_queues M D) (number_of M w) [] ≡ w) long (bearable_found M w t).1

-- dictionary order

-- no queue is before itself
pub before_irreflexive : (w : Queue) → before w w → ⊥
before_irreflexive [] b = b
before_irreflexive (x ∷ w) (inl l) = lt_irrefl x l
before_irreflexive (x ∷ w) (inr b) = before_irreflexive w b.1

-- of two queues one at most is before the other
pub before_asymmetric : (v w : Queue) → before v w → before w v → ⊥
before_asymmetric [] w b c = b
before_asymmetric (x ∷ v) [] b c = b
before_asymmetric (x ∷ v) (y ∷ w) (inl l) (inl k) = omega arith
before_asymmetric (x ∷ v) (y ∷ w) (inl l) (inr c) = omega arith
before_asymmetric (x ∷ v) (y ∷ w) (inr b) (inl k) = omega arith
before_asymmetric (x ∷ v) (y ∷ w) (inr b) (inr c) = before_asymmetric v w b.1 c.1

-- each queue of the list is before all that follow it
abbrev Rises : List Queue → Type 0
Rises [] = Unit {0}
Rises (v ∷ l) = All (before v) l × Rises l

rises_append : (l m : List Queue) → Rises l → Rises m → All (λ v. All (before v) m) l → Rises (l ++ m)
rises_append [] m a b h = b
rises_append (v ∷ l) m a b h = (all_append (before v) l m a.0 h.0, rises_append l m a.1 b h.1)

rises_map : (x : ℕ) (l : List Queue) → Rises l → Rises (map (λ rest. x ∷ rest) l)
rises_map x [] a = tt
rises_map x (v ∷ l) a =
    (all_map (before v) (before (x ∷ v)) (λ rest. x ∷ rest) (λ q b. inr (refl, b)) l a.0, rises_map x l a.1)

rises_at : (l : List Queue) → Rises l → (i j : ℕ) → i < j → j < length l → before (get_or l i []) (get_or l j [])
rises_at [] a i j h k = absurd (not-suc-le-zero k)
rises_at (v ∷ l) a i zero h k = absurd (not-suc-le-zero h)
rises_at (v ∷ l) a zero (suc j) h k = all_at (before v) l a.0 j (le_of_suc-le-suc k)
rises_at (v ∷ l) a (suc i) (suc j) h k = rises_at l a.1 i j (le_of_suc-le-suc h) (le_of_suc-le-suc k)

-- a queue that begins with less than x is before each that begins with x or more
each_after : (f : ℕ → ℕ → List Queue) (z : ℕ) (v : Queue) (x c : ℕ) → z < x → All (before (z ∷ v)) (each_total f x c)
unfolding each_total
each_after f z v x zero l = tt
each_after f z v x (suc c) l =
    all_append (before (z ∷ v)) (map (λ rest. x ∷ rest) (f x c)) (each_total f (suc x) c)
    (all_made (before (z ∷ v)) (λ rest. x ∷ rest) (λ q. inl l) (f x c))
    (each_after f z v (suc x) c (omega arith))

each_rises : (f : ℕ → ℕ → List Queue) → ((x g : ℕ) → Rises (f x g)) → (x c : ℕ) → Rises (each_total f x c)
unfolding each_total
each_rises f h x zero = tt
each_rises f h x (suc c) =
    rises_append (map (λ rest. x ∷ rest) (f x c)) (each_total f (suc x) c) (rises_map x (f x c) (h x c)) (each_rises f h (suc x) c)
    (all_made (λ v. All (before v) (each_total f (suc x) c)) (λ rest. x ∷ rest) (λ q. each_after f x q (suc x) c (le_refl (suc x))) (f x c))

continuations_rise : (M r w g : ℕ) → Rises (continuations M r w g)
unfolding continuations
continuations_rise M zero w g = (tt, tt)
continuations_rise M (suc r) w g = each_rises (continuations M r) (continuations_rise M r) w (suc (g + M))

-- the list is in dictionary order
pub list_rises : (M D i j : ℕ) → i < j → j < queue_count M D → before (get_or (bearable_queues M D) i []) (get_or (bearable_queues M D) j [])
unfolding queue_count bearable_queues
list_rises M D i j h k = rises_at (continuations M D 0 0) (continuations_rise M D 0 0) i j h k

-- each queue stands there once

-- the first queue of a list has place 0
place_first : (v : Queue) (l : List Queue) → place_in (v ∷ l) v ≡ 0
unfolding place_in
place_first v l = check_passes (same v v) (suc (place_in l v)) (same_refl v)

-- in a list that rises the place of the queue at i is i
place_at : (l : List Queue) → Rises l → (i : ℕ) → i < length l → place_in l (get_or l i []) ≡ i
unfolding place_in
place_at [] a i h = absurd (not-suc-le-zero h)
place_at (v ∷ l) a zero h = place_first v l
place_at (v ∷ l) a (suc i) h =
    go (get_or l i []) (all_at (before v) l a.0 i (le_of_suc-le-suc h)) (place_at l a.1 i (le_of_suc-le-suc h))
    (same v (get_or l i [])) refl
  where
    go : (w : Queue) → before v w → place_in l w ≡ i → (b : Bool) → same v w ≡ b → cond b 0 (suc (place_in l w)) ≡ suc i
    go w b ih true e =
        absurd (before_irreflexive w (subst (λ (z : Queue). before z w) (same_true v w (subst T (sym e) tt)) b))
    go w b ih false e = ap suc ih

-- the number of the queue at place i of the list is i, so that no queue stands there twice
pub number_of_place : (M D i : ℕ) → i < queue_count M D → number_of M (get_or (bearable_queues M D) i []) ≡ i
unfolding number_of queue_count bearable_queues
number_of_place M D i h =
    ap (λ (n : ℕ). place_in (continuations M n 0 0) (get_or (continuations M D 0 0) i [])) (listed_bearable M D i h).0 ∙
    place_at (continuations M D 0 0) (continuations_rise M D 0 0) i h

-- numbers rise in dictionary order
pub number_rises : (M : ℕ) (v w : Queue) → T (bearable M v) → T (bearable M w) → length v ≡ length w → before v w → number_of M v < number_of M w
number_rises M v w a b e l = go (ltb (number_of M v) (number_of M w)) refl
  where
    at_v : get_or (bearable_queues M (length w)) (number_of M v) [] ≡ v
    at_v = number_place M v e a

    go : (t : Bool) → ltb (number_of M v) (number_of M w) ≡ t → number_of M v < number_of M w
    go true h = ltb-true (number_of M v) (number_of M w) h
    go false h = ⊎_elim same later (eq-or-lt_of_le (ltb-false (number_of M v) (number_of M w) h))
      where
        same : number_of M w ≡ number_of M v → number_of M v < number_of M w
        same d =
            let one : w ≡ v = sym (number_place M w refl b) ∙ ap (λ (i : ℕ). get_or (bearable_queues M (length w)) i []) d ∙ at_v in
            absurd (before_irreflexive v (subst (λ (q : Queue). before v q) one l))

        later : number_of M w < number_of M v → number_of M v < number_of M w
        later k =
            let below = number_below M v e a in
            let back = list_rises M (length w) (number_of M w) (number_of M v) k below in
            absurd (before_asymmetric v w l (subst₂ before (number_place M w refl b) at_v back))

-- the empty queue

-- the totals of the empty queue are 0
pub total_empty : (D u : ℕ) → total (empty_queue D) u ≡ 0
unfolding listed
total_empty D zero = refl
total_empty zero (suc i) = refl
total_empty (suc D) (suc zero) = refl
total_empty (suc D) (suc (suc i)) = total_empty D (suc i)

-- the first continuation stays at w
continuations_first : (M r w g : ℕ) → (l : List Queue) × (continuations M r w g ≡ listed (λ i. w) r ∷ l)
unfolding continuations each_total listed
continuations_first M zero w g = ([], refl)
continuations_first M (suc r) w g =
    let rest = each_total (continuations M r) (suc w) (g + M) in
    let first = continuations_first M r w (g + M) in
    (map (λ q. w ∷ q) first.0 ++ rest, ap (λ (l : List Queue). map (λ q. w ∷ q) l ++ rest) first.1)

-- the number of the empty queue is 0
pub number_empty : (M D : ℕ) → number_of M (empty_queue D) ≡ 0
unfolding number_of bearable_queues
number_empty M D =
    let first = continuations_first M D 0 0 in
    ap (λ (n : ℕ). place_in (continuations M n 0 0) (empty_queue D)) (length_totals D (λ u. 0)) ∙
    ap (λ (l : List Queue). place_in l (empty_queue D)) first.1 ∙ place_first (empty_queue D) first.0

-- the empty queue is the first of the list
pub empty_first : (M D : ℕ) → get_or (bearable_queues M D) 0 [] ≡ empty_queue D
unfolding bearable_queues
empty_first M D = ap (λ (l : List Queue). get_or l 0 []) (continuations_first M D 0 0).1

count_positive : (M r g : ℕ) → 1 ≤ continuation_count M r g
unfolding continuation_count sum
count_positive M zero g = le_refl 1
count_positive M (suc r) g = omega (arith, count_positive M r (g + M))

-- there are two bearable queues at least where some speed is not 0
pub at_least_two : (M D : ℕ) → 1 ≤ M → 1 ≤ D → 2 ≤ queue_count M D
unfolding continuation_count sum
at_least_two M zero h k = absurd (not-suc-le-zero k)
at_least_two zero (suc r) h k = absurd (not-suc-le-zero h)
at_least_two (suc m) (suc r) h k =
    rw (queue_count_lem, zero-add) (omega (arith, count_positive (suc m) r m, count_positive (suc m) r (suc m)))
