-- The queue of a number, total by total. What is fixed so far, followed by the queue that stands at the place in the list of all that may
-- follow, is the queue wanted; no sum is needed.
use Prim.Native.Nat.{ℕ, zero, suc, ◌+◌, ◌*◌, ◌-◌, ◌≤◌, ◌<◌}
use mathlib.Core.Path.{◌≡◌, refl, sym, ◌∙◌}
use mathlib.Core.List.{List, [], ◌∷◌, ◌++◌, map, append_assoc, append-nil}
use native.Mathlib.Nat.{le_refl, not-suc-le-zero, le_of_suc-le-suc, suc-mul}
use native.Mathlib.Numerals.{add-one}
use native.Mathlib.Omega.{arith}
use lib.ListN.{length, get_or, take, set, replicate, length-set, length-map, get_or-append}
use lib.Seq.{take-suc-set, get_or-set_other, get_or-append-add}
use Rattle.process.specs.Sums.{sum}
use Rattle.model.specs.Queue.{Queue, places_of, each_total, continuations, bearable_queues, queue_count, continuation_count}
use Rattle.model.proofs.Queues.{continuations_count, queue_count_lem, get_D_zeros}
use Rattle.queues.specs.Order.{Ranges, Leads, Follows, following}
use Rattle.slot.proofs.Places.{places_in}

-- the queue at a place of a list whose queues were each given one total more
map_at : (x : ℕ) (l : List Queue) (k : ℕ) → k < length l → get_or (map (λ v. x ∷ v) l) k [] ≡ x ∷ get_or l k []
map_at x [] k h = absurd (not-suc-le-zero h)
map_at x (v ∷ l) zero h = refl
map_at x (v ∷ l) (suc k) h = map_at x l k (le_of_suc-le-suc h)

-- a place among the queues that begin with the first total, or past them
first_at : (f : ℕ → ℕ → List Queue) (x c k : ℕ) → k < length (f x c) → get_or (each_total f x (suc c)) k [] ≡ x ∷ get_or (f x c) k []
unfolding each_total
first_at f x c k h = get_or-append (map (λ v. x ∷ v) (f x c)) (each_total f (suc x) c) [] k (rw length-map h) ∙ map_at x (f x c) k h

past_at : (f : ℕ → ℕ → List Queue) (x c k : ℕ) → length (f x c) ≤ k →
    get_or (each_total f x (suc c)) k [] ≡ get_or (each_total f (suc x) c) (k - length (f x c)) []
unfolding each_total
past_at f x c k h =
    let first = map (λ v. x ∷ v) (f x c) in
    let far : length first + (k - length (f x c)) ≡ k = rw length-map (omega arith) in
    rw far at (get_or-append-add first (each_total f (suc x) c) (k - length (f x c)) [])

-- the search for the next total: it began at total₀, slack₀ and place₀, and the queue wanted is still at the place, from the total on
pub record Searching (M r total₀ slack₀ place₀ total slack place : ℕ) : Type 0 where
  pub same_queue :
      get_or (each_total (continuations M r) total₀ (suc slack₀)) place₀ [] ≡ get_or (each_total (continuations M r) total (suc slack)) place []
  pub same_sum : total + slack ≡ total₀ + slack₀
  pub total_low : total₀ ≤ total
  pub place_low : place < sum (continuation_count M r) (suc slack)

-- where it begins
pub search_begins : {M r t g p : ℕ} → Leads M (suc r) t g p → Searching M r t (g + M) p t (g + M) p
unfolding continuation_count
search_begins {t = t} l = record { same_queue = refl; same_sum = refl; total_low = le_refl t; place_low = l.place_low }

-- it goes on where all queues with this total stand before the place, and then there is a larger total
pub search_goes_on : {M r t₀ g₀ p₀ t g p : ℕ} (n : ℕ) → Searching M r t₀ g₀ p₀ t g p → n ≡ continuation_count M r g → n ≤ p →
    (1 ≤ g) × Searching M r t₀ g₀ p₀ (t + 1) (g - 1) (p - n)
unfolding sum
search_goes_on {g = zero} n s e h = absurd (omega (arith, s.place_low))
search_goes_on {M} {r} {t = t} {g = suc c} {p = p} n s e h =
    let f = continuations M r in
    let many = continuations_count M r t (suc c) in
    let less : suc c - 1 ≡ c = omega arith in (
      omega arith,
      record {
        same_queue = s.same_queue ∙ past_at f t (suc c) p (omega arith) ∙ rw (many, ← e, add-one, less);
        same_sum = omega (arith, s.same_sum);
        total_low = omega (arith, s.total_low);
        place_low = rw less (omega (arith, s.place_low));
      },
    )

-- it ends at the total under which the place falls
pub search_ends : {M r t g p t₁ g₁ p₁ : ℕ} → Searching M r t (g + M) p t₁ g₁ p₁ → p₁ < continuation_count M r g₁ → Follows M r t g p t₁ g₁ p₁
unfolding continuations
search_ends {M} {r} {t₁ = t₁} {g₁ = g₁} {p₁ = p₁} s h =
    record {
      same_queue = s.same_queue ∙ first_at (continuations M r) t₁ g₁ p₁ (omega (arith, continuations_count M r t₁ g₁));
      same_sum = omega (arith, s.same_sum);
      place_low = h;
    }

-- the queue wanted, u of its totals fixed: they stand in the places, and the rest is at the place among what may follow
pub record Fixing (M D number : ℕ) (places : List ℕ) (total slack place u : ℕ) : Type 0 where
  pub upto : u ≤ D
  pub same_queue : get_or (bearable_queues M D) number [] ≡ take u places ++ following M (D - u) total slack place
  pub same_sum : total + slack ≡ u * M
  pub place_low : place < continuation_count M (D - u) slack
  pub six : length places ≡ 6
  pub unused : (i : ℕ) → u ≤ i → get_or places i 0 ≡ 0

-- nothing is fixed at first
pub fixing_begins : (M D number : ℕ) → number < queue_count M D → Fixing M D number (replicate 6 0) 0 0 number 0
unfolding bearable_queues
fixing_begins M D number h =
    let all : D - 0 ≡ D = omega arith in
    record {
      upto = omega arith;
      same_queue = rw all;
      same_sum = omega arith;
      place_low = rw (all, ← queue_count_lem) h;
      six = refl;
      unused = λ i l. get_D_zeros [] 6 i;
    }

-- one total more is fixed
pub fixing_goes_on : {M D number : ℕ} {places : List ℕ} {t g p u t₁ g₁ p₁ : ℕ} → Ranges M D → Fixing M D number places t g p u → u < D →
    Follows M (D - 1 - u) t g p t₁ g₁ p₁ → Fixing M D number (set places u t₁) t₁ g₁ p₁ (u + 1)
fixing_goes_on {M} {D} {places = places} {t} {g} {p} {u} {t₁} {g₁} {p₁} n f h s =
    let left : D - u ≡ suc (D - 1 - u) = omega arith in
    let next : D - suc u ≡ D - 1 - u = omega arith in
    let within : u < length places = omega (arith, f.six, n.bound_high) in
    record {
      upto = omega arith;
      same_queue = rw (f.same_queue, left, s.same_queue, add-one, next, take-suc-set places u t₁ within, append_assoc);
      same_sum = rw (add-one, suc-mul) (omega (arith, f.same_sum, s.same_sum));
      place_low = rw (add-one, next) s.place_low;
      six = length-set places u t₁ ∙ f.six;
      unused = λ i l. get_or-set_other places u i t₁ 0 (λ e. omega arith) ∙ f.unused i (omega arith);
    }

-- once all are fixed, the places are those of the queue
pub fixing_ends : {M D number : ℕ} {places : List ℕ} {t g p u : ℕ} → Fixing M D number places t g p u → D ≤ u →
    places ≡ places_of (get_or (bearable_queues M D) number [])
unfolding continuations continuation_count
fixing_ends {M} {D} {places = places} {t} {g} {p} {u} f h =
    let all : u ≡ D = omega (arith, f.upto) in
    let none : D - D ≡ 0 = omega arith in
    let first : p ≡ 0 = omega (arith, rw (all, none) at f.place_low) in
    rw (f.same_queue, all, none, first, append-nil) (sym (places_in D places f.six (λ i l k. f.unused i (omega arith))))
