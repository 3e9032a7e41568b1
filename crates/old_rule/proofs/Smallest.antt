-- The smallest speed of a sheet that is enough in a queue: whether a speed is enough, place by place, and what a search over the sheet's
-- speeds, which rise, finds.
use Prim.Native.Nat.{ℕ, suc, pred, ◌+◌, ◌*◌, ◌≤◌, ◌<◌, zero-le}
use Rattle.std.specs.Bool.{MatchBool}
use Rattle.std.specs.Borrow.{Bor}
use Rattle.std.proofs.Common.{Option, Some, None}
use Rattle.std.specs.Option.{IsSome, MatchOption}
use Rattle.std.proofs.lemmas.List.{get_or_default}
use Rattle.model.proofs.Refusal.{Ranged}
use Rattle.std.specs.List.{enumerate_from, AllWithin, HoldsAt}
use Rattle.std.proofs.Math.Nat.{zero-add}
use Rattle.std.proofs.lemmas.List.FromFn.{length-enumerate_from, get_or-enumerate_from}
use mathlib.Core.Path.{◌≡◌, refl, sym, ap, ◌∙◌, subst}
use mathlib.Core.Bool.{Bool, true, false}
use mathlib.Core.Logic.{⊎_elim}
use native.Mathlib.Nat.{eq-or-lt_of_le}
use native.Mathlib.Numerals.{add-one}
use native.Mathlib.Omega.{arith}
use borrow.Author.Tests.{ltb-true, ltb-false, lt-leb}
use lib.Dec.{T, ltb, le→leb}
use lib.ListN.{length, get_or}
use Rattle.model.specs.View.{View, zero_speed, speed_at, on_sheet, M}
use Rattle.model.specs.declared.Speed.{Speed}
use Rattle.model.specs.Queue.{Queue, total, bearable}
use Rattle.model.specs.Pricing.{enough_at, enough, IsRuleSpeed}
use Rattle.model.proofs.Queues.{bearable_upto}
use Rattle.model.proofs.Tests.{holds_true, everywhere_all, everywhere_fails}
use Rattle.model.proofs.View.{Climbs, later_faster, on_sheet_at, place_of, speed_upto, speed_least}

-- whether a speed is enough

-- what a walk over a queue's totals, each with its place, says of a speed: all pass, or one fails
pub enough_walked : (r : Bool) (w : Queue) (speed : ℕ) →
    MatchBool r (AllWithin (λ (p : ℕ × ℕ). p.1 ≤ (p.0 + 1) * speed) (enumerate_from 0 w) 0 (length (enumerate_from 0 w)))
    ((k : ℕ) × (k < length (enumerate_from 0 w)) × HoldsAt (λ (p : ℕ × ℕ). (p.0 + 1) * speed < p.1) (enumerate_from 0 w) k) → r ≡ enough w speed
unfolding enough
enough_walked true w speed all = sym (holds_true _ (everywhere_all (enough_at w speed) (length w) passes))
  where
    passes : (i : ℕ) → i < length w → T (enough_at w speed i)
    passes i h =
        let low : i < length (enumerate_from 0 w) = omega (arith, length-enumerate_from 0 w) in
        let here = rw (get_or-enumerate_from 0 w i (0, 0) h) at (all i (0, 0) zero-le low) in
        le→leb (total w (suc i)) (suc i * speed) (rw (zero-add, add-one) at here)
enough_walked false w speed (k, low, fails) =
    let h : k < length w = omega (arith, length-enumerate_from 0 w) in
    let here = rw (get_or-enumerate_from 0 w k (0, 0) h) at (fails (0, 0)) in
    sym (everywhere_fails (enough_at w speed) (length w) k h (lt-leb (total w (suc k)) (suc k * speed) (rw (zero-add, add-one) at here)))

-- M is enough for every bearable queue
largest_enough : (most : ℕ) (w : Queue) → T (bearable most w) → T (enough w most)
unfolding enough
largest_enough most w t =
    everywhere_all (enough_at w most) (length w)
    (λ i h. le→leb (total w (suc i)) (suc i * most) (bearable_upto most w t (suc i) h))

-- the search

-- the speed found at a place is the sheet's there
pub found_at : (s : View) {one : Speed} (place : ℕ) → place < length s.speeds → one ≡ get_or s.speeds place one → one.speed ≡ speed_at s place
found_at s {one = one} place low is = ap (λ (y : Speed). y.speed) (is ∙ get_or_default s.speeds place one zero_speed low)

-- no speed before this place is enough
abbrev pub NoneBefore : View → Queue → ℕ → Type 0
NoneBefore s w place = (j : ℕ) → j < place → enough w (speed_at s j) ≡ false

module _ (s : View) (rises : Climbs s) where
  -- the speed at the last place is M
  last_largest : (j : ℕ) → suc j ≡ s.speed_count → speed_at s j ≡ M s
  last_largest j last = omega (arith, speed_upto s (speed_at s j) (on_sheet_at s j (omega arith)), speed_least s (speed_at s j) upto)
    where
      upto : (a : ℕ) → T (on_sheet s a) → a ≤ speed_at s j
      upto a t =
          let (i, low, is) = place_of s a t in
          ⊎_elim (λ q. omega (arith, is, ap (speed_at s) q)) (λ (l : i < j). omega (arith, is, later_faster s rises i j l (omega arith)))
          (eq-or-lt_of_le (omega arith))

  module _ (w : Queue) (place : ℕ) {speed : ℕ} (here : speed ≡ speed_at s place) (none : NoneBefore s w place) where
    -- the first speed that is enough is the smallest
    pub first_smallest : place < s.speed_count → T (enough w speed) → IsRuleSpeed s w speed
    first_smallest h right =
        record { on_sheet_lem = subst (λ (a : ℕ). T (on_sheet s a)) (sym here) (on_sheet_at s place h); is_enough = right; smallest = smallest }
      where
        smallest : (other : ℕ) → T (on_sheet s other) → T (enough w other) → speed ≤ other
        smallest other on right-too = go (place_of s other on)
          where
            go : (j : ℕ) × (j < s.speed_count) × (speed_at s j ≡ other) → speed ≤ other
            go (j, low, is) = by (ltb j place) refl
              where
                by : (b : Bool) → ltb j place ≡ b → speed ≤ other
                by true e = absurd (subst T (sym (ap (enough w) is) ∙ none j (ltb-true j place e)) right-too)
                by false e =
                    ⊎_elim (λ q. omega (arith, here, is, ap (speed_at s) q))
                    (λ l. omega (arith, here, is, later_faster s rises place j l low)) (eq-or-lt_of_le (ltb-false j place e))

-- what a search for the first speed that is enough gives, in a bearable queue
abbrev pub IsFirstEnough : View → Queue → Option (Bor Speed) → Type 0
IsFirstEnough s w found =
    MatchOption found (AllWithin (λ (one : Speed). enough w one.speed ≡ false) s.speeds 0 (length s.speeds))
    (λ one. (enough w one.now.speed ≡ true) × (place : ℕ) × (place < length s.speeds) × HoldsAt (λ y. y ≡ one.now) s.speeds place ×
    AllWithin (λ (other : Speed). enough w other.speed ≡ false) s.speeds 0 place)

module _ (s : View) (ranges : Ranged s) (counted : length s.speeds ≡ s.speed_count) (w : Queue) where
  -- there is one
  pub some_enough : T (bearable (M s) w) → (found : Option (Bor Speed)) → IsFirstEnough s w found → IsSome found
  some_enough t None none =
      let j = pred s.speed_count in
      let last : suc j ≡ s.speed_count = omega (arith, ranges.speeds_low) in
      absurd
      (subst T (sym (ap (enough w) (last_largest s ranges.rises j last)) ∙ none j zero_speed zero-le (omega (arith, counted))) (largest_enough (M s) w t))
  some_enough t (Some one) is = refl

  -- and it is the smallest
  pub enough_smallest : (one : Bor Speed) → IsFirstEnough s w (Some one) → IsRuleSpeed s w one.now.speed
  enough_smallest one (right, place, low, here, before) =
      first_smallest s ranges.rises w place (found_at s place low (sym (here one.now)))
      (λ j h. before j zero_speed zero-le h) (omega (arith, counted)) (subst T (sym right) tt)
