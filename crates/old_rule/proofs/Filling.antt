-- How the rows of the rule's plan are filled, byte by byte: the first row with the speed that the rule sets in each queue, every later byte
-- as it stands one row before; and the queue of a number, as the code finds it.
use Prim.Native.Nat.{ℕ, zero, suc, ◌+◌, ◌*◌, ◌-◌, ◌≤◌, ◌<◌}
use mathlib.Core.Path.{◌≡◌, sym, ap, ◌∙◌, subst}
use mathlib.Core.List.{List, []}
use mathlib.Core.Logic.{◌⊎◌, inl, inr}
use native.Mathlib.Numerals.{add-one}
use native.Mathlib.Nat.{suc-mul, mul-le-mul_right}
use native.Mathlib.Omega.{arith}
use lib.Dec.{T}
use mathlib.Core.List.{◌++◌}
use lib.Seq.{get_or-append_right, get_or-drop}
use lib.ListN.{get_or-append, length-append, length-drop, drop, length, get_or}
use Rattle.std.specs.List.{CopiedTo, SameBelow, SameFrom}
use Rattle.std.proofs.lemmas.Bool.{cases_order}
use Rattle.std.proofs.lemmas.Nat.{mul-add-lt}
use Rattle.model.specs.View.{View, M}
use Rattle.model.specs.Queue.{Queue, queue_in, places_of, bearable, bearable_queues, queue_count}
use Rattle.model.specs.Plan.{queue_at, place_at, byte_at, plan_needed}
use Rattle.model.specs.Refusal.{N}
use Rattle.model.specs.Pricing.{IsRuleSpeed}
use Rattle.model.proofs.Queues.{listed_bearable, in_first_places}
use Rattle.model.proofs.Refusal.{Ranged, N_is, M_high}
use Rattle.model.proofs.View.{speed_upto}
use Rattle.sheets.specs.declared.sizes.Sizes.{Sizes}
use Rattle.sheets.proofs.Measures.{sized_same}
use Rattle.sheets.specs.Sizes.{Sized}
use Rattle.old_rule.specs.Rows.{FilledTo}

module _ (s : View) where
  -- the first row is filled: the rule's speeds, and behind them what stood there
  module _ (queues : ℕ) (plan row : List ℕ) (queues_is : queues ≡ N s) (fits : queues ≤ length plan) (long : length row ≡ queues)
      (speeds : (i : ℕ) → i < queues → IsRuleSpeed s (queue_at s i) (get_or row i 0)) where
    at_first : (t i : ℕ) → place_at s t i < N s → place_at s t i ≡ i
    at_first zero i l = omega arith
    at_first (suc t) i l = absurd (omega (arith, suc-mul t (N s)))

    behind_first : (p : ℕ) → N s ≤ p → get_or (row ++ drop queues plan) p 0 ≡ get_or plan p 0
    behind_first p h =
        let back : queues + (p - length row) ≡ p = omega arith in
        get_or-append_right row (drop queues plan) p 0 (omega arith) ∙ get_or-drop queues plan (p - length row) 0 ∙ ap (λ (q : ℕ). get_or plan q 0) back

    pub first_filled : FilledTo s (N s) plan (row ++ drop queues plan)
    first_filled =
        record {
          same_length = omega (arith, length-append row (drop queues plan), length-drop queues plan);
          right = λ t i h l.
              subst (IsRuleSpeed s (queue_at s i))
              (sym
              (ap (λ (p : ℕ). get_or (row ++ drop queues plan) p 0) (at_first t i l) ∙
              get_or-append row (drop queues plan) 0 i (omega arith)))
              (speeds i (omega arith));
          outside = behind_first;
        }

  -- one row more: a copy of the first, behind all that is filled
  module _ (slot place count : ℕ) (plan₀ plan plan₁ : List ℕ) (behind : 1 ≤ slot) (place_is : place ≡ slot * N s) (count_is : count ≡ N s)
      (filled : FilledTo s (slot * N s) plan₀ plan) (long : length plan₁ ≡ length plan)
      (copied : CopiedTo plan plan₁ 0 place (count - 0) × SameBelow plan plan₁ place × SameFrom plan plan₁ (place + (count - 0))) where
    -- a place of a slot before another's row
    before_row : (t next i : ℕ) → i < N s → t < next → place_at s t i < next * N s
    before_row t next i h l = omega (arith, mul-add-lt t (N s) i next l h)

    -- a slot before it keeps its bytes
    kept : (t i : ℕ) → i < N s → t < slot → IsRuleSpeed s (queue_at s i) (byte_at s plan₁ t i)
    kept t i h l =
        let before = before_row t slot i h l in
        subst (IsRuleSpeed s (queue_at s i)) (sym (copied.1 (place_at s t i) 0 (omega arith))) (filled.right t i h before)

    -- and it has those of slot 0
    fresh : (i : ℕ) → i < N s → IsRuleSpeed s (queue_at s i) (byte_at s plan₁ slot i)
    fresh i h =
        let first : 0 + (place_at s slot i - place) ≡ place_at s 0 i = omega arith in
        subst (IsRuleSpeed s (queue_at s i))
        (sym (copied.0 (place_at s slot i) 0 (omega arith) (omega arith) ∙ ap (λ (p : ℕ). get_or plan p 0) first))
        (filled.right 0 i h (before_row 0 slot i h behind))

    pub filled_row : FilledTo s ((slot + 1) * N s) plan₀ plan₁
    filled_row =
        record {
          same_length = long ∙ filled.same_length;
          right = λ t i h l. by t i h l (cases_order t slot);
          outside = λ p h. copied.2 p 0 (omega (arith, next_row)) ∙ filled.outside p (omega (arith, next_row));
        }
      where
        next_row : (slot + 1) * N s ≡ slot * N s + N s
        next_row = omega (arith, suc-mul slot (N s), add-one slot)

        by : (t i : ℕ) → i < N s → place_at s t i < (slot + 1) * N s → (t ≡ slot) ⊎ ((t < slot) ⊎ (slot < t)) →
            IsRuleSpeed s (queue_at s i) (byte_at s plan₁ t i)
        by t i h l (inl q) = subst (λ (r : ℕ). IsRuleSpeed s (queue_at s i) (byte_at s plan₁ r i)) (sym q) (fresh i h)
        by t i h l (inr (inl before)) = kept t i h before
        by t i h l (inr (inr after)) = absurd (omega (arith, next_row, suc-mul slot (N s), mul-le-mul_right (N s) after))

-- there is a first row: T is 1 at least
pub first_within : (s : View) → Ranged s → N s ≤ plan_needed s
first_within s ranges = omega (arith, mul-le-mul_right (N s) ranges.horizon_low)

-- the rule's speed is 8 at most
pub rule_small : (s : View) {w : Queue} {speed : ℕ} → Ranged s → IsRuleSpeed s w speed → speed ≤ 8
rule_small s {speed = speed} ranges right = omega (arith, speed_upto s speed right.on_sheet_lem, M_high s ranges)

-- the queue of a number, as the code finds it

module _ {s : View} {sizes : Sizes} (ranges : Ranged s) (sized : Sized s sizes) {number : ℕ} (low : number < sizes.queues) where
  -- there is one
  pub number_low : number < queue_count sizes.largest sizes.bound
  number_low = omega (arith, sized.queues_is, N_is s, sized_same sized queue_count)

  -- a queue of D positions, which is bearable
  listed_right : (length (queue_at s number) ≡ s.bound) × T (bearable (M s) (queue_at s number))
  listed_right = listed_bearable (M s) s.bound number (omega (arith, sized.queues_is, N_is s))

  module _ {queue : List ℕ} (found : queue ≡ places_of (get_or (bearable_queues sizes.largest sizes.bound) number [])) where
    -- it stands in the first D places that are found
    pub queue_found : queue_in s.bound queue ≡ queue_at s number
    queue_found =
        ap (queue_in s.bound) (found ∙ sized_same sized (λ m D. places_of (get_or (bearable_queues m D) number []))) ∙
        in_first_places s.bound (queue_at s number) listed_right.0 ranges.bound_high

    -- so that a bearable queue stands there
    pub found_bearable : T (bearable (M s) (queue_in s.bound queue))
    found_bearable = subst (λ (w : Queue). T (bearable (M s) w)) (sym queue_found) listed_right.1
