-- That the first pass, over a row of the next slot, works out what is ahead of a queue after a slot: of the recursion's values, and of any
-- other function that the passes can be made over. What is said of buffers is said over any width of a value.
use Prim.Native.Nat.{ℕ, zero, suc}
use mathlib.Core.Path.{◌≡◌, refl, sym, ap, ◌∙◌, subst}
use mathlib.Core.Bool.{Bool, true, false}
use mathlib.Core.List.{List}
use mathlib.Core.Option.{Option, none, some}
use lib.Dec.{T}
use Rattle.process.specs.Recursion.{UptoOr, only, worth}
use Rattle.model.specs.View.{View, M}
use Rattle.model.specs.Plan.{queue_at}
use Rattle.model.specs.Queue.{Queue, bearable}
use Rattle.laws.proofs.Recursion as recursion
use Rattle.model.proofs.Refusal.{Accepted, accepted, N_is}
use Rattle.buffers.specs.Fills.{Fills}
use Rattle.model.specs.Width.{Width, value_in}
use Rattle.buffers.proofs.Filling.{fills_same}
use Rattle.rows.specs.Rows.{after_with, Row, RowOf}
use Rattle.sheets.specs.Sizes.{Sized}
use Rattle.sheets.specs.declared.sizes.Sizes.{Sizes}
use Rattle.sheets.proofs.Measures.{sized_same, measured}
use Rattle.ahead.specs.Pass.{Given, sum_left}
use Rattle.ahead.specs.Sums.{sum_to}
use Rattle.ahead.proofs.AnyRow.{given_for, left_for}
use Rattle.backward.specs.Passes.{value_with, choice_with, ahead_to, ahead_of, queue_after, RowWith, Ready}
use Rattle.backward.proofs.Fits.{most, value_upto, ahead_fits}

-- what a queue is worth

-- a test that passes lets a value through
pub only_passed : (b : Bool) (r : Option ℕ) → T b → only b r ≡ r
only_passed true r t = refl
only_passed false r t = absurd t

module _ (s : View) where
  -- with no slot left a bearable queue has a value, 0
  pub value_last : (w : Queue) → T (bearable (M s) w) → value_with s 0 w ≡ some 0
  unfolding value_with
  value_last w t = recursion.value_last s w ∙ only_passed (bearable (M s) w) (some 0) t

  -- else its value is what the least over the speeds is worth
  pub value_chosen : (k : ℕ) (w : Queue) → T (bearable (M s) w) → value_with s (suc k) w ≡ worth (choice_with s k w)
  unfolding value_with choice_with
  value_chosen k w t = recursion.value_chosen s k w ∙ only_passed (bearable (M s) w) (worth (choice_with s k w)) t

  -- a queue that is not bearable has no value
  pub not_bearable_none : (k : ℕ) (w : Queue) → bearable (M s) w ≡ false → value_with s k w ≡ none
  unfolding value_with choice_with
  not_bearable_none zero w e = recursion.value_last s w ∙ ap (λ (b : Bool). only b (some 0)) e
  not_bearable_none (suc k) w e = recursion.value_chosen s k w ∙ ap (λ (b : Bool). only b (worth (choice_with s k w))) e

-- a function of queues that the passes can be made over, with k slots left: it gives none for a queue that is not bearable, and nowhere more
-- than k slots can cost
pub record Valued (s : View) (k : ℕ) (f : Queue → Option ℕ) : Type 0 where
  pub strict : (w : Queue) → bearable (M s) w ≡ false → f w ≡ none
  pub upto : (w : Queue) → UptoOr (Unit {0}) (f w) (most s k)

-- the recursion's value is one
pub value_valued : (s : View) (k : ℕ) → Valued s k (value_with s k)
value_valued s k = record { strict = not_bearable_none s k; upto = value_upto s k }

-- what the first pass is given, and what it leaves

module _ (width : Width) {s : View} {sizes : Sizes} {left : ℕ} {scale : Option ℕ} (ready : Ready width s sizes left scale)
    {f : Queue → Option ℕ} (valued : Valued s left f) {next : ℕ} {values : List ℕ} (row : RowWith width s f next values) where
  abbrev is_accepted : Accepted width.limit s
  is_accepted = accepted s ready.prepared.accepted

  abbrev sized : Sized s sizes
  sized = ready.prepared.sized

  -- the row is one of the function
  value_row : RowOf width sizes.largest sizes.bound f next values
  value_row =
      subst (λ (p : ℕ × ℕ). RowOf width p.0 p.1 f next values) (sym (sized_same sized (λ m D. (m, D))))
      (record {
        row = subst (λ (n : ℕ). Row width (λ i. f (queue_at s i)) next n values) (N_is s) row;
        strict = valued.strict;
      })

  pub first_given : Given width s sizes next values
  first_given =
      given_for width s (measured s sizes is_accepted sized) f value_row (most s left) valued.upto
      (ahead_fits s is_accepted left ready.in_plan.left_low)

  pub first_left : {ahead₀ ahead : List ℕ} →
      Fills width.places (value_in width) (λ i. sum_left width s sizes next values i s.job_count) 0 sizes.after ahead₀ ahead →
      Fills width.places (value_in width) (λ i. sum_to s f (queue_after s i) s.job_count) 0 sizes.after ahead₀ ahead
  first_left fill =
      fills_same width.places (value_in width) (λ i h. sized_same sized (λ m D. sum_to s f (after_with m D i) s.job_count))
      (left_for width s (measured s sizes is_accepted sized) f value_row fill)

-- of the recursion's values it leaves what is ahead
pub ahead_left : (width : Width) (s : View) (left after : ℕ) {ahead₀ ahead : List ℕ} →
    Fills width.places (value_in width) (λ i. sum_to s (value_with s left) (queue_after s i) s.job_count) 0 after ahead₀ ahead →
    Fills width.places (value_in width) (λ i. ahead_of s left (queue_after s i)) 0 after ahead₀ ahead
unfolding ahead_to
ahead_left width s left after fill = fill
