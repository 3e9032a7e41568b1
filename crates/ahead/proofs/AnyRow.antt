-- The first pass over a row of any function from queues to values: its sums are those of the function, a bound of the function bounds them,
-- and where there is an entry they make a row after a slot. The caller of the pass says which function it is.
use Prim.Native.Nat.{ℕ, ◌+◌, ◌*◌, ◌≤◌, ◌<◌}
use mathlib.Core.Path.{◌≡◌, sym, ap, ◌∙◌, subst}
use mathlib.Core.Bool.{false}
use mathlib.Core.List.{List}
use mathlib.Core.Option.{Option, none}
use native.Mathlib.Nat.{mul_comm, mul-le-mul_left}
use native.Mathlib.Omega.{arith}
use lib.Dec.{T}
use lib.ListN.{length}
use Rattle.process.specs.Sums.{sum}
use Rattle.process.proofs.Sums as sums
use Rattle.process.proofs.Value.{UptoOr, upto_or_le, sum_upto}
use Rattle.model.specs.View.{View, weight_at, size_at, deadline_at, W}
use Rattle.model.specs.Queue.{Queue, NeverFalls, bearable}
use Rattle.model.proofs.Refusal.{W_is}
use Rattle.model.proofs.Tests.{fails_false}
use Rattle.slot.proofs.Slots.{arrive_not_bearable}
use Rattle.buffers.specs.Fills.{Fills}
use Rattle.model.specs.Width.{Width, value_in}
use Rattle.value.proofs.Decoding.{bound_fits, fits_number}
use Rattle.buffers.proofs.Filling.{fills_same}
use Rattle.rows.specs.Rows.{after_with, RowOf}
use Rattle.sheets.specs.Sizes.{Measured}
use Rattle.sheets.specs.declared.sizes.Sizes.{Sizes}
use Rattle.rows.proofs.Rows.{row_says}
use Rattle.entry_lanes.specs.Lanes.{joined}
use Rattle.ahead.specs.Pass.{Given, sum_left}
use Rattle.ahead.specs.Sums.{sum_to}
use Rattle.ahead.proofs.Adding.{sum_same, sum_none}
use Rattle.ahead.proofs.Passing.{joined_long}

module _ (s : View) (f : Queue → Option ℕ) where
  -- where the function is nowhere above a bound, no sum over some first entries is above the bound times W
  pub sums_upto : (most : ℕ) → ((w : Queue) → UptoOr (Unit {0}) (f w) most) → (v : Queue) (n : ℕ) → n ≤ s.job_count →
      UptoOr (Unit {0}) (sum_to s f v n) (most * W s)
  unfolding sum_to
  sums_upto most upto v n h =
      upto_or_le (Unit {0}) (sum_to s f v n)
      (sum_upto (Unit {0}) (weight_at s) (λ j. f (joined s v j)) n (λ j. most) (λ j l. upto (joined s v j))) whole
    where
      whole : sum (λ j. weight_at s j * most) n ≤ most * W s
      whole =
          omega (
            arith,
            sums.sum_same n (λ j l. mul_comm (weight_at s j) most) ∙ sums.sum_times most (weight_at s) n,
            mul-le-mul_left most (sums.sum_more (weight_at s) n s.job_count h),
            ap (λ (x : ℕ). most * x) (W_is s),
          )

  -- where it gives none of each queue that is not bearable, so do its sums: no arrival makes such a queue bearable
  pub sums_strict : (M : ℕ) → 1 ≤ s.job_count → ((w : Queue) → bearable M w ≡ false → f w ≡ none) → (v : Queue) → NeverFalls v →
      bearable M v ≡ false → sum_to s f v s.job_count ≡ none
  sums_strict M jobs strict v rises e =
      sum_none s f v s.job_count 0 jobs
      (strict (joined s v 0)
      (fails_false (bearable M (joined s v 0)) (λ t. subst T e (arrive_not_bearable M v (size_at s 0) (deadline_at s 0) rises t))))

module _ (width : Width) (s : View) {sizes : Sizes} (m : Measured sizes) (f : Queue → Option ℕ) {next : ℕ} {values : List ℕ}
    (row : RowOf width sizes.largest sizes.bound f next values) where
  -- what the pass adds up is what the function gives
  sums_told : (i n : ℕ) → i < sizes.after →
      sum_left width s sizes next values i n ≡ sum_to s f (after_with sizes.largest sizes.bound i) n
  sums_told i n h =
      sum_same s _ f (after_with sizes.largest sizes.bound i) n
      (λ j. row_says width sizes.largest sizes.bound f next values row _ (joined_long m s h j))

  -- what it is given, where the function's bound times W passes no limit of a value
  pub given_for : (most : ℕ) → ((w : Queue) → UptoOr (Unit {0}) (f w) most) → most * W s ≤ width.limit → Given width s sizes next values
  given_for most upto low =
      record {
        room = subst (λ (n : ℕ). (next + n) * width.places ≤ length values) (sym m.queues_is) row.row.room;
        fits = λ i n v h k here.
            let q = after_with sizes.largest sizes.bound i in
            fits_number width (sum_to s f q n) v (sym (sums_told i n h) ∙ here)
            (bound_fits width (sum_to s f q n) (sums_upto s f most upto q n k) low);
      }

  -- what it leaves: the sums of the function
  pub left_for : {ahead₀ ahead : List ℕ} →
      Fills width.places (value_in width) (λ i. sum_left width s sizes next values i s.job_count) 0 sizes.after ahead₀ ahead →
      Fills width.places (value_in width) (λ i. sum_to s f (after_with sizes.largest sizes.bound i) s.job_count) 0 sizes.after
      ahead₀ ahead
  left_for = fills_same width.places (value_in width) (λ i h. sums_told i s.job_count h)
