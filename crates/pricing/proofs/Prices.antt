-- That the passes, over rows of prices, work out what the recursion says a plan costs, and that this is the price by the definition. What is
-- said of buffers is said over any width of a value.
use Prim.Native.Nat.{ℕ, zero, suc, ◌+◌, ◌-◌, ◌*◌, ◌^◌, ◌≤◌, ◌<◌}
use mathlib.Core.Path.{◌≡◌, sym, ap, ◌∙◌}
use mathlib.Core.Bool.{Bool, false}
use mathlib.Core.List.{List}
use mathlib.Core.Option.{Option, none, some}
use native.Mathlib.Omega.{arith}
use lib.ListN.{length, get_or}
use Rattle.process.specs.Recursion.{only}
use Rattle.process.specs.Ways.{IsPrice}
use Rattle.process.proofs.Price.{price_is}
use Rattle.model.specs.View.{View, weight_at, on_sheet, W, M}
use Rattle.model.specs.Plan.{process_of, queue_at, place_at}
use Rattle.model.specs.Pricing.{speed_by_plan}
use Rattle.model.specs.Queue.{Queue, bearable}
use Rattle.model.specs.Refusal.{N}
use Rattle.model.specs.Width.{Width, value_in}
use Rattle.model.proofs.Queues.{listed_bearable, number_of_place}
use Rattle.model.proofs.Refusal.{Accepted, accepted, N_is}
use Rattle.laws.proofs.Recursion.{price_last, price_byte, price_most}
use Rattle.buffers.specs.Fills.{Fills}
use Rattle.buffers.proofs.Filling.{fills_same, fills_whole}
use Rattle.queues.specs.Blocks.{queue_with}
use Rattle.sheets.specs.declared.sizes.Sizes.{Sizes}
use Rattle.sheets.proofs.Measures.{sized_same, measured}
use Rattle.ahead.specs.Pass.{sum_left}
use Rattle.ahead.specs.Sums.{sum_to}
use Rattle.follow.specs.Pass.{byte_cost_by, cost_left}
use Rattle.follow.proofs.AnyRow.{costs_for}
use Rattle.backward.specs.Passes.{RowWith, AheadWith, Ready}
use Rattle.backward.proofs.Backward.{ahead_there}
use Rattle.backward.proofs.FirstPass.{Valued, only_passed, first_left}
use Rattle.backward.proofs.SecondPass.{speed_priced, ahead_row}
use Rattle.pricing.specs.Prices.{price_with, InRow, PricedRow}

-- a test that fails lets nothing through
only_failed : (b : Bool) (r : Option ℕ) → b ≡ false → only b r ≡ none
only_failed b r e = ap (λ (x : Bool). only x r) e

module _ (s : View) (plan : List ℕ) where
  -- what the recursion finds is the price
  pub price_right : {limit : ℕ} → Accepted limit s → (k : ℕ) (w : Queue) →
      IsPrice (process_of s) s.job_count (weight_at s) (speed_by_plan s plan) k w (price_with s plan k w)
  unfolding price_with
  price_right a k w = price_is (process_of s) s.job_count (weight_at s) (speed_by_plan s plan) a.ranged.jobs_low k w

  -- a queue that is not bearable has none
  not_bearable_none : (k : ℕ) (w : Queue) → bearable (M s) w ≡ false → price_with s plan k w ≡ none
  unfolding price_with
  not_bearable_none zero w e = price_last s plan w ∙ only_failed (bearable (M s) w) (some 0) e
  not_bearable_none (suc k) w e = price_byte s plan k w ∙ only_failed (bearable (M s) w) _ e

  -- so that the passes can be made over rows of prices
  pub price_valued : (k : ℕ) → Valued s k (price_with s plan k)
  unfolding price_with
  price_valued k = record { strict = not_bearable_none k; upto = price_most s plan k }

  -- with no slot left every queue of the list has a price, 0
  pub price_end : (i : ℕ) → i < N s → price_with s plan 0 (queue_at s i) ≡ some 0
  unfolding price_with
  price_end i h =
      price_last s plan (queue_at s i) ∙
      only_passed (bearable (M s) (queue_at s i)) (some 0) (listed_bearable (M s) s.bound i (omega (arith, N_is s))).1

  -- with one slot more it has what its byte costs by what is ahead then
  price_more : (k i : ℕ) → i < N s →
      byte_cost_by (λ v. sum_to s (price_with s plan k) v s.job_count) s (some (W s ^ suc k)) (queue_at s i)
      (speed_by_plan s plan (suc k) (queue_at s i)) ≡
      price_with s plan (suc k) (queue_at s i)
  unfolding price_with
  price_more k i h =
      let w = queue_at s i in
      let byte = speed_by_plan s plan (suc k) w in
      ap (only (on_sheet s byte)) (speed_priced s k (price_with s plan k) w byte) ∙
      sym (price_byte s plan k w ∙
      only_passed (bearable (M s) w) _ (listed_bearable (M s) s.bound i (omega (arith, N_is s))).1)

  -- the byte of a queue, where the code looks for it
  byte_is : (left row : ℕ) → row ≡ place_at s (s.horizon - suc left) 0 → (i : ℕ) → i < N s →
      get_or plan (row + i) 0 ≡ speed_by_plan s plan (suc left) (queue_at s i)
  byte_is left row e i h =
      let number = number_of_place (M s) s.bound i (omega (arith, N_is s)) in
      let place : row + i ≡ place_at s (s.horizon - suc left) i = omega arith in
      ap (λ (p : ℕ). get_or plan p 0) place ∙ ap (λ (n : ℕ). get_or plan (place_at s (s.horizon - suc left) n) 0) (sym number)

-- what the first pass leaves, where the row of the next slot holds prices: what is ahead of each queue after the slot
pub sums_there : (width : Width) {s : View} {sizes : Sizes} {left : ℕ} {scale : Option ℕ} → Ready width s sizes left scale → (plan : List ℕ)
    {next : ℕ} {values : List ℕ} → RowWith width s (price_with s plan left) next values → {ahead₀ ahead : List ℕ} →
    sizes.after * width.places ≤ length ahead₀ →
    Fills width.places (value_in width) (λ i. sum_left width s sizes next values i s.job_count) 0 sizes.after ahead₀ ahead →
    AheadWith width s (price_with s plan left) ahead
sums_there width {s} {sizes} {left} ready plan row room filled =
    ahead_there width _ sizes.after ready.prepared.sized.after_is room
    (first_left width ready (price_valued s plan left) row filled)

-- what a slot leaves, where the rows behind it hold prices
pub row_left : (width : Width) {s : View} {sizes : Sizes} {left : ℕ} {scale : Option ℕ} → Ready width s sizes left scale → (plan : List ℕ) {row : ℕ} →
    InRow s left row plan → {ahead : List ℕ} → AheadWith width s (price_with s plan left) ahead → {this : ℕ} {values₀ values : List ℕ} →
    Fills width.places (value_in width) (cost_left width s sizes ahead scale plan row) this sizes.queues values₀ values →
    PricedRow width s plan left this values₀ values
row_left width {s} {sizes} {left} {scale} ready plan {row} at stands filled =
    let sized = ready.prepared.sized in
    let rows = ahead_row width ready (price_valued s plan left) stands in
    let m = measured s sizes (accepted s ready.prepared.accepted) sized in
    let ahead : Queue → Option ℕ = λ v. sum_to s (price_with s plan left) v s.job_count in
    fills_same width.places (value_in width)
    (λ i h.
    sized_same sized (λ m D. byte_cost_by ahead s scale (queue_with m D i) (get_or plan (row + i) 0)) ∙
    ap (λ (q : Option ℕ). byte_cost_by ahead s q (queue_at s i) (get_or plan (row + i) 0)) ready.in_plan.scale_is ∙
    ap (byte_cost_by ahead s (some (W s ^ suc left)) (queue_at s i)) (byte_is s plan left row at.row_is i h) ∙ price_more s plan left i h)
    (fills_whole width.places (value_in width) (costs_for width s m ahead rows scale plan row filled) sized.queues_is)
