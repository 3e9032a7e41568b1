-- The second pass over a row of any function from the queues after a slot: what a speed costs, and the least, go by that function, and a
-- bound of it bounds every cost. The caller of the pass says which function it is.
use Prim.Native.Nat.{ℕ, ◌+◌, ◌*◌, ◌≤◌, ◌<◌}
use mathlib.Core.Path.{◌≡◌, refl, sym, ap, ◌∙◌, subst}
use mathlib.Core.Bool.{Bool, true, false}
use mathlib.Core.List.{List}
use mathlib.Core.Option.{Option, some}
use native.Mathlib.Nat.{zero-add, le_refl}
use native.Mathlib.Omega.{arith}
use borrow.Author.Tests.{leb-true}
use lib.Dec.{leb}
use lib.ListN.{length}
use Rattle.process.specs.Recursion.{only, worth}
use Rattle.process.proofs.Value.{UptoOr, plus_upto}
use Rattle.model.specs.View.{View, speed_at, energy_at}
use Rattle.model.specs.Queue.{Queue, total, run}
use Rattle.model.specs.Refusal.{fields_refusal}
use Rattle.model.proofs.Queues.{bearable_at_lem, listed_bearable}
use Rattle.queues.specs.Blocks.{queue_with}
use Rattle.buffers.specs.Fills.{Fills, number_at}
use Rattle.model.specs.Width.{Width, value_in}
use Rattle.value.proofs.Decoding.{bound_fits}
use Rattle.buffers.proofs.Filling.{fills_same}
use Rattle.rows.specs.Rows.{RowAfter}
use Rattle.sheets.specs.Sizes.{Measured}
use Rattle.sheets.specs.declared.sizes.Sizes.{Sizes}
use Rattle.rows.proofs.Rows.{after_says}
use Rattle.choose.specs.Choice.{cost_by, least_by, ahead_in, least_in, byte_of}
use Rattle.choose.specs.Pass.{Given, LeftAll}
use Rattle.choose.proofs.Choices.{least_same}

-- where two are the same if a test passes, so is what it lets through
only_same : (b : Bool) {q r : Option ℕ} → (b ≡ true → q ≡ r) → only b q ≡ only b r
only_same true passed = passed refl
only_same false passed = refl

-- and within what bound
only_upto : (b : Bool) (r : Option ℕ) (most : ℕ) → UptoOr (Unit {0}) r most → UptoOr (Unit {0}) (only b r) most
only_upto true r most t = t
only_upto false r most t = tt

-- where the function is nowhere above a bound, no cost is above the bound and the scaled energy
cost_upto : (g : Queue → Option ℕ) (most : ℕ) → ((v : Queue) → UptoOr (Unit {0}) (g v) most) → (scale : ℕ) (w : Queue) (speed energy : ℕ) →
    UptoOr (Unit {0}) (cost_by g (some scale) w speed energy) (most + energy * scale)
unfolding cost_by
cost_upto g most upto scale w speed energy =
    only_upto (leb (total w 1) speed) _ (most + energy * scale)
    (plus_upto (Unit {0}) (g (run w speed)) (some (energy * scale)) most (energy * scale) (upto (run w speed)) (le_refl (energy * scale)))

module _ (width : Width) (s : View) {sizes : Sizes} (m : Measured sizes) (g : Queue → Option ℕ) {ahead : List ℕ}
    (row : RowAfter width sizes.largest sizes.bound g 0 ahead) where
  -- what a speed costs by the buffer, at whatever energy, is what it costs by the function
  pub costs_told : (scale : Option ℕ) (n : ℕ) → n < sizes.queues → (speed energy : ℕ) →
      let w = queue_with sizes.largest sizes.bound n in
      cost_by (ahead_in width sizes.largest sizes.bound ahead) scale w speed energy ≡ cost_by g scale w speed energy
  unfolding cost_by
  costs_told scale n h speed energy =
      let w = queue_with sizes.largest sizes.bound n in
      let (long, holds) = listed_bearable sizes.largest sizes.bound n (omega (arith, m.queues_is)) in
      only_same (leb (total w 1) speed)
      (λ e. rw (after_says width sizes.largest sizes.bound g 0 ahead row w speed m.bound_low long
      (λ u l. (bearable_at_lem sizes.largest w holds u l).0) (leb-true (total w 1) speed e)))

  -- so is the least
  least_told : (scale : Option ℕ) (n : ℕ) → n < sizes.queues →
      let w = queue_with sizes.largest sizes.bound n in
      least_in width sizes.largest sizes.bound s ahead scale w ≡ least_by g s scale w
  least_told scale n h = least_same (speed_at s) _ _ s.speed_count (λ j l. costs_told scale n h (speed_at s j) (energy_at s j))

  -- what the pass is given, where the function's bound and each scaled energy together pass no limit of a value
  pub given_for : (most : ℕ) {scale : Option ℕ} (unit : ℕ) → fields_refusal s ≡ 0 → ((v : Queue) → UptoOr (Unit {0}) (g v) most) → scale ≡ some unit →
      ((j : ℕ) → j < s.speed_count → most + energy_at s j * unit ≤ width.limit) → Given width s sizes scale ahead
  given_for most {scale} unit fields upto e low =
      record {
        fields = fields;
        measured = m;
        room =
            subst (λ (n : ℕ). n * width.places ≤ length ahead) (zero-add _ ∙ sym m.after_is) row.row.room;
        fits = λ n j v h k q.
            let w = queue_with sizes.largest sizes.bound n in
            let told : cost_by g (some unit) w (speed_at s j) (energy_at s j) ≡ some v =
            rw (costs_told scale n h (speed_at s j) (energy_at s j), e) at q in
            rw told at (bound_fits width (cost_by g (some unit) w (speed_at s j) (energy_at s j))
            (cost_upto g most upto unit w (speed_at s j) (energy_at s j)) (low j k));
      }

  -- what it leaves: what the least by the function is worth, and its speed
  module _ {scale : Option ℕ} {this place : ℕ} {values₀ plan₀ values plan : List ℕ}
      (left : LeftAll width s sizes scale ahead this place values₀ plan₀ values plan) where
    pub values_for : Fills width.places (value_in width) (λ n. worth (least_by g s scale (queue_with sizes.largest sizes.bound n)))
        this sizes.queues values₀ values
    values_for = fills_same width.places (value_in width) (λ n h. ap worth (least_told scale n h)) left.values_filled

    pub plan_for : Fills 1 number_at (λ n. byte_of (least_by g s scale (queue_with sizes.largest sizes.bound n)))
        place sizes.queues plan₀ plan
    plan_for = fills_same 1 number_at (λ n h. ap byte_of (least_told scale n h)) left.plan_filled
