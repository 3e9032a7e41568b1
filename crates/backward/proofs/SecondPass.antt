-- That the second pass, over what the first one leaves, works out what the recursion says: what each speed costs, the least over the speeds,
-- and so the slot's rows. What is said of buffers is said over any width of a value.
use Prim.Native.Nat.{ℕ, zero, suc, ◌+◌, ◌*◌, ◌^◌, ◌≤◌, ◌<◌}
use mathlib.Core.Path.{◌≡◌, refl, sym, ap, ◌∙◌, subst}
use mathlib.Core.List.{List}
use mathlib.Core.Option.{Option, none, some}
use native.Mathlib.Nat.{le_refl}
use native.Mathlib.Omega.{arith}
use lib.Dec.{leb}
use Rattle.process.specs.Recursion.{plus, only, Choice, better, best, worth, priced}
use Rattle.process.proofs.Equations.{best_none}
use Rattle.model.specs.View.{View, speed_at, energy_at, weight_at, speeds_of, energy_of, W, M}
use Rattle.model.specs.Plan.{process_of, queue_at}
use Rattle.model.specs.Queue.{Queue, total, run}
use Rattle.model.specs.Refusal.{N}
use Rattle.model.proofs.View.{energy_of_place}
use Rattle.model.proofs.Queues.{listed_bearable}
use Rattle.laws.proofs.Recursion.{choice_all, best_speed, priced_speed}
use Rattle.model.proofs.Refusal.{Accepted, accepted, fields_right, N_is}
use Rattle.queues.specs.Blocks.{queue_with}
use Rattle.model.specs.Width.{Width}
use Rattle.buffers.proofs.Filling.{fills_same, fills_whole}
use Rattle.rows.specs.Rows.{RowAfter}
use Rattle.sheets.specs.Sizes.{Sized}
use Rattle.sheets.specs.declared.sizes.Sizes.{Sizes}
use Rattle.sheets.proofs.Measures.{sized_same, measured}
use Rattle.ahead.specs.Sums.{sum_to}
use Rattle.ahead.proofs.AnyRow.{sums_upto, sums_strict}
use Rattle.choose.specs.Choice.{cost_by, least_to, least_by, byte_of}
use Rattle.choose.specs.Pass.{Given, LeftAll}
use Rattle.choose.proofs.Choices.{least_zero, least_suc}
use Rattle.choose.proofs.AnyRow.{given_for, values_for, plan_for}
use Rattle.backward.specs.Passes.{value_with, choice_with, ahead_to, ahead_of, AheadWith, AheadRow, Ready, Planned}
use Rattle.backward.proofs.Fits.{most, cost_fits}
use Rattle.backward.proofs.FirstPass.{Valued, value_chosen, value_valued}

-- what a speed costs by the recursion, with k slots left after this one
abbrev cost_of : View → ℕ → Queue → ℕ → Option ℕ
cost_of s k w speed = priced (process_of s) s.job_count (weight_at s) k (value_with s k) w speed

-- a sum is the same in the other order
plus_turned : (r : Option ℕ) (m n : ℕ) → plus r (some (m * n)) ≡ plus (some (n * m)) r
plus_turned none m n = refl
plus_turned (some v) m n = let same : v + m * n ≡ n * m + v = omega arith in ap {B = Option ℕ} some same

-- a speed's price, with k slots left after this one, is what it costs by what is ahead, whatever function says what each queue is worth then
pub speed_priced : (s : View) (k : ℕ) (f : Queue → Option ℕ) (w : Queue) (speed : ℕ) →
    cost_by (λ v. sum_to s f v s.job_count) (some (W s ^ suc k)) w speed (energy_of s speed) ≡
    priced (process_of s) s.job_count (weight_at s) k f w speed
unfolding cost_by sum_to
speed_priced s k f w speed =
    ap (only (leb (total w 1) speed)) (plus_turned (sum_to s f (run w speed) s.job_count) (energy_of s speed) (W s ^ suc k)) ∙
    sym (priced_speed s k f w speed)

module _ (s : View) {limit : ℕ} (a : Accepted limit s) (k : ℕ) (w : Queue) where
  -- by the recursion's values, of the speed at a place
  cost_is : (j : ℕ) → j < s.speed_count → cost_by (ahead_of s k) (some (W s ^ suc k)) w (speed_at s j) (energy_at s j) ≡ cost_of s k w (speed_at s j)
  unfolding ahead_to
  cost_is j h =
      ap (cost_by (ahead_of s k) (some (W s ^ suc k)) w (speed_at s j)) (sym (energy_of_place s j a.ranged.rises h)) ∙
      speed_priced s k (value_with s k) w (speed_at s j)

  -- so the least over the speeds is the recursion's choice
  least_is : least_by (ahead_of s k) s (some (W s ^ suc k)) w ≡ choice_with s k w
  unfolding choice_with
  least_is = upto s.speed_count (le_refl s.speed_count) ∙ sym (choice_all s k (value_with s k) w)
    where
      cost : ℕ → Option ℕ
      cost j = cost_by (ahead_of s k) (some (W s ^ suc k)) w (speed_at s j) (energy_at s j)

      upto : (n : ℕ) → n ≤ s.speed_count → least_to (speed_at s) cost n ≡ best (cost_of s k w) (speeds_of s) n
      upto zero h = least_zero (speed_at s) cost ∙ sym (best_none (cost_of s k w) (speeds_of s))
      upto (suc n) h =
          least_suc (speed_at s) cost n ∙ ap (λ (c : Choice). better c (speed_at s n) (cost n)) (upto n (omega arith)) ∙
          ap (better (best (cost_of s k w) (speeds_of s) n) (speed_at s n)) (cost_is n h) ∙ sym (best_speed s (cost_of s k w) n h)

-- what the second pass is given

module _ (width : Width) {s : View} {sizes : Sizes} {left : ℕ} {scale : Option ℕ} (ready : Ready width s sizes left scale)
    {f : Queue → Option ℕ} (valued : Valued s left f) {ahead : List ℕ} (row : AheadWith width s f ahead) where
  abbrev is_accepted : Accepted width.limit s
  is_accepted = accepted s ready.prepared.accepted

  abbrev sized : Sized s sizes
  sized = ready.prepared.sized

  -- the buffer is a row of what is ahead
  pub ahead_row : RowAfter width sizes.largest sizes.bound (λ v. sum_to s f v s.job_count) 0 ahead
  ahead_row =
      subst (λ (p : ℕ × ℕ). RowAfter width p.0 p.1 (λ v. sum_to s f v s.job_count) 0 ahead) (sym (sized_same sized (λ m D. (m, D))))
      (record { row = row; strict = sums_strict s f (M s) is_accepted.ranged.jobs_low valued.strict })

  pub second_given : Given width s sizes scale ahead
  second_given =
      given_for width s (measured s sizes is_accepted sized) (λ v. sum_to s f v s.job_count) ahead_row (most s left * W s) (W s ^ suc left)
      (fields_right width.limit s ready.prepared.accepted)
      (λ v. sums_upto s f (most s left) valued.upto v s.job_count (le_refl s.job_count)) ready.in_plan.scale_is
      (cost_fits s is_accepted left ready.in_plan.left_low)

-- what the planner's leaves

module _ (width : Width) {s : View} {sizes : Sizes} {left : ℕ} {scale : Option ℕ} (ready : Ready width s sizes left scale)
    {ahead : List ℕ} (row : AheadRow width s left ahead) where
  -- the buffer holds the sums of the recursion's values
  pub value_sums : AheadWith width s (value_with s left) ahead
  unfolding ahead_to
  value_sums = row

  -- at each queue the recursion's choice
  left_choice : (n : ℕ) → least_by (ahead_of s left) s scale (queue_with sizes.largest sizes.bound n) ≡ choice_with s left (queue_at s n)
  left_choice n =
      sized_same ready.prepared.sized (λ m D. least_by (ahead_of s left) s scale (queue_with m D n)) ∙
      ap (λ (q : Option ℕ). least_by (ahead_of s left) s q (queue_at s n)) ready.in_plan.scale_is ∙
      least_is s (accepted s ready.prepared.accepted) left (queue_at s n)

  left_worth : (n : ℕ) → n < N s → worth (least_by (ahead_of s left) s scale (queue_with sizes.largest sizes.bound n)) ≡ value_with s
      (suc left) (queue_at s n)
  left_worth n h =
      ap worth (left_choice n) ∙
      sym (value_chosen s left (queue_at s n) (listed_bearable (M s) s.bound n (omega (arith, N_is s))).1)

  ahead_rows : RowAfter width sizes.largest sizes.bound (ahead_of s left) 0 ahead
  unfolding ahead_to
  ahead_rows = ahead_row width ready (value_valued s left) value_sums

  pub second_left : {this place : ℕ} {values₀ plan₀ values plan : List ℕ} →
      LeftAll width s sizes scale ahead this place values₀ plan₀ values plan → Planned width s left this place values₀ plan₀ values plan
  second_left left-all =
      let sized = ready.prepared.sized in
      let m = measured s sizes (accepted s ready.prepared.accepted) sized in
      record {
        values_filled =
            fills_same _ _ left_worth (fills_whole _ _ (values_for width s m (ahead_of s left) ahead_rows left-all) sized.queues_is);
        plan_filled =
            fills_same _ _ (λ n h. ap byte_of (left_choice n))
            (fills_whole _ _ (plan_for width s m (ahead_of s left) ahead_rows left-all) sized.queues_is);
      }
