-- That what stands in the lent memory is right by the published problem: the recursion's values are the values of document 01, its choices
-- are the plan's speeds, and memory that is planned from the horizon back to slot 0 is filled as the model says.
use Prim.Native.Nat.{ℕ, zero, suc, pred, ◌-◌, ◌≤◌, ◌<◌}
use mathlib.Core.Path.{◌≡◌, refl, sym, ap, ◌∙◌, subst}
use mathlib.Core.List.{List}
use mathlib.Core.Option.{Option, get_or}
use native.Mathlib.Nat.{not-suc-le-zero}
use native.Mathlib.Omega.{arith}
use lib.Dec.{T}
use Rattle.process.proofs.Value.{value_is, first_is}
use Rattle.process.specs.Recursion.{Choice, nothing, chosen, worth, action_of, plan}
use Rattle.process.specs.Ways.{IsValue, IsFirst}
use Rattle.model.proofs.Leaves.{drop_same}
use Rattle.model.proofs.Queues.{listed_bearable, empty_first}
use Rattle.model.proofs.Refusal.{Accepted, speeds_rise, N_is, N_low}
use Rattle.model.specs.View.{View, weight_at, M}
use Rattle.model.specs.Plan.{process_of, IsValueAt, IsPlanByte, queue_at, place_at, plan_needed, PlanAnswer, PlanFilled, Filled, number12}
use Rattle.model.specs.Queue.{Queue, empty_queue, bearable}
use Rattle.model.specs.Refusal.{N}
use Rattle.model.specs.Width.{Width, value_in}
use Rattle.choose.specs.Choice.{byte_of}
use Rattle.backward.specs.Passes.{value_with, choice_with, PlannedFrom}
use Rattle.backward.proofs.Backward.{filled_all, planned_values}
use Rattle.backward.proofs.FirstPass.{value_chosen}

module _ (s : View) {limit : ℕ} (a : Accepted limit s) where
  -- the recursion's value is the least scaled energy of a good way, or none where no way is good
  pub value_least : (k : ℕ) (w : Queue) → IsValue (process_of s) s.job_count (weight_at s) k w (value_with s k w)
  unfolding value_with
  value_least k w = value_is (process_of s) s.job_count (weight_at s) a.ranged.jobs_low k w

  -- with slots left, in a bearable queue, it is what the recursion's choice costs
  value_worth : (k : ℕ) (w : Queue) → 1 ≤ k → T (bearable (M s) w) → value_with s k w ≡ worth (choice_with s (pred k) w)
  value_worth zero w h b = absurd (not-suc-le-zero h)
  value_worth (suc k) w h b = value_chosen s k w b

  -- and the speed of that choice is the smallest first speed of a least good way
  first_right : (k : ℕ) (w : Queue) (speed v : ℕ) → 1 ≤ k → T (bearable (M s) w) → choice_with s (pred k) w ≡ chosen speed v →
      IsFirst (process_of s) s.job_count (weight_at s) k w speed
  unfolding value_with choice_with plan process_of
  first_right zero w speed v h b e = absurd (not-suc-le-zero h)
  first_right (suc k) w speed v h b e =
      subst (λ (x : ℕ). IsFirst (process_of s) s.job_count (weight_at s) (suc k) w x) (ap action_of e)
      (first_is (process_of s) s.job_count (weight_at s) a.ranged.jobs_low (speeds_rise s a.ranged) k w v
      (value_worth (suc k) w h b ∙ ap worth e))

  -- the byte of the choice is the plan byte: 255 where the value is none, else that speed
  pub byte_first : (t : ℕ) → t < s.horizon → (w : Queue) → T (bearable (M s) w) →
      IsPlanByte s t w (value_with s (s.horizon - t) w) (byte_of (choice_with s (pred (s.horizon - t)) w))
  byte_first t h w b =
      subst (λ (r : Option ℕ). IsPlanByte s t w r (byte_of choice_is)) (sym (value_worth (s.horizon - t) w (omega arith) b)) (go choice_is refl)
    where
      choice_is : Choice
      choice_is = choice_with s (pred (s.horizon - t)) w

      go : (c : Choice) → choice_is ≡ c → IsPlanByte s t w (worth c) (byte_of c)
      go nothing e = refl
      go (chosen speed v) e = first_right (s.horizon - t) w speed v (omega arith) b e

-- memory that is planned from the horizon back to slot 0, at any width
module _ (width : Width) (s : View) {limit : ℕ} (a : Accepted limit s) {values₀ plan₀ values plan : List ℕ}
    (p : PlannedFrom width s s.horizon values₀ plan₀ values plan) where
  -- the values are the recursion's
  abbrev value_at : ℕ → ℕ → Option ℕ
  value_at t i = value_with s (s.horizon - t) (queue_at s i)

  -- the plan's bytes are right by them
  plan_filled : PlanFilled s value_at plan₀ plan
  plan_filled =
      record {
        bytes = λ t i h k.
            subst (IsPlanByte s t (queue_at s i) (value_at t i)) (sym (p.plan_right t i (omega arith) h k))
            (byte_first s a t h (queue_at s i) (listed_bearable (M s) s.bound i (omega (arith, N_is s))).1);
        same_length = p.plan_length;
        beyond = drop_same (plan_needed s) plan plan₀ p.plan_length p.plan_beyond;
      }

  -- the first value of all is the empty queue's at slot 0
  empty_value : IsValueAt s 0 (empty_queue s.bound) (value_in width values (place_at s 0 0))
  empty_value =
      subst (IsValueAt s 0 (empty_queue s.bound)) (sym (p.values_right 0 0 (omega arith) (omega arith) (omega (arith, N_low s a.ranged))))
      (subst (λ (w : Queue). IsValueAt s 0 w (value_at 0 0)) (empty_first (M s) s.bound) (value_least s a (s.horizon - 0) (queue_at s 0)))

  -- so such memory is filled as the model says, and the answer right where its number and its least energy are those of the first value
  pub memory_filled : (answer : PlanAnswer) {place : ℕ} {r : Option ℕ} → place ≡ place_at s 0 0 → r ≡ value_in width values place →
      answer.queues ≡ N s → answer.number ≡ number12 r → answer.least ≡ get_or r 0 → Filled width s values₀ plan₀ values plan answer
  memory_filled answer {r = r} first e queues number least =
      record {
        r = value_at;
        are_values = λ t i h k. value_least s a (s.horizon - t) (queue_at s i);
        in_plan = plan_filled;
        in_values = filled_all width s (value_with s) (planned_values p);
        queues = queues;
        empty =
            record {
              r = r;
              is_value = subst (IsValueAt s 0 (empty_queue s.bound)) (sym (e ∙ ap (value_in width values) first)) empty_value;
              number = number;
              least = least;
            };
      }
