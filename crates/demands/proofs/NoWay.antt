-- What "none" means to the stepper, over the actual contracts of `plan`, `start` and `advance`: with the plan bytes that `plan` leaves, a
-- start from a bearable queue from which no way is good at slot 0 answers 16, and so does an advance, whatever arrives, of a state that passes
-- 13 and from whose slot and queue no way is good.
use Prim.Native.Nat.{ℕ, ◌-◌, ◌≤◌, ◌<◌}
use mathlib.Core.Path.{◌≡◌, sym, ap, ◌∙◌, subst}
use mathlib.Core.List.{List, [], ◌∷◌}
use mathlib.Core.Logic.{⊎_elim}
use mathlib.Core.Option.{Option, none}
use native.Mathlib.Nat.{sub-zero, eq-or-lt_of_le}
use native.Mathlib.Omega.{arith}
use lib.Dec.{T}
use lib.ListN.{length}
use Rattle.process.specs.Ways.{Way, Good}
use Rattle.model.specs.View.{View, view_of, M}
use Rattle.model.specs.Plan.{process_of, IsPlanByte, no_speed, byte_of_queue, plan_refusal}
use Rattle.model.specs.Queue.{Queue, positions, bearable}
use Rattle.model.specs.Stepper as model
use Rattle.model.specs.declared.Sheet.{Sheet}
use Rattle.model.specs.Width.{narrow}
use Rattle.model.proofs.Queues.{held_bearable, length_in}
use Rattle.model.proofs.Leaves.{one_value}
use Rattle.model.proofs.Refusal.{accepted}
use Rattle.laws.proofs.Rooms.{plan_accepted}
use Rattle.laws.proofs.Stepper.{state_right_lem, byte_at_lem}
use Rattle.laws.proofs.Stepping.{no_way_start, no_way_advance}
use Rattle.planner.specs.declared.calls.PlanAnswer.{PlanAnswer}
use Rattle.stepper.specs.Calls.{state_of}
use Rattle.stepper.specs.declared.state.State.{State}
use Rattle.stepper.specs.declared.state.Stepped.{Stepped}
use Rattle.demands.specs.Calls.{Plans, Starts, Advances}
use Rattle.demands.specs.Runs.{queue_of_state, HasNoWay, at_start}
use Rattle.demands.proofs.Demand2.{byte_right_lem}
use Rattle.demands.proofs.Determined.{state_same, start_is, advance_is}
use Rattle.demands.proofs.Stepping.{has_room}

-- with no slot left, every way from a bearable queue is good
good_at_end : (s : View) (w : Queue) → T (bearable (M s) w) → (σ : Way) → Good (process_of s) s.job_count 0 w σ
unfolding process_of
good_at_end s w b σ [] e = b
good_at_end s w b σ (i ∷ l) e = absurd e

module _ {sheet : Sheet} {values₀ plan₀ values bytes : List ℕ} {a : PlanAnswer} (call : Plans sheet values₀ plan₀ a values bytes)
    (planned : plan_refusal narrow (view_of sheet) (length values₀) (length plan₀) ≡ 0) where
  abbrev s : View
  s = view_of sheet

  -- the queue of a state has D positions. That it stands in six places is what the machine gives
  pub state_long : (x : State) → length x.queue ≡ positions → length (queue_of_state sheet x) ≡ s.bound
  state_long x six =
      let ranges = (accepted s (plan_accepted s narrow (length values₀) (length plan₀) planned).0).ranged in
      length_in s.bound x.queue (omega (arith, six, ranges.bound_high))

  -- a state whose queue is right, and no way from its slot and queue is good
  module _ (x : State) (six : length x.queue ≡ positions) (right : T (model.queue_right s (state_of x)))
      (no_way : HasNoWay sheet x) where
    abbrev w : Queue
    w = queue_of_state sheet x

    is_bearable : T (bearable (M s) w)
    is_bearable = held_bearable (M s) s.bound x.queue right

    -- so the plan byte is 255 before the horizon
    byte_none : x.slot < s.horizon → model.plan_byte s bytes (state_of x) ≡ no_speed
    byte_none before =
        let (r, is_value, is_byte_lem) = byte_right_lem call planned w is_bearable (state_long x six) x.slot before in
        byte_at_lem s bytes (state_of x) ∙
        subst (λ (q : Option ℕ). IsPlanByte s x.slot w q (byte_of_queue s bytes x.slot w))
        (one_value s x.slot w r none is_value no_way) is_byte_lem

    -- and it is not at the horizon, where every way is good
    before_end : x.slot ≤ s.horizon → x.slot < s.horizon
    before_end h = ⊎_elim at_end_lem (λ l. l) (eq-or-lt_of_le h)
      where
        at_end_lem : x.slot ≡ s.horizon → x.slot < s.horizon
        at_end_lem e =
            let slots : 0 ≡ s.horizon - x.slot = omega arith in
            let idle : Way = λ seen. 0 in
            absurd (no_way idle (subst (λ (k : ℕ). Good (process_of s) s.job_count k w idle) slots (good_at_end s w is_bearable idle)))

  -- a start from such a queue at slot 0 is refused: an all-zero state and speed 0
  pub start_is_16 : (x : State) → length x.queue ≡ positions → T (model.queue_right s (state_of x)) →
      ((σ : Way) → Good (process_of s) s.job_count s.horizon (queue_of_state sheet x) σ → ⊥) →
      {b : Stepped} → Starts x sheet bytes b → (b.number ≡ 16) × (state_of b.state ≡ model.zero_state) × (b.speed ≡ 0)
  start_is_16 x six right no_way starts =
      let slots = (accepted s (plan_accepted s narrow (length values₀) (length plan₀) planned).0).ranged.horizon_low in
      let from_zero = subst (λ (k : ℕ). (σ : Way) → Good (process_of s) s.job_count k (queue_of_state sheet x) σ → ⊥)
      (sym (sub-zero s.horizon)) no_way in
      let law = no_way_start s bytes (state_of x) (has_room call planned) right (byte_none (at_start x) six right from_zero slots) in
      let promised = start_is starts in (
        promised.number_is ∙ ap (λ (r : model.Stepped). r.number) law,
        promised.state_is ∙ ap (λ (r : model.Stepped). r.state) law,
        promised.speed_is ∙ ap (λ (r : model.Stepped). r.speed) law,
      )

  -- an advance, whatever arrives, hands back the state that it got
  pub advance_is_16 : (x : State) → length x.queue ≡ positions → T (model.state_right s (state_of x)) →
      HasNoWay sheet x →
      {size deadline : ℕ} {b : Stepped} → Advances x sheet bytes size deadline b →
      (b.number ≡ 16) × (b.state ≡ x) × (b.speed ≡ 0)
  advance_is_16 x six right no_way {size} {deadline} advanced =
      let (queue-right, upto, _) = state_right_lem s (state_of x) right in
      let before = before_end x six queue-right no_way upto in
      let law = no_way_advance s bytes (state_of x) (has_room call planned) right before (byte_none x six queue-right no_way before) size deadline in
      let promised = advance_is advanced in (
        promised.number_is ∙ ap (λ (r : model.Stepped). r.number) law,
        state_same (promised.state_is ∙ ap (λ (r : model.Stepped). r.state) law),
        promised.speed_is ∙ ap (λ (r : model.Stepped). r.speed) law,
      )
