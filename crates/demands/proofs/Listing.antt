-- The listing of what `plan` left, over both calls' contracts: it is refused exactly where its buffer is too short, its header tells the
-- empty queue's value at slot 0, and its lines list the plan bytes that demand 2 is about.
use Prim.Native.Nat.{ℕ, ◌+◌, ◌*◌, ◌-◌, ◌^◌, ◌≤◌, ◌<◌}
use mathlib.Core.Path.{◌≡◌, sym, subst, ◌∙◌}
use mathlib.Core.List.{List, ◌++◌}
use mathlib.Core.Logic.{◌↔◌}
use mathlib.Core.Option.{Option, none, some, get_or}
use native.Mathlib.Nat.{le_of_lt, le_trans, sub-zero}
use native.Mathlib.Omega.{arith}
use lib.ListN.{length, drop}
use Rattle.process.specs.Recursion.{UptoOr}
use Rattle.process.proofs.Value.{value_some_is}
use Rattle.model.specs.Bytes.{AreBytes}
use Rattle.model.specs.View.{View, view_of, weight_at, W, G}
use Rattle.model.specs.Listing.{listing, list_refusal, list}
use Rattle.model.specs.Plan.{process_of, IsValueAt, IsPlanByteAt, queue_at, byte_at, number12, FromEmpty, row_refusal}
use Rattle.model.specs.Plan as model-plan
use Rattle.model.specs.Queue.{empty_queue}
use Rattle.model.specs.Refusal.{N, sheet_refusal, value_limit}
use Rattle.model.specs.declared.Sheet.{Sheet}
use Rattle.model.specs.Width.{narrow}
use Rattle.laws.proofs.Listing.{list_number, list_fits}
use Rattle.laws.proofs.Recursion.{value_most}
use Rattle.model.proofs.Refusal.{accepted}
use Rattle.laws.proofs.Rooms.{plan_accepted, row_fits}
use Rattle.listing.proofs.Within.{listing_fits, listing_upto}
use Rattle.listing.specs.declared.call.Listed.{Listed}
use Rattle.planner.specs.declared.calls.PlanAnswer.{PlanAnswer}
use Rattle.demands.specs.Calls.{Plans, answered, Lists}
use Rattle.demands.proofs.Demand2.{planned_by_number, planned_filled, answer_right}
use Rattle.demands.proofs.Determined.{list_is}

-- the least energy that a plan of number 0 answers is the empty queue's value at slot 0
least_is_value : (s : View) (a : model-plan.PlanAnswer) → FromEmpty s a → a.number ≡ 0 →
    IsValueAt s 0 (empty_queue s.bound) (some a.least)
least_is_value s a from_empty e = go from_empty.r from_empty.is_value from_empty.number from_empty.least
  where
    go : (r : Option ℕ) → IsValueAt s 0 (empty_queue s.bound) r → a.number ≡ number12 r → a.least ≡ get_or r 0 →
        IsValueAt s 0 (empty_queue s.bound) (some a.least)
    go none is_value number least = absurd (omega arith)
    go (some v) is_value number least =
        subst (λ (u : ℕ). IsValueAt s 0 (empty_queue s.bound) (some u)) (sym least) is_value

-- and it is below 2^64: number 9 keeps every value below 2^63
least_fits : (s : View) → sheet_refusal value_limit s ≡ 0 → (v : ℕ) → IsValueAt s 0 (empty_queue s.bound) (some v) → v < 2 ^ 64
least_fits s e v is_value =
    let right = accepted s e in
    let w = empty_queue s.bound in
    let found = value_some_is (process_of s) s.job_count (weight_at s) right.ranged.jobs_low (s.horizon - 0) w v is_value in
    let bound = subst (λ (r : Option ℕ). UptoOr (Unit {0}) r ((s.horizon - 0) * G s * W s ^ (s.horizon - 0))) found (value_most s (s.horizon - 0) w) in
    let most = subst (λ (k : ℕ). v ≤ k * G s * W s ^ k) (sub-zero s.horizon) bound in
    omega (arith, most, right.fits)

module _ {sheet : Sheet} {values₀ plan₀ values bytes : List ℕ} {p : PlanAnswer} (planned : Plans sheet values₀ plan₀ p values bytes)
    (done : p.number ≡ 0) {before after : List ℕ} {a : Listed} (call : Lists sheet p.least bytes before a after) where
  -- it is not refused exactly where the buffer has room for the listing
  pub listing_done : (a.number ≡ 0) ↔ (length (listing (view_of sheet) p.least bytes) ≤ length before)
  listing_done =
      let s = view_of sheet in
      let accepted = planned_by_number planned done in
      let tested = plan_accepted s narrow (length values₀) (length plan₀) accepted in
      let long = (planned_filled planned accepted).in_plan.same_length in
      let row : row_refusal s (length bytes) ≡ 0 = sym (row_fits s (length bytes) tested.0 (omega (arith, tested.2, long))) in
      let same = (list_is call).number_is ∙ list_number s p.least bytes before in (
        λ e. listing_fits s p.least bytes (length before) (sym same ∙ e),
        λ room. same ∙ list_fits s p.least bytes (length before) row room,
      )

  -- so 66 bytes, and for each slot five and four for each queue, are always enough
  pub listing_enough : AreBytes bytes →
      66 + (view_of sheet).horizon * (5 + 4 * N (view_of sheet)) ≤ length before → a.number ≡ 0
  listing_enough are-bytes room =
      let s = view_of sheet in
      let not_refused = planned_by_number planned done in
      let tested = plan_accepted s narrow (length values₀) (length plan₀) not_refused in
      let fits = least_fits s tested.0 p.least (least_is_value s (answered p) (answer_right planned not_refused).1 done) in
      listing_done.1 (le_trans (listing_upto s p.least bytes tested.0 fits are-bytes) room)

  -- and then it is the listing of these bytes, and what stood behind it stands there; its header tells the empty queue's value at slot 0,
  -- and each byte that it lists is the slowest speed that begins a least way, or 255 where there is none
  pub listing_right : a.number ≡ 0 →
      let s = view_of sheet in
      (a.length ≡ length (listing s p.least bytes)) ×
      (after ≡ listing s p.least bytes ++ drop (length (listing s p.least bytes)) before) ×
      IsValueAt s 0 (empty_queue s.bound) (some p.least) ×
      ((t i : ℕ) → t < s.horizon → i < N s → IsPlanByteAt s t (queue_at s i) (byte_at s bytes t i))
  unfolding list
  listing_right e =
      let s = view_of sheet in
      let accepted = planned_by_number planned done in
      let promised = list_is call in
      let none : list_refusal s p.least bytes (length before) ≡ 0 = sym (list_number s p.least bytes before) ∙ sym promised.number_is ∙ e in (
        promised.written_is ∙ rw none,
        promised.buffer_is ∙ rw none,
        least_is_value s (answered p) (answer_right planned accepted).1 done,
        λ t i h l.
            let f = planned_filled planned accepted in
            (f.r t i, f.are_values t i (le_of_lt h) l, f.in_plan.bytes t i h l),
      )
