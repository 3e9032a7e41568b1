-- What an accepted sheet and a plan that is long enough for it give: the places that the code works out are the model's, and each slot's row
-- is within the plan.
use Prim.Native.Nat.{ℕ, ◌+◌, ◌*◌, ◌<◌}
use mathlib.Core.Path.{◌≡◌, ap, ◌∙◌}
use mathlib.Core.List.{List}
use native.Mathlib.Nat.{suc-mul, mul-le-mul_right}
use native.Mathlib.Omega.{arith}
use lib.ListN.{length, get_or, take, drop, length-take, length-drop}
use lib.Seq.{get_or-take, get_or-drop}
use Rattle.model.proofs.Refusal.{accepted}
use Rattle.model.specs.View.{View}
use Rattle.model.specs.Plan.{place_at, byte_at, row_refusal}
use Rattle.model.specs.Refusal.{N}
use Rattle.laws.proofs.Rooms.{row_accepted}
use Rattle.sheets.specs.Sizes.{Sized}
use Rattle.sheets.specs.declared.sizes.Sizes.{Sizes}
use Rattle.layout.specs.Places.{place_in, byte_in, HasRow}

-- the plan bytes of a slot

-- there are as many as there are queues
pub row_length : {plan row : List ℕ} {queues t : ℕ} → HasRow plan queues t → row ≡ take queues (drop (place_in queues t 0) plan) → length row ≡ queues
row_length {plan = plan} {queues = queues} {t = t} has e =
    let first = place_in queues t 0 in
    omega (arith, ap length e, length-take queues (drop first plan), length-drop first plan, has.within)

-- and at a queue's number stands its byte
pub row_byte : {plan row : List ℕ} {queues t : ℕ} → HasRow plan queues t → row ≡ take queues (drop (place_in queues t 0) plan) → (i : ℕ) → i < queues →
    get_or row i 0 ≡ byte_in queues plan t i
row_byte {plan = plan} {queues = queues} {t = t} has e i low =
    let first = place_in queues t 0 in
    ap (λ (l : List ℕ). get_or l i 0) e ∙ get_or-take queues (drop first plan) i 0 low ∙ get_or-drop first plan i 0 ∙
    ap (λ (p : ℕ). get_or plan p 0) (omega arith)

module _ (s : View) {sizes : Sizes} (sized : Sized s sizes) where
  -- the place that the code works out is the model's
  pub place_is : (t i : ℕ) → place_in sizes.queues t i ≡ place_at s t i
  place_is t i = ap (λ (n : ℕ). t * n + i) sized.queues_is

  -- so is the byte there
  pub byte_is : (plan : List ℕ) (t i : ℕ) → byte_in sizes.queues plan t i ≡ byte_at s plan t i
  byte_is plan t i = ap (λ (p : ℕ). get_or plan p 0) (place_is t i)

  -- a slot's row is within a plan that is long enough
  pub row_within : (plan : List ℕ) (t : ℕ) → row_refusal s (length plan) ≡ 0 → t < s.horizon → HasRow plan sizes.queues t
  row_within plan t e h =
      let (right, room) = row_accepted s (length plan) e in
      let is_accepted = accepted s right in
      record {
        few_queues = omega (arith, is_accepted.queues_high, sized.queues_is);
        few_slots = omega (arith, is_accepted.ranged.horizon_high);
        within = omega (arith, place_is t sizes.queues, sized.queues_is, suc-mul t (N s), mul-le-mul_right (N s) h);
      }
