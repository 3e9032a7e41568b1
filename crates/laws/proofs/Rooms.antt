-- What the row call and the planner refuse (`row_refusal` and `plan_refusal` of the model's Plan.antt), by the sheet's number and the rooms
-- that are lent, and which part of a plan a slot's row is.
use Prim.Native.Nat.{ℕ, ◌+◌, ◌-◌, ◌≤◌, ◌<◌}
use mathlib.Core.Path.{◌≡◌, refl, sym, ap, ◌∙◌}
use mathlib.Core.Bool.{Bool, false, cond, ◌&&◌}
use mathlib.Core.List.{List, []}
use native.Mathlib.Nat.{le_trans, suc-mul, mul-le-mul_right}
use native.Mathlib.Omega.{arith}
use borrow.Author.Tests.{le-leb, lt-leb, lt-ltb, le-ltb, eq-eqb, ne_eqb}
use lib.Dec.{leb, ltb, eqb, leb→le}
use lib.ListN.{length, take, drop, length-drop}
use lib.Seq.{length-take-le}
use Rattle.model.specs.View.{View}
use Rattle.model.specs.Plan.{place_at, value_places, plan_needed, plan_refusal, plan_lines, row_refusal, row_lines, row}
use Rattle.model.specs.Refusal.{N, sheet_refusal, value_limit}
use Rattle.model.specs.Tests.{◌then◌}
use Rattle.model.specs.Width.{Width}
use Rattle.model.proofs.Refusal.{accepted, N_low}
use Rattle.model.proofs.Tests.{and_left, and_right, and_fails_right, check_zero, check_true, check_false, then_left, then_right, then_on, then_stops}

module _ (s : View) where
  -- a sheet that is refused is refused with its number, whatever is tested later
  sheet_refused : (limit later : ℕ) {number : ℕ} → number ≡ sheet_refusal limit s → (number ≡ 0 → ⊥) → number ≡ sheet_refusal limit s then later
  sheet_refused limit later {number = number} e some = sym (rw (← e) (then_stops number later some))

  -- the row call

  -- it refuses a sheet that is refused, with the sheet's number
  pub row_refused : (room : ℕ) {number : ℕ} → number ≡ sheet_refusal value_limit s → (number ≡ 0 → ⊥) → number ≡ row_refusal s room
  unfolding row_lines
  row_refused room e some = sheet_refused value_limit _ e some

  -- and 11 where the plan is too short
  pub row_short : (room : ℕ) → sheet_refusal value_limit s ≡ 0 → room < plan_needed s → 11 ≡ row_refusal s room
  unfolding row_lines
  row_short room e h = sym (then_on (sheet_refusal value_limit s) _ e ∙ check_false _ 11 (lt-leb (plan_needed s) room h))

  -- and 0 otherwise
  pub row_fits : (room : ℕ) → sheet_refusal value_limit s ≡ 0 → plan_needed s ≤ room → 0 ≡ row_refusal s room
  unfolding row_lines
  row_fits room e h = sym (then_on (sheet_refusal value_limit s) _ e ∙ check_true _ 11 (le-leb (plan_needed s) room h))

  -- what a row call that is not refused has: an accepted sheet, and room for the plan
  pub row_accepted : (room : ℕ) → row_refusal s room ≡ 0 → (sheet_refusal value_limit s ≡ 0) × (plan_needed s ≤ room)
  unfolding row_lines
  row_accepted room e = (
    then_left (sheet_refusal value_limit s) _ e,
    leb→le (plan_needed s) room (check_zero (leb (plan_needed s) room) 10 (then_right (sheet_refusal value_limit s) _ e)),
  )

  -- the planner, at any width

  module _ (width : Width) where
    -- it refuses a sheet that is refused, with the sheet's number
    pub plan_refused : (values_room plan_room : ℕ) {number : ℕ} → number ≡ sheet_refusal width.limit s → (number ≡ 0 → ⊥) →
        number ≡ plan_refusal width s values_room plan_room
    unfolding plan_lines
    plan_refused values_room plan_room e some = sheet_refused width.limit _ e some

    -- and 11 where the values are too short
    pub plan_short_values : (values_room plan_room : ℕ) → sheet_refusal width.limit s ≡ 0 → values_room < value_places width s →
        11 ≡ plan_refusal width s values_room plan_room
    unfolding plan_lines
    plan_short_values values_room plan_room e h =
        sym
        (then_on (sheet_refusal width.limit s) _ e ∙
        check_false _ 11 (ap (λ (b : Bool). b && leb (plan_needed s) plan_room) (lt-leb (value_places width s) values_room h)))

    -- or the plan is
    pub plan_short_plan : (values_room plan_room : ℕ) → sheet_refusal width.limit s ≡ 0 → plan_room < plan_needed s →
        11 ≡ plan_refusal width s values_room plan_room
    unfolding plan_lines
    plan_short_plan values_room plan_room e h =
        sym
        (then_on (sheet_refusal width.limit s) _ e ∙
        check_false _ 11 (and_fails_right (leb (value_places width s) values_room) _ (lt-leb (plan_needed s) plan_room h)))

    -- and 0 otherwise
    pub plan_fits : (values_room plan_room : ℕ) → sheet_refusal width.limit s ≡ 0 → value_places width s ≤ values_room →
        plan_needed s ≤ plan_room → 0 ≡ plan_refusal width s values_room plan_room
    unfolding plan_lines
    plan_fits values_room plan_room e h k =
        let values = ap (λ (b : Bool). b && leb (plan_needed s) plan_room) (le-leb (value_places width s) values_room h) in
        sym (then_on (sheet_refusal width.limit s) _ e ∙ check_true _ 11 (values ∙ le-leb (plan_needed s) plan_room k))

    -- what a plan that is not refused has: an accepted sheet, and room for the values and the plan
    pub plan_accepted : (values_room plan_room : ℕ) → plan_refusal width s values_room plan_room ≡ 0 →
        (sheet_refusal width.limit s ≡ 0) × (value_places width s ≤ values_room) × (plan_needed s ≤ plan_room)
    unfolding plan_lines
    plan_accepted values_room plan_room e =
        let values = leb (value_places width s) values_room in
        let plan = leb (plan_needed s) plan_room in
        let both = check_zero (values && plan) 10 (then_right (sheet_refusal width.limit s) _ e) in (
          then_left (sheet_refusal width.limit s) _ e,
          leb→le (value_places width s) values_room (and_left values plan both),
          leb→le (plan_needed s) plan_room (and_right values plan both),
        )

  -- the row

  -- by whether there is one
  abbrev row_by : Bool → List ℕ → ℕ → List ℕ
  row_by there plan t = cond there (take (N s) (drop (place_at s t 0) plan)) []

  -- it is empty where the call is refused
  pub row_none : (plan : List ℕ) (t : ℕ) {number : ℕ} → number ≡ row_refusal s (length plan) → (number ≡ 0 → ⊥) → [] ≡ row s plan t
  unfolding row
  row_none plan t {number = number} e some =
      let test : eqb (row_refusal s (length plan)) 0 ≡ false = rw (← e) (ne_eqb number 0 some) in
      sym (ap (λ (b : Bool). row_by (b && ltb t s.horizon) plan t) test)

  -- and where the slot is not one of the sheet's
  pub row_past : (plan : List ℕ) (t : ℕ) → s.horizon ≤ t → [] ≡ row s plan t
  unfolding row
  row_past plan t h =
      sym (ap (λ (b : Bool). row_by b plan t) (and_fails_right (eqb (row_refusal s (length plan)) 0) _ (le-ltb t s.horizon h)))

  -- else it is the part of the plan from the slot's first place on, as long as there are queues
  pub row_part : (plan : List ℕ) (t : ℕ) {first count : ℕ} → row_refusal s (length plan) ≡ 0 → t < s.horizon → first ≡ place_at s t 0 → count ≡ N s →
      take (first + count - first) (drop first plan) ≡ row s plan t
  unfolding row
  row_part plan t {first = first} {count = count} e h place queues =
      let test = ap (λ (b : Bool). b && ltb t s.horizon) (eq-eqb (row_refusal s (length plan)) 0 e) ∙ lt-ltb t s.horizon h in
      let long : first + count - first ≡ N s = omega arith in
      ap (λ (n : ℕ). take n (drop first plan)) long ∙ ap (λ (p : ℕ). take (N s) (drop p plan)) place ∙
      sym (ap (λ (b : Bool). row_by b plan t) test)

  -- a row that is there is not empty: "N is at least 2, so an empty part always means no row"
  pub row_there : (plan : List ℕ) (t : ℕ) → row_refusal s (length plan) ≡ 0 → t < s.horizon → row s plan t ≡ [] → ⊥
  row_there plan t e h empty =
      let (is_accepted, room) = row_accepted (length plan) e in
      let first = place_at s t 0 in
      let fits = le_trans (mul-le-mul_right (N s) h) room in
      let enough : first + N s - first ≤ length (drop first plan) = omega (arith, length-drop first plan, suc-mul t (N s)) in
      let long = length-take-le (first + N s - first) (drop first plan) enough in
      let none = ap length (row_part plan t {first = first} {count = N s} e h refl refl ∙ empty) in
      omega (arith, N_low s (accepted s is_accepted).ranged)
