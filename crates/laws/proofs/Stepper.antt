-- Laws of the stepper's definitions (the model's Stepper.antt): what each call answers by its number, and its number by the tests that pass
-- and the one that fails. The stepper's proofs, and those of stepping, cite these, and not the definitions.
use Prim.Native.Nat.{ℕ, suc, ◌+◌, ◌*◌, ◌≤◌, ◌<◌}
use mathlib.Core.Path.{◌≡◌, refl, sym, ap, subst, ◌∙◌}
use mathlib.Core.Bool.{Bool, true, false, cond, not, ◌&&◌, ◌||◌}
use mathlib.Core.List.{List}
use native.Mathlib.Omega.{arith}
use borrow.Author.Tests.{le-leb, lt-leb, eq-eqb, ne_eqb}
use lib.Dec.{T, T_not, leb, eqb, leb→le, eqb_refl}
use lib.ListN.{length, get_or}
use Rattle.model.specs.View.{View, size_at, deadline_at, on_sheet, energy_of, greatest_energy, M}
use Rattle.model.specs.Plan.{place_of_queue, no_speed, row_refusal}
use Rattle.model.specs.Queue.{total, places_of, bearable, one_slot}
use Rattle.model.specs.Stepper.{State, queue_of, queue_right, state_right, zero_state, begun, plan_byte, byte_right, speed_now, begins_right, stepped_by, start_refusal, start_lines, start, ending_refusal, ending_lines, is_entry_at, is_entry, moved, next_refusal, advance_refusal, advance_lines, advance}
use Rattle.model.specs.Tests.{check, ◌then◌}
use Rattle.model.proofs.Tests.{anywhere_one, and_both, and_left, and_right, and_fails_right, check_zero, then_left, then_right, then_on, then_passes, then_fails, then_stops}

module _ (s : View) where
  -- what both calls answer, by their number

  -- a start
  pub start_by : (plan : List ℕ) (x : State) {number : ℕ} → start_refusal s plan x ≡ number →
      start s plan x ≡ stepped_by number (begun x) (speed_now s plan (begun x)) zero_state
  unfolding start
  start_by plan x e = ap (λ (n : ℕ). stepped_by n (begun x) (speed_now s plan (begun x)) zero_state) e

  -- an advance
  pub advance_by : (plan : List ℕ) (x : State) (size deadline : ℕ) {number : ℕ} → advance_refusal s plan x size deadline ≡ number →
      let next = moved s x (plan_byte s plan x) size deadline in
      advance s plan x size deadline ≡ stepped_by number next (speed_now s plan next) x
  unfolding advance
  advance_by plan x size deadline e =
      let next = moved s x (plan_byte s plan x) size deadline in
      ap (λ (n : ℕ). stepped_by n next (speed_now s plan next) x) e

  -- what 13 tests, as facts
  pub state_right_lem : (x : State) → T (state_right s x) →
      T (queue_right s x) × (x.slot ≤ s.horizon) × (x.energy ≤ x.slot * greatest_energy s)
  unfolding state_right
  state_right_lem x t =
      let slot = leb x.slot s.horizon in
      let energy = leb x.energy (x.slot * greatest_energy s) in
      let both = and_left (queue_right s x && slot) energy t in (
        and_left (queue_right s x) slot both,
        leb→le x.slot s.horizon (and_right (queue_right s x) slot both),
        leb→le x.energy (x.slot * greatest_energy s) (and_right (queue_right s x && slot) energy t),
      )

  -- 13's test, by its parts: a state is not right where its queue is not

  pub wrong_queue : (x : State) → queue_right s x ≡ false → state_right s x ≡ false
  unfolding state_right
  wrong_queue x e =
      ap (λ (b : Bool). b && leb x.slot s.horizon && leb x.energy (x.slot * greatest_energy s)) e

  -- nor where its slot is past the horizon
  pub wrong_slot : (x : State) → s.horizon < x.slot → state_right s x ≡ false
  unfolding state_right
  wrong_slot x h =
      ap (λ (b : Bool). b && leb x.energy (x.slot * greatest_energy s))
      (and_fails_right (queue_right s x) _ (lt-leb x.slot s.horizon h))

  -- and otherwise its energy decides
  pub energy_decides : (x : State) → queue_right s x ≡ true → x.slot ≤ s.horizon →
      state_right s x ≡ leb x.energy (x.slot * greatest_energy s)
  unfolding state_right
  energy_decides x e h =
      ap (λ (b : Bool). b && leb x.slot s.horizon && leb x.energy (x.slot * greatest_energy s)) e ∙
      ap (λ (b : Bool). b && leb x.energy (x.slot * greatest_energy s)) (le-leb x.slot s.horizon h)

  -- a plan byte

  -- the plan byte, by its place
  pub byte_at_lem : (plan : List ℕ) (x : State) → plan_byte s plan x ≡ get_or plan (place_of_queue s x.slot (queue_of s x)) 0
  unfolding plan_byte
  byte_at_lem plan x = refl

  -- 16's test: a plan byte that is no sheet speed is wrong
  pub wrong_byte : (x : State) (byte : ℕ) → on_sheet s byte ≡ false → byte_right s x byte ≡ false
  unfolding byte_right
  wrong_byte x byte e = ap (λ (b : Bool). b && leb (total (queue_of s x) 1) byte) e

  -- and a sheet speed is compared with w(1)
  pub first_decides : (x : State) (byte : ℕ) → on_sheet s byte ≡ true → byte_right s x byte ≡ leb (total (queue_of s x) 1) byte
  unfolding byte_right
  first_decides x byte e = ap (λ (b : Bool). b && leb (total (queue_of s x) 1) byte) e

  -- a right plan byte is a sheet speed
  pub byte_on_sheet : (x : State) (byte : ℕ) → T (byte_right s x byte) → T (on_sheet s byte)
  unfolding byte_right
  byte_on_sheet x byte t = and_left (on_sheet s byte) _ t

  -- and at least w(1)
  pub byte_enough : (x : State) (byte : ℕ) → T (byte_right s x byte) → total (queue_of s x) 1 ≤ byte
  unfolding byte_right
  byte_enough x byte t = leb→le (total (queue_of s x) 1) byte (and_right (on_sheet s byte) _ t)

  -- the slot that begins

  -- at the horizon: 255, and 16 is not asked
  pub begins_at_end : (plan : List ℕ) (x : State) → x.slot ≡ s.horizon → (speed_now s plan x ≡ no_speed) × (begins_right s plan x ≡ true)
  unfolding speed_now begins_right
  begins_at_end plan x last =
      let at_end_lem = eq-eqb x.slot s.horizon last in (
        ap (λ (b : Bool). cond b no_speed (plan_byte s plan x)) at_end_lem,
        ap (λ (b : Bool). b || byte_right s x (plan_byte s plan x)) at_end_lem,
      )

  -- before it: the plan byte, of which 16 asks
  pub begins_before : (plan : List ℕ) (x : State) → (x.slot ≡ s.horizon → ⊥) →
      (speed_now s plan x ≡ plan_byte s plan x) × (begins_right s plan x ≡ byte_right s x (plan_byte s plan x))
  unfolding speed_now begins_right
  begins_before plan x before =
      let not_yet = ne_eqb x.slot s.horizon before in (
        ap (λ (b : Bool). cond b no_speed (plan_byte s plan x)) not_yet,
        ap (λ (b : Bool). b || byte_right s x (plan_byte s plan x)) not_yet,
      )

  -- start

  start_in_parts : (plan : List ℕ) (x : State) →
      start_refusal s plan x ≡
      row_refusal s (length plan) then (check (queue_right s x) 13 then check (begins_right s plan (begun x)) 16)
  unfolding start_lines
  start_in_parts plan x = refl

  -- it refuses what the row call refuses
  pub start_refusal_row : (plan : List ℕ) (x : State) {number : ℕ} → number ≡ row_refusal s (length plan) → (number ≡ 0 → ⊥) →
      start_refusal s plan x ≡ number
  start_refusal_row plan x {number = number} e some = start_in_parts plan x ∙ rw (← e) (then_stops number _ some)

  -- then 13, where the queue is not right
  pub start_refusal_13 : (plan : List ℕ) (x : State) → row_refusal s (length plan) ≡ 0 → queue_right s x ≡ false → start_refusal s plan x ≡ 13
  start_refusal_13 plan x e wrong =
      start_in_parts plan x ∙ then_on (row_refusal s (length plan)) _ e ∙ then_fails (queue_right s x) 12 _ wrong

  -- and the plan byte of slot 0 decides otherwise
  pub start_refusal_begins : (plan : List ℕ) (x : State) → row_refusal s (length plan) ≡ 0 → queue_right s x ≡ true →
      start_refusal s plan x ≡ check (begins_right s plan (begun x)) 16
  start_refusal_begins plan x e right =
      start_in_parts plan x ∙ then_on (row_refusal s (length plan)) _ e ∙ then_passes (queue_right s x) 13 _ right

  -- what a start that is not refused has: room for the plan, a right queue, and a right plan byte
  pub start_accepted : (plan : List ℕ) (x : State) → start_refusal s plan x ≡ 0 →
      (row_refusal s (length plan) ≡ 0) × T (queue_right s x) × T (begins_right s plan (begun x))
  start_accepted plan x e =
      let whole = sym (start_in_parts plan x) ∙ e in
      let row = row_refusal s (length plan) in
      let queue = then_right row _ whole in (
        then_left row _ whole,
        check_zero (queue_right s x) 12 (then_left (check (queue_right s x) 13) _ queue),
        check_zero (begins_right s plan (begun x)) 15 (then_right (check (queue_right s x) 13) _ queue),
      )

  -- the slot that ends

  -- 4 to 10 and 11 are the row call's tests
  ending_in_parts : (plan : List ℕ) (x : State) →
      ending_refusal s plan x ≡
      row_refusal s (length plan) then
      (check (state_right s x) 13 then (check (not (eqb x.slot s.horizon)) 14 then check (byte_right s x (plan_byte s plan x)) 16))
  unfolding ending_lines
  ending_in_parts plan x = refl

  -- it refuses what the row call refuses
  pub ending_refusal_row : (plan : List ℕ) (x : State) {number : ℕ} → number ≡ row_refusal s (length plan) → (number ≡ 0 → ⊥) →
      ending_refusal s plan x ≡ number
  ending_refusal_row plan x {number = number} e some = ending_in_parts plan x ∙ rw (← e) (then_stops number _ some)

  -- what is left where the row call refuses nothing
  after_row : (plan : List ℕ) (x : State) → row_refusal s (length plan) ≡ 0 →
      ending_refusal s plan x ≡
      check (state_right s x) 13 then (check (not (eqb x.slot s.horizon)) 14 then check (byte_right s x (plan_byte s plan x)) 16)
  after_row plan x e = ending_in_parts plan x ∙ then_on (row_refusal s (length plan)) _ e

  -- then 13, where the state is not right
  pub ending_refusal_13 : (plan : List ℕ) (x : State) → row_refusal s (length plan) ≡ 0 → state_right s x ≡ false → ending_refusal s plan x ≡ 13
  ending_refusal_13 plan x e wrong = after_row plan x e ∙ then_fails (state_right s x) 12 _ wrong

  -- then 14, at the horizon
  pub ending_refusal_14 : (plan : List ℕ) (x : State) → row_refusal s (length plan) ≡ 0 → state_right s x ≡ true → x.slot ≡ s.horizon →
      ending_refusal s plan x ≡ 14
  ending_refusal_14 plan x e right last =
      after_row plan x e ∙ then_passes (state_right s x) 13 _ right ∙
      then_fails (not (eqb x.slot s.horizon)) 13 _ (ap not (eq-eqb x.slot s.horizon last))

  -- before the horizon the plan byte decides
  pub ending_refusal_16_or_0 : (plan : List ℕ) (x : State) → row_refusal s (length plan) ≡ 0 → state_right s x ≡ true → (x.slot ≡ s.horizon → ⊥) →
      ending_refusal s plan x ≡ check (byte_right s x (plan_byte s plan x)) 16
  ending_refusal_16_or_0 plan x e right before =
      after_row plan x e ∙ then_passes (state_right s x) 13 _ right ∙
      then_passes (not (eqb x.slot s.horizon)) 14 _ (ap not (ne_eqb x.slot s.horizon before))

  -- where none of its tests fails: room for the plan, a right state before the horizon, and a right plan byte
  pub ending_accepted : (plan : List ℕ) (x : State) → ending_refusal s plan x ≡ 0 →
      (row_refusal s (length plan) ≡ 0) × T (state_right s x) × (x.slot < s.horizon) × T (byte_right s x (plan_byte s plan x))
  ending_accepted plan x e =
      let whole = sym (ending_in_parts plan x) ∙ e in
      let row = row_refusal s (length plan) in
      let state = then_right row _ whole in
      let slot = then_right (check (state_right s x) 13) _ state in
      let byte = then_right (check (not (eqb x.slot s.horizon)) 14) _ slot in
      let right = check_zero (state_right s x) 12 (then_left (check (state_right s x) 13) _ state) in
      let not_last = check_zero (not (eqb x.slot s.horizon)) 13 (then_left (check (not (eqb x.slot s.horizon)) 14) _ slot) in
      let apart : x.slot ≡ s.horizon → ⊥ =
      λ q. T_not (eqb x.slot s.horizon) not_last (subst T (sym (eq-eqb x.slot s.horizon q)) tt) in (
        then_left row _ whole,
        right,
        omega (arith, (state_right_lem x right).1, apart),
        check_zero (byte_right s x (plan_byte s plan x)) 15 byte,
      )

  -- advance

  -- each entry of the sheet is one
  pub entry_at : (i : ℕ) → i < s.job_count → T (is_entry s (size_at s i) (deadline_at s i))
  unfolding is_entry
  entry_at i l =
      anywhere_one (is_entry_at s (size_at s i) (deadline_at s i)) s.job_count i l
      (and_both (eqb (size_at s i) (size_at s i)) _ (eqb_refl (size_at s i)) (eqb_refl (deadline_at s i)))

  -- the next state
  pub moved_by : (x : State) (byte size deadline : ℕ) →
      moved s x byte size deadline ≡
      record {
        queue = places_of (one_slot (queue_of s x) byte size deadline);
        slot = suc x.slot;
        energy = x.energy + energy_of s byte;
      }
  unfolding moved
  moved_by x byte size deadline = refl

  -- it refuses what the tests of the slot that ends refuse
  pub advance_refusal_ending : (plan : List ℕ) (x : State) (size deadline : ℕ) {number : ℕ} → number ≡ ending_refusal s plan x → (number ≡ 0 → ⊥) →
      advance_refusal s plan x size deadline ≡ number
  unfolding advance_lines
  advance_refusal_ending plan x size deadline {number = number} e some = rw (← e) (then_stops number _ some)

  -- then 15, where the arrival is no entry
  pub advance_refusal_15 : (plan : List ℕ) (x : State) (size deadline : ℕ) → ending_refusal s plan x ≡ 0 → is_entry s size deadline ≡ false →
      advance_refusal s plan x size deadline ≡ 15
  unfolding advance_lines
  advance_refusal_15 plan x size deadline e wrong = then_on (ending_refusal s plan x) _ e ∙ then_fails (is_entry s size deadline) 14 _ wrong

  after_entry : (plan : List ℕ) (x : State) (size deadline : ℕ) → ending_refusal s plan x ≡ 0 → is_entry s size deadline ≡ true →
      let next = moved s x (plan_byte s plan x) size deadline in
      advance_refusal s plan x size deadline ≡ next_refusal s next then check (begins_right s plan next) 16
  unfolding advance_lines
  after_entry plan x size deadline e right =
      then_on (ending_refusal s plan x) _ e ∙ then_passes (is_entry s size deadline) 15 _ right

  -- then 17 and 18
  pub advance_refusal_next : (plan : List ℕ) (x : State) (size deadline : ℕ) {number : ℕ} → ending_refusal s plan x ≡ 0 →
      is_entry s size deadline ≡ true → next_refusal s (moved s x (plan_byte s plan x) size deadline) ≡ number → (number ≡ 0 → ⊥) →
      advance_refusal s plan x size deadline ≡ number
  advance_refusal_next plan x size deadline {number = number} e right next some =
      after_entry plan x size deadline e right ∙ rw next (then_stops number _ some)

  -- and the plan byte of the next state decides otherwise
  pub advance_refusal_begins : (plan : List ℕ) (x : State) (size deadline : ℕ) → ending_refusal s plan x ≡ 0 → is_entry s size deadline ≡ true →
      let next = moved s x (plan_byte s plan x) size deadline in
      next_refusal s next ≡ 0 → advance_refusal s plan x size deadline ≡ check (begins_right s plan next) 16
  advance_refusal_begins plan x size deadline e right next =
      after_entry plan x size deadline e right ∙ then_on (next_refusal s (moved s x (plan_byte s plan x) size deadline)) _ next

  -- what an advance that is not refused has: no test of the slot that ends fails, the next queue is bearable, and the next plan byte right
  pub advance_accepted : (plan : List ℕ) (x : State) (size deadline : ℕ) → advance_refusal s plan x size deadline ≡ 0 →
      let next = moved s x (plan_byte s plan x) size deadline in
      (ending_refusal s plan x ≡ 0) × T (bearable (M s) (queue_of s next)) × T (begins_right s plan next)
  unfolding advance_lines
  advance_accepted plan x size deadline e =
      let next = moved s x (plan_byte s plan x) size deadline in
      let first = bearable (M s) (queue_of s next) in
      let after = then_right (check (is_entry s size deadline) 15) _ (then_right (ending_refusal s plan x) _ e) in (
        then_left (ending_refusal s plan x) _ e,
        check_zero first 16 (then_left (check first 17) _ (then_left (next_refusal s next) _ after)),
        check_zero (begins_right s plan next) 15 (then_right (next_refusal s next) _ after),
      )

  -- the number is that of the refusal, and what a refused call gives

  -- "A refused start gives an all-zero state"; "a refused call's speed is 0"
  pub start_number : (plan : List ℕ) (x : State) →
      ((start s plan x).number ≡ start_refusal s plan x) ×
      (((start s plan x).number ≡ 0 → ⊥) → ((start s plan x).state ≡ zero_state) × ((start s plan x).speed ≡ 0))
  unfolding start
  start_number plan x = (refl, λ some. (rw (ne_eqb (start_refusal s plan x) 0 some), rw (ne_eqb (start_refusal s plan x) 0 some)))

  -- "a refused advance hands back the state it got"; "a refused call's speed is 0"
  pub advance_number : (plan : List ℕ) (x : State) (size deadline : ℕ) →
      ((advance s plan x size deadline).number ≡ advance_refusal s plan x size deadline) ×
      (((advance s plan x size deadline).number ≡ 0 → ⊥) →
      ((advance s plan x size deadline).state ≡ x) × ((advance s plan x size deadline).speed ≡ 0))
  unfolding advance
  advance_number plan x size deadline =
      let refusal = advance_refusal s plan x size deadline in
      (refl, λ some. (rw (ne_eqb refusal 0 some), rw (ne_eqb refusal 0 some)))
