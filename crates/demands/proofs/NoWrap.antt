-- No count wraps or goes below 0, over the actual contracts of `start` and `advance`: whatever the plan bytes, where an advance answers 0,
-- each total after it is what the speed told left of the one before, or 0, plus what came; and every count has room in its 32 bits
-- (`no_count_wraps`). The speed that a start or an advance tells with the state that it gives is that of the slot that begins there, on the
-- sheet, and enough for what is due within one slot (`start_tells`, `advance_tells`).
use Prim.Native.Nat.{ℕ, suc, ◌+◌, ◌*◌, ◌-◌, min, ◌≤◌, ◌<◌}
use mathlib.Core.Path.{◌≡◌, refl, sym, ap, ◌∙◌, subst}
use mathlib.Core.Bool.{Bool, true, false, cond}
use mathlib.Core.List.{List}
use mathlib.Core.Logic.{inl, inr}
use native.Mathlib.Nat.{le_refl, le_of_lt, mul-le-mul}
use native.Mathlib.Omega.{arith}
use borrow.Author.Tests.{leb-true, leb-false}
use lib.Dec.{T, leb}
use lib.ListN.{length}
use Rattle.model.specs.View.{View, view_of, energy_of, M}
use Rattle.model.specs.Plan.{row_refusal}
use Rattle.model.specs.Queue.{Queue, total, positions, places_of, bearable, one_slot}
use Rattle.model.specs.Stepper as model
use Rattle.model.specs.declared.Sheet.{Sheet}
use Rattle.model.proofs.View.{speed_least, place_of}
use Rattle.model.proofs.Queues.{length_in, length_slot, length_places, total_places, total_past, total_slot, in_first_places, bearable_upto}
use Rattle.model.proofs.Refusal.{Ranged, accepted}
use Rattle.laws.proofs.Rooms.{row_accepted}
use Rattle.laws.proofs.Stepper.{state_right_lem, start_by, advance_by, byte_on_sheet, byte_enough, begins_before, start_accepted, ending_accepted, moved_by, advance_accepted, start_number, advance_number}
use Rattle.laws.proofs.Stepping.{energy_small}
use Rattle.slot.proofs.Places.{total_in}
use Rattle.stepper.specs.Calls.{state_of}
use Rattle.stepper.specs.declared.state.State.{State}
use Rattle.stepper.specs.declared.state.Stepped.{Stepped}
use Rattle.demands.specs.Calls.{Starts, Advances}
use Rattle.demands.specs.NoWrap.{work, IsLeft, IsAdded, IsCarried, SpeedEnough, SpeedTold, NoneWraps}
use Rattle.demands.proofs.Determined.{state_same, start_is, advance_is}

-- in numbers

-- what the library's minus leaves is what is left
left_is : (before speed : ℕ) → IsLeft before speed (before - speed)
left_is before speed = go (leb speed before) refl
  where
    go : (b : Bool) → leb speed before ≡ b → IsLeft before speed (before - speed)
    go true e = let upto = leb-true speed before e in inl (omega arith)
    go false e = let less = leb-false speed before e in inr (less, omega arith)

-- what the model adds is what is added
added_is : (size deadline u : ℕ) → IsAdded size deadline u (cond (leb deadline u) size 0)
added_is size deadline u = go (leb deadline u) refl
  where
    go : (b : Bool) → leb deadline u ≡ b → IsAdded size deadline u (cond b size 0)
    go true e = inl (leb-true deadline u e, refl)
    go false e = inr (leb-false deadline u e, refl)

module _ (sheet : Sheet) (bytes : List ℕ) (x : State) where
  abbrev s : View
  s = view_of sheet

  -- the state, as the model says it
  abbrev before : model.State
  before = state_of x

  -- what the plan holds for it
  abbrev byte : ℕ
  byte = model.plan_byte s bytes before

  -- before the horizon the speed of the slot that begins is the plan byte, of which 16 asks
  now : x.slot < s.horizon →
      (model.speed_now s bytes before ≡ byte) × (model.begins_right s bytes before ≡ model.byte_right s before byte)
  now h = begins_before s bytes before (λ q. omega arith)

  -- an advance by the arrival that is not refused, from a state whose queue stands in six places, which is what the machine gives
  module _ (size deadline : ℕ) (six : length x.queue ≡ positions) (zero : model.advance_refusal s bytes before size deadline ≡ 0) where
    -- no test of the slot that ends fails
    ending : (row_refusal s (length bytes) ≡ 0) × T (model.state_right s before) × (x.slot < s.horizon) × T (model.byte_right s before byte)
    ending = ending_accepted s bytes before (advance_accepted s bytes before size deadline zero).0

    -- so the sheet keeps every range
    ranges : Ranged s
    ranges = (accepted s (row_accepted s (length bytes) ending.0).0).ranged

    -- w(1) to w(D), and what the slot and the arrival make of it
    abbrev queue : Queue
    queue = model.queue_of s before

    abbrev next : Queue
    next = one_slot queue byte size deadline

    few : s.bound ≤ 6
    few = ranges.bound_high

    long : length queue ≡ s.bound
    long = length_in s.bound x.queue (omega (arith, six, few))

    next_long : length next ≡ s.bound
    next_long = length_slot queue byte size deadline ∙ long

    next_bearable : T (bearable (M s) next)
    next_bearable =
        subst (λ (w : Queue). T (bearable (M s) w))
        (ap (model.queue_of s) (moved_by s before byte size deadline) ∙ in_first_places s.bound next next_long few)
        (advance_accepted s bytes before size deadline zero).1

    -- a total comes from the one that stood at v, which is one position later, or the last
    from_place : (u v : ℕ) → 1 ≤ u → u ≤ s.bound → v ≤ s.bound → min (suc u) s.bound ≡ v →
        IsCarried (work x v) byte size deadline u (total (places_of next) u)
    from_place u v low high in-queue place =
        let last = ap (λ (D : ℕ). total queue (min (suc u) D)) long ∙ ap (total queue) place ∙ total_in s.bound x.queue v in-queue in
        record {
          left = work x v - byte;
          added = cond (leb deadline u) size 0;
          is_left = left_is (work x v) byte;
          is_added = added_is size deadline u;
          adds_up =
              total_places next u (omega (arith, few)) ∙ total_slot queue byte size deadline u low (omega (arith, long)) ∙
              ap (λ (n : ℕ). n - byte + cond (leb deadline u) size 0) last;
        }

    -- the next queue in its places, position by position
    upto_M : (u : ℕ) → u ≤ s.bound → total (places_of next) u ≤ u * M s
    upto_M u h = omega (arith, total_places next u (omega (arith, few)), bearable_upto (M s) next next_bearable u (omega (arith, next_long)))

    past_zero : (u : ℕ) → s.bound < u → total (places_of next) u ≡ 0
    past_zero u h = go (leb u 6) refl
      where
        go : (b : Bool) → leb u 6 ≡ b → total (places_of next) u ≡ 0
        go true e = total_places next u (leb-true u 6 e) ∙ total_past next u (omega (arith, next_long))
        go false e = total_past (places_of next) u (omega (arith, length_places next, leb-false u 6 e))

    -- no total is above 48
    small : (u : ℕ) → total (places_of next) u ≤ 48
    small u = go (leb u s.bound) refl
      where
        slow : M s ≤ 8
        slow = speed_least s 8 (λ a on. let (j, l, at) = place_of s a on in omega (arith, ranges.speed_high j l, at))

        go : (b : Bool) → leb u s.bound ≡ b → total (places_of next) u ≤ 48
        go true e =
            let upto = leb-true u s.bound e in
            let six-at-most : u ≤ 6 = omega (arith, few) in
            omega (arith, upto_M u upto, mul-le-mul six-at-most slow)
        go false e = omega (arith, past_zero u (leb-false u s.bound e))

    -- what the model says of the counts
    said : NoneWraps sheet x byte size deadline (record { queue = places_of next; slot = suc x.slot; energy = x.energy + energy_of s byte })
    said =
        let upto = state_right_lem s before ending.1 in
        let room = energy_small s (row_accepted s (length bytes) ending.0).0 before ending.1 byte (byte_on_sheet s before byte ending.3) in
        record {
          carried = λ u low h. from_place u (suc u) low (le_of_lt h) h (omega arith);
          carried_last = from_place s.bound s.bound ranges.bound_low (le_refl _) (le_refl _) (omega arith);
          finishable = upto_M;
          unused = past_zero;
          slot_is = refl;
          energy_is = refl;
          fits =
              record {
                work_fits = λ u. omega (arith, small u);
                slot_fits = omega (arith, upto.1, ranges.horizon_high);
                energy_fits = omega (arith, room);
              };
        }

  -- an advance that answers 0 refuses nothing
  quiet : {size deadline : ℕ} {b : Stepped} → Advances x sheet bytes size deadline b → b.number ≡ 0 →
      model.advance_refusal s bytes before size deadline ≡ 0
  quiet {size} {deadline} call e = sym (advance_number s bytes before size deadline).0 ∙ sym (advance_is call).number_is ∙ e

  -- advance: where it answers 0, the speed that was told with the state is a sheet speed and at least w(1), and no count wraps
  pub no_count_wraps : {size deadline told : ℕ} {b : Stepped} → length x.queue ≡ positions → SpeedTold sheet bytes x told →
      Advances x sheet bytes size deadline b → b.number ≡ 0 → SpeedEnough sheet x told × NoneWraps sheet x told size deadline b.state
  no_count_wraps {size} {deadline} {told} {b} six tells call e =
      let zero = quiet call e in
      let not_last = (ending size deadline six zero).2 in
      let told-byte = tells.speed_is ∙ (now not_last).0 in
      let moved = (advance_is call).state_is ∙ ap (λ (r : model.Stepped). r.state) (advance_by s bytes before size deadline zero) ∙
      moved_by s before byte size deadline in (
        tells.is_enough not_last,
        subst (λ (speed : ℕ). NoneWraps sheet x speed size deadline b.state) (sym told-byte)
            (subst (NoneWraps sheet x byte size deadline) (sym (state_same moved)) (said size deadline six zero)),
      )

  -- the speed told with a state that a call gave, where the model says which
  told_with : Ranged s → {given : model.State} {speed : ℕ} → before ≡ given → speed ≡ model.speed_now s bytes given →
      T (model.begins_right s bytes given) → SpeedTold sheet bytes x speed
  told_with ranges e speed-given right-given =
      let speed_is = speed-given ∙ ap (model.speed_now s bytes) (sym e) in
      let right = subst (λ (y : model.State). T (model.begins_right s bytes y)) (sym e) right-given in
      record {
        speed_is = speed_is;
        is_enough = λ h.
            let passes = subst T (now h).1 right in
            subst (SpeedEnough sheet x) (sym (speed_is ∙ (now h).0))
            (record {
              on_sheet_lem = byte_on_sheet s before byte passes;
              enough = omega (arith, byte_enough s before byte passes, total_in s.bound x.queue 1 ranges.bound_low);
            });
      }

-- start: where it answers 0, the speed told with the state that it gives
pub start_tells : {sheet : Sheet} {bytes : List ℕ} {x : State} {b : Stepped} → Starts x sheet bytes b → b.number ≡ 0 →
    SpeedTold sheet bytes b.state b.speed
start_tells {sheet} {bytes} {x} {b} call e =
    let s = view_of sheet in
    let promised = start_is call in
    let zero = sym (start_number s bytes (state_of x)).0 ∙ sym promised.number_is ∙ e in
    let (room, _, right) = start_accepted s bytes (state_of x) zero in
    let law = start_by s bytes (state_of x) zero in
    told_with sheet bytes b.state (accepted s (row_accepted s (length bytes) room).0).ranged
    (promised.state_is ∙ ap (λ (r : model.Stepped). r.state) law) (promised.speed_is ∙ ap (λ (r : model.Stepped). r.speed) law) right

-- advance: likewise
pub advance_tells : {sheet : Sheet} {bytes : List ℕ} {x : State} {size deadline : ℕ} {b : Stepped} → Advances x sheet bytes size deadline b →
    b.number ≡ 0 → SpeedTold sheet bytes b.state b.speed
advance_tells {sheet} {bytes} {x} {size} {deadline} {b} call e =
    let s = view_of sheet in
    let promised = advance_is call in
    let zero = quiet sheet bytes x call e in
    let (ended, _, right) = advance_accepted s bytes (state_of x) size deadline zero in
    let room = (ending_accepted s bytes (state_of x) ended).0 in
    let law = advance_by s bytes (state_of x) size deadline zero in
    told_with sheet bytes b.state (accepted s (row_accepted s (length bytes) room).0).ranged
    (promised.state_is ∙ ap (λ (r : model.Stepped). r.state) law) (promised.speed_is ∙ ap (λ (r : model.Stepped). r.speed) law) right
