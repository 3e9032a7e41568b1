-- Laws of a listing's lines, one for each row of the plan: how long a line is, that the plan has its row, and that the row's bytes are the
-- line's.
use Prim.Native.Nat.{ℕ, zero, suc, ◌+◌, ◌<◌}
use mathlib.Core.Path.{◌≡◌, refl, sym, ◌∙◌, ap}
use mathlib.Core.List.{List, ◌++◌}
use native.Mathlib.Nat.{suc-mul, mul-le-mul_right}
use native.Mathlib.Omega.{arith}
use lib.ListN.{length, get_or, take, drop, length-append, length-drop}
use lib.Seq.{get_or-take, get_or-drop, length-take-le}
use Rattle.model.specs.Listing.{text, decimal, bytes_listed, line_of}
use Rattle.model.specs.Tests.{in_turn}
use Rattle.buffers.specs.Fills.{number_at}
use Rattle.layout.specs.Places.{place_in, byte_in, HasRow}
use Rattle.lines.specs.Lines.{HasRows, byte_listed, line_at}

-- a line is as long as its slot and its plan bytes, and two more: the colon and the line feed
pub line_length : (plan : List ℕ) (queues slot : ℕ) {digits bytes : ℕ} → digits ≡ length (decimal slot) →
    bytes ≡ length (bytes_listed (byte_in queues plan slot) queues) → digits + bytes + 2 ≡ length (line_at plan queues slot)
unfolding line_of
line_length plan queues slot d e = simp length-append (omega arith)

-- the row of a slot is within the plan
pub row_of_slot : {plan : List ℕ} {queues slots slot : ℕ} → HasRows plan queues slots → slot < slots → HasRow plan queues slot
row_of_slot {queues = queues} {slot = slot} has inside =
    record {
      few_queues = has.few_queues;
      few_slots = omega (arith, has.few_slots);
      within = omega (arith, has.rows, suc-mul slot queues, mul-le-mul_right queues inside);
    }

-- what is in turn is the same where each list is
turn_same : (f g : ℕ → List ℕ) (n : ℕ) → ((j : ℕ) → j < n → f j ≡ g j) → in_turn f n ≡ in_turn g n
unfolding in_turn
turn_same f g zero same = refl
turn_same f g (suc n) same =
    let before : in_turn f n ≡ in_turn g n = turn_same f g n (λ j h. same j (omega arith)) in
    let last : f n ≡ g n = same n (omega arith) in
    cc

-- .. and so is a line where each plan byte is
line_same : (slot : ℕ) (f g : ℕ → ℕ) (n : ℕ) → ((i : ℕ) → i < n → f i ≡ g i) → line_of slot f n ≡ line_of slot g n
unfolding line_of bytes_listed
line_same slot f g n same =
    let bytes : in_turn (λ i. byte_listed (f i)) n ≡ in_turn (λ i. byte_listed (g i)) n =
    turn_same (λ i. byte_listed (f i)) (λ i. byte_listed (g i)) n (λ i h. ap byte_listed (same i h)) in
    ap (λ (l : List ℕ). decimal slot ++ (text ":" ++ (l ++ text "\n"))) bytes

-- the line of a slot is that of its row
pub row_line : {plan row : List ℕ} {queues slot : ℕ} → HasRow plan queues slot → row ≡ take queues (drop (place_in queues slot 0) plan) →
    line_at plan queues slot ≡ line_of slot (number_at row) (length row)
row_line {plan} {row} {queues} {slot} has e =
    let first = place_in queues slot 0 in
    let long : length (take queues (drop first plan)) ≡ queues =
    length-take-le queues (drop first plan) (omega (arith, has.within, length-drop first plan)) in
    let here : (i : ℕ) → i < queues → byte_in queues plan slot i ≡ get_or (take queues (drop first plan)) i 0 =
    λ i h.
    let place : place_in queues slot i ≡ first + i = omega arith in
    ap (λ (p : ℕ). get_or plan p 0) place ∙ sym (get_or-drop first plan i 0) ∙ sym (get_or-take queues (drop first plan) i 0 h) in
    rw (e, long) (line_same slot (byte_in queues plan slot) (number_at (take queues (drop first plan))) queues here)
