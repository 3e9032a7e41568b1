-- The length that a listing reports is within the lent buffer, so that a caller may take that part of it. And how long a listing is at
-- most, so that a caller may lend a buffer that is never too short.
use Prim.Native.Nat.{ℕ, zero, suc, ◌+◌, ◌*◌, ◌^◌, ◌≤◌, ◌<◌}
use mathlib.Core.Path.{◌≡◌, refl}
use mathlib.Core.Bool.{◌&&◌}
use mathlib.Core.List.{List}
use native.Mathlib.Nat.{suc-ne-zero}
use native.Mathlib.Omega.{arith}
use borrow.Author.Tests.{ne_eqb}
use lib.Dec.{leb, leb→le}
use lib.ListN.{length, length-append}
use Rattle.model.specs.Bytes.{AreBytes, written}
use Rattle.model.specs.View.{View}
use Rattle.model.specs.Listing.{scale_of, header, bytes_listed, line_of_slot, listing, list_refusal, list_lines, list}
use Rattle.model.specs.Plan.{plan_needed}
use Rattle.model.specs.Refusal.{sheet_refusal, N, value_limit}
use Rattle.model.proofs.Refusal.{accepted, power_fits}
use Rattle.model.proofs.Tests.{and_right, check_zero, then_right, turn_times}
use Rattle.listing.specs.Calls.{IsListed}
use Rattle.layout.specs.Places.{place_in, byte_in}
use Rattle.lines.specs.Lines.{HasRows, line_at, lines_to}
use Rattle.listing.specs.Whole.{whole_listing}
use Rattle.decimals.proofs.Digits.{digits_upto}
use Rattle.lines.proofs.Heads.{header_length}
use Rattle.lines.proofs.Rows.{line_length}

-- what is not refused fits
pub listing_fits : (s : View) (least : ℕ) (plan : List ℕ) (room : ℕ) → list_refusal s least plan room ≡ 0 → length (listing s least plan) ≤ room
unfolding list_lines
listing_fits s least plan room e =
    let enough = leb (plan_needed s) (length plan) in
    let fitting = leb (length (listing s least plan)) room in
    leb→le (length (listing s least plan)) room
    (and_right enough fitting (check_zero (enough && fitting) 10 (then_right (sheet_refusal value_limit s) _ e)))

-- so the length is within the buffer, and 0 where the call is refused
within : (n : ℕ) (bytes buffer : List ℕ) → (n ≡ 0 → length bytes ≤ length buffer) → (written n bytes buffer).written ≤ length buffer
within zero bytes buffer room = room refl
within (suc n) bytes buffer room = rw (ne_eqb (suc n) 0 (suc-ne-zero n)) (omega arith)

pub listed_within : (s : View) (least : ℕ) (plan before : List ℕ) {number reported : ℕ} {after : List ℕ} →
    IsListed s least plan before number reported after → reported ≤ length before
unfolding list
listed_within s least plan before call =
    rw call.written_is
    (within (list_refusal s least plan (length before)) (listing s least plan) before (listing_fits s least plan (length before)))

-- plan bytes: each has a space and at most three digits
bytes_upto : (plan : List ℕ) (queues slot : ℕ) → AreBytes plan → length (bytes_listed (byte_in queues plan slot) queues) ≤ queues * 4
unfolding bytes_listed
bytes_upto plan queues slot are =
    turn_times _ queues 4
    (λ i l. omega (arith, digits_upto 20 3 (byte_in queues plan slot i) (omega arith) (omega (arith, are (place_in queues slot i)))))

-- a line: its slot has at most three digits, and two characters stand beside them and the plan bytes
line_upto : (plan : List ℕ) (queues slot : ℕ) → AreBytes plan → slot < 200 → length (line_at plan queues slot) ≤ 5 + 4 * queues
line_upto plan queues slot are h =
    omega (
      arith,
      line_length plan queues slot refl refl,
      digits_upto 20 3 slot (omega arith) (omega arith),
      bytes_upto plan queues slot are,
    )

-- the header: of its numbers the first has at most 5 digits, the second 19, the third 20
header_upto : (s : View) (least : ℕ) → sheet_refusal value_limit s ≡ 0 → least < 2 ^ 64 → length (header (N s) (scale_of s) least) ≤ 66
header_upto s least e h =
    let queues = digits_upto 20 5 (N s) (omega arith) (omega (arith, (accepted s e).queues_high)) in
    let scale = digits_upto 20 19 (scale_of s) (omega arith) (omega (arith, power_fits s (accepted s e) s.horizon (omega arith))) in
    let energy = digits_upto 20 20 least (omega arith) (omega arith) in
    omega (arith, header_length (N s) (scale_of s) least refl refl refl, queues, scale, energy)

-- how long a listing is at most: 66 bytes for the header; for each slot four for each queue, and five
pub listing_upto : (s : View) (least : ℕ) (plan : List ℕ) → sheet_refusal value_limit s ≡ 0 → least < 2 ^ 64 → AreBytes plan →
    length (listing s least plan) ≤ 66 + s.horizon * (5 + 4 * N s)
unfolding listing
listing_upto s least plan e h are =
    let slots = (accepted s e).ranged.horizon_high in
    let lines = turn_times (line_of_slot s plan) s.horizon (5 + 4 * N s) (λ t l. line_upto plan (N s) t are (omega (arith, slots))) in
    simp length-append (omega (arith, header_upto s least e h, lines))

-- whatever it tells, the header is at most 82 long: each of its numbers has at most 20 digits
pub header_within : (queues scale least : ℕ) → queues < 2 ^ 64 → scale < 2 ^ 64 → least < 2 ^ 64 → length (header queues scale least) ≤ 82
header_within queues scale least queues_fits scale_fits least_fits =
    omega (
      arith,
      header_length queues scale least refl refl refl,
      digits_upto 20 20 queues (omega arith) (omega arith),
      digits_upto 20 20 scale (omega arith) (omega arith),
      digits_upto 20 20 least (omega arith) (omega arith),
    )

-- the lines of so many slots are at most 262,145 long each
pub lines_upto : {plan : List ℕ} {queues slots : ℕ} → HasRows plan queues slots → AreBytes plan →
    length (lines_to plan queues slots) ≤ slots * 262145
lines_upto {plan} {queues} {slots} has are =
    turn_times (line_at plan queues) slots 262145
    (λ t l. omega (arith, line_upto plan queues t are (omega (arith, has.few_slots)), has.few_queues))

-- so the whole is less than any count of bytes
pub whole_upto : {plan : List ℕ} {queues slots : ℕ} (scale least : ℕ) → HasRows plan queues slots → scale < 2 ^ 64 → least < 2 ^ 64 →
    AreBytes plan → length (whole_listing queues scale least plan slots) < 2 ^ 64
whole_upto {plan} {queues} {slots} scale least has scale_fits least_fits are =
    let head = header_within queues scale least (omega (arith, has.few_queues)) scale_fits least_fits in
    simp length-append (omega (arith, head, lines_upto has are, has.few_slots))
