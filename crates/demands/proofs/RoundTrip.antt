-- Demand 2: "A sheet written and read back is the same sheet in every place that counts". The round trips, over the actual contracts of
-- `read` and `write`: whatever these calls answer, so long as it meets their contracts.
use Prim.Native.Nat.{ℕ, ◌≤◌, ◌<◌}
use mathlib.Core.Path.{◌≡◌, sym, ap, ◌∙◌, subst}
use mathlib.Core.List.{List, ◌++◌}
use mathlib.Core.Logic.{◌↔◌}
use lib.ListN.{length, take, replicate, length-append, length-replicate}
use lib.Seq.{length-take-le}
use native.Mathlib.Omega.{arith}
use Rattle.model.proofs.Refusal.{accepted}
use Rattle.laws.proofs.RoundTrip.{view_whole, view_in_memory, accepted_read, written_accepted, write_number, write_fits, write_short, written_out}
use Rattle.model.specs.Bytes.{AreBytes, sheet_bytes, BytesOf}
use Rattle.model.specs.View.{view_of, in_memory, zero_speed, zero_job}
use Rattle.model.specs.Reading.{read}
use Rattle.model.specs.Refusal.{sheet_refusal, value_limit}
use Rattle.model.specs.Tests.{padded}
use Rattle.model.specs.declared.Sheet.{Sheet}
use Rattle.reader.specs.declared.ReadSheet.{ReadSheet}
use Rattle.writer.specs.declared.Written.{Written}
use Rattle.demands.specs.Calls.{HasPlaces, Reads, Writes}
use Rattle.demands.proofs.Determined.{read_is, write_is}

-- "Write then read gives the sheet with those places zero": what was written, read, is accepted, and is the sheet with zero in every
-- place past its counts; so it is the same sheet in every place that counts
pub write_then_read : {sheet : Sheet} {before after : List ℕ} {w : Written} {r : ReadSheet} → HasPlaces sheet →
    Writes sheet before w after → w.number ≡ 0 → Reads (take w.length after) r →
    (r.number ≡ 0) × (r.sheet ≡ in_memory (view_of sheet)) × (view_of r.sheet ≡ view_of sheet)
write_then_read {sheet = sheet} {before = before} {after = after} {w = w} places writing done reading =
    let s = view_of sheet in
    let written = write_is writing in
    let out = written_out s before (sym written.number_is ∙ done) in
    let right = (accepted s out.is_accepted).ranged in
    let well = view_whole sheet places.nine places.thirty_two right.speeds_high right.jobs_high in
    let bytes : take w.length after ≡ sheet_bytes s =
    ap (λ (n : ℕ). take n after) (written.written_is ∙ out.length_is) ∙
    ap (λ (l : List ℕ). take (length (sheet_bytes s)) l) written.buffer_is ∙ out.bytes_stand in
    let given = written_accepted s out.is_accepted well in
    let promised = read_is reading in
    let memory = promised.sheet_is ∙ ap (λ (l : List ℕ). (read l).sheet) bytes ∙ given.1 in (
      promised.number_is ∙ ap (λ (l : List ℕ). (read l).number) bytes ∙ given.0,
      memory,
      ap view_of memory ∙ view_in_memory s well right.speeds_high right.jobs_high,
    )

-- of an accepted read: the places of the sheet that count are those of one accepted sheet, whose bytes were read
from_read : {bytes : List ℕ} {r : ReadSheet} → AreBytes bytes → Reads bytes r → r.number ≡ 0 → BytesOf bytes (view_of r.sheet)
from_read {bytes = bytes} are reading done =
    let promised = read_is reading in
    let (s, right, sheet) = accepted_read bytes are (sym promised.number_is ∙ done) in
    let high = (accepted s right.is_accepted).ranged in
    let view = ap view_of (promised.sheet_is ∙ sheet) ∙ view_in_memory s right.whole_view high.speeds_high high.jobs_high in
    subst (BytesOf bytes) (sym view) right

-- "an accepted read then write gives the same bytes", where the buffer has room for them; else the write is refused with 11

pub read_then_write : {bytes before after : List ℕ} {r : ReadSheet} {w : Written} → AreBytes bytes → Reads bytes r → r.number ≡ 0 →
    Writes r.sheet before w after → length bytes ≤ length before →
    (w.number ≡ 0) × (w.length ≡ length bytes) × (take w.length after ≡ bytes)
read_then_write {bytes = bytes} {before = before} {after = after} {r = r} {w = w} are reading done writing room =
    let s = view_of r.sheet in
    let right = from_read are reading done in
    let written = write_is writing in
    let fits = write_fits s (length before) right.is_accepted (subst (λ (l : List ℕ). length l ≤ length before) right.bytes_are room) in
    let none = write_number s before ∙ fits in
    let out = written_out s before none in
    let long : w.length ≡ length (sheet_bytes s) = written.written_is ∙ out.length_is in (
      written.number_is ∙ none,
      long ∙ ap length (sym right.bytes_are),
      ap (λ (n : ℕ). take n after) long ∙ ap (λ (l : List ℕ). take (length (sheet_bytes s)) l) written.buffer_is ∙ out.bytes_stand ∙
          sym right.bytes_are,
    )

pub read_then_write_short : {bytes before after : List ℕ} {r : ReadSheet} {w : Written} → AreBytes bytes → Reads bytes r → r.number ≡ 0 →
    Writes r.sheet before w after → length before < length bytes → w.number ≡ 11
read_then_write_short {before = before} {r = r} are reading done writing short =
    let s = view_of r.sheet in
    let right = from_read are reading done in
    (write_is writing).number_is ∙ write_number s before ∙
    write_short s (length before) right.is_accepted (subst (λ (l : List ℕ). length before < length l) right.bytes_are short)

-- a table in memory has all its places
padded_length : {A : Type 0} (n : ℕ) (z : A) (l : List A) → length (padded n z l) ≡ n
padded_length n z l = length-take-le n (l ++ replicate n z) (omega (arith, length-append l (replicate n z), length-replicate n z))

-- a read is accepted exactly when the bytes are those of an accepted sheet
pub accepted_exactly : {bytes : List ℕ} {r : ReadSheet} → AreBytes bytes → Reads bytes r →
    (r.number ≡ 0) ↔ ((sheet : Sheet) × HasPlaces sheet × (sheet_refusal value_limit (view_of sheet) ≡ 0) × (bytes ≡ sheet_bytes (view_of sheet)))
accepted_exactly {bytes = bytes} {r = r} are reading = (there, back)
  where
    there : r.number ≡ 0 → (sheet : Sheet) × HasPlaces sheet × (sheet_refusal value_limit (view_of sheet) ≡ 0) × (bytes ≡ sheet_bytes (view_of sheet))
    there done =
        let promised = read_is reading in
        let (s, right, sheet) = accepted_read bytes are (sym promised.number_is ∙ done) in
        let memory = promised.sheet_is ∙ sheet in
        let places : HasPlaces r.sheet =
        record {
          nine = ap (λ (x : Sheet). length x.speeds) memory ∙ padded_length 9 zero_speed s.speeds;
          thirty_two = ap (λ (x : Sheet). length x.jobs) memory ∙ padded_length 32 zero_job s.jobs;
        } in
        let these = from_read are reading done in
        (r.sheet, places, these.is_accepted, these.bytes_are)

    back : (sheet : Sheet) × HasPlaces sheet × (sheet_refusal value_limit (view_of sheet) ≡ 0) × (bytes ≡ sheet_bytes (view_of sheet)) → r.number ≡ 0
    back (sheet, places, e, bytes_are) =
        let right = (accepted (view_of sheet) e).ranged in
        let well = view_whole sheet places.nine places.thirty_two right.speeds_high right.jobs_high in
        (read_is reading).number_is ∙ ap (λ (l : List ℕ). (read l).number) bytes_are ∙ (written_accepted (view_of sheet) e well).0
