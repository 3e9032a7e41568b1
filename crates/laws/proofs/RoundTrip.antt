-- Reading undoes writing, and writing undoes reading (the model's Reading.antt and Bytes.antt): an accepted sheet's bytes are read as that
-- sheet, to their end; and bytes that are read as a sheet are that sheet's bytes, and it is an accepted one. Both go by the sheet's fields.
use Prim.Native.Nat.{ℕ, zero, suc, ◌+◌, ◌^◌, ◌≤◌, ◌<◌}
use mathlib.Core.Path.{◌≡◌, refl, sym, ap, ◌∙◌, subst}
use mathlib.Core.List.{List, [], ◌∷◌, ◌++◌, append_assoc, append-nil, flat_map}
use native.Mathlib.Nat.{le_refl, lt_irrefl}
use native.Mathlib.Omega.{arith}
use borrow.Author.Tests.{le-leb, lt-leb, leb-true}
use lib.Dec.{leb}
use lib.ListN.{length, take, drop, replicate, length-append}
use lib.Seq.{take_all, take-take, take_at, length-take-le}
use Rattle.model.specs.Bytes.{AreBytes, code, speed_bytes, job_bytes, sheet_bytes, BytesOf, write_refusal, write_lines, write}
use Rattle.model.specs.View.{View, WholeView, view_with, view_of, in_memory, zero_speed, zero_job}
use Rattle.model.specs.Reading.{Answer, value, refused, read_speed_table, read_job_table, judged, read_view, read_answer, read}
use Rattle.model.specs.Refusal.{bound_right, speed_count_right, horizon_right, job_count_right, speeds_refusal, speeds_lines, jobs_lines, fields_refusal, field_lines, limits_refusal, lines_given, sheet_refusal, sheet_lines, N, value_limit}
use Rattle.model.specs.Tests.{in_turn, padded}
use Rattle.model.specs.declared.Sheet.{Sheet}
use Rattle.laws.proofs.Codes.{field_code, field_bytes}
use Rattle.laws.proofs.Readers.{Positive, read_positive, value_same, onward_gave, test_gave, refuse_gave, holds_then, tested_gave, Stand, stand_join, stand_split, table_fields, speed_fields, job_fields, speed_entries, job_entries, table_gave, table_value, fields_read}
use Rattle.model.proofs.Refusal.{Ranged, ranged}
use Rattle.model.proofs.Tests.{then_both, then_left, then_right, then_on, check_true, check_false}
use Rattle.laws.proofs.Written.{written_number}

-- the places that count of a sheet in memory, whose counts are in range, are as many as the counts say
pub view_whole : (s : Sheet) → length s.speeds ≡ 9 → length s.jobs ≡ 32 → s.speed_count ≤ 9 → s.job_count ≤ 32 →
    WholeView (view_of s)
view_whole s m n h k = record {
  speeds_counted = length-take-le s.speed_count s.speeds (rw m h);
  jobs_counted = length-take-le s.job_count s.jobs (rw n k);
}

-- the first places of a list that was put in more places are the list
take_padded : {A : Type 0} (m : ℕ) (zeros : A) (l : List A) (n : ℕ) → length l ≡ n → n ≤ m → take n (padded m zeros l) ≡ l
take_padded m zeros l n e h = take-take n m (l ++ replicate m zeros) h ∙ take_at l (replicate m zeros) n e

-- a sheet put in memory, the places past its counts zero, has the places that count
pub view_in_memory : (s : View) → WholeView s → s.speed_count ≤ 9 → s.job_count ≤ 32 → view_of (in_memory s) ≡ s
view_in_memory s w h k =
    rw (
      take_padded 9 zero_speed s.speeds s.speed_count w.speeds_counted h,
      take_padded 32 zero_job s.jobs s.job_count w.jobs_counted k,
    )

-- a sheet's fields and its bytes

-- "Field order: D; count of speeds; for each, speed then energy; T; count of jobs; for each, weight, size, deadline"
sheet_fields : View → List ℕ
sheet_fields s =
    s.bound ∷
    (table_fields zero_speed speed_fields s.speed_count s.speeds ++
    (s.horizon ∷ table_fields zero_job job_fields s.job_count s.jobs))

-- the code of two lists of numbers
code_append : (l m : List ℕ) → flat_map code (l ++ m) ≡ flat_map code l ++ flat_map code m
unfolding flat_map
code_append [] m = refl
code_append (x ∷ l) m = rw (code_append l m, append_assoc)

-- the code of lists that stand in turn
code_in_turn : (f : ℕ → List ℕ) (n : ℕ) → flat_map code (in_turn f n) ≡ in_turn (λ i. flat_map code (f i)) n
unfolding in_turn flat_map
code_in_turn f zero = refl
code_in_turn f (suc n) = rw (code_append (in_turn f n) (f n), code_in_turn f n)

-- a sheet's bytes are the code of its fields
sheet_bytes_lem : (s : View) → flat_map code (sheet_fields s) ≡ sheet_bytes s
unfolding sheet_fields sheet_bytes speed_bytes job_bytes flat_map
sheet_bytes_lem s = simp (code_append, code_in_turn, append-nil, append_assoc)

-- reading what was written

-- numbers that have a code
abbrev Small : List ℕ → Type 0
Small [] = Unit {0}
Small (x ∷ l) = (x < 128 ^ 3) × Small l

-- two lists of them together
small_append : (l m : List ℕ) → Small l → Small m → Small (l ++ m)
small_append [] m a b = b
small_append (x ∷ l) m a b = (a.0, small_append l m a.1 b)

-- lists of them that stand in turn
small_in_turn : (f : ℕ → List ℕ) (n : ℕ) → ((i : ℕ) → i < n → Small (f i)) → Small (in_turn f n)
unfolding in_turn
small_in_turn f zero all = tt
small_in_turn f (suc n) all =
    small_append (in_turn f n) (f n) (small_in_turn f n (λ i h. all i (omega arith))) (all n (le_refl (suc n)))

-- the fields of a sheet that keeps every range have a code
sheet_small : (s : View) → Ranged s → Small (sheet_fields s)
unfolding sheet_fields
sheet_small s r =
    let speeds : Small (table_fields zero_speed speed_fields s.speed_count s.speeds) =
    (omega arith, small_in_turn _ s.speed_count (λ j h. omega (arith, r.speed_high j h, r.energy_high j h))) in
    let jobs : Small (table_fields zero_job job_fields s.job_count s.jobs) =
    (omega arith, small_in_turn _ s.job_count (λ i h. omega (arith, r.weight_high i h, r.size_high i h, r.deadline_high i h))) in
    (omega arith, small_append (table_fields zero_speed speed_fields s.speed_count s.speeds) _ speeds (omega arith, jobs))

-- in the code of such numbers they stand as fields
stand_code : (before l : List ℕ) → Small l → Stand (before ++ flat_map code l) (length before) l (length (before ++ flat_map code l))
unfolding flat_map
stand_code before [] a = rw append-nil
stand_code before (x ∷ l) a = (
  length before + length (code x),
  field_code before (flat_map code l) x a.0,
  rw (append_assoc, length-append before (code x)) at (stand_code (before ++ code x) l a.1),
)

-- bytes that end where the fields of an accepted sheet stand are read as that sheet
stand_read : (bytes : List ℕ) (s : View) → sheet_refusal value_limit s ≡ 0 → WholeView s → Stand bytes 0 (sheet_fields s) (length bytes) →
    read_view N bytes 0 ≡ value s (length bytes)
unfolding sheet_lines lines_given field_lines speeds_lines jobs_lines read_view read_speed_table read_job_table judged sheet_fields
stand_read bytes s e w stands =
    let (bound, e1) = holds_then (bound_right s.bound) 3 _ (then_left (fields_refusal s) _ e) in
    let (speed_count, e2) = holds_then (speed_count_right s.speed_count) 4 _ e1 in
    let (horizon, e3) = holds_then (horizon_right s.horizon) 6 _ (then_right (speeds_refusal s s.speed_count) _ e2) in
    let (job_count, e4) = holds_then (job_count_right s.job_count) 7 _ e3 in
    let (a, D, rest) = stands in
    let speed_table = table_fields zero_speed speed_fields s.speed_count s.speeds in
    let (b, speeds, (c, T, jobs)) = stand_split bytes speed_table _ a (length bytes) rest in
    rw (
      D,
      bound,
      table_value speed_entries speed_count_right 5 bytes a s.speed_count s.speeds b w.speeds_counted speeds speed_count
          (then_left (speeds_refusal s s.speed_count) _ e2),
      T,
      horizon,
      table_value (job_entries s.bound) job_count_right 8 bytes c s.job_count s.jobs (length bytes) w.jobs_counted jobs job_count
          e4,
      le-leb (length bytes) (length bytes) (le_refl (length bytes)),
      w.speeds_counted,
      w.jobs_counted,
      then_right (fields_refusal s) _ e,
    )

-- an accepted sheet's bytes are read as that sheet, to their end
pub read_written : (s : View) → sheet_refusal value_limit s ≡ 0 → WholeView s → read_view N (sheet_bytes s) 0 ≡ value s (length (sheet_bytes s))
unfolding sheet_lines lines_given
read_written s e w =
    let small = sheet_small s (ranged s (then_left (fields_refusal s) _ e)) in
    stand_read (sheet_bytes s) s e w (rw sheet_bytes_lem at (stand_code [] (sheet_fields s) small))

-- writing what was read

-- numbers that stand as fields stand in code
stand_bytes : (bytes : List ℕ) → AreBytes bytes → (l : List ℕ) (at next : ℕ) → Stand bytes at l next →
    take next bytes ≡ take at bytes ++ flat_map code l
unfolding flat_map
stand_bytes bytes are [] at next s = rw (append-nil, s)
stand_bytes bytes are (x ∷ l) at next s =
    rw (stand_bytes bytes are l s.0 next s.2, (field_bytes bytes are at x s.0 s.1).0, append_assoc)

-- bytes that end where a sheet's fields stand are that sheet's bytes
stand_written : (bytes : List ℕ) → AreBytes bytes → (s : View) (next : ℕ) → length bytes ≤ next →
    Stand bytes 0 (sheet_fields s) next → bytes ≡ sheet_bytes s
stand_written bytes are s next h stands =
    sym (take_all next bytes h) ∙ stand_bytes bytes are (sheet_fields s) 0 next stands ∙ sheet_bytes_lem s

-- bytes that are read as a sheet are that sheet's bytes, and it is an accepted one
pub written_read : (bytes : List ℕ) (are : AreBytes bytes) (s : View) (next : ℕ) → read_view N bytes 0 ≡ value s next →
    BytesOf bytes s
unfolding sheet_lines lines_given read_view read_speed_table read_job_table judged sheet_fields
written_read bytes are s next e =
    let (D, a, f, t, e1) = tested_gave bound_right 4 bytes 0 _ e in
    let (speeds, b, m, e2) = onward_gave (read_speed_table bytes a) _ e1 in
    let (T, c, g, u, e3) = tested_gave horizon_right 7 bytes b _ e2 in
    let (jobs, d, n, e4) = onward_gave (read_job_table D bytes c) _ e3 in
    let (end, e5) = test_gave (leb (length bytes) d) 3 bytes d _ e4 in
    let made = view_with D speeds T jobs in
    let (k, e6) = refuse_gave (limits_refusal value_limit (N made) made) bytes d _ e5 in
    let (speeds_stand, _, _) = table_gave speed_entries speed_count_right 5 bytes a speeds b m in
    let (jobs_stand, _, _) = table_gave (job_entries D) job_count_right 8 bytes c jobs d n in
    let rest =
    stand_join bytes (table_fields zero_speed speed_fields (length speeds) speeds) (T ∷ table_fields zero_job job_fields (length jobs) jobs)
    a b d speeds_stand (c, g, jobs_stand) in
    subst (BytesOf bytes) (value_same {m = d} e6).0 (record {
      bytes_are = stand_written bytes are made d (leb-true (length bytes) d end) (a, f, rest);
      is_accepted = then_both (fields_refusal made) (limits_refusal value_limit (N made) made) (fields_read bytes D T speeds jobs a b c d t m u n) k;
      whole_view = record { speeds_counted = refl; jobs_counted = refl };
    })

-- the calls of document 01

-- a read with number 0 gave a sheet
gave_sheet : (x : Answer View) → Positive x → (read_answer x).number ≡ 0 → (s : View) × (next : ℕ) × (x ≡ value s next)
gave_sheet (value s next) p e = (s, next, refl)
gave_sheet (refused k) p e = absurd (lt_irrefl 0 (rw e at p))

-- an accepted read gives the sheet whose bytes were read, the places past its counts zero
pub accepted_read : (bytes : List ℕ) → AreBytes bytes → (read bytes).number ≡ 0 →
    (s : View) × BytesOf bytes s × ((read bytes).sheet ≡ in_memory s)
unfolding read
accepted_read bytes are e =
    let (s, next, d) = gave_sheet (read_view N bytes 0) (read_positive N bytes 0) e in
    (s, written_read bytes are s next d, ap (λ (x : Answer View). (read_answer x).sheet) d)

-- the bytes of an accepted sheet are accepted, and read as that sheet, the places past its counts zero
pub written_accepted : (s : View) → sheet_refusal value_limit s ≡ 0 → WholeView s →
    ((read (sheet_bytes s)).number ≡ 0) × ((read (sheet_bytes s)).sheet ≡ in_memory s)
unfolding read
written_accepted s e w =
    let d = read_written s e w in
    (ap (λ (x : Answer View). (read_answer x).number) d, ap (λ (x : Answer View). (read_answer x).sheet) d)

-- the number of a write is that of its tests
pub write_number : (s : View) (buffer : List ℕ) → (write s buffer).number ≡ write_refusal s (length buffer)
unfolding write
write_number s buffer = written_number (write_refusal s (length buffer)) (sheet_bytes s) buffer

-- the number of an accepted sheet's write, by the room that it has

pub write_fits : (s : View) (room : ℕ) → sheet_refusal value_limit s ≡ 0 → length (sheet_bytes s) ≤ room → write_refusal s room ≡ 0
unfolding write_lines
write_fits s room e h = then_on (sheet_refusal value_limit s) _ e ∙ check_true _ 11 (le-leb (length (sheet_bytes s)) room h)

pub write_short : (s : View) (room : ℕ) → sheet_refusal value_limit s ≡ 0 → room < length (sheet_bytes s) → write_refusal s room ≡ 11
unfolding write_lines
write_short s room e h = then_on (sheet_refusal value_limit s) _ e ∙ check_false _ 11 (lt-leb (length (sheet_bytes s)) room h)

-- a write that was not refused: the sheet is accepted, and its bytes stand first in the buffer
pub record WrittenOut (s : View) (buffer : List ℕ) : Type 0 where
  pub is_accepted : sheet_refusal value_limit s ≡ 0
  pub length_is : (write s buffer).written ≡ length (sheet_bytes s)
  pub bytes_stand : take (length (sheet_bytes s)) (write s buffer).buffer ≡ sheet_bytes s

pub written_out : (s : View) (buffer : List ℕ) → (write s buffer).number ≡ 0 → WrittenOut s buffer
unfolding write write_lines
written_out s buffer e =
    let none : write_refusal s (length buffer) ≡ 0 = sym (write_number s buffer) ∙ e in
    record {
      is_accepted = then_left (sheet_refusal value_limit s) _ none;
      length_is = rw none;
      bytes_stand = rw none (take_at (sheet_bytes s) (drop (length (sheet_bytes s)) buffer) (length (sheet_bytes s)) refl);
    }
