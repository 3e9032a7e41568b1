-- Demand 1: what it means that a call answers n, said once for any tests in order (`Tells`); and what is tested when a sheet is read. The
-- tests of each call, in the order that document 01 gives, are the model's `..Lines`.
use Rattle.std.specs.Prelude.{ℕ, zero, suc, ◌<◌, ◌≡◌, Bool, true, false, cond, ◌&&◌, not, List, [], ◌∷◌, ◌⊎◌, ◌↔◌, T, leb, ltb, eqb, length, get_or}
use Rattle.std.proofs.Math.Option.{Option, none, some}
use Rattle.model.specs.View.{View}
use Rattle.model.specs.Reading.{Answer, value, refused, field}
use Rattle.model.specs.Refusal.{speed_field, job_field, field_lines, limit_lines, N, value_limit}
use Rattle.model.specs.Tests.{Lines, nothing, line, ◌⨾◌, table, listed}
use Rattle.model.specs.declared.Job.{Job}
use Rattle.model.specs.declared.Speed.{Speed}

-- every test passes
abbrev pub AllPass : Lines → Type 0
AllPass nothing = Unit {0}
AllPass (line number passes) = T passes
AllPass (l ⨾ m) = AllPass l × AllPass m
AllPass (table lines n) = (i : ℕ) → i < n → AllPass (lines i)

-- a test of number n fails, and every earlier one passes
abbrev pub FailsFirst : Lines → ℕ → Type 0
FailsFirst nothing n = ⊥
FailsFirst (line number passes) n = (passes ≡ false) × (number ≡ n)
FailsFirst (l ⨾ m) n = FailsFirst l n ⊎ (AllPass l × FailsFirst m n)
FailsFirst (table lines count) n = (j : ℕ) × (j < count) × ((i : ℕ) → i < j → AllPass (lines i)) × FailsFirst (lines j) n

-- an answer that is n exactly when a test of number n fails and every earlier one passes, and 0 exactly when all pass
pub record Tells (answer : ℕ) (lines : Lines) : Type 0 where
  pub refused : (n : ℕ) → 0 < n → (answer ≡ n) ↔ FailsFirst lines n
  pub done : (answer ≡ 0) ↔ AllPass lines

-- n is one of the numbers listed
abbrev pub OneOf : List ℕ → ℕ → Type 0
OneOf [] n = ⊥
OneOf (m ∷ l) n = (n ≡ m) ⊎ OneOf l n

-- what a call answers: it tells its lines, and is 0 or one of these numbers
pub record Answers (answer : ℕ) (lines : Lines) (numbers : List ℕ) : Type 0 where
  pub tells : Tells answer lines
  pub gives : OneOf (0 ∷ numbers) answer

-- the same where 12 comes after the lines: `Is` says which value decides
pub record AnswersOr12 (answer : ℕ) (lines : Lines) (Is : Option ℕ → Type 0) (numbers : List ℕ) : Type 0 where
  pub refused : (n : ℕ) → 0 < n → (n ≡ 12 → ⊥) → (answer ≡ n) ↔ FailsFirst lines n
  pub twelve : (answer ≡ 12) ↔ (AllPass lines × Is none)
  pub done : (answer ≡ 0) ↔ (AllPass lines × (v : ℕ) × Is (some v))
  pub gives : OneOf (0 ∷ 12 ∷ numbers) answer

-- Reading. "At each field a read answers a value with its next place, or a refusal"

-- the value; of use only where it is not refused
abbrev pub value_of : {A : Type 0} → A → Answer A → A
value_of zeros (value x next) = x
value_of zeros (refused number) = zeros

-- the next place, likewise
abbrev pub next_of : {A : Type 0} → Answer A → ℕ
next_of (value x next) = next
next_of (refused number) = 0

-- where number k of the bytes begins
unfoldable pub place_of_number : List ℕ → ℕ → ℕ
place_of_number bytes zero = 0
place_of_number bytes (suc k) = next_of (field bytes (place_of_number bytes k))

-- and what it is
unfoldable pub field_of : List ℕ → ℕ → ℕ
field_of bytes k = value_of 0 (field bytes (place_of_number bytes k))

-- the speed at place j that these numbers make
abbrev pub speed_in : List ℕ → ℕ → Speed
speed_in bytes j = record { speed = field_of bytes (speed_field j); energy = field_of bytes (suc (speed_field j)) }

-- the job at place i, after so many speeds
abbrev pub job_in : List ℕ → ℕ → ℕ → Job
job_in bytes speed_count i =
    let k = job_field speed_count i in
    record { weight = field_of bytes k; size = field_of bytes (suc k); deadline = field_of bytes (suc (suc k)) }

-- the sheet
unfoldable pub sheet_in : List ℕ → View
sheet_in bytes =
    let speed_count = field_of bytes 1 in
    let job_count = field_of bytes (suc (speed_field speed_count)) in
    record {
      bound = field_of bytes 0;
      speed_count = speed_count;
      speeds = listed (speed_in bytes) speed_count;
      horizon = field_of bytes (speed_field speed_count);
      job_count = job_count;
      jobs = listed (job_in bytes speed_count) job_count;
    }

-- where the last field ends
abbrev pub end_of : List ℕ → ℕ
end_of bytes = place_of_number bytes (job_field (sheet_in bytes).speed_count (sheet_in bytes).job_count)

-- a byte stands at this place
abbrev pub stands : List ℕ → ℕ → Bool
stands bytes at = ltb at (length bytes)

-- "the high bit set on every byte but the last": it is the last byte of its number
abbrev pub is_last : List ℕ → ℕ → Bool
is_last bytes at = ltb (get_or bytes at 0) 128

-- "1: the bytes end inside a number or before a field": every byte of the number that begins at this place is there, the first, the second
-- unless the first is the last, the third unless the second is
unfoldable pub whole : List ℕ → ℕ → Bool
whole bytes at =
    stands bytes at &&
    cond (is_last bytes at) true
    (stands bytes (suc at) &&
    cond (is_last bytes (suc at)) true
    (stands bytes (suc (suc at))))

-- "2: a number is not in shortest form, or its third byte has the high bit"; "a last byte of 0 is allowed only when it is the single byte":
-- a second byte that is the last is not 0, else the third is the last and not 0. Of use only where the number is whole
unfoldable pub shortest : List ℕ → ℕ → Bool
shortest bytes at =
    cond (is_last bytes at) true
    (cond (is_last bytes (suc at)) (not (eqb (get_or bytes (suc at) 0) 0))
    (is_last bytes (suc (suc at)) && not (eqb (get_or bytes (suc (suc at)) 0) 0)))

-- reading number k
abbrev pub reading : List ℕ → ℕ → Lines
reading bytes k = line 1 (whole bytes (place_of_number bytes k)) ⨾ line 2 (shortest bytes (place_of_number bytes k))

-- "3: bytes follow the last field"
abbrev pub end_line : List ℕ → Lines
end_line bytes = line 3 (leb (length bytes) (end_of bytes))

-- "Reading goes field by field. .. After the last field: 3, 9, 10"
unfoldable pub read_lines : List ℕ → Lines
read_lines bytes = field_lines (reading bytes) (sheet_in bytes) ⨾ end_line bytes ⨾ limit_lines value_limit (N (sheet_in bytes)) (sheet_in bytes)
