-- Document 01, "Bytes": a number's code, a sheet's bytes, and what the writer leaves.
use Rattle.std.specs.Prelude.{ℕ, zero, suc, ◌+◌, ◌%◌, ◌/◌, ◌<◌, ◌≡◌, cond, List, [], ◌∷◌, ◌++◌, leb, ltb, eqb, length, get_or, drop}
use Rattle.model.specs.View.{View, WholeView, zero_speed, zero_job}
use Rattle.model.specs.Refusal.{sheet_lines, sheet_refusal, value_limit}
use Rattle.model.specs.Tests.{Lines, line, ◌⨾◌, first_of, in_turn}
use Rattle.model.specs.declared.Job.{Job}
use Rattle.model.specs.declared.Speed.{Speed}

-- the checker sees a slice of bytes as a list of numbers; that each is below 256 is ensured by the machine
abbrev pub AreBytes : List ℕ → Type 0
AreBytes l = (i : ℕ) → get_or l i 0 < 256

-- "Each number is cut into groups of seven bits, the lowest group first, the high bit set on every byte but the last": in at most n bytes
unfoldable pub code_in : ℕ → ℕ → List ℕ
code_in zero x = []
code_in (suc n) x = cond (ltb x 128) (x ∷ []) ((128 + x % 128) ∷ code_in n (x / 128))

-- "At most three bytes; the shortest form only". It is the code of every number below 128^3
abbrev pub code : ℕ → List ℕ
code x = code_in 3 x

-- "for each, speed then energy"
abbrev pub speed_code : Speed → List ℕ
speed_code one = code one.speed ++ code one.energy

-- "for each, weight, size, deadline"
abbrev pub job_code : Job → List ℕ
job_code one = code one.weight ++ (code one.size ++ code one.deadline)

-- the first n of each

unfoldable pub speed_bytes : View → ℕ → List ℕ
speed_bytes s n = in_turn (λ j. speed_code (get_or s.speeds j zero_speed)) n

unfoldable pub job_bytes : View → ℕ → List ℕ
job_bytes s n = in_turn (λ i. job_code (get_or s.jobs i zero_job)) n

-- "Field order: D; count of speeds; for each, speed then energy; T; count of jobs; for each, weight, size, deadline. Nothing follows"
unfoldable pub sheet_bytes : View → List ℕ
sheet_bytes s =
    code s.bound ++
    (code s.speed_count ++
    (speed_bytes s s.speed_count ++
    (code s.horizon ++
    (code s.job_count ++
    job_bytes s s.job_count))))

-- the bytes are the sheet's, and it is an accepted one with as many places as its counts say
pub record BytesOf (bytes : List ℕ) (s : View) : Type 0 where
  pub bytes_are : bytes ≡ sheet_bytes s
  pub is_accepted : sheet_refusal value_limit s ≡ 0
  pub whole_view : WholeView s

-- "Planner, writer and row: 4 to 10, 11"; "11: a lent buffer shorter than needed", whose length is `room`
unfoldable pub write_lines : View → ℕ → Lines
write_lines s room = sheet_lines value_limit s ⨾ line 11 (leb (length (sheet_bytes s)) room)

abbrev pub write_refusal : View → ℕ → ℕ
write_refusal s room = first_of (write_lines s room)

-- what a call that writes bytes answers, and what it leaves in the lent buffer
pub record Written : Type 0 where
  pub number : ℕ
  pub written : ℕ
  pub buffer : List ℕ

-- from its number and its bytes: the bytes, and then what stood behind them; "A refused write .. touches no lent place and reports zero for
-- length"
abbrev pub written : ℕ → List ℕ → List ℕ → Written
written number bytes buffer =
    cond (eqb number 0)
    (record { number = 0; written = length bytes; buffer = bytes ++ drop (length bytes) buffer })
    (record { number = number; written = 0; buffer = buffer })

-- a call answered this number and this length and left this buffer, as `w` says
pub record Wrote (w : Written) (number length : ℕ) (after : List ℕ) : Type 0 where
  pub number_is : number ≡ w.number
  pub written_is : length ≡ w.written
  pub buffer_is : after ≡ w.buffer

-- the writer: it writes the sheet's bytes
unfoldable pub write : View → List ℕ → Written
write s buffer = written (write_refusal s (length buffer)) (sheet_bytes s) buffer
