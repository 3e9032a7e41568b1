-- Reading in order (specs/Numbers.antt, `read_lines`): the model's reader refuses with the number of the first line that fails, and where
-- none fails it gives the sheet that the numbers of the bytes are.
use Prim.Native.Nat.{ℕ, zero, suc, pred, ◌+◌, ◌*◌, ◌-◌, ◌<◌}
use mathlib.Core.Path.{◌≡◌, refl, sym, ap, ◌∙◌, subst}
use mathlib.Core.Bool.{Bool, true, false, cond, ◌&&◌, not}
use mathlib.Core.List.{List, [], ◌∷◌}
use native.Mathlib.Nat.{not-suc-le-zero, suc-ne-zero, add-zero, zero-add}
use native.Mathlib.Omega.{arith}
use borrow.Author.Tests.{ne_eqb, eqb-false, lt-leb, le-leb, ltb-true, ltb-false}
use lib.Dec.{leb, ltb, eqb}
use lib.ListN.{length, get_or}
use Rattle.model.specs.View.{View, view_with, in_memory, zero_sheet, zero_speed, zero_job}
use Rattle.model.specs.Reading.{◌>>=◌, ◌>>◌, Answer, value, refused, Reader, onward, done, test, refuse, joined, number_in, field, read_speed, read_speeds, read_speed_table, read_job, read_jobs, read_job_table, ended, judged, read_view, read_answer, read}
use Rattle.model.specs.Refusal.{bound_right, speed_count_right, speed_right, energy_right, horizon_right, job_count_right, weight_right, size_right, deadline_right, speed_field, job_field, lines_of_speed, lines_of_job, speeds_lines, jobs_lines, field_lines, limit_lines, limits_refusal, N, value_limit}
use Rattle.model.specs.Tests.{check, ◌then◌, line, ◌⨾◌, first_of, in_order, listed}
use Rattle.model.specs.declared.Job.{Job}
use Rattle.model.specs.declared.Speed.{Speed}
use Rattle.laws.proofs.Readers.{Positive, number_positive, tested, headed, shift}
use Rattle.model.proofs.Tests.{length_listed, get_or_listed, then_then, then_nothing, in_order_front, in_order_same}
use Rattle.orders.specs.Numbers.{value_of, next_of, place_of_number, field_of, speed_in, job_in, sheet_in, end_of, end_line, stands, is_last, whole, shortest, reading, read_lines}

-- one number

-- the number of a refusal, 0 where there is none
abbrev refusal_of : {A : Type 0} → Answer A → ℕ
refusal_of (value a next) = 0
refusal_of (refused number) = number

-- a place is past the bytes where no byte stands at it
past : (bytes : List ℕ) (at : ℕ) → leb (length bytes) at ≡ not (stands bytes at)
past bytes at = go (ltb at (length bytes)) refl
  where
    go : (b : Bool) → ltb at (length bytes) ≡ b → leb (length bytes) at ≡ not b
    go true e = lt-leb (length bytes) at (ltb-true at (length bytes) e)
    go false e = le-leb (length bytes) at (ltb-false at (length bytes) e)

-- a last byte of 0 after others is refused with 2
zero_refused : (z : Bool) (x next : ℕ) → refusal_of (cond z (refused 2) (value x next)) ≡ check (not z) 2
zero_refused true x next = refl
zero_refused false x next = refl

-- and no other is: what stands above the lowest group of seven bits is not 0 then
third_refused : (low group byte next : ℕ) (z : Bool) → eqb byte 0 ≡ z →
    refusal_of (joined low (cond z (refused 2) (value (group + 128 * byte) next))) ≡ check (not z) 2
third_refused low group byte next true e = refl
third_refused low group byte next false e =
    let other : group + 128 * byte ≡ 0 → ⊥ = λ d. eqb-false byte 0 e (omega arith) in
    rw (ne_eqb (group + 128 * byte) 0 other)

-- reading a number is refused with 1 where it is not whole, else with 2 where it is not in shortest form
field_number : (bytes : List ℕ) (at : ℕ) → refusal_of (field bytes at) ≡ check (whole bytes at) 1 then check (shortest bytes at) 2
unfolding number_in whole shortest
field_number bytes at =
    rw (past bytes at, past bytes (suc at), past bytes (suc (suc at)))
    (go (get_or bytes at 0) (get_or bytes (suc at) 0) (get_or bytes (suc (suc at)) 0) (stands bytes at) (is_last bytes at)
    (stands bytes (suc at)) (is_last bytes (suc at)) (stands bytes (suc (suc at))) (is_last bytes (suc (suc at))))
  where
    go : (x y z : ℕ) (a b c d e f : Bool) →
        refusal_of
        (cond (not a) (refused 1)
        (cond b (value x (suc at))
        (joined (x - 128)
        (cond (not c) (refused 1)
        (cond d (value y (suc (suc at)))
        (joined (y - 128)
        (cond (not e) (refused 1) (cond f (value z (suc (suc (suc at)))) (joined (z - 128) (refused 2)))))))))) ≡
        check (a && cond b true (c && cond d true e)) 1 then check (cond b true (cond d (not (eqb y 0)) (f && not (eqb z 0)))) 2
    go x y z false b c d e f = refl
    go x y z true true c d e f = refl
    go x y z true false false d e f = refl
    go x y z true false true true e f = zero_refused (eqb y 0) _ _
    go x y z true false true false false f = refl
    go x y z true false true false true true = third_refused _ _ z _ (eqb z 0) refl
    go x y z true false true false true false = refl

-- reads by the number of their tests

-- what a read answers then: a value with its next place, or a refusal
abbrev outcome : {A : Type 0} → (number : ℕ) → A → ℕ → Answer A
outcome zero a next = value a next
outcome (suc number) a next = refused (suc number)

-- the number of its tests is this, and it gives this value with its next place where the number is 0
record Gives {A : Type 0} (x : Answer A) (number : ℕ) (a : A) (next : ℕ) : Type 0 where
  answer : x ≡ outcome number a next

-- every answer that does not refuse with 0
answer_gives : {A : Type 0} (zeros : A) (x : Answer A) → Positive x → Gives x (refusal_of x) (value_of zeros x) (next_of x)
answer_gives zeros (value a next) p = record { answer = refl }
answer_gives zeros (refused zero) p = absurd (not-suc-le-zero p)
answer_gives zeros (refused (suc number)) p = record { answer = refl }

-- one read and then another: their tests in order
then_gives : {A B : Type 0} {x : Answer A} {n m : ℕ} {a : A} {mid : ℕ} {b : B} {next : ℕ} (more : A → ℕ → Answer B) →
    Gives x n a mid → Gives (more a mid) m b next → Gives (onward x more) (n then m) b next
then_gives {n = zero} more e f = record { answer = rw e.answer f.answer }
then_gives {n = suc n} more e f = record { answer = rw e.answer }

-- a value, and no test
done_gives : {A : Type 0} (a : A) (bytes : List ℕ) (at : ℕ) → Gives (done a bytes at) 0 a at
done_gives a bytes at = record { answer = refl }

-- a test
test_gives : (passes : Bool) (number : ℕ) (bytes : List ℕ) (at : ℕ) →
    Gives (test passes (suc number) bytes at) (check passes (suc number)) tt at
test_gives true number bytes at = record { answer = refl }
test_gives false number bytes at = record { answer = refl }

-- a test by its number
refuse_gives : (number : ℕ) (bytes : List ℕ) (at : ℕ) → Gives (refuse number bytes at) number tt at
refuse_gives zero bytes at = record { answer = refl }
refuse_gives (suc number) bytes at = record { answer = refl }

-- the number of the two lines of reading number k
abbrev number_of_reading : List ℕ → ℕ → ℕ
number_of_reading bytes k = first_of (reading bytes k)

-- number k of the bytes, read where it begins
field_gives : (bytes : List ℕ) (k : ℕ) → Gives (field bytes (place_of_number bytes k)) (number_of_reading bytes k) (field_of bytes k) (place_of_number bytes (suc k))
unfolding place_of_number field_of
field_gives bytes k =
    let at = place_of_number bytes k in
    subst (λ (n : ℕ). Gives (field bytes at) n (field_of bytes k) (place_of_number bytes (suc k))) (field_number bytes at)
    (answer_gives 0 (field bytes at) (number_positive 3 bytes at))

-- and then its own range
tested_gives : {B : Type 0} (bytes : List ℕ) (k : ℕ) (right : ℕ → Bool) (number : ℕ) (more : ℕ → Reader B) {m : ℕ} {b : B} {next : ℕ} →
    Gives (more (field_of bytes k) bytes (place_of_number bytes (suc k))) m b next →
    Gives (tested right (suc number) more bytes (place_of_number bytes k))
    (number_of_reading bytes k then check (right (field_of bytes k)) (suc number) then m) b next
tested_gives bytes k right number more rest =
    then_gives _ (field_gives bytes k) (then_gives _ (test_gives (right (field_of bytes k)) number bytes (place_of_number bytes (suc k))) rest)

-- the last number of an entry
last_gives : {B : Type 0} (bytes : List ℕ) (k : ℕ) (right : ℕ → Bool) (number : ℕ) (entry : ℕ → B) →
    Gives (tested right (suc number) (λ x. done (entry x)) bytes (place_of_number bytes k))
    (number_of_reading bytes k then check (right (field_of bytes k)) (suc number)) (entry (field_of bytes k)) (place_of_number bytes (suc k))
last_gives bytes k right number entry =
    simp then_nothing at
    (tested_gives bytes k right number (λ x. done (entry x)) (done_gives (entry (field_of bytes k)) bytes (place_of_number bytes (suc k))))

-- the entry before the one at place j
abbrev previous : {A : Type 0} → A → (ℕ → A) → ℕ → A
previous zeros entry zero = zeros
previous zeros entry (suc j) = entry j

module _ {A : Type 0} (zeros : A) (entry : ℕ → A) (place number : ℕ → ℕ) (bytes : List ℕ) (one : ℕ → A → Reader A)
    (all : ℕ → ℕ → A → Reader (List A)) (none_left : (j : ℕ) (w : A) → all zero j w ≡ done [])
    (some_left : (n j : ℕ) (w : A) → all (suc n) j w ≡ headed (one j w) (all n (suc j)))
    (each : (j : ℕ) → Gives (one j (previous zeros entry j) bytes (place j)) (number j) (entry j) (place (suc j))) where
  -- n entries from place j on
  entries_give : (n j : ℕ) →
      Gives (all n j (previous zeros entry j) bytes (place j))
      (in_order (λ i. number (j + i)) n) (listed (λ i. entry (j + i)) n) (place (j + n))
  unfolding listed in_order
  entries_give zero j = rw (none_left j (previous zeros entry j), add-zero) (done_gives [] bytes (place j))
  entries_give (suc n) j =
      let others = then_gives (λ rest next. done (entry j ∷ rest) bytes next) (entries_give n (suc j)) (done_gives _ bytes _) in
      let both = then_gives (λ v next. onward (all n (suc j) v bytes next) (λ rest last. done (v ∷ rest) bytes last)) (each j) others in
      rw (some_left n j (previous zeros entry j), in_order_front (λ i. number (j + i)) n)
      (simp (add-zero, shift) (simp then_nothing at both))

  -- n entries from the first on
  table_gives : (n : ℕ) → Gives (all n 0 zeros bytes (place 0)) (in_order number n) (listed entry n) (place n)
  table_gives n = simp zero-add at (entries_give n 0)

-- the number of a speed at place j, after the speed `before`
abbrev number_of_speed : List ℕ → ℕ → Speed → Speed → ℕ
number_of_speed bytes j before one = first_of (lines_of_speed (reading bytes) j before.speed one.speed one.energy)

-- of a job whose weight is number k
abbrev number_of_job : List ℕ → ℕ → ℕ → Job → ℕ
number_of_job bytes D k one = first_of (lines_of_job (reading bytes) k D one.weight one.size one.deadline)

-- a speed and its energy
speed_gives : (bytes : List ℕ) (j : ℕ) →
    Gives (read_speed j (previous zero_speed (speed_in bytes) j).speed bytes (place_of_number bytes (speed_field j)))
    (number_of_speed bytes j (previous zero_speed (speed_in bytes) j) (speed_in bytes j)) (speed_in bytes j)
    (place_of_number bytes (speed_field (suc j)))
unfolding read_speed
speed_gives bytes j =
    let one : ℕ → ℕ → Speed = λ speed energy. record { speed = speed; energy = energy } in
    let next : speed_field (suc j) ≡ suc (suc (speed_field j)) = omega arith in
    rw next
    (tested_gives bytes (speed_field j) (speed_right j (previous zero_speed (speed_in bytes) j).speed) 4
    (λ speed. tested energy_right 6 (λ energy. done (one speed energy)))
    (last_gives bytes (suc (speed_field j)) energy_right 5 (one (field_of bytes (speed_field j)))))

-- so many speeds
speeds_give : (bytes : List ℕ) (n : ℕ) →
    Gives (read_speeds n 0 0 bytes (place_of_number bytes 2))
    (in_order (λ j. number_of_speed bytes j (previous zero_speed (speed_in bytes) j) (speed_in bytes j)) n) (listed (speed_in bytes) n)
    (place_of_number bytes (speed_field n))
unfolding read_speeds
speeds_give bytes n =
    table_gives zero_speed (speed_in bytes) (λ j. place_of_number bytes (speed_field j)) _ bytes (λ j w. read_speed j w.speed)
    (λ n j w. read_speeds n j w.speed) (λ j w. refl) (λ n j w. refl) (speed_gives bytes) n

-- a job, after n speeds
job_gives : (bytes : List ℕ) (D n i : ℕ) →
    Gives (read_job D bytes (place_of_number bytes (job_field n i))) (number_of_job bytes D (job_field n i) (job_in bytes n i)) (job_in bytes n i)
    (place_of_number bytes (job_field n (suc i)))
unfolding read_job
job_gives bytes D n i =
    let k = job_field n i in
    let one : ℕ → ℕ → ℕ → Job = λ weight size deadline. record { weight = weight; size = size; deadline = deadline } in
    let next : job_field n (suc i) ≡ suc (suc (suc k)) = omega arith in
    rw next
    (tested_gives bytes k weight_right 7
    (λ weight. tested size_right 8 (λ size. tested (deadline_right D) 8 (λ deadline. done (one weight size deadline))))
    (tested_gives bytes (suc k) size_right 7 (λ size. tested (deadline_right D) 8 (λ deadline. done (one (field_of bytes k) size deadline)))
    (last_gives bytes (suc (suc k)) (deadline_right D) 7 (one (field_of bytes k) (field_of bytes (suc k))))))

-- so many jobs
jobs_give : (bytes : List ℕ) (D n m : ℕ) →
    Gives (read_jobs D m bytes (place_of_number bytes (job_field n 0)))
    (in_order (λ i. number_of_job bytes D (job_field n i) (job_in bytes n i)) m) (listed (job_in bytes n) m)
    (place_of_number bytes (job_field n m))
unfolding read_jobs
jobs_give bytes D n m =
    table_gives zero_job (job_in bytes n) (λ i. place_of_number bytes (job_field n i)) _ bytes (λ j w. read_job D) (λ n j w. read_jobs D n)
    (λ j w. refl) (λ n j w. refl) (job_gives bytes D n) m

-- the number of a speed is that of the speed in the table of n speeds
speed_same : (bytes : List ℕ) (n j : ℕ) → j < n →
    number_of_speed bytes j (previous zero_speed (speed_in bytes) j) (speed_in bytes j) ≡
    number_of_speed bytes j (get_or (listed (speed_in bytes) n) (pred j) zero_speed) (get_or (listed (speed_in bytes) n) j zero_speed)
speed_same bytes n zero h = rw (get_or_listed (speed_in bytes) n 0 zero_speed h)
speed_same bytes n (suc j) h =
    let before = get_or_listed (speed_in bytes) n j zero_speed (omega arith) in
    rw (before, get_or_listed (speed_in bytes) n (suc j) zero_speed h)

-- a whole sheet: what is read after D, after the speeds, after T and after the jobs

abbrev after_jobs : View → Reader View
after_jobs s = do
  ended
  judged N s

abbrev after_horizon : (D : ℕ) → List Speed → (T : ℕ) → Reader View
after_horizon D speeds T = do
  jobs ← read_job_table D
  after_jobs (view_with D speeds T jobs)

abbrev after_speeds : (D : ℕ) → List Speed → Reader View
after_speeds D speeds = tested horizon_right 7 (after_horizon D speeds)

abbrev after_bound : (D : ℕ) → Reader View
after_bound D = do
  speeds ← read_speed_table
  after_speeds D speeds

-- "3: bytes follow the last field", and 9 and 10 of what was read
after_jobs_lem : (bytes : List ℕ) (s : View) (at : ℕ) →
    Gives (after_jobs s bytes at) (check (leb (length bytes) at) 3 then limits_refusal value_limit (N s) s) s at
unfolding judged
after_jobs_lem bytes s at =
    let number = limits_refusal value_limit (N s) s in
    let last = then_gives (λ u next. done s bytes next) (refuse_gives number bytes at) (done_gives s bytes at) in
    then_gives _ (test_gives (leb (length bytes) at) 2 bytes at)
    (subst (λ (n : ℕ). Gives (judged N s bytes at) n s at) (then_nothing number) last)

module _ (bytes : List ℕ) where
  -- the jobs with their count
  job_table_gives :
      let s = sheet_in bytes in
      Gives (read_job_table s.bound bytes (place_of_number bytes (suc (speed_field s.speed_count))))
      (first_of
      (reading bytes (suc (speed_field s.speed_count)) ⨾ line 8 (job_count_right s.job_count) ⨾ jobs_lines (reading bytes) s s.job_count))
      s.jobs (end_of bytes)
  unfolding read_job_table sheet_in jobs_lines
  job_table_gives =
      let D = field_of bytes 0 in
      let n = field_of bytes 1 in
      let m = field_of bytes (suc (speed_field n)) in
      let first : job_field n 0 ≡ suc (suc (speed_field n)) = omega arith in
      let same = in_order_same _ (λ i. number_of_job bytes D (job_field n i) (get_or (listed (job_in bytes n) m) i zero_job)) m
      (λ i h. ap (number_of_job bytes D (job_field n i)) (sym (get_or_listed (job_in bytes n) m i zero_job h))) in
      let jobs =
      subst (λ (k : ℕ). Gives (read_jobs D m bytes (place_of_number bytes (job_field n 0))) k (listed (job_in bytes n) m) (end_of bytes)) same
      (jobs_give bytes D n m) in
      tested_gives bytes (suc (speed_field n)) job_count_right 7 (read_jobs D) (rw first at jobs)

  -- the speeds with their count
  speed_table_gives :
      let s = sheet_in bytes in
      Gives (read_speed_table bytes (place_of_number bytes 1))
      (first_of (reading bytes 1 ⨾ line 5 (speed_count_right s.speed_count) ⨾ speeds_lines (reading bytes) s s.speed_count))
      s.speeds (place_of_number bytes (speed_field s.speed_count))
  unfolding read_speed_table sheet_in speeds_lines
  speed_table_gives =
      let n = field_of bytes 1 in
      let same = in_order_same _ _ n (speed_same bytes n) in
      let speeds =
      subst (λ (k : ℕ). Gives (read_speeds n 0 0 bytes (place_of_number bytes 2)) k (listed (speed_in bytes) n) (place_of_number bytes (speed_field n))) same
      (speeds_give bytes n) in
      tested_gives bytes 1 speed_count_right 4 (λ n. read_speeds n 0 0) speeds

  -- the tables are as long as their counts say
  counts_same :
      let s = sheet_in bytes in
      view_with s.bound s.speeds s.horizon s.jobs ≡ s
  unfolding sheet_in
  counts_same =
      let n = field_of bytes 1 in
      let s = sheet_in bytes in
      let speeds = length_listed (speed_in bytes) n in
      let jobs = length_listed (job_in bytes n) (field_of bytes (suc (speed_field n))) in
      λ i. record {
        bound = s.bound;
        speed_count = speeds i;
        speeds = s.speeds;
        horizon = s.horizon;
        job_count = jobs i;
        jobs = s.jobs;
      }

  -- the whole sheet
  sheet_gives : Gives (read_view N bytes 0) (first_of (read_lines bytes)) (sheet_in bytes) (end_of bytes)
  unfolding read_view read_lines field_lines speeds_lines jobs_lines sheet_in place_of_number
  sheet_gives =
      let s = sheet_in bytes in
      let sheet : List Job → View = λ jobs. view_with s.bound s.speeds s.horizon jobs in
      let from_end =
      subst (λ (z : View). Gives (after_jobs z bytes (end_of bytes)) (first_of (end_line bytes ⨾ limit_lines value_limit (N s) s)) s (end_of bytes)) (sym counts_same)
      (after_jobs_lem bytes s (end_of bytes)) in
      let from-jobs = then_gives (λ jobs next. after_jobs (sheet jobs) bytes next) job_table_gives from_end in
      let from-horizon = tested_gives bytes (speed_field s.speed_count) horizon_right 6 (after_horizon s.bound s.speeds) from-jobs in
      let from-speeds = then_gives (λ speeds next. after_speeds s.bound speeds bytes next) speed_table_gives from-horizon in
      simp then_then (simp then_then at (tested_gives bytes 0 bound_right 3 after_bound from-speeds))

-- what a read answers, by the number of its tests

-- its number is that number
answer_number : {x : Answer View} {n : ℕ} {s : View} {next : ℕ} → Gives x n s next → (read_answer x).number ≡ n
answer_number {n = zero} g = rw g.answer
answer_number {n = suc n} g = rw g.answer

-- and its sheet is what was read, where that number is 0
answer_sheet : {x : Answer View} {n : ℕ} {s : View} {next : ℕ} → Gives x n s next → n ≡ 0 → (read_answer x).sheet ≡ in_memory s
answer_sheet {n = zero} g e = rw g.answer
answer_sheet {n = suc n} g e = absurd (suc-ne-zero n e)

-- a read's number is that of the first line that fails
pub read_number : (bytes : List ℕ) → (read bytes).number ≡ first_of (read_lines bytes)
unfolding read
read_number bytes = answer_number (sheet_gives bytes)

-- a read that is not refused gives the sheet that the numbers of the bytes are, zero in every place past its counts
pub read_accepted : (bytes : List ℕ) → (read bytes).number ≡ 0 → (read bytes).sheet ≡ in_memory (sheet_in bytes)
unfolding read
read_accepted bytes e = answer_sheet (sheet_gives bytes) (sym (read_number bytes) ∙ e)

-- "A refused read gives an all-zero sheet"
pub read_zero : (bytes : List ℕ) → ((read bytes).number ≡ 0 → ⊥) → (read bytes).sheet ≡ zero_sheet
unfolding read
read_zero bytes = go (read_view N bytes 0)
  where
    go : (x : Answer View) → ((read_answer x).number ≡ 0 → ⊥) → (read_answer x).sheet ≡ zero_sheet
    go (value s next) some = absurd (some refl)
    go (refused number) some = refl
