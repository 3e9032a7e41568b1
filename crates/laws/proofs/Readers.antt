-- Laws of readers (the model's Reading.antt): one read after another, the tests between them, that no refusal's number is 0, and that the
-- entries that are read are those whose fields stand in the bytes and are right.
use Prim.Native.Nat.{ℕ, zero, suc, pred, ◌+◌, ◌*◌, ◌-◌, ◌<◌, suc-le-suc}
use mathlib.Core.Path.{◌≡◌, refl, sym, ap, ◌∙◌, subst₂}
use mathlib.Core.Bool.{Bool, true, false, cond}
use mathlib.Core.List.{List, [], ◌∷◌, ◌++◌, append_assoc, append-nil}
use mathlib.Core.Logic.{◌↔◌}
use native.Mathlib.Nat.{zero-lt-suc, not-suc-le-zero, le_of_suc-le-suc, suc-ne-zero, add-zero, zero-add}
use native.Mathlib.Omega.{arith}
use lib.Dec.{leb, ltb, eqb}
use lib.ListN.{length, get_or}
use Rattle.model.specs.View.{View, view_with, zero_speed, zero_job}
use Rattle.model.specs.Reading.{Answer, value, refused, Reader, onward, ◌>>=◌, ◌>>◌, done, test, refuse, joined, number_in, field, read_speed, read_speeds, read_speed_table, read_job, read_jobs, read_job_table, ended, judged, read_view}
use Rattle.model.specs.Refusal.{bound_right, speed_count_right, speed_right, energy_right, horizon_right, job_count_right, weight_right, size_right, deadline_right, refusal_of_speed, speeds_lines, refusal_of_job, jobs_lines, fields_refusal, field_lines, limits_refusal, value_limit}
use Rattle.model.specs.Tests.{check, ◌then◌, in_order, in_turn}
use Rattle.model.specs.declared.Job.{Job}
use Rattle.model.specs.declared.Speed.{Speed}
use Rattle.model.proofs.Refusal.{passed}
use Rattle.model.proofs.Tests.{same_test, then_both, in_order_at, in_order_all}

-- a refusal is no value
pub refused_no_value : {A : Type 0} {k : ℕ} {a : A} {next : ℕ} → refused k ≡ value a next → ⊥
refused_no_value e = let z : ◌≡◌ {A = ℕ} 0 1 = cc in omega arith

-- two values are the same: so are what they give and their next places
pub value_same : {A : Type 0} {a b : A} {m n : ℕ} → value a m ≡ value b n → (a ≡ b) × (m ≡ n)
value_same e = (cc, cc)

-- what holds of a value and its next place holds of those that are the same
value_holds : {A : Type 0} (P : A → ℕ → Type 0) {a b : A} {m n : ℕ} → value a m ≡ value b n → P a m → P b n
value_holds P e p = let d = value_same e in subst₂ P d.0 d.1 p

-- one read and then another

-- a read that gave a value goes on with it
pub bind_value : {A B : Type 0} (r : Reader A) (more : A → Reader B) (bytes : List ℕ) (at : ℕ) {a : A} {next : ℕ} →
    r bytes at ≡ value a next → ◌>>=◌ r more bytes at ≡ more a bytes next
bind_value r more bytes at e = rw e

-- a read that was refused is the answer
pub bind_refused : {A B : Type 0} (r : Reader A) (more : A → Reader B) (bytes : List ℕ) (at : ℕ) {k : ℕ} →
    r bytes at ≡ refused k → ◌>>=◌ r more bytes at ≡ refused k
bind_refused r more bytes at e = rw e

-- where an answer and what comes after it gave a value, so did the answer, and what comes after it gave the value from there
pub onward_gave : {A B : Type 0} (x : Answer A) (more : A → ℕ → Answer B) {b : B} {next : ℕ} → onward x more ≡ value b next →
    (a : A) × (mid : ℕ) × (x ≡ value a mid) × (more a mid ≡ value b next)
onward_gave (value a mid) more e = (a, mid, refl, e)
onward_gave (refused k) more e = absurd (refused_no_value e)

-- tests

-- where a test and what comes after it gave a value, the test holds and what comes after it gave the value
pub test_gave : {A : Type 0} (b : Bool) (number : ℕ) (bytes : List ℕ) (at : ℕ) (more : ℕ → Answer A) {a : A} {next : ℕ} →
    onward (test b number bytes at) (λ u n. more n) ≡ value a next → (b ≡ true) × (more at ≡ value a next)
test_gave true number bytes at more e = (refl, e)
test_gave false number bytes at more e = absurd (refused_no_value e)

-- where a test by its number and what comes after it gave a value, the number is 0 and what comes after it gave the value
pub refuse_gave : {A : Type 0} (number : ℕ) (bytes : List ℕ) (at : ℕ) (more : ℕ → Answer A) {a : A} {next : ℕ} →
    onward (refuse number bytes at) (λ u n. more n) ≡ value a next → (number ≡ 0) × (more at ≡ value a next)
refuse_gave zero bytes at more e = (refl, e)
refuse_gave (suc number) bytes at more e = absurd (refused_no_value e)

-- where the number of a test and then others is 0, the test holds and the others' number is 0
pub holds_then : (b : Bool) (number later : ℕ) → check b (suc number) then later ≡ 0 → (b ≡ true) × (later ≡ 0)
holds_then b number later e = let (t, r) = passed b number later e in (same_test b true (λ u. tt) (λ u. t), r)

-- the number of a refusal is not 0

-- an answer is a value, or a refusal whose number is not 0
abbrev pub Positive : {A : Type 0} → Answer A → Type 0
Positive (value a next) = Unit {0}
Positive (refused number) = 0 < number

-- a reader has such answers only
abbrev pub NeverZero : {A : Type 0} → Reader A → Type 0
NeverZero r = (bytes : List ℕ) (at : ℕ) → Positive (r bytes at)

-- a choice between two such answers is one
cond_positive : {A : Type 0} (b : Bool) (x y : Answer A) → Positive x → Positive y → Positive (cond b x y)
cond_positive true x y p q = p
cond_positive false x y p q = q

-- a group joined to such an answer is one
joined_positive : (low : ℕ) (x : Answer ℕ) → Positive x → Positive (joined low x)
joined_positive low (value high next) p = cond_positive (eqb high 0) (refused 2) (value (low + 128 * high) next) (zero-lt-suc 1) tt
joined_positive low (refused k) p = p

-- reading a number never refuses with 0
pub number_positive : (n : ℕ) → NeverZero (number_in n)
unfolding number_in
number_positive zero bytes at = zero-lt-suc 1
number_positive (suc n) bytes at =
    cond_positive (leb (length bytes) at) (refused 1) _ (zero-lt-suc 0)
    (cond_positive (ltb (get_or bytes at 0) 128) (value (get_or bytes at 0) (suc at)) _ tt
    (joined_positive (get_or bytes at 0 - 128) (number_in n bytes (suc at)) (number_positive n bytes (suc at))))

-- one read and then another, both with such answers only, have such answers only
bind_positive : {A B : Type 0} (r : Reader A) (more : A → Reader B) → NeverZero r → ((a : A) → NeverZero (more a)) → NeverZero (◌>>=◌ r more)
bind_positive r more p q bytes at = go (r bytes at) (p bytes at)
  where
    go : (x : Answer _) → Positive x → Positive (onward x (λ a next. more a bytes next))
    go (value a next) h = q a bytes next
    go (refused k) h = h

-- a field that is tested before the rest is read
abbrev pub tested : {B : Type 0} → (ℕ → Bool) → ℕ → (ℕ → Reader B) → Reader B
tested right number more = do
  x ← field
  test (right x) number
  more x

-- a field that is tested with a number that is not 0 never refuses with 0, before a rest that never does
tested_positive : {B : Type 0} (right : ℕ → Bool) (number : ℕ) (more : ℕ → Reader B) → ((x : ℕ) → NeverZero (more x)) →
    NeverZero (tested right (suc number) more)
tested_positive right number more p = bind_positive field _ (number_positive 3) (λ x bytes at. go x bytes at (right x))
  where
    go : (x : ℕ) (bytes : List ℕ) (at : ℕ) (b : Bool) → Positive (◌>>◌ (test b (suc number)) (more x) bytes at)
    go x bytes at true = p x bytes at
    go x bytes at false = zero-lt-suc number

-- one entry and then the others
abbrev pub headed : {A : Type 0} → Reader A → (A → Reader (List A)) → Reader (List A)
headed r more = do
  one ← r
  rest ← more one
  done (one ∷ rest)

-- an entry and then the others never refuse with 0, where neither does
headed_positive : {A : Type 0} (r : Reader A) (more : A → Reader (List A)) → NeverZero r → ((a : A) → NeverZero (more a)) →
    NeverZero (headed r more)
headed_positive r more p q = bind_positive r _ p (λ one. bind_positive (more one) _ (q one) (λ rest bytes at. tt))

-- reading a speed never refuses with 0
pub read_speed_positive : (j before : ℕ) → NeverZero (read_speed j before)
unfolding read_speed
read_speed_positive j before =
    tested_positive (speed_right j before) 4 _ (λ speed. tested_positive energy_right 5 _ (λ energy bytes at. tt))

-- reading speeds never refuses with 0
pub read_speeds_positive : (left j before : ℕ) → NeverZero (read_speeds left j before)
unfolding read_speeds
read_speeds_positive zero j before = λ bytes at. tt
read_speeds_positive (suc left) j before =
    headed_positive (read_speed j before) (λ one. read_speeds left (suc j) one.speed) (read_speed_positive j before)
    (λ one. read_speeds_positive left (suc j) one.speed)

-- reading the speeds with their count never refuses with 0
pub speed_table_positive : NeverZero read_speed_table
unfolding read_speed_table
speed_table_positive = tested_positive speed_count_right 4 _ (λ n. read_speeds_positive n 0 0)

-- reading a job never refuses with 0
pub read_job_positive : (D : ℕ) → NeverZero (read_job D)
unfolding read_job
read_job_positive D =
    tested_positive weight_right 7 _
    (λ weight. tested_positive size_right 7 _ (λ size. tested_positive (deadline_right D) 7 _ (λ deadline bytes at. tt)))

-- reading jobs never refuses with 0
pub read_jobs_positive : (D left : ℕ) → NeverZero (read_jobs D left)
unfolding read_jobs
read_jobs_positive D zero = λ bytes at. tt
read_jobs_positive D (suc left) =
    headed_positive (read_job D) (λ one. read_jobs D left) (read_job_positive D) (λ one. read_jobs_positive D left)

-- reading the jobs with their count never refuses with 0
pub job_table_positive : (D : ℕ) → NeverZero (read_job_table D)
unfolding read_job_table
job_table_positive D = tested_positive job_count_right 7 _ (λ n. read_jobs_positive D n)

-- a test with a number that is not 0 never refuses with 0, nor does one by its number
test_positive : (b : Bool) (number : ℕ) → NeverZero (test b (suc number))
test_positive true number bytes at = tt
test_positive false number bytes at = zero-lt-suc number

refuse_positive : (number : ℕ) → NeverZero (refuse number)
refuse_positive zero bytes at = tt
refuse_positive (suc number) bytes at = zero-lt-suc number

-- 9 and 10 never refuse with 0
judged_positive : (queues : View → ℕ) (s : View) → NeverZero (judged queues s)
unfolding judged
judged_positive queues s =
    let number = limits_refusal value_limit (queues s) s in
    bind_positive (refuse number) (λ u. done s) (refuse_positive number) (λ u bytes at. tt)

-- reading a sheet never refuses with 0
pub read_positive : (queues : View → ℕ) → NeverZero (read_view queues)
unfolding read_view
read_positive queues =
    tested_positive bound_right 3 _
    (λ D. bind_positive read_speed_table _ speed_table_positive
    (λ speeds. tested_positive horizon_right 6 _
    (λ T. bind_positive (read_job_table D) _ (job_table_positive D)
    (λ jobs. bind_positive ended _ (λ bytes at. test_positive (leb (length bytes) at) 2 bytes at)
    (λ u. judged_positive queues _)))))

-- what was read, as its fields

-- where a field, its test and what comes after them gave a value, so did the field, it is right, and what comes after gave the value
pub tested_gave : {B : Type 0} (right : ℕ → Bool) (number : ℕ) (bytes : List ℕ) (at : ℕ) (more : ℕ → ℕ → Answer B) {b : B} {next : ℕ} →
    onward (field bytes at) (λ x mid. onward (test (right x) number bytes mid) (λ u n. more x n)) ≡ value b next →
    (x : ℕ) × (mid : ℕ) × (field bytes at ≡ value x mid) × (right x ≡ true) × (more x mid ≡ value b next)
tested_gave right number bytes at more e =
    let (x, mid, f, g) = onward_gave (field bytes at) _ e in
    let (t, r) = test_gave (right x) number bytes mid (more x) g in
    (x, mid, f, t, r)

-- these numbers are the fields from a place on, one after another, up to the place `next`
abbrev pub Stand : List ℕ → ℕ → List ℕ → ℕ → Type 0
Stand bytes at [] next = at ≡ next
Stand bytes at (x ∷ l) next = (mid : ℕ) × (field bytes at ≡ value x mid) × Stand bytes mid l next

-- numbers that stand one after another stand together
pub stand_join : (bytes l m : List ℕ) (at mid next : ℕ) → Stand bytes at l mid → Stand bytes mid m next → Stand bytes at (l ++ m) next
stand_join bytes [] m at mid next s t = rw s t
stand_join bytes (x ∷ l) m at mid next s t = (s.0, s.1, stand_join bytes l m s.0 mid next s.2 t)

-- numbers that stand together stand one after another
pub stand_split : (bytes l m : List ℕ) (at next : ℕ) → Stand bytes at (l ++ m) next →
    (mid : ℕ) × Stand bytes at l mid × Stand bytes mid m next
stand_split bytes [] m at next s = (at, refl, s)
stand_split bytes (x ∷ l) m at next s =
    let (mid, a, b) = stand_split bytes l m s.0 next s.2 in
    (mid, (s.0, s.1, a), b)

-- the first of the lists that stand in turn
in_turn_front {ℓ} : {A : Type ℓ} (f : ℕ → List A) (n : ℕ) → in_turn f (suc n) ≡ f 0 ++ in_turn (λ i. f (suc i)) n
unfolding in_turn
in_turn_front f zero = sym (append-nil (f 0))
in_turn_front f (suc n) = ap (λ l. l ++ f (suc n)) (in_turn_front f n) ∙ append_assoc (f 0) _ _

-- the next place, counted from j or from the place after it
pub shift : (j i : ℕ) → j + suc i ≡ suc j + i
shift j i = omega arith

-- a table's fields: its count, and then those of its entries
abbrev pub table_fields : {A : Type 0} → A → (A → List ℕ) → ℕ → List A → List ℕ
table_fields zeros fields n l = n ∷ in_turn (λ i. fields (get_or l i zeros)) n

-- what `one`, the reader of an entry, and `all`, the reader of n entries, are
pub record Entries {A : Type 0} (zeros : A) (fields : A → List ℕ) (number : ℕ → A → A → ℕ) (one : ℕ → A → Reader A)
    (all : ℕ → ℕ → A → Reader (List A)) : Type 0 where
  -- the entry v is read at place j, after the entry w, exactly where its fields stand and its number is 0
  means : (j : ℕ) (w : A) (bytes : List ℕ) (at : ℕ) (v : A) (next : ℕ) →
      (one j w bytes at ≡ value v next) ↔ (Stand bytes at (fields v) next × (number j w v ≡ 0))
  -- no entry, and one entry before the others
  none : (j : ℕ) (w : A) → all zero j w ≡ done []
  some : (n j : ℕ) (w : A) → all (suc n) j w ≡ headed (one j w) (all n (suc j))
  -- at the start the entry before does not matter
  start : (u w v : A) → number 0 u v ≡ number 0 w v

module _ {A : Type 0} {zeros : A} {fields : A → List ℕ} {number : ℕ → A → A → ℕ} {one : ℕ → A → Reader A}
    {all : ℕ → ℕ → A → Reader (List A)} (table : Entries zeros fields number one all) where
  -- n entries from place j on, after the entry w: they are n, their fields stand in the bytes, and the number of each is 0
  abbrev EntriesStand : ℕ → ℕ → A → List ℕ → ℕ → List A → ℕ → Type 0
  EntriesStand n j w bytes at l next =
      (length l ≡ n) × Stand bytes at (in_turn (λ i. fields (get_or l i zeros)) n) next ×
      ((i : ℕ) → i < n → number (j + i) (get_or (w ∷ l) i zeros) (get_or l i zeros) ≡ 0)

  -- entries that were read stand there
  entries_gave : (n j : ℕ) (w : A) (bytes : List ℕ) (at : ℕ) (l : List A) (next : ℕ) → all n j w bytes at ≡ value l next →
      EntriesStand n j w bytes at l next
  unfolding in_turn
  entries_gave zero j w bytes at l next e =
      let (p, q) = value_same (rw (table.none j w) at e) in
      (ap length (sym p), q, λ i h. absurd (not-suc-le-zero h))
  entries_gave (suc n) j w bytes at l next e =
      let (v, mid, f, g) = onward_gave (one j w bytes at) _ (rw (table.some n j w) at e) in
      let (rest, end, h, k) = onward_gave (all n (suc j) v bytes mid) _ g in
      let (s, t) = (table.means j w bytes at v mid).0 f in
      let (c, ss, ts) = entries_gave n (suc j) v bytes mid rest end h in
      value_holds (EntriesStand (suc n) j w bytes at) k (
        ap suc c,
        rw (in_turn_front (λ i. fields (get_or (v ∷ rest) i zeros)) n) (stand_join bytes (fields v) _ at mid end s ss),
        elim [ zero ↦ (λ h. rw add-zero t) | suc i ↦ (λ h. rw (shift j i) (ts i (le_of_suc-le-suc h))) ],
      )

  -- entries that stand there are read
  entries_value : (n j : ℕ) (w : A) (bytes : List ℕ) (at : ℕ) (l : List A) (next : ℕ) → EntriesStand n j w bytes at l next →
      all n j w bytes at ≡ value l next
  unfolding in_turn
  entries_value zero j w bytes at [] next r = rw (table.none j w, r.1)
  entries_value zero j w bytes at (v ∷ l) next r = absurd (suc-ne-zero (length l) r.0)
  entries_value (suc n) j w bytes at [] next r = absurd (suc-ne-zero n (sym r.0))
  entries_value (suc n) j w bytes at (v ∷ l) next r =
      let front = rw (in_turn_front (λ i. fields (get_or (v ∷ l) i zeros)) n) at r.1 in
      let (mid, s, ss) = stand_split bytes (fields v) _ at next front in
      rw (
        table.some n j w,
        (table.means j w bytes at v mid).1 (s, rw add-zero at (r.2 0 (zero-lt-suc n))),
        entries_value n (suc j) v bytes mid l next (omega arith, ss, λ i h. rw (shift j i) at (r.2 (suc i) (suc-le-suc h))),
      )

  -- the number of each entry of a table, by the one before it in the table
  from_start : (l : List A) (i : ℕ) →
      number (0 + i) (get_or (zeros ∷ l) i zeros) (get_or l i zeros) ≡ number i (get_or l (pred i) zeros) (get_or l i zeros)
  from_start l zero = table.start _ _ _
  from_start l (suc i) = rw zero-add

  -- a table that was read stands there, its count is right, and the number of its entries is 0
  pub table_gave : (right : ℕ → Bool) (k : ℕ) (bytes : List ℕ) (at : ℕ) (l : List A) (next : ℕ) →
      tested right k (λ n. all n 0 zeros) bytes at ≡ value l next →
      Stand bytes at (table_fields zeros fields (length l) l) next × (right (length l) ≡ true) ×
      (in_order (λ i. number i (get_or l (pred i) zeros) (get_or l i zeros)) (length l) ≡ 0)
  table_gave right k bytes at l next e =
      let (n, mid, f, t, g) = tested_gave right k bytes at (λ n mid. all n 0 zeros bytes mid) e in
      let (c, s, each) = entries_gave n 0 zeros bytes mid l next g in
      rw c ((mid, f, s), t, in_order_all _ n (λ i h. rw (from_start l i) at (each i h)))

  -- such a table is read
  pub table_value : (right : ℕ → Bool) (k : ℕ) (bytes : List ℕ) (at n : ℕ) (l : List A) (next : ℕ) → length l ≡ n →
      Stand bytes at (table_fields zeros fields n l) next → right n ≡ true →
      in_order (λ i. number i (get_or l (pred i) zeros) (get_or l i zeros)) n ≡ 0 → tested right k (λ n. all n 0 zeros) bytes at ≡ value l next
  table_value right k bytes at n l next c s t e =
      rw (s.1, t) (entries_value n 0 zeros bytes s.0 l next (c, s.2, λ i h. rw (from_start l i) (in_order_at _ n e i h)))

-- a speed's fields
abbrev pub speed_fields : Speed → List ℕ
speed_fields v = v.speed ∷ v.energy ∷ []

-- the number of a speed and its energy, at place j after the speed w
abbrev pub speed_number : ℕ → Speed → Speed → ℕ
speed_number j w v = refusal_of_speed j w.speed v.speed v.energy

-- the readers of a speed and of the speeds
pub speed_entries : Entries zero_speed speed_fields speed_number (λ j w. read_speed j w.speed) (λ n j w. read_speeds n j w.speed)
unfolding read_speed read_speeds
speed_entries = record {
  means = λ j w bytes at v next. (
    λ e.
        let (x, m, f, t, g) = tested_gave (speed_right j w.speed) 5 bytes at _ e in
        let (y, n, h, u, k) = tested_gave energy_right 6 bytes m _ g in
        value_holds (λ v next. Stand bytes at (speed_fields v) next × (speed_number j w v ≡ 0)) k ((m, f, (n, h, refl)), rw (t, u)),
    λ r.
        let (m, f, (n, g, e)) = r.0 in
        let (t, k) = holds_then (speed_right j w.speed v.speed) 4 _ r.1 in
        let (u, _) = holds_then (energy_right v.energy) 5 0 (then_both _ 0 k refl) in
        rw (f, t, g, u, e),
  );
  none = λ j w. refl;
  some = λ n j w. refl;
  start = λ u w v. refl;
}

-- a job's fields
abbrev pub job_fields : Job → List ℕ
job_fields v = v.weight ∷ v.size ∷ v.deadline ∷ []

-- the number of a job of a sheet with deadline bound D, at any place after any job
abbrev pub job_number : ℕ → ℕ → Job → Job → ℕ
job_number D j w v = refusal_of_job D v.weight v.size v.deadline

-- the readers of a job and of the jobs
pub job_entries : (D : ℕ) → Entries zero_job job_fields (job_number D) (λ j w. read_job D) (λ n j w. read_jobs D n)
unfolding read_job read_jobs
job_entries D = record {
  means = λ j w bytes at v next. (
    λ e.
        let (x, m, f, t, g) = tested_gave weight_right 8 bytes at _ e in
        let (y, n, h, u, k) = tested_gave size_right 8 bytes m _ g in
        let (z, o, a, b, c) = tested_gave (deadline_right D) 8 bytes n _ k in
        value_holds (λ v next. Stand bytes at (job_fields v) next × (job_number D j w v ≡ 0)) c
        ((m, f, (n, h, (o, a, refl))), rw (t, u, b)),
    λ r.
        let (m, f, (n, g, (o, h, e))) = r.0 in
        let (t, k) = holds_then (weight_right v.weight) 7 _ r.1 in
        let (u, l) = holds_then (size_right v.size) 7 _ k in
        let (b, _) = holds_then (deadline_right D v.deadline) 7 0 (then_both _ 0 l refl) in
        rw (f, t, g, u, h, b, e),
  );
  none = λ j w. refl;
  some = λ n j w. refl;
  start = λ u w v. refl;
}

-- the sheet that was read keeps every range
pub fields_read : (bytes : List ℕ) (D horizon : ℕ) (speeds : List Speed) (jobs : List Job) (a b c d : ℕ) →
    bound_right D ≡ true → read_speed_table bytes a ≡ value speeds b → horizon_right horizon ≡ true → read_job_table D bytes c ≡ value jobs d →
    fields_refusal (view_with D speeds horizon jobs) ≡ 0
unfolding field_lines speeds_lines jobs_lines read_speed_table read_job_table
fields_read bytes D horizon speeds jobs a b c d e f g h =
    let (s, m, each) = table_gave speed_entries speed_count_right 5 bytes a speeds b f in
    let (t, n, all) = table_gave (job_entries D) job_count_right 8 bytes c jobs d h in
    rw (e, m, each, g, n) all
