-- Document 01, "Energy and plans": the process of a sheet, what the value and the plan's speed of a slot and queue are, and what the
-- planner and the row call answer. All of it is said in terms of ways (process/specs/Ways.antt); no induction is mentioned.
use Rattle.std.specs.Prelude.{ℕ, zero, suc, ◌+◌, ◌*◌, ◌-◌, ◌≤◌, ◌<◌, ◌≡◌, Bool, cond, ◌&&◌, List, [], ◌∷◌, T, leb, ltb, eqb, length, get_or, take, drop}
use Rattle.std.proofs.Math.Option
use Rattle.std.proofs.Math.Option.{Option, none, some}
use Rattle.process.specs.Ways.{Process, Way, later, IsValue, IsCost, IsFirst}
use Rattle.model.specs.View.{View, size_at, deadline_at, weight_at, speeds_of, on_sheet, energy_of, M}
use Rattle.model.specs.Queue.{Queue, total, empty_queue, bearable, one_slot, bearable_queues, number_of}
use Rattle.model.specs.Refusal.{sheet_lines, N, value_limit}
use Rattle.model.specs.Width.{Width, value_in}
use Rattle.model.specs.Tests.{Lines, line, ◌⨾◌, first_of, everywhere}

-- the queue after one slot at a speed and then the arrival of the entry at place i
unfoldable pub next_queue : View → Queue → ℕ → ℕ → Queue
next_queue s w speed i = one_slot w speed (size_at s i) (deadline_at s i)

-- states are queues, actions are the sheet's speeds, events are the places of its entries. "In each slot exactly one entry arrives, with
-- chance weight/W": a slot has one event, and the entry's weight is its share of W. "Two entries may be equal; both count": events are
-- places, so that equal entries are two events. A way may reach only bearable queues; "each speed is at least w(1)"; "After slot T-1
-- remaining work costs nothing"
unfoldable pub process_of : View → Process Queue
process_of s =
    record {
      actions = speeds_of s;
      alive = bearable (M s);
      allowed = λ w speed. leb (total w 1) speed;
      next = next_queue s;
      cost = λ w speed. energy_of s speed;
      last = λ w. 0;
    }

-- "A speed is admissible in a queue when it is on the sheet, is at least w(1), and every entry of the sheet leads to a bearable queue"
unfoldable pub admissible : View → Queue → ℕ → Bool
admissible s w speed =
    on_sheet s speed && leb (total w 1) speed && everywhere (λ i. bearable (M s) (next_queue s w speed i)) s.job_count

-- along the list of entries, from the queue w, each speed that the way chooses is admissible
abbrev pub AlongAdmissible : View → Queue → Way → List ℕ → Type 0
AlongAdmissible s w σ [] = Unit {0}
AlongAdmissible s w σ (i ∷ l) = T (admissible s w (σ [])) × AlongAdmissible s (next_queue s w (σ []) i) (later σ i) l

-- "The value of slot t and queue w is the least scaled energy of a good way over the last T-t slots, or none"; t is at most T
abbrev pub IsValueAt : View → ℕ → Queue → Option ℕ → Type 0
IsValueAt s t w r = IsValue (process_of s) s.job_count (weight_at s) (s.horizon - t) w r

-- a slot and queue have a value: some way from there is good
abbrev pub HasValue : View → ℕ → Queue → Type 0
HasValue s t w = (v : ℕ) × IsValueAt s t w (some v)

-- what a speed costs there: the least scaled energy of a good way that begins with it
abbrev pub IsCostAt : View → ℕ → Queue → ℕ → ℕ → Type 0
IsCostAt s t w speed v = IsCost (process_of s) s.job_count (weight_at s) (s.horizon - t) w speed v

-- "none is written .. 255 in the plan"; how it is written in the values is said in Width.antt
abbrev pub no_speed : ℕ
no_speed = 255

-- "The plan speed is the smallest first speed of a least good way": the plan byte of slot t and queue w, whose value is r
abbrev pub IsPlanByte : View → ℕ → Queue → Option ℕ → ℕ → Type 0
IsPlanByte s t w none byte = byte ≡ no_speed
IsPlanByte s t w (some v) byte = IsFirst (process_of s) s.job_count (weight_at s) (s.horizon - t) w byte

-- the same, whatever value the slot and queue have
abbrev pub IsPlanByteAt : View → ℕ → Queue → ℕ → Type 0
IsPlanByteAt s t w byte = (r : Option ℕ) × IsValueAt s t w r × IsPlanByte s t w r byte

-- the bearable queue with number i
abbrev pub queue_at : View → ℕ → Queue
queue_at s i = get_or (bearable_queues (M s) s.bound) i []

-- where values and plan bytes stand: "row t from place t times N", and in it one for each queue, in the order of their numbers
abbrev pub place_at : View → ℕ → ℕ → ℕ
place_at s t i = t * N s + i

-- the place of a slot and a bearable queue, by the queue's number
abbrev pub place_of_queue : View → ℕ → Queue → ℕ
place_of_queue s t w = place_at s t (number_of (M s) w)

-- the plan byte of a slot and the bearable queue with number i
abbrev pub byte_at : View → List ℕ → ℕ → ℕ → ℕ
byte_at s plan t i = get_or plan (place_at s t i) 0

-- the same for a bearable queue
abbrev pub byte_of_queue : View → List ℕ → ℕ → Queue → ℕ
byte_of_queue s plan t w = byte_at s plan t (number_of (M s) w)

-- how much is lent: "values, (T+1) times N places of 64 bits ..; and the plan, T times N bytes". A value takes as many places as its width
-- says: one in 01

abbrev pub values_needed : View → ℕ
values_needed s = suc s.horizon * N s

abbrev pub value_places : Width → View → ℕ
value_places width s = values_needed s * width.places

abbrev pub plan_needed : View → ℕ
plan_needed s = s.horizon * N s

-- "Planner, writer and row: 4 to 10, 11"; "11: a lent buffer shorter than needed", whose lengths are the rooms. 9 tests against the limit
-- of the values' width
unfoldable pub plan_lines : Width → View → (values_room plan_room : ℕ) → Lines
plan_lines width s values_room plan_room =
    sheet_lines width.limit s ⨾ line 11 (leb (value_places width s) values_room && leb (plan_needed s) plan_room)

abbrev pub plan_refusal : Width → View → ℕ → ℕ → ℕ
plan_refusal width s values_room plan_room = first_of (plan_lines width s values_room plan_room)

-- "12: planned, but the empty queue at slot 0 has none"
abbrev pub number12 : Option ℕ → ℕ
number12 none = 12
number12 (some v) = 0

-- what the planner answers
pub record PlanAnswer : Type 0 where
  pub number : ℕ
  pub queues : ℕ
  pub least : ℕ

-- the number and the least energy: one r, the empty queue's at slot 0, decides both
pub record FromEmpty (s : View) (a : PlanAnswer) : Type 0 where
  pub r : Option ℕ
  pub is_value : IsValueAt s 0 (empty_queue s.bound) r
  pub number : a.number ≡ number12 r
  pub least : a.least ≡ Option.get_or r 0

-- the values of a whole plan: r t i is that of slot t and the bearable queue with number i. Slots are "numbered 0 to T-1"; row T is the end
abbrev pub AreValues : View → (ℕ → ℕ → Option ℕ) → Type 0
AreValues s r = (t i : ℕ) → t ≤ s.horizon → i < N s → IsValueAt s t (queue_at s i) (r t i)

-- what is promised of the plan, where r are the values: a byte for each slot and queue; "Places beyond are untouched"
pub record PlanFilled (s : View) (r : ℕ → ℕ → Option ℕ) (plan₀ plan : List ℕ) : Type 0 where
  pub bytes : (t i : ℕ) → t < s.horizon → i < N s → IsPlanByte s t (queue_at s i) (r t i) (byte_at s plan t i)
  pub same_length : length plan ≡ length plan₀
  pub beyond : drop (plan_needed s) plan ≡ drop (plan_needed s) plan₀

-- what is promised of the values, of this width: each stands in its row, row T too; places beyond are untouched
pub record ValuesFilled (width : Width) (s : View) (r : ℕ → ℕ → Option ℕ) (values₀ values : List ℕ) : Type 0 where
  pub each : (t i : ℕ) → t ≤ s.horizon → i < N s → value_in width values (place_at s t i) ≡ r t i
  pub same_length : length values ≡ length values₀
  pub beyond : drop (value_places width s) values ≡ drop (value_places width s) values₀

-- the lent places after a plan that is not refused, and its answer: one r decides both places of a slot and queue
pub record Filled (width : Width) (s : View) (values₀ plan₀ values plan : List ℕ) (a : PlanAnswer) : Type 0 where
  pub r : ℕ → ℕ → Option ℕ
  pub are_values : AreValues s r
  pub in_plan : PlanFilled s r plan₀ plan
  pub in_values : ValuesFilled width s r values₀ values
  -- N, and the empty queue's least energy at slot 0; 12 "fills both buffers and reports N, least energy 0"
  pub queues : a.queues ≡ N s
  pub empty : FromEmpty s a

-- "A refused .. plan touches no lent place and reports zero for .. N and least energy"
pub record Untouched (number : ℕ) (values₀ plan₀ values plan : List ℕ) (a : PlanAnswer) : Type 0 where
  pub values_same : values ≡ values₀
  pub plan_same : plan ≡ plan₀
  pub answer : a ≡ record { number = number; queues = 0; least = 0 }

abbrev pub LeavesBy : ℕ → Width → View → (values₀ plan₀ values plan : List ℕ) → PlanAnswer → Type 0
LeavesBy zero width s values₀ plan₀ values plan a = Filled width s values₀ plan₀ values plan a
LeavesBy (suc number) width s values₀ plan₀ values plan a = Untouched (suc number) values₀ plan₀ values plan a

-- what the planner leaves in the lent values, of this width, and in the plan, and what it answers
abbrev pub Leaves : Width → View → (values₀ plan₀ values plan : List ℕ) → PlanAnswer → Type 0
Leaves width s values₀ plan₀ values plan a =
    LeavesBy (plan_refusal width s (length values₀) (length plan₀)) width s values₀ plan₀ values plan a

-- "A row call answers the part of the caller's plan that belongs to slot t, and an empty part on any refusal or when t is not below T"

unfoldable pub row_lines : View → ℕ → Lines
row_lines s room = sheet_lines value_limit s ⨾ line 11 (leb (plan_needed s) room)

abbrev pub row_refusal : View → ℕ → ℕ
row_refusal s room = first_of (row_lines s room)

unfoldable pub row : View → List ℕ → ℕ → List ℕ
row s plan t = cond (eqb (row_refusal s (length plan)) 0 && ltb t s.horizon) (take (N s) (drop (place_at s t 0) plan)) []
