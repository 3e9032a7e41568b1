-- What the functions that fill the rows promise each other and the calls, over any width of a value. They compute the recursion of
-- process/specs/Recursion.antt over the lent values; what the calls promise is in planner/specs/Calls.antt and mentions none of this.
use Rattle.std.specs.Prelude.{ℕ, suc, pred, ◌+◌, ◌-◌, ◌^◌, ◌≤◌, ◌<◌, ◌≡◌, List, length, get_or}
use Rattle.std.proofs.Math.Option.{Option, some}
use Rattle.process.specs.Recursion.{Choice, value, choice}
use Rattle.model.specs.View.{View, weight_at, W, M}
use Rattle.model.specs.Plan.{process_of, queue_at, place_at, byte_at, value_places, plan_needed}
use Rattle.model.specs.Queue.{Queue, queue_count}
use Rattle.model.specs.Refusal.{N, sheet_refusal}
use Rattle.model.specs.Width.{Width, value_in}
use Rattle.buffers.specs.Fills.{Fills, number_at}
use Rattle.rows.specs.Rows.{Row, after_with}
use Rattle.sheets.specs.Sizes.{Sized}
use Rattle.sheets.specs.declared.sizes.Sizes.{Sizes}
use Rattle.ahead.specs.Sums.{sum_to}
use Rattle.choose.specs.Choice.{byte_of}

-- the recursion, for a sheet

-- the value of a queue with k slots left
unfoldable pub value_with : View → ℕ → Queue → Option ℕ
value_with s k w = value (process_of s) s.job_count (weight_at s) k w

-- the least over the speeds, with k slots left after this one
unfoldable pub choice_with : View → ℕ → Queue → Choice
choice_with s k w = choice (process_of s) s.job_count (weight_at s) k (value_with s k) w

-- what is ahead of a queue after a slot, before the arrival, with k slots left: the weighted sum over the first n entries
unfoldable pub ahead_to : View → ℕ → Queue → ℕ → Option ℕ
ahead_to s k v n = sum_to s (value_with s k) v n

abbrev pub ahead_of : View → ℕ → Queue → Option ℕ
ahead_of s k v = ahead_to s k v s.job_count

-- the queues after a slot, by their numbers
abbrev pub queue_after : View → ℕ → Queue
queue_after s i = after_with (M s) s.bound i

-- the rows that the passes are made over

-- what a function gives for all queues
abbrev pub RowWith : Width → View → (Queue → Option ℕ) → ℕ → List ℕ → Type 0
RowWith width s f from l = Row width (λ i. f (queue_at s i)) from (N s) l

-- what is ahead of all queues after a slot, by a function that says what each queue is worth then
abbrev pub AheadWith : Width → View → (Queue → Option ℕ) → List ℕ → Type 0
AheadWith width s f l = Row width (λ i. sum_to s f (queue_after s i) s.job_count) 0 (queue_count (M s) (pred s.bound)) l

-- the values of all queues with k slots left
abbrev pub ValueRow : Width → View → ℕ → ℕ → List ℕ → Type 0
ValueRow width s k from l = RowWith width s (value_with s k) from l

-- what is ahead of all queues after a slot, with k slots left then
abbrev pub AheadRow : Width → View → ℕ → List ℕ → Type 0
AheadRow width s k l = Row width (λ i. ahead_of s k (queue_after s i)) 0 (queue_count (M s) (pred s.bound)) l

-- a slot as the code describes it, by the slots left after it and its scale: it is one of the sheet's, and the scale is W to the power of
-- the slots left, this one counted
pub record InPlan (s : View) (left : ℕ) (scale : Option ℕ) : Type 0 where
  pub left_low : left < s.horizon
  pub scale_is : scale ≡ some (W s ^ suc left)

-- what every pass is given: a sheet that is accepted by the limit of the width, and its sizes
pub record Prepared (width : Width) (s : View) (sizes : Sizes) : Type 0 where
  pub accepted : sheet_refusal width.limit s ≡ 0
  pub sized : Sized s sizes

-- .. and one of its slots
pub record Ready (width : Width) (s : View) (sizes : Sizes) (left : ℕ) (scale : Option ℕ) : Type 0 where
  pub prepared : Prepared width s sizes
  pub in_plan : InPlan s left scale

-- the slots of a sheet, from the last one back

-- so many are passed, and the scale is W to the power of as many
pub record Passed (s : View) (weight_sum left : ℕ) (scale : Option ℕ) : Type 0 where
  pub left_upto : left ≤ s.horizon
  pub weights_are : weight_sum ≡ W s
  pub scale_is : scale ≡ some (W s ^ left)

-- the slot that has k left after it, counted from 0
abbrev pub slot_before : View → ℕ → ℕ
slot_before s k = s.horizon - suc k

-- the next one is the slot that has k left after it: where its rows of values and of plan bytes begin, and the next slot's row of values
pub record SlotRows (s : View) (k left this next row : ℕ) : Type 0 where
  pub left_low : k < s.horizon
  pub left_is : left ≡ k
  pub this_is : this ≡ place_at s (slot_before s k) 0
  pub next_is : next ≡ place_at s (suc (slot_before s k)) 0
  pub row_is : row ≡ place_at s (slot_before s k) 0

-- the end row: with no slot left every queue has the value 0
abbrev pub EndRow : Width → View → (values₀ values : List ℕ) → Type 0
EndRow width s values₀ values = Fills width.places (value_in width) (λ i. some 0) (place_at s s.horizon 0) (N s) values₀ values

-- what a slot with so many left after it leaves: every queue, in the row of the values that begins at place `this` and in the row of the
-- plan that begins at place `row`
pub record Planned (width : Width) (s : View) (left this row : ℕ) (values₀ plan₀ values plan : List ℕ) : Type 0 where
  pub values_filled : Fills width.places (value_in width) (λ i. value_with s (suc left) (queue_at s i)) this (N s) values₀ values
  pub plan_filled : Fills 1 number_at (λ i. byte_of (choice_with s left (queue_at s i))) row (N s) plan₀ plan

-- how far the lent values are filled, from the end row back: in the rows of the last k slots, and in the end row, stands what f gives for
-- the slots left and each queue. What lies behind the rows is as it was lent
pub record FilledFrom (width : Width) (s : View) (f : ℕ → Queue → Option ℕ) (k : ℕ) (values₀ values : List ℕ) : Type 0 where
  pub same_length : length values ≡ length values₀
  pub right : (t i : ℕ) → s.horizon ≤ t + k → t ≤ s.horizon → i < N s →
      value_in width values (place_at s t i) ≡ f (s.horizon - t) (queue_at s i)
  pub beyond : (p : ℕ) → value_places width s ≤ p → get_or values p 0 ≡ get_or values₀ p 0

-- how far the lent memory is planned: the last k slots and the end row. What lies behind both tables is as it was lent
pub record PlannedFrom (width : Width) (s : View) (k : ℕ) (values₀ plan₀ values plan : List ℕ) : Type 0 where
  pub values_length : length values ≡ length values₀
  pub plan_length : length plan ≡ length plan₀
  pub values_right : (t i : ℕ) → s.horizon ≤ t + k → t ≤ s.horizon → i < N s →
      value_in width values (place_at s t i) ≡ value_with s (s.horizon - t) (queue_at s i)
  pub plan_right : (t i : ℕ) → s.horizon ≤ t + k → t < s.horizon → i < N s →
      byte_at s plan t i ≡ byte_of (choice_with s (pred (s.horizon - t)) (queue_at s i))
  pub values_beyond : (p : ℕ) → value_places width s ≤ p → get_or values p 0 ≡ get_or values₀ p 0
  pub plan_beyond : (p : ℕ) → plan_needed s ≤ p → get_or plan p 0 ≡ get_or plan₀ p 0
