-- The rows of a plan, the end row first and then slot by slot from the last one back: where each row stands in the lent memory, what a slot
-- finds there, and that the rows behind it stay as they are while it fills its own. The proofs of src/slots.rt stand on these laws, which
-- hold at any width of a value.
use Prim.Native.Nat.{ℕ, suc, pred, ◌+◌, ◌*◌, ◌-◌, ◌^◌, ◌≤◌, ◌<◌}
use mathlib.Core.Path.{◌≡◌, refl, sym, ap, ◌∙◌, subst}
use mathlib.Core.List.{List}
use mathlib.Core.Logic.{inr, ⊎_elim}
use mathlib.Core.Option.{Option, some}
use native.Mathlib.Nat.{mul-le-mul_right, suc-mul, sub_self, eq-or-lt_of_le, pow-succ'}
use native.Mathlib.Omega.{arith}
use lib.ListN.{length}
use Rattle.process.specs.Recursion.{plus, times}
use Rattle.model.specs.View.{View, W, M}
use Rattle.model.specs.Plan.{queue_at, place_at, values_needed, value_places, plan_needed, ValuesFilled}
use Rattle.model.specs.Queue.{Queue}
use Rattle.model.specs.Refusal.{N}
use Rattle.model.proofs.Leaves.{drop_same}
use Rattle.model.proofs.Queues.{listed_bearable}
use Rattle.model.proofs.Refusal.{Accepted, N_is}
use Rattle.buffers.specs.Fills.{Fills, number_at}
use Rattle.model.specs.Width.{Width, value_in}
use Rattle.value.specs.Values.{Fits}
use Rattle.buffers.proofs.Filling.{Local, fewer_fit, value_local, number_local, fills_outside, fills_whole}
use Rattle.rows.specs.Rows.{Row}
use Rattle.sheets.specs.Sizes.{Sized}
use Rattle.sheets.specs.declared.sizes.Sizes.{Sizes}
use Rattle.layout.specs.Places.{place_in}
use Rattle.layout.proofs.Within.{place_is}
use Rattle.choose.specs.Choice.{byte_of}
use Rattle.backward.specs.Passes.{value_with, choice_with, RowWith, InPlan, SlotRows, slot_before, EndRow, Planned, FilledFrom, PlannedFrom}
use Rattle.backward.proofs.Fits.{scale_fits}
use Rattle.backward.proofs.FirstPass.{value_last}

-- the scale, W to the power of the slots left

-- one slot more is one factor W more
pub scale_next : (w k : ℕ) {all : ℕ} {first scale : Option ℕ} → all ≡ w → first ≡ some 0 → scale ≡ some (w ^ k) →
    plus first (times all scale) ≡ some (w ^ suc k)
scale_next w k {all = all} {scale = scale} same e d =
    ap (λ (p : Option ℕ). plus p (times all scale)) e ∙ ap (λ (p : Option ℕ). plus (some 0) (times all p)) d ∙
    ap (λ (n : ℕ). some n) (omega (arith, ap (λ (n : ℕ). n * w ^ k) same, pow-succ' w k))

-- and it fits while a slot is left
pub scale_room : (width : Width) (s : View) → Accepted width.limit s → (k : ℕ) {all : ℕ} {first scale : Option ℕ} →
    k < s.horizon → all ≡ W s → first ≡ some 0 → scale ≡ some (W s ^ k) → Fits width (plus first (times all scale))
scale_room width s a k h same e d =
    subst (Fits width) (sym (scale_next (W s) k same e d)) (scale_fits s a k h)

-- where the rows stand: row t from place t times N

-- a row begins where an earlier one has ended, or behind that
row_behind : (n t u : ℕ) → t < u → t * n + n ≤ u * n
row_behind n t u h = omega (arith, mul-le-mul_right n h, suc-mul t n)

-- a row that is filled, of values or of plan bytes: in it stand the things of its slot, and in the rows behind it what stood there
row_filled : {A : Type 0} (places : ℕ) (reader : List ℕ → ℕ → A) → Local places reader → (s : View) (t : ℕ) {from : ℕ} → from ≡ place_at s t 0 →
    {f : ℕ → A} {before after : List ℕ} → Fills places reader f from (N s) before after → (g : ℕ → ℕ → A) → (u i : ℕ) → t ≤ u → i < N s →
    f i ≡ g t i → (t < u → reader before (place_at s u i) ≡ g u i) → reader after (place_at s u i) ≡ g u i
row_filled places reader local s t {from} place {before = before} {after = after} filled g u i h inside same behind =
    ⊎_elim here (λ l. fills_outside places reader local filled (place_at s u i) (inr (omega (arith, row_behind (N s) t u l))) ∙ behind l)
    (eq-or-lt_of_le h)
  where
    here : t ≡ u → reader after (place_at s u i) ≡ g u i
    here e =
        let at : from + i ≡ place_at s t i = omega arith in
        subst (λ (x : ℕ). reader after (place_at s x i) ≡ g x i) e
        (subst (λ (p : ℕ). reader after p ≡ g t i) at (filled.filled i inside ∙ same))

-- so it is with the slot that the code makes
pub slot_rows : (s : View) (k : ℕ) {sizes : Sizes} → Sized s sizes → {left this next row : ℕ} → k < s.horizon → left ≡ k →
    this ≡ place_in sizes.queues (s.horizon - suc k) 0 → next ≡ place_in sizes.queues (s.horizon - k) 0 →
    row ≡ place_in sizes.queues (s.horizon - suc k) 0 → SlotRows s k left this next row
slot_rows s k sized low left_is this_is next_is row_is =
    let later : s.horizon - k ≡ suc (slot_before s k) = omega arith in
    record {
      left_low = low;
      left_is = left_is;
      this_is = this_is ∙ place_is s sized (slot_before s k) 0;
      next_is = next_is ∙ place_is s sized (s.horizon - k) 0 ∙ ap (λ (t : ℕ). place_at s t 0) later;
      row_is = row_is ∙ place_is s sized (slot_before s k) 0;
    }

module _ (s : View) (k : ℕ) {left this next row : ℕ} (at : SlotRows s k left this next row) where
  -- it is one of the sheet's, and has its scale
  pub slot_in_plan : {scale : Option ℕ} → scale ≡ some (W s ^ suc k) → InPlan s left scale
  slot_in_plan e =
      record {
        left_low = omega (arith, at.left_low, at.left_is);
        scale_is = e ∙ ap (λ (l : ℕ). some (W s ^ suc l)) (sym at.left_is);
      }

  -- its rows end where the end row begins, or before
  row_ends : slot_before s k * N s + N s ≤ s.horizon * N s
  row_ends = row_behind (N s) (slot_before s k) s.horizon (omega (arith, at.left_low))

  pub plan_within : row + N s ≤ plan_needed s
  plan_within = omega (arith, at.row_is, row_ends)

  -- so that its row of values, and the next one, are within what is needed

  this_within : this + N s ≤ values_needed s
  this_within = omega (arith, at.this_is, row_ends, suc-mul s.horizon (N s))

  next_within : next + N s ≤ values_needed s
  next_within = omega (arith, at.next_is, row_ends, suc-mul s.horizon (N s), suc-mul (slot_before s k) (N s))

-- one slot, where the rows behind it are filled, whatever function fills them
module _ (width : Width) (s : View) (f : ℕ → Queue → Option ℕ) (k : ℕ) {left this next row : ℕ} (at : SlotRows s k left this next row)
    {values₀ values : List ℕ} (past : FilledFrom width s f k values₀ values) where
  -- its row of values is within the lent memory
  pub values_room : value_places width s ≤ length values₀ → (this + N s) * width.places ≤ length values
  values_room room = fewer_fit width (this_within s k at) (omega (arith, past.same_length))

  -- the row of the next slot is there
  pub next_there : value_places width s ≤ length values₀ → RowWith width s (f left) next values
  next_there room =
      record {
        room = fewer_fit width (next_within s k at) (omega (arith, past.same_length));
        right = λ i h.
            let t = suc (slot_before s k) in
            let fewer : s.horizon - t ≡ left = omega (arith, at.left_low, at.left_is) in
            let place : place_at s t i ≡ next + i = omega (arith, at.next_is) in
            subst (λ (p : ℕ). value_in width values p ≡ f left (queue_at s i)) place
            (past.right t i (omega (arith, at.left_low)) (omega (arith, at.left_low)) h ∙ ap (λ (l : ℕ). f l (queue_at s i)) fewer);
      }

  -- where the slot has filled its row, one slot more is filled: the rows behind its own are as they were
  pub filled_more : {values' : List ℕ} →
      Fills width.places (value_in width) (λ i. f (suc left) (queue_at s i)) this (N s) values values' →
      FilledFrom width s f (k + 1) values₀ values'
  filled_more filled =
      let slots : suc left ≡ s.horizon - slot_before s k = omega (arith, at.left_low, at.left_is) in
      record {
        same_length = filled.same_length ∙ past.same_length;
        right = λ u i from upto h.
            row_filled width.places (value_in width) (value_local width) s (slot_before s k) at.this_is filled
            (λ x j. f (s.horizon - x) (queue_at s j)) u i (omega (arith, at.left_low)) h
            (ap (λ (l : ℕ). f l (queue_at s i)) slots) (λ l. past.right u i (omega arith) upto h);
        beyond = λ p h. filled.outside p (inr (fewer_fit width (this_within s k at) h)) ∙ past.beyond p h;
      }

-- the same of the planner: its rows of values and of plan bytes

-- where the lent memory is planned, its values are filled by the values
pub planned_values : {width : Width} {s : View} {k : ℕ} {values₀ plan₀ values plan : List ℕ} → PlannedFrom width s k values₀ plan₀ values plan →
    FilledFrom width s (value_with s) k values₀ values
planned_values p = record { same_length = p.values_length; right = p.values_right; beyond = p.values_beyond }

module _ (width : Width) (s : View) (k : ℕ) {left this next row : ℕ} (at : SlotRows s k left this next row)
    {values₀ plan₀ values plan : List ℕ} (past : PlannedFrom width s k values₀ plan₀ values plan) where
  -- its row of the plan is within the lent memory
  pub plan_room : plan_needed s ≤ length plan₀ → row + N s ≤ length plan
  plan_room room = omega (arith, plan_within s k at, past.plan_length)

  -- one slot more is planned
  pub planned_more : {values' plan' : List ℕ} → Planned width s left this row values plan values' plan' →
      PlannedFrom width s (k + 1) values₀ plan₀ values' plan'
  planned_more filled =
      let fewer : left ≡ pred (s.horizon - slot_before s k) = omega (arith, at.left_low, at.left_is) in
      let f = filled_more width s (value_with s) k at (planned_values past) filled.values_filled in
      record {
        values_length = f.same_length;
        values_right = f.right;
        values_beyond = f.beyond;
        plan_length = filled.plan_filled.same_length ∙ past.plan_length;
        plan_right = λ u i from upto h.
            row_filled 1 number_at number_local s (slot_before s k) at.row_is filled.plan_filled
            (λ x j. byte_of (choice_with s (pred (s.horizon - x)) (queue_at s j))) u i (omega (arith, at.left_low)) h
            (ap (λ (l : ℕ). byte_of (choice_with s l (queue_at s i))) fewer) (λ l. past.plan_right u i (omega arith) upto h);
        plan_beyond = λ p h. filled.plan_filled.outside p (inr (omega (arith, plan_within s k at))) ∙ past.plan_beyond p h;
      }

-- the first pass leaves what the second one needs
pub ahead_there : (width : Width) (g : ℕ → Option ℕ) (after : ℕ) {n : ℕ} {ahead₀ ahead : List ℕ} → after ≡ n →
    after * width.places ≤ length ahead₀ → Fills width.places (value_in width) g 0 after ahead₀ ahead → Row width g 0 n ahead
ahead_there width g after e room filled =
    record {
      room = fewer_fit width {m = after} (omega arith) (omega (arith, filled.same_length));
      right = λ i h. filled.filled i (omega arith);
    }

-- the end row

-- it ends where what is needed does
end_within : (s : View) → place_at s s.horizon 0 + N s ≤ values_needed s
end_within s = omega (arith, suc-mul s.horizon (N s))

-- where the code finds it
module _ (width : Width) (s : View) {sizes : Sizes} (sized : Sized s sizes) {from : ℕ} (d : from ≡ place_in sizes.queues s.horizon 0) where
  end_place : from ≡ place_at s s.horizon 0
  end_place = d ∙ place_is s sized s.horizon 0

  -- it is within the lent memory
  pub end_room : (values : List ℕ) → value_places width s ≤ length values → (from + sizes.queues) * width.places ≤ length values
  end_room values room = fewer_fit width (omega (arith, end_place, sized.queues_is, end_within s)) room

  -- and as many values as there are queues are the whole of it
  pub end_whole : {n : ℕ} {values₀ values : List ℕ} → n ≡ sizes.queues →
      Fills width.places (value_in width) (λ i. some 0) from n values₀ values → EndRow width s values₀ values
  end_whole {n} {values₀} {values} e filled =
      subst (λ (p : ℕ). Fills width.places (value_in width) (λ i. some 0) p (N s) values₀ values) end_place
      (fills_whole width.places (value_in width) filled (e ∙ sized.queues_is))

-- once it is there the lent values are filled as far as no slot, by a function that gives 0 with no slot left
module _ (width : Width) (s : View) {values₀ values : List ℕ} (filled : EndRow width s values₀ values) (f : ℕ → Queue → Option ℕ) where
  pub filled_none : ((i : ℕ) → i < N s → f 0 (queue_at s i) ≡ some 0) → FilledFrom width s f 0 values values
  filled_none last =
      record {
        same_length = refl;
        right = λ t i low upto h.
            row_filled width.places (value_in width) (value_local width) s s.horizon refl filled (λ x j. f (s.horizon - x) (queue_at s j)) t i
            (omega arith) h (sym (last i h) ∙ ap (λ (k : ℕ). f k (queue_at s i)) (sym (sub_self s.horizon)))
            (λ l. absurd (omega arith));
        beyond = λ p h. refl;
      }

  -- what is filled from there on is filled from before it was on
  pub filled_since : (k : ℕ) {values' : List ℕ} → FilledFrom width s f k values values' → FilledFrom width s f k values₀ values'
  filled_since k past =
      record {
        same_length = past.same_length ∙ filled.same_length;
        right = past.right;
        beyond = λ p h. past.beyond p h ∙ filled.outside p (inr (fewer_fit width (end_within s) h));
      }

-- values that are filled from the horizon back to slot 0 are filled as the model says
pub filled_all : (width : Width) (s : View) (f : ℕ → Queue → Option ℕ) {values₀ values : List ℕ} → FilledFrom width s f s.horizon values₀ values →
    ValuesFilled width s (λ t i. f (s.horizon - t) (queue_at s i)) values₀ values
filled_all width s f {values₀} {values} filled =
    record {
      each = λ t i h k. filled.right t i (omega arith) h k;
      same_length = filled.same_length;
      beyond = drop_same (value_places width s) values values₀ filled.same_length filled.beyond;
    }

-- the same of the planner

-- with no slot left every queue of the list has a value, 0
row_last : (s : View) (i : ℕ) → i < N s → value_with s 0 (queue_at s i) ≡ some 0
row_last s i h = value_last s (queue_at s i) (listed_bearable (M s) s.bound i (omega (arith, N_is s))).1

module _ (width : Width) (s : View) {values₀ values : List ℕ} (filled : EndRow width s values₀ values) where
  pub planned_none : (plan : List ℕ) → PlannedFrom width s 0 values plan values plan
  planned_none plan =
      let f = filled_none width s filled (value_with s) (row_last s) in
      record {
        values_length = f.same_length;
        values_right = f.right;
        values_beyond = f.beyond;
        plan_length = refl;
        plan_right = λ t i low upto h. absurd (omega arith);
        plan_beyond = λ p h. refl;
      }

  pub planned_since : (k : ℕ) {plan₀ values' plan' : List ℕ} → PlannedFrom width s k values plan₀ values' plan' →
      PlannedFrom width s k values₀ plan₀ values' plan'
  planned_since k past =
      let f = filled_since width s filled (value_with s) k (planned_values past) in
      record {
        values_length = f.same_length;
        values_right = f.right;
        values_beyond = f.beyond;
        plan_length = past.plan_length;
        plan_right = past.plan_right;
        plan_beyond = past.plan_beyond;
      }

-- what a walk over the slots gives, said of the sheet that it is over
pub slot_given : {its s : View} {k left this next row : ℕ} {scale : Option ℕ} → its ≡ s → SlotRows its k left this next row →
    scale ≡ some (W its ^ suc k) → SlotRows s k left this next row × (scale ≡ some (W s ^ suc k))
slot_given {k = k} {left} {this} {next} {row} {scale} same rows scaled = (
  subst (λ (v : View). SlotRows v k left this next row) same rows,
  subst (λ (v : View). scale ≡ some (W v ^ suc k)) same scaled,
)
