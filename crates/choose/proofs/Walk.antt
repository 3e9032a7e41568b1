-- The queues of a row, one after the other: that there is one, and which come before another. The proofs of src/pass.rt and of the loops over
-- a row stand on these laws.
use Prim.Native.Nat.{ℕ, zero, suc, pred, ◌+◌, ◌-◌, ◌*◌, ◌≤◌, ◌<◌}
use mathlib.Core.Path.{◌≡◌, refl, sym, ap, ◌∙◌, subst}
use mathlib.Core.Bool.{Bool, true, false}
use mathlib.Core.List.{List}
use mathlib.Core.Logic.{◌⊎◌, inl, inr, ⊎_elim}
use native.Mathlib.Nat.{eq-or-lt_of_le, le_refl}
use native.Mathlib.Omega.{arith}
use borrow.Author.Tests.{ltb-true, ltb-false}
use lib.Dec.{ltb}
use Rattle.model.specs.Queue.{queue_count, bearable_queues, continuations}
use Rattle.model.proofs.Queues.{at_least_two}
use Rattle.queues.specs.Blocks.{lowest_of, last_of, block_of, InBlock}
use Rattle.queues.proofs.Blocks.{block_below, block_place, in_block}
use Rattle.buffers.specs.Fills.{Fills, FillsWhere}
use Rattle.buffers.proofs.Filling.{Local, where_none, where_one, where_joined, where_all}
use Rattle.sheets.specs.Sizes.{Measured}
use Rattle.sheets.specs.declared.sizes.Sizes.{Sizes}
use Rattle.speed_lanes.specs.declared.speeds.Speeds.{Speeds}
use Rattle.choose.specs.declared.pass.Queue as row
use Rattle.choose.specs.Pass.{Within, IsQueue, Next, Ended, Before, number_of, sizes_of}

-- a number is below another or it is not
below_or : (x y : ℕ) → (x < y) ⊎ (y ≤ x)
below_or x y = go (ltb x y) refl
  where
    go : (b : Bool) → ltb x y ≡ b → (x < y) ⊎ (y ≤ x)
    go true e = inl (ltb-true x y e)
    go false e = inr (ltb-false x y e)

-- with no position there is one queue, and with any there are two at least
some_queue : (M d : ℕ) → 1 ≤ M → 1 ≤ queue_count M d
unfolding queue_count bearable_queues continuations
some_queue M zero low = le_refl 1
some_queue M (suc d) low = omega (arith, at_least_two M (suc d) low (omega arith))

-- so there is a block of queues
pub some_block : {sizes : Sizes} → Measured sizes → 0 < sizes.after
some_block {sizes} m = omega (arith, m.after_is, some_queue sizes.largest (pred sizes.bound) m.ranges.speed_low)

-- what the queues of a row give, said of the table of the pass that they are of
pub queue_given : {its speeds : Speeds} {queue : row.Queue} {b x : ℕ} → its ≡ speeds → IsQueue its queue →
    Next (sizes_of its) b x queue.block queue.last → IsQueue speeds queue × Next (sizes_of speeds) b x queue.block queue.last
queue_given {its} {speeds} {queue} {b} {x} same is next = (
  subst (λ (z : Speeds). IsQueue z queue) same is,
  subst (λ (z : Speeds). Next (sizes_of z) b x queue.block queue.last) same next,
)

-- which queues come before one

module _ {sizes : Sizes} (m : Measured sizes) where
  abbrev M : ℕ
  M = sizes.largest

  abbrev D : ℕ
  D = sizes.bound

  -- before the first none
  none_before : {b x : ℕ} → b ≡ 0 → x ≡ lowest_of M D 0 → (n : ℕ) → Before sizes b x n → ⊥
  none_before {b} {x} e first n i = ⊎_elim (λ h. absurd (omega (arith, e))) (λ h. here h.0 h.1) i.passed
    where
      here : block_of M D n ≡ b → last_of M D n < x → ⊥
      here same low =
          let block : block_of M D n ≡ 0 = same ∙ e in
          omega (arith, (in_block M D 0 n (omega (arith, block_below M D n i.within, block)) i.within block).0, first)

  -- the last total of a queue is no higher than its block's highest, nor lower than its lowest
  last_within : (n : ℕ) → n < queue_count M D → (last_of M D n ≤ D * M) × (lowest_of M D (block_of M D n) ≤ last_of M D n)
  last_within n h = let at = in_block M D (block_of M D n) n (block_below M D n h) h refl in (at.1, at.0)

  -- before the next one comes what comes before the place where the row goes on
  module _ {b x b' x' : ℕ} (next : Next sizes b x b' x') (n : ℕ) where
    before_on : Before sizes b x n → Before sizes b' x' n
    before_on i = ⊎_elim same other (below_or (D * M) x)
      where
        same : D * M < x → Before sizes b' x' n
        same l =
            let e = next.next_block l in
            record { within = i.within; passed = inl (⊎_elim (λ h. omega (arith, e.0)) (λ h. omega (arith, e.0, h.0)) i.passed) }

        other : x ≤ D * M → Before sizes b' x' n
        other l = let e = next.same_block l in rw (e.0, e.1) i

    before_back : Before sizes b' x' n → Before sizes b x n
    before_back i = ⊎_elim same other (below_or (D * M) x)
      where
        upto : D * M < x → block_of M D n ≤ b → Before sizes b x n
        upto l h =
            record {
              within = i.within;
              passed = ⊎_elim (λ e. inr (e, omega (arith, (last_within n i.within).0))) inl (eq-or-lt_of_le h);
            }

        -- no queue of a block comes before its first one
        first : x' ≡ lowest_of M D b' → block_of M D n ≡ b' → last_of M D n < x' → ⊥
        first e q l = omega (arith, e, (last_within n i.within).1, ap (lowest_of M D) q)

        same : D * M < x → Before sizes b x n
        same l =
            let e = next.next_block l in
            ⊎_elim (λ h. upto l (omega (arith, e.0))) (λ h. absurd (first e.1 h.0 h.1)) i.passed

        other : x ≤ D * M → Before sizes b x n
        other l =
            let e = next.same_block l in
            subst (λ (z : ℕ). Before sizes z x n) e.0 (subst (λ (y : ℕ). Before sizes b' y n) e.1 i)

  -- before the next one this one too
  module _ {b x : ℕ} (inside : Within sizes b x) where
    low_block : b < queue_count M (pred D)
    low_block = omega (arith, inside.block_low, m.after_is)

    placed : InBlock M D b (suc x) (number_of sizes b x) × (last_of M D (number_of sizes b x) ≡ x)
    placed = block_place M D b x (number_of sizes b x) low_block inside.last_low inside.last_high refl

    -- what comes before the next place: what came before this one, and this one
    before_more : {b' x' : ℕ} → b' ≡ b → x' ≡ suc x → (n : ℕ) → Before sizes b' x' n → Before sizes b x n ⊎ (n ≡ number_of sizes b x)
    before_more {b'} {x'} e f n i = ⊎_elim (λ h. inl (before (omega (arith, e)))) (λ h. at (h.0 ∙ e) (omega (arith, h.1, f))) i.passed
      where
        before : block_of M D n < b → Before sizes b x n
        before l = record { within = i.within; passed = inl l }

        at : block_of M D n ≡ b → last_of M D n ≤ x → Before sizes b x n ⊎ (n ≡ number_of sizes b x)
        at e upto =
            ⊎_elim
            (λ q. inr (omega (arith, (in_block M D b n low_block i.within e).2, ap (λ (z : ℕ). z - lowest_of M D b) q)))
            (λ l. inl (record { within = i.within; passed = inr (e, l) }))
            (eq-or-lt_of_le upto)

    -- what came before this one comes before that, and so does this one
    before_still : {b' x' : ℕ} → b' ≡ b → x' ≡ suc x → (n : ℕ) → n < queue_count M D → block_of M D n ≤ b →
        (block_of M D n ≡ b → last_of M D n ≤ x) → Before sizes b' x' n
    before_still {b'} {x'} e f n within upto high =
        record {
          within = within;
          passed = ⊎_elim (λ q. inr (q ∙ sym e, omega (arith, high q, f))) (λ h. inl (omega (arith, e))) (eq-or-lt_of_le upto);
        }

  -- behind the last one all
  all_before : {b x : ℕ} → Ended sizes b x → (n : ℕ) → n < sizes.queues → Before sizes b x n
  all_before {b} ended n h =
      let within : n < queue_count M D = omega (arith, m.queues_is) in
      let upto : block_of M D n ≤ b = omega (arith, block_below M D n within, m.after_is, ended.last_block) in
      record {
        within = within;
        passed = ⊎_elim (λ e. inr (e, omega (arith, (last_within n within).0, ended.passed))) inl (eq-or-lt_of_le upto);
      }

-- which of the row's things are filled: those of the queues that come before one
module _ {A : Type 0} {places : ℕ} {reader : List ℕ → ℕ → A} (local : Local places reader) {sizes : Sizes} (m : Measured sizes)
    {f : ℕ → A} {from : ℕ} where
  -- before the first none is
  pub passed_none : {b x : ℕ} {l : List ℕ} → b ≡ 0 → x ≡ lowest_of sizes.largest sizes.bound 0 →
      FillsWhere places reader f from (Before sizes b x) l l
  passed_none e first = where_none places reader (none_before m e first)

  -- one queue more is
  pub passed_more : {b x : ℕ} → Within sizes b x → {at y b' x' n next : ℕ} {g : ℕ → A} {l₀ l₁ l₂ : List ℕ} → Next sizes at y b x →
      b' ≡ b → x' ≡ suc x → n ≡ number_of sizes b x → next ≡ from + n → g 0 ≡ f n →
      FillsWhere places reader f from (Before sizes at y) l₀ l₁ → Fills places reader g next 1 l₁ l₂ →
      FillsWhere places reader f from (Before sizes b' x') l₀ l₂
  passed_more {b} {x} inside {b' = b'} {x' = x'} {n = n} {l₀ = l₀} {l₁ = l₁} next block last e here same so_far fill =
      where_joined places reader local
      (λ i q. ⊎_elim inl (λ r. inr (r ∙ sym e)) (before_more m inside block last i q))
      (λ i q. before_still m inside block last i q.within (⊎_elim (λ l. omega arith) (λ h. omega (arith, h.0)) q.passed)
      (λ r. ⊎_elim (λ l. absurd (omega arith)) (λ h. omega (arith, h.1)) q.passed))
      (λ i q. subst (Before sizes b' x') (sym (q ∙ e)) (before_still m inside block last (number_of sizes b x) (placed m inside).0.within
      (omega (arith, (placed m inside).0.block_is)) (λ r. omega (arith, (placed m inside).1))))
      (λ i q r. apart i (r ∙ e) q.passed)
      moved (where_one places reader here same fill)
    where
      -- going on to the queue changes nothing
      moved : FillsWhere places reader f from (Before sizes b x) l₀ l₁
      moved =
          record {
            same_length = so_far.same_length;
            filled = λ i d. so_far.filled i (before_back m next i d);
            outside = λ p h. so_far.outside p (λ i d. h i (before_on m next i d));
          }

      apart : (i : ℕ) → i ≡ number_of sizes b x →
          ((block_of sizes.largest sizes.bound i < b) ⊎ ((block_of sizes.largest sizes.bound i ≡ b) × (last_of sizes.largest sizes.bound i < x))) → ⊥
      apart i r =
          ⊎_elim
          (λ l. omega (arith, ap (block_of sizes.largest sizes.bound) r, (placed m inside).0.block_is))
          (λ h. omega (arith, h.1, ap (last_of sizes.largest sizes.bound) r, (placed m inside).1))

  -- behind the last one all are
  pub passed_whole : {b x : ℕ} {l₀ l : List ℕ} → Ended sizes b x → FillsWhere places reader f from (Before sizes b x) l₀ l →
      Fills places reader f from sizes.queues l₀ l
  passed_whole all = where_all places reader (all_before m all) (λ i q. omega (arith, q.within, m.queues_is))
