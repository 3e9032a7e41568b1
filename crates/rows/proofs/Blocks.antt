-- A row that is filled block by block (queues/specs/Blocks.antt), and in each block from the lowest last total on: what is filled of it, and
-- that after the last block it is filled whole. The things may be values or plan bytes; a reader says what stands at a place.
use Prim.Native.Nat.{ℕ, suc, pred, ◌+◌, ◌*◌, ◌-◌, ◌≤◌, ◌<◌}
use mathlib.Core.Path.{◌≡◌, sym, ap, subst}
use mathlib.Core.List.{List}
use mathlib.Core.Logic.{◌⊎◌, inl, inr}
use native.Mathlib.Nat.{eq-or-lt_of_le}
use native.Mathlib.Omega.{arith}
use Rattle.model.specs.Queue.{queue_count}
use Rattle.queues.specs.Blocks.{lowest_of, last_of, block_of, number_in, InBlock, InBlocks}
use Rattle.queues.proofs.Blocks.{block_below, block_place, in_block}
use Rattle.buffers.specs.Fills.{Fills, FillsWhere}
use Rattle.buffers.proofs.Filling.{Local, where_none, where_one, where_joined, where_all}

module _ {A : Type 0} {places : ℕ} {reader : List ℕ → ℕ → A} (local : Local places reader) {M d : ℕ} {f : ℕ → A} {from : ℕ} where
  -- of a block

  module _ {b : ℕ} (h : b < queue_count M (pred d)) where
    -- nothing is filled below its lowest last total
    pub block_none : {x : ℕ} {l : List ℕ} → x ≤ lowest_of M d b → FillsWhere places reader f from (InBlock M d b x) l l
    block_none low =
        where_none places reader
        (λ n i. omega (arith, (in_block M d b n h i.within i.block_is).0, i.last_low))

    -- one queue more
    pub block_more : {x y next : ℕ} (n : ℕ) {g : ℕ → A} {l₀ l₁ l₂ : List ℕ} → lowest_of M d b ≤ x → x ≤ d * M → y ≡ suc x →
        n ≡ number_in M d b x → next ≡ from + n → g 0 ≡ f n →
        FillsWhere places reader f from (InBlock M d b x) l₀ l₁ → Fills places reader g next 1 l₁ l₂ →
        FillsWhere places reader f from (InBlock M d b y) l₀ l₂
    block_more {x} {y} n low high more e here same so_far fill =
        where_joined places reader local
        (λ i q. split i q (eq-or-lt_of_le (upto i q)))
        (λ i q. record { within = q.within; block_is = q.block_is; last_low = omega (arith, q.last_low) })
        (λ i q. subst (InBlock M d b y) (sym q)
        (record { within = placed.0.within; block_is = placed.0.block_is; last_low = omega (arith, placed.1) }))
        (λ i q r. omega (arith, q.last_low, ap (last_of M d) r, placed.1))
        so_far (where_one places reader here same fill)
      where
        placed : InBlock M d b (suc x) n × (last_of M d n ≡ x)
        placed = block_place M d b x n h low high e

        upto : (i : ℕ) → InBlock M d b y i → last_of M d i ≤ x
        upto i q = omega (arith, q.last_low)

        split : (i : ℕ) → InBlock M d b y i → (last_of M d i ≡ x) ⊎ (last_of M d i < x) → InBlock M d b x i ⊎ (i ≡ n)
        split i q (inl r) =
            inr (omega (arith, (in_block M d b i h q.within q.block_is).2, ap (λ (z : ℕ). z - lowest_of M d b) r))
        split i q (inr l) = inl (record { within = q.within; block_is = q.block_is; last_low = l })

  -- of the row

  -- one block more, up to its highest last total
  pub blocks_more : {b : ℕ} {l₀ l₁ l₂ : List ℕ} → b < queue_count M (pred d) →
      FillsWhere places reader f from (InBlocks M d b) l₀ l₁ → FillsWhere places reader f from (InBlock M d b (suc (d * M))) l₁ l₂ →
      FillsWhere places reader f from (InBlocks M d (b + 1)) l₀ l₂
  blocks_more {b} h so_far block =
      where_joined places reader local
      (λ i q. split i q (eq-or-lt_of_le (upto i q)))
      (λ i q. record { within = q.within; block_low = omega (arith, q.block_low) })
      (λ i q. record { within = q.within; block_low = omega (arith, q.block_is) })
      (λ i q r. omega (arith, q.block_low, r.block_is))
      so_far block
    where
      upto : (i : ℕ) → InBlocks M d (b + 1) i → block_of M d i ≤ b
      upto i q = omega (arith, q.block_low)

      split : (i : ℕ) → InBlocks M d (b + 1) i → (block_of M d i ≡ b) ⊎ (block_of M d i < b) →
          InBlocks M d b i ⊎ InBlock M d b (suc (d * M)) i
      split i q (inl r) =
          inr (record { within = q.within; block_is = r; last_low = omega (arith, (in_block M d b i h q.within r).1) })
      split i q (inr l) = inl (record { within = q.within; block_low = l })

  -- all of them
  pub blocks_whole : {b n : ℕ} {l₀ l : List ℕ} → b ≡ queue_count M (pred d) → n ≡ queue_count M d →
      FillsWhere places reader f from (InBlocks M d b) l₀ l → Fills places reader f from n l₀ l
  blocks_whole all many =
      where_all places reader
      (λ i h. let within : i < queue_count M d = omega arith in
      record { within = within; block_low = omega (arith, block_below M d i within) })
      (λ i q. omega (arith, q.within))
