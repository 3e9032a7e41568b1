-- Laws of filled buffers (specs/Fills.antt): nothing is filled, one thing more is, and what stands outside is what stood there. They serve
-- every loop that fills a lent buffer.
use Prim.Native.Nat.{ℕ, zero, suc, ◌+◌, ◌*◌, ◌-◌, ◌≤◌, ◌<◌}
use mathlib.Core.Path.{◌≡◌, refl, sym, ap, ◌∙◌, subst}
use mathlib.Core.Bool.{Bool, true, false}
use mathlib.Core.List.{List}
use mathlib.Core.Logic.{◌⊎◌, inl, inr, ⊎_elim}
use native.Mathlib.Nat.{le_trans, mul-le-mul_right, add-zero, eq-or-lt_of_le, not-suc-le-zero, suc-mul}
use native.Mathlib.Omega.{arith}
use borrow.Author.Tests.{ltb-true, ltb-false}
use lib.Dec.{ltb}
use lib.ListN.{length, get_or, set, length-set}
use lib.Seq.{get_or-set_same, get_or-set_other}
use Rattle.model.specs.Width.{Width, number_from, decode, value_in}
use Rattle.buffers.specs.Fills.{number_at, Fills, FillsWhere}

-- a reader of things that stand in so many places each: what stands at place i depends on those places alone
abbrev pub Local : {A : Type 0} → ℕ → (List ℕ → ℕ → A) → Type 0
Local places reader = (l m : List ℕ) (i : ℕ) → ((p : ℕ) → i * places ≤ p → p < suc i * places → get_or l p 0 ≡ get_or m p 0) → reader l i ≡ reader m i

-- fewer values have room where more have
pub fewer_fit : (width : Width) {n m room : ℕ} → n ≤ m → m * width.places ≤ room → n * width.places ≤ room
fewer_fit width h fit = le_trans (mul-le-mul_right width.places h) fit

-- what stands in n places depends on those alone
numbers_same : (l m : List ℕ) (at n : ℕ) → ((p : ℕ) → at ≤ p → p < at + n → get_or l p 0 ≡ get_or m p 0) → number_from l at n ≡ number_from m at n
unfolding number_from
numbers_same l m at zero same = refl
numbers_same l m at (suc n) same =
    cc (same at (omega arith) (omega arith), numbers_same l m (suc at) n (λ p h k. same p (omega arith) (omega arith)))

-- a value depends on its places alone
pub value_local : (width : Width) → Local width.places (value_in width)
value_local width l m i same =
    ap (decode width) (numbers_same l m (i * width.places) width.places (λ p h k. same p h (omega (arith, suc-mul i width.places))))

-- a plain number depends on its place alone
pub number_local : Local 1 number_at
number_local l m i same = same i (omega arith) (omega arith)

module _ {A : Type 0} (places : ℕ) (reader : List ℕ → ℕ → A) where
  -- nothing is filled
  pub fills_none : (f : ℕ → A) (from : ℕ) (l : List ℕ) → Fills places reader f from 0 l l
  fills_none f from l = record { same_length = refl; filled = λ i h. absurd (not-suc-le-zero h); outside = λ p h. refl }

  -- what stands at a place outside is what stood there
  pub fills_outside : Local places reader → {f : ℕ → A} {from n : ℕ} {before after : List ℕ} → Fills places reader f from n before after →
      (i : ℕ) → (i < from) ⊎ (from + n ≤ i) → reader after i ≡ reader before i
  fills_outside local {from = from} {n = n} {before = before} {after = after} fill i =
      ⊎_elim
      (λ h. local after before i (λ p low high. fill.outside p (inl (omega (arith, mul-le-mul_right places h)))))
      (λ h. local after before i (λ p low high. fill.outside p (inr (omega (arith, mul-le-mul_right places h)))))

  -- n things and then m more behind them
  pub fills_then : Local places reader → {f g : ℕ → A} {from n m next : ℕ} {before between after : List ℕ} → next ≡ from + n →
      ((j : ℕ) → j < m → g j ≡ f (n + j)) → Fills places reader f from n before between → Fills places reader g next m between after →
      Fills places reader f from (n + m) before after
  fills_then local {f = f} {from = from} {n = n} {m = m} {next = next} {before = before} {after = after} here same first second =
      record { same_length = second.same_length ∙ first.same_length; filled = λ i h. each i h (ltb i n) refl; outside = beyond }
    where
      each : (i : ℕ) → i < n + m → (b : Bool) → ltb i n ≡ b → reader after (from + i) ≡ f i
      each i h true e =
          let l = ltb-true i n e in
          fills_outside local second (from + i) (inl (omega arith)) ∙ first.filled i l
      each i h false e =
          let l = ltb-false i n e in
          let place : next + (i - n) ≡ from + i = omega arith in
          let thing : n + (i - n) ≡ i = omega arith in
          subst (λ (j : ℕ). reader after j ≡ f i) place
          (second.filled (i - n) (omega arith) ∙ same (i - n) (omega arith) ∙ ap f thing)

      beyond : (p : ℕ) → (p < from * places) ⊎ ((from + (n + m)) * places ≤ p) → get_or after p 0 ≡ get_or before p 0
      beyond p =
          ⊎_elim
          (λ h. second.outside p (inl (omega (arith, low))) ∙ first.outside p (inl h))
          (λ h. second.outside p (inr (subst (λ (k : ℕ). k * places ≤ p) over h)) ∙ first.outside p (inr (omega (arith, high))))
        where
          low : from * places ≤ next * places
          low = mul-le-mul_right places (omega arith)

          over : from + (n + m) ≡ next + m
          over = omega arith

          high : (from + n) * places ≤ (from + (n + m)) * places
          high = mul-le-mul_right places (omega arith)

  -- n things and then one more
  pub fills_more : Local places reader → {f g : ℕ → A} {from n next : ℕ} {before between after : List ℕ} → next ≡ from + n → g 0 ≡ f n →
      Fills places reader f from n before between → Fills places reader g next 1 between after → Fills places reader f from (n + 1) before after
  fills_more local {f = f} {g = g} {n = n} here same =
      fills_then local here
      (λ j h. let zeroth : j ≡ 0 = omega arith in
      ap g zeroth ∙ same ∙ sym (ap (λ (k : ℕ). f (n + k)) zeroth ∙ ap f (add-zero n)))

  -- a fill of as many things as are wanted
  pub fills_whole : {f : ℕ → A} {from n wanted : ℕ} {before after : List ℕ} → Fills places reader f from n before after → n ≡ wanted →
      Fills places reader f from wanted before after
  fills_whole {f = f} {from = from} {before = before} {after = after} fill e = subst (λ (k : ℕ). Fills places reader f from k before after) e fill

  -- a fill of the same things
  pub fills_same : {f g : ℕ → A} {from n : ℕ} {before after : List ℕ} → ((i : ℕ) → i < n → f i ≡ g i) →
      Fills places reader f from n before after → Fills places reader g from n before after
  fills_same same fill = record { same_length = fill.same_length; filled = λ i h. fill.filled i h ∙ same i h; outside = fill.outside }

  -- things that are done in any order

  -- none is
  pub where_none : {f : ℕ → A} {from : ℕ} {done : ℕ → Type 0} {l : List ℕ} → ((i : ℕ) → done i → ⊥) → FillsWhere places reader f from done l l
  where_none none = record { same_length = refl; filled = λ i d. absurd (none i d); outside = λ p h. refl }

  -- one is
  pub where_one : {f g : ℕ → A} {from n next : ℕ} {before after : List ℕ} → next ≡ from + n → g 0 ≡ f n → Fills places reader g next 1 before after →
      FillsWhere places reader f from (λ i. i ≡ n) before after
  where_one {f = f} {from = from} {n = n} {next = next} {after = after} here same fill =
      record {
        same_length = fill.same_length;
        filled = λ i e.
            subst (λ (j : ℕ). reader after (from + j) ≡ f j) (sym e)
            (subst (λ (j : ℕ). reader after j ≡ f n) (add-zero next ∙ here) (fill.filled 0 (omega arith) ∙ same));
        outside = λ p h.
            fill.outside p
            (⊎_elim (λ l. inl (subst (λ (j : ℕ). p < j * places) (sym here) l))
            (λ l. inr (subst (λ (j : ℕ). j * places ≤ p) (omega arith) l)) (h n refl));
      }

  -- those of two fills are, one after the other, where no thing is filled by both
  pub where_joined : Local places reader → {f : ℕ → A} {from : ℕ} {first second both : ℕ → Type 0} {l₀ l₁ l₂ : List ℕ} →
      ((i : ℕ) → both i → first i ⊎ second i) → ((i : ℕ) → first i → both i) → ((i : ℕ) → second i → both i) →
      ((i : ℕ) → first i → second i → ⊥) → FillsWhere places reader f from first l₀ l₁ → FillsWhere places reader f from second l₁ l₂ →
      FillsWhere places reader f from both l₀ l₂
  where_joined local {f = f} {from = from} {first = first} {second = second} {l₁ = l₁} {l₂ = l₂} split left right apart a b =
      record {
        same_length = b.same_length ∙ a.same_length;
        filled = λ i d. ⊎_elim (early i) (λ e. b.filled i e) (split i d);
        outside = λ p h. b.outside p (λ i d. h i (right i d)) ∙ a.outside p (λ i d. h i (left i d));
      }
    where
      other : (i j : ℕ) → (i ≡ j → ⊥) → (p : ℕ) → (from + i) * places ≤ p → p < suc (from + i) * places →
          (p < (from + j) * places) ⊎ (suc (from + j) * places ≤ p)
      other i j differ p low high = go (ltb i j) refl
        where
          go : (t : Bool) → ltb i j ≡ t → (p < (from + j) * places) ⊎ (suc (from + j) * places ≤ p)
          go true e =
              let l : suc (from + i) ≤ from + j = omega (arith, ltb-true i j e) in
              inl (omega (arith, mul-le-mul_right places l))
          go false e =
              let l : suc (from + j) ≤ from + i = ⊎_elim (λ q. absurd (differ (sym q))) (λ q. omega arith) (eq-or-lt_of_le (ltb-false i j e)) in
              inr (omega (arith, mul-le-mul_right places l))

      early : (i : ℕ) → first i → reader l₂ (from + i) ≡ f i
      early i d =
          local l₂ l₁ (from + i)
          (λ p low high. b.outside p (λ j e. other i j (λ q. apart i d (subst second (sym q) e)) p low high)) ∙
          a.filled i d

  -- all are
  pub where_all : {f : ℕ → A} {from n : ℕ} {done : ℕ → Type 0} {before after : List ℕ} → ((i : ℕ) → i < n → done i) → ((i : ℕ) → done i → i < n) →
      FillsWhere places reader f from done before after → Fills places reader f from n before after
  where_all {from = from} {n = n} all within fill =
      record {
        same_length = fill.same_length;
        filled = λ i h. fill.filled i (all i h);
        outside = λ p h. fill.outside p (λ i d. place p i (within i d) h);
      }
    where
      place : (p i : ℕ) → i < n → (p < from * places) ⊎ ((from + n) * places ≤ p) → (p < (from + i) * places) ⊎ (suc (from + i) * places ≤ p)
      place p i l (inl h) = let low : from ≤ from + i = omega arith in inl (omega (arith, mul-le-mul_right places low))
      place p i l (inr h) = let low : suc (from + i) ≤ from + n = omega arith in inr (omega (arith, mul-le-mul_right places low))

-- one plain number stored
pub number_stored : (l : List ℕ) (i x : ℕ) → i < length l → Fills 1 number_at (λ j. x) i 1 l (set l i x)
number_stored l i x h =
    record {
      same_length = length-set l i x;
      filled = λ j k. subst (λ (p : ℕ). get_or (set l i x) p 0 ≡ x) (omega arith) (get_or-set_same l i x 0 h);
      outside = λ p k. get_or-set_other l i p x 0 (other p k);
    }
  where
    other : (p : ℕ) → (p < i * 1) ⊎ ((i + 1) * 1 ≤ p) → p ≡ i → ⊥
    other p = ⊎_elim (λ k e. omega arith) (λ k e. omega arith)

-- n plain numbers, and one more stored behind them
pub number_more : {f : ℕ → ℕ} {from n x : ℕ} {before after : List ℕ} → from + n < length before → x ≡ f n →
    Fills 1 number_at f from n before after → Fills 1 number_at f from (n + 1) before (set after (from + n) x)
number_more {from = from} {n = n} {x = x} {after = after} room same fill =
    fills_more 1 number_at number_local refl same fill (number_stored after (from + n) x (omega (arith, fill.same_length)))
