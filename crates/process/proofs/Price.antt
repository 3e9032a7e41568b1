-- That the recursion `price_by` of specs/Recursion.antt finds the price of a rule, which is what the way that follows it spends
-- (specs/Ways.antt); that no price is below the value; and that the plan's own price is the value.
use Prim.Native.Nat.{ℕ, zero, suc, ◌*◌, ◌^◌, ◌≤◌, ◌<◌}
use mathlib.Core.Path.{◌≡◌, refl, sym, ap, ◌∙◌, subst, fun_ext}
use mathlib.Core.Bool.{Bool, true, false, cond}
use mathlib.Core.List.{List, [], ◌∷◌}
use mathlib.Core.Option.{Option, none, some, none-ne-some}
use mathlib.Core.Logic.{◌⊎◌, inl, inr, ⊎_elim, ◌↔◌}
use native.Mathlib.Omega.{arith}
use lib.Dec.{T, eqb, eqb→eq, eqb_refl}
use lib.ListN.{length, get_or, replicate}
use Rattle.process.specs.Sums.{sum}
use Rattle.process.specs.Ways.{Process, Among, Good, energy, IsValue, Rule, ruled, IsPrice, NotBelow}
use Rattle.process.specs.Recursion.{plus, times, sum_or_none, only, priced, value, plan, among, taken, price_by}
use Rattle.process.proofs.Value.{only_some, zeros, reach_end, reach_step, lower, value_some}

-- an action that is found stands in the list, and one that stands there is found
pub among_is : (actions : List ℕ) (a : ℕ) → T (among actions a) ↔ Among actions a
unfolding among
among_is [] a = (absurd, λ m. absurd (omega (arith, m.1)))
among_is (b ∷ actions) a = go (eqb b a) refl (among_is actions a)
  where
    later : eqb b a ≡ false → (j : ℕ) → j < length (b ∷ actions) → get_or (b ∷ actions) j 0 ≡ a → Among actions a
    later e zero h d = absurd (subst T e (subst (λ (c : ℕ). T (eqb b c)) d (eqb_refl b)))
    later e (suc j) h d = (j, omega arith, d)

    go : (x : Bool) → eqb b a ≡ x → T (among actions a) ↔ Among actions a → T (cond x true (among actions a)) ↔ Among (b ∷ actions) a
    go true e rest = (λ t. (0, omega arith, eqb→eq b a (rw e tt)), λ m. tt)
    go false e rest = (
      λ t. let m = rest.0 t in (suc m.0, omega (arith, m.1), m.2),
      λ m. rest.1 (later e m.0 m.1 m.2),
    )

-- a test that fails, or nothing behind it: there is no other way to none
only_none : (b : Bool) (r : Option ℕ) → only b r ≡ none → (b ≡ false) ⊎ (r ≡ none)
only_none true r e = inr e
only_none false r e = inl refl

-- a sum that is none has a term that is
sum_lost : (w : ℕ → ℕ) (h : ℕ → Option ℕ) (n : ℕ) → sum_or_none (λ i. times (w i) (h i)) n ≡ none → (i : ℕ) × (i < n) × (h i ≡ none)
unfolding sum_or_none
sum_lost w h zero e = absurd (none-ne-some 0 (sym e))
sum_lost w h (suc n) e = go (sum_or_none (λ i. times (w i) (h i)) n) (h n) (sum_lost w h n) refl e
  where
    go : (q r : Option ℕ) → (q ≡ none → (i : ℕ) × (i < n) × (h i ≡ none)) → h n ≡ r → plus q (times (w n) r) ≡ none →
        (i : ℕ) × (i < suc n) × (h i ≡ none)
    go none r d f z = let m = d refl in (m.0, omega (arith, m.1), m.2)
    go (some u) none d f z = (n, omega arith, f)
    go (some u) (some v) d f z = absurd (none-ne-some _ (sym z))

module _ {S : Type 0} (P : Process S) (n : ℕ) (w : ℕ → ℕ) where
  -- what an action costs where it is taken: the state is alive, the action one of the process's, and this is its price
  pub taken_some : (k : ℕ) (ahead : S → Option ℕ) (x : S) (a : ℕ) {v : ℕ} → taken P n w k ahead x a ≡ some v →
      T (P.alive x) × Among P.actions a × (priced P n w k ahead x a ≡ some v)
  unfolding taken
  taken_some k ahead x a e =
      let o = only_some (P.alive x) _ e in
      let p = only_some (among P.actions a) _ o.1 in
      (o.0, (among_is P.actions a).0 p.0, p.1)

  -- where the state is alive and the action one of the process's, it costs its price
  taken_passed : (k : ℕ) (ahead : S → Option ℕ) (x : S) (a : ℕ) → T (P.alive x) → Among P.actions a →
      taken P n w k ahead x a ≡ priced P n w k ahead x a
  unfolding taken
  taken_passed k ahead x a t m = go (P.alive x) (among P.actions a) t ((among_is P.actions a).1 m)
    where
      go : (b c : Bool) → T b → T c → {r : Option ℕ} → only b (only c r) ≡ r
      go true true t s = refl
      go true false t s = absurd s
      go false c t s = absurd t

  -- actions cost the same where the same is ahead
  priced_same : (k : ℕ) (f g : S → Option ℕ) (x : S) (a : ℕ) → ((i : ℕ) → f (P.next x a i) ≡ g (P.next x a i)) →
      priced P n w k f x a ≡ priced P n w k g x a
  unfolding priced
  priced_same k f g x a e =
      ap (λ (h : ℕ → Option ℕ). only (P.allowed x a) (plus (some (sum w n ^ suc k * P.cost x a)) (sum_or_none (λ i. times (w i) (h i)) n)))
      (fun_ext e)

  -- where it is none, something of that fails, or nothing is ahead after some event
  taken_none : (k : ℕ) (ahead : S → Option ℕ) (x : S) (a : ℕ) → taken P n w k ahead x a ≡ none →
      (T (P.alive x) → Among P.actions a → T (P.allowed x a) → ⊥) ⊎ ((i : ℕ) × (i < n) × (ahead (P.next x a i) ≡ none))
  unfolding taken priced
  taken_none k ahead x a e =
      ⊎_elim (λ f. inl (λ t m q. subst T f t))
      (λ r. ⊎_elim (λ f. inl (λ t m q. subst T f ((among_is P.actions a).1 m)))
      (λ p. ⊎_elim (λ f. inl (λ t m q. subst T f q)) (λ z. inr (sum_lost w (λ i. ahead (P.next x a i)) n (rest _ z)))
      (only_none (P.allowed x a) _ p)) (only_none (among P.actions a) _ r))
      (only_none (P.alive x) _ e)
    where
      rest : (r : Option ℕ) → plus (some (sum w n ^ suc k * P.cost x a)) r ≡ none → r ≡ none
      rest none z = refl
      rest (some v) z = absurd (none-ne-some _ (sym z))

  module _ (rule : Rule S) where
    -- where a price is found, the rule's way is good and costs it
    pub price_some : (k : ℕ) (x : S) (v : ℕ) → price_by P n w rule k x ≡ some v →
        Good P n k x (ruled P rule k x) × (energy P n w k x (ruled P rule k x) ≡ v)
    unfolding price_by ruled
    price_some zero x v e = reach_end P n w x (ruled P rule zero x) v e
    price_some (suc k) x v e =
        let t = taken_some k (price_by P n w rule k) x (rule (suc k) x) e in
        reach_step P n w k (price_by P n w rule k) x (ruled P rule (suc k) x) t.0 t.1 t.2 (λ i u q. price_some k _ u q)

    -- where none is found, the rule's way is not good along some list
    price_none : 0 < n → (k : ℕ) (x : S) → price_by P n w rule k x ≡ none → IsPrice P n w rule k x none
    unfolding price_by ruled
    price_none h zero x e = ([], tt, λ t. ⊎_elim (λ f. subst T f t) (λ z. absurd (none-ne-some _ (sym z))) (only_none (P.alive x) _ e))
    price_none h (suc k) x e =
        ⊎_elim (λ f. (0 ∷ replicate k 0, (h, zeros P n w h k), λ g. f g.0 g.1 g.2))
        (λ m. let l = price_none h k (P.next x (rule (suc k) x) m.0) m.2 in (m.0 ∷ l.0, (m.1, l.1), λ g. l.2 g.3))
        (taken_none k (price_by P n w rule k) x (rule (suc k) x) e)

    -- what is found is the price
    pub price_is : 0 < n → (k : ℕ) (x : S) → IsPrice P n w rule k x (price_by P n w rule k x)
    price_is h k x = go (price_by P n w rule k x) refl
      where
        go : (r : Option ℕ) → price_by P n w rule k x ≡ r → IsPrice P n w rule k x r
        go none e = price_none h k x e
        go (some v) e = price_some k x v e

    -- no price is below the value: the way that a rule follows is one of the ways
    pub price_not_below : (k : ℕ) (x : S) (r q : Option ℕ) → IsPrice P n w rule k x r → IsValue P n w k x q → NotBelow r q
    price_not_below k x none q is least = tt
    price_not_below k x (some p) none is never = never (ruled P rule k x) is.0
    price_not_below k x (some p) (some v) is least = omega (arith, least.least (ruled P rule k x) is.0, is.1)

    -- where the rule is the plan's wherever there is a value, it is priced at the values. `R` holds of the states that are reached: the rule
    -- need not be the plan's at any other
    module _ (h : 0 < n) (R : S → Type 0) (stays : (x : S) (a i : ℕ) → R x → R (P.next x a i)) (most : ℕ)
        (same : (k : ℕ) (x : S) (v : ℕ) → k < most → R x → value P n w (suc k) x ≡ some v → rule (suc k) x ≡ plan P n w (suc k) x) where
      -- where there is no value there is no price
      no_price : (k : ℕ) (x : S) → value P n w k x ≡ none → price_by P n w rule k x ≡ none
      no_price k x e = go (price_by P n w rule k x) refl
        where
          go : (r : Option ℕ) → price_by P n w rule k x ≡ r → r ≡ none
          go none d = refl
          go (some p) d = absurd (rw e at (lower P n w h k x _ (price_some k x p d).0))

      pub price_of_plan : (k : ℕ) → k ≤ most → (x : S) → R x → price_by P n w rule k x ≡ value P n w k x
      unfolding price_by value
      price_of_plan zero l x r = refl
      price_of_plan (suc k) l x r = go (value P n w (suc k) x) refl (λ y s. price_of_plan k (omega arith) y s)
        where
          go : (q : Option ℕ) → value P n w (suc k) x ≡ q → ((y : S) → R y → price_by P n w rule k y ≡ value P n w k y) →
              price_by P n w rule (suc k) x ≡ q
          go none e later = no_price (suc k) x e
          go (some v) e later =
              let f = value_some P n w k x e in
              let a = plan P n w (suc k) x in
              let ahead = priced_same k (price_by P n w rule k) (value P n w k) x a (λ i. later _ (stays x a i r)) in
              ap (taken P n w k (price_by P n w rule k) x) (same k x v (omega arith) r e) ∙
              taken_passed k (price_by P n w rule k) x a f.0 (f.1.0, f.1.1, f.1.2) ∙ ahead ∙ f.1.3
