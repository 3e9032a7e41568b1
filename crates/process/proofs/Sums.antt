-- The laws of sums, and why the definition of a way's energy weighs all lists of events: each list is counted once, and all the weights
-- together come to W^k.
use Prim.Native.Nat.{ℕ, zero, suc, ◌+◌, ◌*◌, ◌^◌, ◌≤◌, ◌<◌, zero-le}
use mathlib.Core.Path.{◌≡◌, refl, sym, ap, ◌∙◌, fun_ext}
use mathlib.Core.Bool.{Bool, true, false, ◌&&◌}
use mathlib.Core.List.{List, [], ◌∷◌}
use mathlib.Core.Logic.{⊎_elim}
use native.Mathlib.Nat.{add-zero, zero-add, mul-zero, mul-add, mul_comm, one-mul, zero-mul, suc-mul}
use native.Mathlib.Nat.{pow-zero, pow-suc, add-le-add, eq-or-lt_of_le, not-suc-le-zero, le_of_suc-le-suc}
use native.Mathlib.Numerals.{add-one}
use native.Mathlib.Omega.{arith}
use lib.Dec.{T, eqb}
use borrow.Author.Tests.{eq-eqb, ne_eqb, eqb-true, eqb-false}
use Rattle.process.specs.Sums.{sum, Events, over_lists, weight, same, one_if}
use Rattle.process.specs.Pairing.{OneToOne}

-- terms that are equal below n have equal sums
pub sum_same : {f g : ℕ → ℕ} (n : ℕ) → ((i : ℕ) → i < n → f i ≡ g i) → sum f n ≡ sum g n
unfolding sum
sum_same zero h = refl
sum_same (suc n) h = cc (sum_same n (λ i l. h i (omega arith)), h n (omega arith))

-- terms that are no more below n have no greater sum
pub sum_le : {f g : ℕ → ℕ} (n : ℕ) → ((i : ℕ) → i < n → f i ≤ g i) → sum f n ≤ sum g n
unfolding sum
sum_le zero h = zero-le
sum_le (suc n) h = add-le-add (sum_le n (λ i l. h i (omega arith))) (h n (omega arith))

-- the sum of n terms that are at most b
pub sum_upto : {f : ℕ → ℕ} (n b : ℕ) → ((i : ℕ) → i < n → f i ≤ b) → sum f n ≤ n * b
unfolding sum
sum_upto zero b h = zero-le
sum_upto (suc n) b h = omega (arith, sum_upto n b (λ i l. h i (omega arith)), h n (omega arith), suc-mul n b)

-- more terms have no smaller sum
pub sum_more : (f : ℕ → ℕ) (m n : ℕ) → m ≤ n → sum f m ≤ sum f n
unfolding sum
sum_more f zero n h = zero-le
sum_more f (suc m) zero h = absurd (not-suc-le-zero h)
sum_more f (suc m) (suc n) h = ⊎_elim (λ e. omega (arith, ap (sum f) e, ap f e)) (λ l. omega (arith, sum_more f (suc m) n l)) (eq-or-lt_of_le (le_of_suc-le-suc h))

-- a loop that adds a term each turn: one term more
pub sum_next : (f : ℕ → ℕ) {s r : ℕ} (j : ℕ) → s ≡ sum f j → r ≡ f j → s + r ≡ sum f (j + 1)
unfolding sum
sum_next f j e d = rw add-one (cc)

-- .. and all of them
pub sum_whole : (f : ℕ → ℕ) {s : ℕ} (j n : ℕ) → s ≡ sum f j → j ≤ n → n ≤ j → s ≡ sum f n
sum_whole f j n e h k = let whole : j ≡ n = omega arith in e ∙ ap (sum f) whole

-- the sum of sums is the sum of the two
pub sum_add : (f g : ℕ → ℕ) (n : ℕ) → sum (λ i. f i + g i) n ≡ sum f n + sum g n
unfolding sum
sum_add f g zero = refl
sum_add f g (suc n) = omega (arith, sum_add f g n)

-- a factor of every term is one of the sum
pub sum_times : (c : ℕ) (f : ℕ → ℕ) (n : ℕ) → sum (λ i. c * f i) n ≡ c * sum f n
unfolding sum
sum_times c f zero = sym (mul-zero c)
sum_times c f (suc n) = omega (arith, sum_times c f n, mul-add c (sum f n) (f n))

-- a sum of zeros is zero
pub sum_none : {f : ℕ → ℕ} (n : ℕ) → ((i : ℕ) → i < n → f i ≡ 0) → sum f n ≡ 0
unfolding sum
sum_none zero h = refl
sum_none (suc n) h = omega (arith, sum_none n (λ i l. h i (omega arith)), h n (omega arith))

-- two sums, one within the other, may be exchanged
pub sum_swap : (f : ℕ → ℕ → ℕ) (m n : ℕ) → sum (λ i. sum (f i) m) n ≡ sum (λ j. sum (λ i. f i j) n) m
unfolding sum
sum_swap f zero n = sum_none n (λ i h. refl)
sum_swap f (suc m) n = sum_add (λ i. sum (f i) m) (λ i. f i m) n ∙ ap (λ s. s + sum (λ i. f i m) n) (sum_swap f m n)

-- the sum of the terms at j alone is the one at j
pub sum_one : (j : ℕ) (f : ℕ → ℕ) (n : ℕ) → j < n → sum (λ i. one_if (eqb i j) * f i) n ≡ f j
unfolding sum
sum_one j f zero h = absurd (not-suc-le-zero h)
sum_one j f (suc n) h = ⊎_elim here (λ l. before l (sum_one j f n l)) (eq-or-lt_of_le (le_of_suc-le-suc h))
  where
    apart : (i : ℕ) → (i ≡ j → ⊥) → one_if (eqb i j) * f i ≡ 0
    apart i d = rw (ne_eqb i j d) (zero-mul (f i))

    here : j ≡ n → sum (λ i. one_if (eqb i j) * f i) (suc n) ≡ f j
    here e = cc (sum_none n (λ i l. apart i (λ q. omega arith)), zero-add (1 * f n), one-mul (f n), eq-eqb n j (sym e))

    before : j < n → sum (λ i. one_if (eqb i j) * f i) n ≡ f j → sum (λ i. one_if (eqb i j) * f i) (suc n) ≡ f j
    before l r = cc (apart n (λ q. omega arith), add-zero (f j))

-- a sum does not change when its terms are paired one to one
pub sum_paired : {n : ℕ} {there back : ℕ → ℕ} (f : ℕ → ℕ) → OneToOne n there back → sum (λ i. f (there i)) n ≡ sum f n
sum_paired {n} {there} {back} f p =
    sum_same n (λ i h. sym (sum_one (there i) f n (p.there_below i h))) ∙ sum_swap (λ i j. one_if (eqb j (there i)) * f j) n n ∙
    sum_same n (λ j h. sum_same n (λ i l. ap (λ b. one_if b * f j) (turned i j l h)) ∙ sum_one (back j) (λ i. f j) n (p.back_below j h))
  where
    turned : (i j : ℕ) → i < n → j < n → eqb j (there i) ≡ eqb i (back j)
    turned i j l h = go (eqb i (back j)) refl
      where
        go : (b : Bool) → eqb i (back j) ≡ b → eqb j (there i) ≡ b
        go true e = eq-eqb j (there i) (cc (eqb-true i (back j) e, p.there_back j h))
        go false e = ne_eqb j (there i) (λ q. eqb-false i (back j) e (cc (p.back_there i l)))

-- over all lists, the sum of sums is the sum of the two
pub over_add : (n k : ℕ) (f g : List ℕ → ℕ) → over_lists n k (λ l. f l + g l) ≡ over_lists n k f + over_lists n k g
unfolding over_lists
over_add n zero f g = refl
over_add n (suc k) f g =
    sum_same n (λ i h. over_add n k (λ l. f (i ∷ l)) (λ l. g (i ∷ l))) ∙
    sum_add (λ i. over_lists n k (λ l. f (i ∷ l))) (λ i. over_lists n k (λ l. g (i ∷ l))) n

-- over all lists, a factor of every term is one of the sum
pub over_times : (n k c : ℕ) (f : List ℕ → ℕ) → over_lists n k (λ l. c * f l) ≡ c * over_lists n k f
unfolding over_lists
over_times n zero c f = refl
over_times n (suc k) c f =
    sum_same n (λ i h. over_times n k c (λ l. f (i ∷ l))) ∙ sum_times c (λ i. over_lists n k (λ l. f (i ∷ l))) n

-- the weights of all lists of k events sum to W^k, which is what makes dividing by it an expectation
pub weights_total : (n k : ℕ) (w : ℕ → ℕ) → over_lists n k (weight w) ≡ sum w n ^ k
unfolding over_lists weight
weights_total n zero w = sym (pow-zero (sum w n))
weights_total n (suc k) w =
    sum_same n (λ i h. over_times n k (w i) (weight w) ∙ ap (λ s. w i * s) (weights_total n k w) ∙ mul_comm (w i) (sum w n ^ k)) ∙
    sum_times (sum w n ^ k) w n ∙ sym (pow-suc (sum w n) k)

-- lists that pass the test are equal
pub same_true : (l m : List ℕ) → T (same l m) → l ≡ m
unfolding same
same_true [] [] t = refl
same_true [] (j ∷ m) t = absurd t
same_true (i ∷ l) [] t = absurd t
same_true (i ∷ l) (j ∷ m) t = go (eqb i j) refl t (same_true l m)
  where
    go : (b : Bool) → eqb i j ≡ b → T (b && same l m) → (T (same l m) → l ≡ m) → i ∷ l ≡ j ∷ m
    go true e s rest = cc (eqb-true i j e, rest s)
    go false e s rest = absurd s

-- a list passes the test against itself
pub same_refl : (l : List ℕ) → T (same l l)
unfolding same
same_refl [] = tt
same_refl (i ∷ l) = rw (eq-eqb i i refl) (same_refl l)

-- each list of k events is one of those that `over_lists` sums over, and is counted once
pub counted_once : (n k : ℕ) (m : List ℕ) → Events n k m → over_lists n k (λ l. one_if (same l m)) ≡ 1
unfolding over_lists same
counted_once n zero [] e = refl
counted_once n zero (j ∷ m) e = absurd e
counted_once n (suc k) [] e = absurd e
counted_once n (suc k) (j ∷ m) e = sum_same n (λ i h. first i (counted_once n k m e.1)) ∙ sum_one j (λ i. 1) n e.0
  where
    split : (b c : Bool) → one_if (b && c) ≡ one_if b * one_if c
    split true c = sym (one-mul (one_if c))
    split false c = sym (zero-mul (one_if c))

    first : (i : ℕ) → over_lists n k (λ l. one_if (same l m)) ≡ 1 → over_lists n k (λ l. one_if (same (i ∷ l) (j ∷ m))) ≡ one_if (eqb i j) * 1
    first i r =
        ap (over_lists n k) (fun_ext (λ l. split (eqb i j) (same l m))) ∙ over_times n k (one_if (eqb i j)) (λ l. one_if (same l m)) ∙
        ap (λ s. one_if (eqb i j) * s) r
