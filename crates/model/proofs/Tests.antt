-- Laws of the tests and of the small loops over places (specs/Tests.antt).
use Prim.Native.Nat.{ℕ, zero, suc, max, ◌+◌, ◌*◌, ◌≤◌, ◌<◌, zero-le}
use mathlib.Core.Path.{◌≡◌, refl, sym, ap, subst, ◌∙◌}
use mathlib.Core.Bool.{Bool, true, false, cond, ◌&&◌, ◌||◌}
use mathlib.Core.List.{List}
use mathlib.Core.Logic.{⊎_elim, ◌⊎◌, inl, inr}
use native.Mathlib.Nat.{le_refl, le_trans, le-max_left, le-max_right, max-le, not-suc-le-zero, eq-or-lt_of_le, le_of_suc-le-suc, suc-ne-zero, lt_irrefl, not-le_of_lt, lt_of_le_of_lt, suc-mul}
use native.Mathlib.Numerals.{add-one}
use native.Mathlib.Omega.{arith}
use borrow.Author.Tests.{ltb-true, ltb-false, le-ltb}
use lib.Dec.{T, ltb, ltb→lt, lt→ltb}
use lib.ListN.{length, get_or, length-append}
use Rattle.model.specs.Tests.{check, ◌then◌, in_order, everywhere, anywhere, first_place, greatest, listed, in_turn}

-- a test that holds is true
pub holds_true : (passes : Bool) → T passes → passes ≡ true
holds_true true t = refl
holds_true false t = absurd t

-- one that does not hold is false
pub fails_false : (passes : Bool) → (T passes → ⊥) → passes ≡ false
fails_false true f = absurd (f tt)
fails_false false f = refl

-- two tests together

pub and_left : (a b : Bool) → T (a && b) → T a
and_left true b t = tt
and_left false b t = t

pub and_right : (a b : Bool) → T (a && b) → T b
and_right true b t = t
and_right false b t = absurd t

pub and_both : (a b : Bool) → T a → T b → T (a && b)
and_both true b t u = u
and_both false b t u = t

-- two tests together fail where the second fails
pub and_fails_right : (a b : Bool) → b ≡ false → a && b ≡ false
and_fails_right true b e = e
and_fails_right false b e = refl

-- two tests are one where each tells the other
pub same_test : (a b : Bool) → (T a → T b) → (T b → T a) → a ≡ b
same_test true true there back = refl
same_test true false there back = absurd (there tt)
same_test false true there back = absurd (back tt)
same_test false false there back = refl

or_cases : (a b : Bool) → T (a || b) → T a ⊎ T b
or_cases true b t = inl tt
or_cases false b t = inr t

-- a test with its number, and tests in order

pub check_zero : (passes : Bool) (number : ℕ) → check passes (suc number) ≡ 0 → T passes
check_zero true number e = tt
check_zero false number e = absurd (suc-ne-zero number e)

pub check_passes : (passes : Bool) (number : ℕ) → T passes → check passes number ≡ 0
check_passes true number t = refl
check_passes false number t = absurd t

pub then_left : (a b : ℕ) → a then b ≡ 0 → a ≡ 0
then_left zero b e = refl
then_left (suc a) b e = e

pub then_right : (a b : ℕ) → a then b ≡ 0 → b ≡ 0
then_right zero b e = e
then_right (suc a) b e = absurd (suc-ne-zero a e)

pub then_both : (a b : ℕ) → a ≡ 0 → b ≡ 0 → a then b ≡ 0
then_both zero b d e = e
then_both (suc a) b d e = d

-- what each step of a chain of tests knows: a test that passes leaves it to the later ones, one that fails is the answer

pub then_passes : (passes : Bool) (number later : ℕ) → passes ≡ true → check passes number then later ≡ later
then_passes passes number later e = ap (λ (b : Bool). check b number then later) e

pub then_fails : (passes : Bool) (number later : ℕ) → passes ≡ false → check passes (suc number) then later ≡ suc number
then_fails passes number later e = ap (λ (b : Bool). check b (suc number) then later) e

pub check_true : (passes : Bool) (number : ℕ) → passes ≡ true → check passes number ≡ 0
check_true passes number e = ap (λ (b : Bool). check b number) e

pub check_false : (passes : Bool) (number : ℕ) → passes ≡ false → check passes number ≡ number
check_false passes number e = ap (λ (b : Bool). check b number) e

pub then_on : (a later : ℕ) → a ≡ 0 → a then later ≡ later
then_on a later e = ap (λ (n : ℕ). n then later) e

-- a test that none comes after
pub then_nothing : (a : ℕ) → a then 0 ≡ a
then_nothing zero = refl
then_nothing (suc a) = refl

-- tests in order may be taken together from the first on
pub then_then : (a b later : ℕ) → (a then b) then later ≡ a then b then later
then_then zero b later = refl
then_then (suc a) b later = refl

pub then_stops : (a later : ℕ) → (a ≡ 0 → ⊥) → a then later ≡ a
then_stops zero later h = absurd (h refl)
then_stops (suc a) later h = refl

-- places below n

below_suc : {i n : ℕ} → i < suc n → (i ≡ n) ⊎ (i < n)
below_suc h = eq-or-lt_of_le (le_of_suc-le-suc h)

-- tests of places 0 to n-1 in order

-- where the number is 0, that of each place is
pub in_order_at : (number : ℕ → ℕ) (n : ℕ) → in_order number n ≡ 0 → (i : ℕ) → i < n → number i ≡ 0
unfolding in_order
in_order_at number zero e i h = absurd (not-suc-le-zero h)
in_order_at number (suc n) e i h =
    ⊎_elim (λ q. rw q (then_right (in_order number n) (number n) e))
    (λ l. in_order_at number n (then_left (in_order number n) (number n) e) i l) (below_suc h)

pub in_order_all : (number : ℕ → ℕ) (n : ℕ) → ((i : ℕ) → i < n → number i ≡ 0) → in_order number n ≡ 0
unfolding in_order
in_order_all number zero all = refl
in_order_all number (suc n) all =
    then_both (in_order number n) (number n) (in_order_all number n (λ i h. all i (omega arith))) (all n (le_refl (suc n)))

-- the first place's test, and then the others'
pub in_order_front : (number : ℕ → ℕ) (n : ℕ) → in_order number (suc n) ≡ number 0 then in_order (λ i. number (suc i)) n
unfolding in_order
in_order_front number zero = sym (then_nothing (number 0))
in_order_front number (suc n) = ap (λ (k : ℕ). k then number (suc n)) (in_order_front number n) ∙ then_then (number 0) _ _

-- tests that agree at each place agree in order
pub in_order_same : (f g : ℕ → ℕ) (n : ℕ) → ((i : ℕ) → i < n → f i ≡ g i) → in_order f n ≡ in_order g n
unfolding in_order
in_order_same f g zero same = refl
in_order_same f g (suc n) same =
    let below : in_order f n ≡ in_order g n = in_order_same f g n (λ i h. same i (omega arith)) in
    rw (below, same n (le_refl (suc n)))

-- what a loop over the places knows: all passed so far and one more
pub in_order_more : (number : ℕ → ℕ) (j : ℕ) → in_order number j ≡ 0 → number j ≡ 0 → in_order number (j + 1) ≡ 0
unfolding in_order
in_order_more number j below here = rw (add-one, below) here

in_order_stops : (number : ℕ → ℕ) (j n k : ℕ) → in_order number j ≡ 0 → number j ≡ suc k → j < n → in_order number n ≡ suc k
unfolding in_order
in_order_stops number j zero k below here h = absurd (not-suc-le-zero h)
in_order_stops number j (suc n) k below here h =
    ⊎_elim (λ q. rw (← q, below) here)
    (λ l. let all : in_order number n ≡ suc k = in_order_stops number j n k below here l in rw all) (below_suc h)

-- and where one fails after all before it passed, that one's number is the number of all
pub in_order_first : (number : ℕ → ℕ) (j n : ℕ) {k : ℕ} → in_order number j ≡ 0 → number j ≡ k → (k ≡ 0 → ⊥) → j < n → in_order number n ≡ k
in_order_first number j n {k = zero} below here some h = absurd (some refl)
in_order_first number j n {k = suc k} below here some h = in_order_stops number j n k below here h

-- everywhere and anywhere below n

pub everywhere_at : (test : ℕ → Bool) (n : ℕ) → T (everywhere test n) → (i : ℕ) → i < n → T (test i)
unfolding everywhere
everywhere_at test zero t i h = absurd (not-suc-le-zero h)
everywhere_at test (suc n) t i h =
    ⊎_elim (λ e. subst (λ (j : ℕ). T (test j)) (sym e) (and_right (everywhere test n) (test n) t))
    (λ l. everywhere_at test n (and_left (everywhere test n) (test n) t) i l) (below_suc h)

pub everywhere_all : (test : ℕ → Bool) (n : ℕ) → ((i : ℕ) → i < n → T (test i)) → T (everywhere test n)
unfolding everywhere
everywhere_all test zero all = tt
everywhere_all test (suc n) all =
    and_both (everywhere test n) (test n) (everywhere_all test n (λ i h. all i (omega arith))) (all n (le_refl (suc n)))

-- a test that fails at one place does not hold everywhere
pub everywhere_fails : (test : ℕ → Bool) (n i : ℕ) → i < n → test i ≡ false → everywhere test n ≡ false
everywhere_fails test n i h e =
    same_test (everywhere test n) false (λ t. subst T e (everywhere_at test n t i h)) (λ f. absurd f)

-- a test that holds everywhere below i, and at i, holds everywhere below i + 1
pub everywhere_more : (test : ℕ → Bool) (i : ℕ) → everywhere test i ≡ true → test i ≡ true → everywhere test (i + 1) ≡ true
unfolding everywhere
everywhere_more test i below here = rw (add-one, below) here

-- tests that agree at each place agree everywhere
pub everywhere_same : (f g : ℕ → Bool) (n : ℕ) → ((i : ℕ) → i < n → f i ≡ g i) → everywhere f n ≡ everywhere g n
unfolding everywhere
everywhere_same f g zero same = refl
everywhere_same f g (suc n) same =
    let below : everywhere f n ≡ everywhere g n = everywhere_same f g n (λ i h. same i (omega arith)) in
    rw (below, same n (le_refl (suc n)))

pub anywhere_at : (test : ℕ → Bool) (n : ℕ) → T (anywhere test n) → (i : ℕ) × (i < n) × T (test i)
unfolding anywhere
anywhere_at test zero t = absurd t
anywhere_at test (suc n) t =
    ⊎_elim (λ l. let found = anywhere_at test n l in (found.0, omega (arith, found.1), found.2)) (λ r. (n, le_refl (suc n), r))
    (or_cases (anywhere test n) (test n) t)

or_left : (a b : Bool) → T a → T (a || b)
or_left true b t = tt
or_left false b t = absurd t

or_right : (a b : Bool) → T b → T (a || b)
or_right true b t = tt
or_right false b t = t

pub anywhere_one : (test : ℕ → Bool) (n i : ℕ) → i < n → T (test i) → T (anywhere test n)
unfolding anywhere
anywhere_one test zero i h t = absurd (not-suc-le-zero h)
anywhere_one test (suc n) i h t =
    ⊎_elim (λ e. or_right (anywhere test n) (test n) (subst (λ (j : ℕ). T (test j)) e t))
    (λ l. or_left (anywhere test n) (test n) (anywhere_one test n i l t)) (below_suc h)

-- a test that holds nowhere below i, and not at i either, holds nowhere below i + 1
pub anywhere_more : (test : ℕ → Bool) (i : ℕ) → anywhere test i ≡ false → test i ≡ false → anywhere test (i + 1) ≡ false
unfolding anywhere
anywhere_more test i below here = rw (add-one, below) here

-- a test that holds at one place holds somewhere
pub anywhere_found : (test : ℕ → Bool) (n i : ℕ) → i < n → test i ≡ true → anywhere test n ≡ true
anywhere_found test n i h e =
    same_test (anywhere test n) true (λ t. tt) (λ t. anywhere_one test n i h (subst T (sym e) tt))

-- the greatest of f 0 to f (n - 1)

pub greatest_at : (f : ℕ → ℕ) (n i : ℕ) → i < n → f i ≤ greatest f n
unfolding greatest
greatest_at f zero i h = absurd (not-suc-le-zero h)
greatest_at f (suc n) i h =
    ⊎_elim (λ e. subst (λ (j : ℕ). f j ≤ max (greatest f n) (f n)) (sym e) (le-max_right (greatest f n) (f n)))
    (λ l. le_trans (greatest_at f n i l) (le-max_left (greatest f n) (f n))) (below_suc h)

pub greatest_upto : (f : ℕ → ℕ) (n b : ℕ) → ((i : ℕ) → i < n → f i ≤ b) → greatest f n ≤ b
unfolding greatest
greatest_upto f zero b all = omega arith
greatest_upto f (suc n) b all = max-le (greatest_upto f n b (λ i h. all i (omega arith))) (all n (le_refl (suc n)))

-- listed

pub length_listed {ℓ} : {A : Type ℓ} (f : ℕ → A) (n : ℕ) → length (listed f n) ≡ n
unfolding listed
length_listed f zero = refl
length_listed f (suc n) = ap suc (length_listed (λ i. f (suc i)) n)

pub get_or_listed {ℓ} : {A : Type ℓ} (f : ℕ → A) (n i : ℕ) (d : A) → i < n → get_or (listed f n) i d ≡ f i
unfolding listed
get_or_listed f zero i d h = absurd (not-suc-le-zero h)
get_or_listed f (suc n) zero d h = refl
get_or_listed f (suc n) (suc i) d h = get_or_listed (λ j. f (suc j)) n i d (le_of_suc-le-suc h)

-- the first place at which a test holds: where it is below n the test holds there, it is n at most, and no later than any place at which
-- the test holds

last_holds : (test : ℕ → Bool) (n : ℕ) (b : Bool) → test n ≡ b → cond b n (suc n) < suc n → T (test (cond b n (suc n)))
last_holds test n true e h = subst T (sym e) tt
last_holds test n false e h = absurd (lt_irrefl (suc n) h)

pub first_holds : (test : ℕ → Bool) (n : ℕ) → first_place test n < n → T (test (first_place test n))
unfolding first_place
first_holds test zero h = absurd (not-suc-le-zero h)
first_holds test (suc n) h = go (first_place test n) (first_holds test n) (ltb (first_place test n) n) refl h
  where
    go : (p : ℕ) → (p < n → T (test p)) → (c : Bool) → ltb p n ≡ c →
        cond c p (cond (test n) n (suc n)) < suc n → T (test (cond c p (cond (test n) n (suc n))))
    go p ih true e h = ih (ltb-true p n e)
    go p ih false e h = last_holds test n (test n) refl h

pub first_within : (test : ℕ → Bool) (n : ℕ) → first_place test n ≤ n
unfolding first_place
first_within test zero = zero-le
first_within test (suc n) = go (first_place test n) (ltb (first_place test n) n) refl (test n)
  where
    go : (p : ℕ) (c : Bool) → ltb p n ≡ c → (b : Bool) → cond c p (cond b n (suc n)) ≤ suc n
    go p true e b = omega (arith, ltb-true p n e)
    go p false e true = omega arith
    go p false e false = le_refl (suc n)

last_upto : (n : ℕ) (b : Bool) → T b → cond b n (suc n) ≤ n
last_upto n true t = le_refl n
last_upto n false t = absurd t

pub first_upto : (test : ℕ → Bool) (n i : ℕ) → i < n → T (test i) → first_place test n ≤ i
unfolding first_place
first_upto test zero i h t = absurd (not-suc-le-zero h)
first_upto test (suc n) i h t = go (first_place test n) (first_upto test n i) (ltb (first_place test n) n) refl (below_suc h)
  where
    go : (p : ℕ) → (i < n → T (test i) → p ≤ i) → (c : Bool) → ltb p n ≡ c → (i ≡ n) ⊎ (i < n) →
        cond c p (cond (test n) n (suc n)) ≤ i
    go p ih true e (inl d) = let l : p < n = ltb-true p n e in omega arith
    go p ih true e (inr l) = ih l t
    go p ih false e (inl d) =
        let k : cond (test n) n (suc n) ≤ n = last_upto n (test n) (subst (λ (j : ℕ). T (test j)) d t) in
        subst (λ (j : ℕ). cond (test n) n (suc n) ≤ j) (sym d) k
    go p ih false e (inr l) =
        let small : p ≤ i = ih l t in
        let large : n ≤ p = ltb-false p n e in
        absurd (not-le_of_lt l (le_trans large small))

-- what a search over the places knows: nothing found so far and nothing here either
pub first_more : (test : ℕ → Bool) (j : ℕ) → first_place test j ≡ j → test j ≡ false → first_place test (j + 1) ≡ j + 1
unfolding first_place
first_more test j below here = rw (add-one, below, le-ltb j j (le_refl j), here)

-- nothing found so far, and found here: this is the first place of all
pub first_found : (test : ℕ → Bool) (j n : ℕ) → first_place test j ≡ j → test j ≡ true → j < n → first_place test n ≡ j
first_found test j n below here h = ⊎_elim (λ q. q) (λ l. absurd (earlier l)) (eq-or-lt_of_le upto)
  where
    upto : first_place test n ≤ j
    upto = first_upto test n j h (subst T (sym here) tt)

    earlier : first_place test n < j → ⊥
    earlier l = omega (arith, below, first_upto test j (first_place test n) l (first_holds test n (omega arith)))

-- a test holds somewhere exactly where the first such place is below n
pub anywhere_first : (test : ℕ → Bool) (n : ℕ) → anywhere test n ≡ ltb (first_place test n) n
anywhere_first test n =
    same_test (anywhere test n) (ltb (first_place test n) n)
    (λ t. let f = anywhere_at test n t in lt→ltb (first_place test n) n (lt_of_le_of_lt (first_upto test n f.0 f.1 f.2) f.1))
    (λ t. let l = ltb→lt (first_place test n) n t in anywhere_one test n (first_place test n) l (first_holds test n l))

-- lists in turn

-- one list more
pub turn_next : {A : Type 0} (f : ℕ → List A) {all one : ℕ} (j : ℕ) → all ≡ length (in_turn f j) → one ≡ length (f j) →
    all + one ≡ length (in_turn f (j + 1))
unfolding in_turn
turn_next f j e d = rw add-one (omega (arith, length-append (in_turn f j) (f j)))

-- the first few are no longer than all
pub turn_upto : {A : Type 0} (f : ℕ → List A) (j n : ℕ) → j ≤ n → length (in_turn f j) ≤ length (in_turn f n)
unfolding in_turn
turn_upto f j zero h = let none : j ≡ 0 = omega arith in omega (arith, ap (λ k. length (in_turn f k)) none)
turn_upto f j (suc n) h =
    ⊎_elim (λ e. omega (arith, ap (λ k. length (in_turn f k)) e))
    (λ l. omega (arith, turn_upto f j n (le_of_suc-le-suc l), length-append (in_turn f n) (f n))) (eq-or-lt_of_le h)

-- n lists of at most b
pub turn_times : {A : Type 0} (f : ℕ → List A) (n b : ℕ) → ((j : ℕ) → j < n → length (f j) ≤ b) → length (in_turn f n) ≤ n * b
unfolding in_turn
turn_times f zero b h = omega arith
turn_times f (suc n) b h =
    omega (arith, turn_times f n b (λ j l. h j (omega arith)), h n (omega arith), length-append (in_turn f n) (f n), suc-mul n b)
