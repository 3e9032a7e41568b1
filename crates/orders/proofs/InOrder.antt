-- Tests in order (specs/Numbers.antt), of any lines: the number of the first that fails tells them; which numbers it can be; and the same
-- where 12 comes after the lines.
use Prim.Native.Nat.{ℕ, zero, suc, ◌<◌}
use mathlib.Core.Path.{◌≡◌, refl, sym, ◌∙◌, subst}
use mathlib.Core.Bool.{Bool, true, false, not, ◌||◌}
use mathlib.Core.List.{List, [], ◌∷◌}
use mathlib.Core.Logic.{⊎_elim, ◌⊎◌, inl, inr, ◌↔◌}
use mathlib.Core.Option.{Option, none, some}
use native.Mathlib.Nat.{suc-ne-zero, not-suc-le-zero, zero-lt-suc, le_refl, eq-or-lt_of_le, le_of_suc-le-suc}
use native.Mathlib.Omega.{arith}
use borrow.Author.Tests.{eqb-true, eq-eqb}
use lib.Dec.{T, T_not, not_T, eqb, eqb→eq}
use Rattle.model.specs.Plan.{number12}
use Rattle.model.specs.Tests.{Lines, nothing, line, ◌⨾◌, table, first_of, check, ◌then◌, in_order}
use Rattle.model.proofs.Tests.{check_passes, then_on, in_order_all}
use Rattle.orders.specs.Numbers.{AllPass, FailsFirst, Tells, OneOf, Answers, AnswersOr12}

-- the number of the first that fails

-- the test holds of every line's number
abbrev pub Each : (ℕ → Bool) → Lines → Type 0
Each so nothing = Unit {0}
Each so (line number passes) = T (so number)
Each so (l ⨾ m) = Each so l × Each so m
Each so (table lines n) = (i : ℕ) → Each so (lines i)

-- none is n
abbrev pub Without : ℕ → Lines → Type 0
Without n l = Each (λ m. not (eqb m n)) l

line_tells : (number : ℕ) (passes : Bool) → Without 0 (line number passes) → Tells (check passes number) (line number passes)
line_tells number true p = record {
  refused = λ n h. (λ e. absurd (omega (arith, h, e)), λ f. absurd (subst T f.0 tt));
  done = (λ e. tt, λ a. refl);
}
line_tells zero false p = absurd p
line_tells (suc number) false p = record {
  refused = λ n h. (λ e. (refl, e), λ f. f.1);
  done = (λ e. absurd (suc-ne-zero number e), λ a. absurd a);
}

then_tells : (l m : Lines) (k j : ℕ) → Tells k l → Tells j m → Tells (k then j) (l ⨾ m)
then_tells l m zero j p q = record {
  refused = λ n h. (
    λ e. inr (p.done.0 refl, (q.refused n h).0 e),
    ⊎_elim (λ f. absurd (omega (arith, h, (p.refused n h).1 f))) (λ f. (q.refused n h).1 f.1),
  );
  done = (λ e. (p.done.0 refl, q.done.0 e), λ a. q.done.1 a.1);
}
then_tells l m (suc k) j p q = record {
  refused = λ n h. (
    λ e. inl ((p.refused n h).0 e),
    ⊎_elim (λ f. (p.refused n h).1 f) (λ f. absurd (suc-ne-zero k (p.done.1 f.0))),
  );
  done = (λ e. absurd (suc-ne-zero k e), λ a. absurd (suc-ne-zero k (p.done.1 a.0)));
}

-- one place more, after the others
more_pass : (f : ℕ → Lines) (n : ℕ) → AllPass (table f n ⨾ f n) ↔ AllPass (table f (suc n))
more_pass f n = (
  λ a i h. ⊎_elim (λ e. subst (λ (j : ℕ). AllPass (f j)) (sym e) a.1) (λ k. a.0 i k) (eq-or-lt_of_le (le_of_suc-le-suc h)),
  λ a. (λ i h. a i (omega (arith, h)), a n (le_refl (suc n))),
)

more_fails : (f : ℕ → Lines) (n m : ℕ) → FailsFirst (table f n ⨾ f n) m ↔ FailsFirst (table f (suc n)) m
more_fails f n m = (
  ⊎_elim (λ x. (x.0, omega (arith, x.1), x.2, x.3)) (λ x. (n, le_refl (suc n), x.0, x.1)),
  λ x. ⊎_elim (λ e. inr (subst (λ (j : ℕ). ((i : ℕ) → i < j → AllPass (f i)) × FailsFirst (f j) m) e (x.2, x.3)))
      (λ h. inl (x.0, h, x.2, x.3)) (eq-or-lt_of_le (le_of_suc-le-suc x.1)),
)

table_tells : (f : ℕ → Lines) (n : ℕ) → ((i : ℕ) → Tells (first_of (f i)) (f i)) → Tells (first_of (table f n)) (table f n)
unfolding in_order
table_tells f zero each = record {
  refused = λ n h. (λ e. absurd (omega (arith, h, e)), λ x. absurd (not-suc-le-zero x.1));
  done = (λ e i h. absurd (not-suc-le-zero h), λ a. refl);
}
table_tells f (suc n) each =
    let both = then_tells (table f n) (f n) _ _ (table_tells f n each) (each n) in
    record {
      refused = λ m h. (
        λ e. (more_fails f n m).0 ((both.refused m h).0 e),
        λ x. (both.refused m h).1 ((more_fails f n m).1 x),
      );
      done = (λ e. (more_pass f n).0 (both.done.0 e), λ a. both.done.1 ((more_pass f n).1 a));
    }

-- the theorem: of any lines without the number 0, in which a number may stand several times
pub told : (l : Lines) → Without 0 l → Tells (first_of l) l
told nothing p = record {
  refused = λ n h. (λ e. absurd (omega (arith, h, e)), λ f. absurd f);
  done = (λ e. tt, λ a. refl);
}
told (line number passes) p = line_tells number passes p
told (l ⨾ m) p = then_tells l m (first_of l) (first_of m) (told l p.0) (told m p.1)
told (table f n) p = table_tells f n (λ i. told (f i) (p i))

-- where all pass, the number is 0
pub all_zero : (l : Lines) → AllPass l → first_of l ≡ 0
all_zero nothing a = refl
all_zero (line number passes) a = check_passes passes number a
all_zero (l ⨾ m) a = then_on (first_of l) (first_of m) (all_zero l a.0) ∙ all_zero m a.1
all_zero (table f n) a = in_order_all (λ i. first_of (f i)) n (λ i h. all_zero (f i) (a i h))

-- where all pass, none fails
pub all_or_fails : (l : Lines) (n : ℕ) → AllPass l → FailsFirst l n → ⊥
all_or_fails nothing n a f = f
all_or_fails (line number passes) n a f = subst T f.0 a
all_or_fails (l ⨾ m) n a f = ⊎_elim (λ g. all_or_fails l n a.0 g) (λ g. all_or_fails m n a.1 g.1) f
all_or_fails (table f k) n a x = all_or_fails (f x.0) n (a x.0 x.1) x.3

-- which numbers it can be

-- what holds of every line's number holds of the one that fails first
fails_so : (so : ℕ → Bool) (l : Lines) (n : ℕ) → Each so l → FailsFirst l n → T (so n)
fails_so so nothing n p f = absurd f
fails_so so (line number passes) n p f = subst (λ (m : ℕ). T (so m)) f.1 p
fails_so so (l ⨾ m) n p f = ⊎_elim (λ g. fails_so so l n p.0 g) (λ g. fails_so so m n p.1 g.1) f
fails_so so (table f k) n p x = fails_so so (f x.0) n (p x.0) x.3

-- so a number that stands in no line does not fail first
fails_not : (n : ℕ) (l : Lines) → Without n l → FailsFirst l n → ⊥
fails_not n l p f = subst (λ (b : Bool). T (not b)) (eq-eqb n n refl) (fails_so (λ m. not (eqb m n)) l n p f)

-- one that fails first, and stands in none of the first lines, fails first in the others
pub later : (n : ℕ) (l m : Lines) → Without n l → FailsFirst (l ⨾ m) n → AllPass l × FailsFirst m n
later n l m p = ⊎_elim (λ f. absurd (fails_not n l p f)) (λ f. f)

-- and one that stands in none of the last lines fails first in the others
pub earlier : (n : ℕ) (l m : Lines) → Without n m → FailsFirst (l ⨾ m) n → FailsFirst l n
earlier n l m p = ⊎_elim (λ f. f) (λ f. absurd (fails_not n m p f.1))

-- whether a number is one of those listed
abbrev pub among : List ℕ → ℕ → Bool
among [] n = false
among (m ∷ l) n = eqb n m || among l n

one_of : (l : List ℕ) (n : ℕ) → T (among l n) → OneOf l n
one_of [] n t = t
one_of (m ∷ l) n t = go (eqb n m) refl (one_of l n) t
  where
    go : (b : Bool) → eqb n m ≡ b → (T (among l n) → OneOf l n) → T (b || among l n) → (n ≡ m) ⊎ OneOf l n
    go true e rest t = inl (eqb-true n m e)
    go false e rest t = inr (rest t)

-- an answer is 0 or one of its lines' numbers
gives : (numbers : List ℕ) {answer : ℕ} {l : Lines} → Each (among numbers) l → Tells answer l → OneOf (0 ∷ numbers) answer
gives numbers {answer = zero} p t = inl refl
gives numbers {answer = suc k} {l = l} p t =
    inr (one_of numbers (suc k) (fails_so (among numbers) l (suc k) p ((t.refused (suc k) (zero-lt-suc k)).0 refl)))

-- lines of listed numbers are without one that is not listed
without : (numbers : List ℕ) (n : ℕ) → T (not (among numbers n)) → (l : Lines) → Each (among numbers) l → Without n l
without numbers n unlisted nothing p = tt
without numbers n unlisted (line number passes) p =
    not_T (eqb number n) (λ t. T_not (among numbers n) unlisted (subst (λ (m : ℕ). T (among numbers m)) (eqb→eq number n t) p))
without numbers n unlisted (l ⨾ m) p = (without numbers n unlisted l p.0, without numbers n unlisted m p.1)
without numbers n unlisted (table f k) p = λ i. without numbers n unlisted (f i) (p i)

-- both at once: an answer that is the number of the first line that fails
pub answers : (numbers : List ℕ) → T (not (among numbers 0)) → (l : Lines) → Each (among numbers) l → {answer : ℕ} → answer ≡ first_of l →
    Answers answer l numbers
answers numbers positive l p e =
    let tells = subst (λ (n : ℕ). Tells n l) (sym e) (told l (without numbers 0 positive l p)) in
    record { tells = tells; gives = gives numbers p tells }

-- where 12 comes after the lines

-- the number is that of the first line that fails or, where all pass, by the value
abbrev pub NumberedOr12 : (refusal answer : ℕ) → (Option ℕ → Type 0) → Type 0
NumberedOr12 zero answer Is = (r : Option ℕ) × Is r × (answer ≡ number12 r)
NumberedOr12 (suc refusal) answer Is = answer ≡ suc refusal

module _ (numbers : List ℕ) (positive : T (not (among numbers 0))) (no-12 : T (not (among numbers 12))) (l : Lines)
    (p : Each (among numbers) l) (Is : Option ℕ → Type 0) (one : (v : ℕ) → Is none → Is (some v) → ⊥) where
  by_value : {answer : ℕ} → AllPass l → (r : Option ℕ) → Is r → answer ≡ number12 r → AnswersOr12 answer l Is numbers
  by_value all none right e = record {
    refused = λ n h other. (λ d. absurd (other (sym d ∙ e)), λ f. absurd (all_or_fails l n all f));
    twelve = (λ d. (all, right), λ q. e);
    done = (λ d. absurd (omega arith), λ q. absurd (one q.1 right q.2));
    gives = inr (inl e);
  }
  by_value all (some v) right e = record {
    refused = λ n h other. (λ d. absurd (omega arith), λ f. absurd (all_or_fails l n all f));
    twelve = (λ d. absurd (omega arith), λ q. absurd (one v q.1 right));
    done = (λ d. (all, v, right), λ q. e);
    gives = inl e;
  }

  by_line : (refusal : ℕ) → Answers (suc refusal) l numbers → AnswersOr12 (suc refusal) l Is numbers
  by_line refusal a =
      let never : AllPass l → ⊥ = λ all. suc-ne-zero refusal (a.tells.done.1 all) in
      record {
        refused = λ n h other. a.tells.refused n h;
        twelve = (
          λ e. absurd (later 12 l nothing (without numbers 12 no-12 l p) (inl ((a.tells.refused 12 (omega arith)).0 e))).1,
          λ q. absurd (never q.0),
        );
        done = (λ e. absurd (suc-ne-zero refusal e), λ q. absurd (never q.0));
        gives = ⊎_elim inl (λ o. inr (inr o)) a.gives;
      }

  pub answers_or_12 : (refusal : ℕ) → refusal ≡ first_of l → {answer : ℕ} → NumberedOr12 refusal answer Is → AnswersOr12 answer l Is numbers
  answers_or_12 zero e (r, right, is) = by_value ((answers numbers positive l p e).tells.done.0 refl) r right is
  answers_or_12 (suc refusal) e is =
      subst (λ (n : ℕ). AnswersOr12 n l Is numbers) (sym is) (by_line refusal (answers numbers positive l p e))
