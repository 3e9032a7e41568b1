-- Laws of the listing (the model's Listing.antt). What `decimal` writes is the number: its digits say the number, and the first of them is
-- 0 only where the number is 0. And what the call's number is.
use Prim.Native.Nat.{ℕ, zero, suc, ◌+◌, ◌*◌, ◌-◌, ◌^◌, ◌/◌, ◌%◌, ◌≤◌, ◌<◌}
use mathlib.Core.Path.{◌≡◌, refl, sym, ◌∙◌}
use mathlib.Core.Bool.{Bool, true, false, ◌&&◌}
use mathlib.Core.List.{List, [], ◌∷◌, ◌++◌}
use native.Mathlib.Nat.{not-suc-le-zero, suc-ne-zero}
use native.Mathlib.Omega.{arith}
use borrow.Author.Tests.{lt-ltb, le-ltb, ltb-true, ltb-false, lt-leb, le-leb}
use lib.Dec.{leb, ltb}
use lib.ListN.{length, get_or}
use Rattle.model.specs.View.{View}
use Rattle.model.specs.Listing.{digit, said, digits_in, decimal, listing, list_refusal, list_lines, list}
use Rattle.model.specs.Plan.{plan_needed, row_refusal, row_lines}
use Rattle.model.specs.Refusal.{sheet_refusal, value_limit}
use Rattle.model.specs.Tests.{check, ◌then◌}
use Rattle.laws.proofs.Codes.{rest_short}
use Rattle.model.proofs.Tests.{check_true, check_false}
use Rattle.laws.proofs.Written.{written_number}

-- one digit more
said_more : (so : ℕ) (l : List ℕ) (c : ℕ) → said so (l ++ c ∷ []) ≡ 10 * said so l + (c - digit 0)
said_more so [] c = refl
said_more so (b ∷ l) c = said_more (10 * so + (b - digit 0)) l c

-- one less than one more
suc_less : (n : ℕ) → suc n - 1 ≡ n
suc_less n = omega arith

-- a number below 10 is its own digit
pub digits_last : (most x : ℕ) → 1 ≤ most → x < 10 → digits_in most x ≡ digit x ∷ []
unfolding digits_in
digits_last zero x room h = absurd (not-suc-le-zero room)
digits_last (suc n) x room h = rw (lt-ltb x 10 h)

-- a greater one has the digits of its tenth, and then its last
pub digits_more : (most x : ℕ) → 1 ≤ most → 10 ≤ x → digits_in most x ≡ digits_in (most - 1) (x / 10) ++ digit (x % 10) ∷ []
unfolding digits_in
digits_more zero x room h = absurd (not-suc-le-zero room)
digits_more (suc n) x room h = rw (le-ltb x 10 h, suc_less n)

-- one or the other
below_or : (x : ℕ) {A : Type 0} → (x < 10 → A) → (10 ≤ x → A) → A
below_or x {A = A} low high = go (ltb x 10) refl
  where
    go : (b : Bool) → ltb x 10 ≡ b → A
    go true e = low (ltb-true x 10 e)
    go false e = high (ltb-false x 10 e)

-- the digits of a number say it
pub digits_say : (n x : ℕ) → x < 10 ^ n → said 0 (digits_in n x) ≡ x
unfolding digits_in
digits_say zero x h = let none : x ≡ 0 = omega arith in sym none
digits_say (suc n) x h =
    below_or x (λ l. rw (digits_last (suc n) x (omega arith) l) (omega arith))
    (λ l. rw (digits_more (suc n) x (omega arith) l, suc_less n) (
    said_more 0 (digits_in n (x / 10)) (digit (x % 10)) ∙ omega (arith, digits_say n (x / 10) (rest_short 10 n x (omega arith) h))
    ))

-- the first character of a list that goes on
first_kept : (l : List ℕ) (c : ℕ) → 0 < get_or l 0 0 → get_or (l ++ c ∷ []) 0 0 ≡ get_or l 0 0
first_kept [] c h = absurd (not-suc-le-zero h)
first_kept (b ∷ l) c h = refl

-- the first digit of a number that is not 0 is not 0
pub digits_first : (n x : ℕ) → 0 < x → x < 10 ^ n → digit 0 < get_or (digits_in n x) 0 0
digits_first zero x some h = absurd (omega arith)
digits_first (suc n) x some h =
    below_or x (λ l. rw (digits_last (suc n) x (omega arith) l) (omega arith))
    (λ l.
    let first = digits_first n (x / 10) (omega arith) (rest_short 10 n x (omega arith) h) in
    rw (digits_more (suc n) x (omega arith) l, suc_less n, first_kept (digits_in n (x / 10)) (digit (x % 10)) (omega (arith, first))) first)

-- so of every number of 64 bits and more: the digits of 01's listing say it, and no zero stands before them
pub decimal_says : (x : ℕ) → x < 10 ^ 20 → said 0 (decimal x) ≡ x
decimal_says x h = digits_say 20 x h

pub decimal_first : (x : ℕ) → 0 < x → x < 10 ^ 20 → digit 0 < get_or (decimal x) 0 0
decimal_first x some h = digits_first 20 x some h

-- The number of a listing. The row call's tests come first, so that a caller may make those and then look at its buffer

-- its number is that of its tests
pub list_number : (s : View) (least : ℕ) (plan buffer : List ℕ) →
    (list s least plan buffer).number ≡ list_refusal s least plan (length buffer)
unfolding list
list_number s least plan buffer = written_number (list_refusal s least plan (length buffer)) (listing s least plan) buffer

-- where the first of two rooms is too short, or something before it fails, the second is not asked for
first_refused : (n : ℕ) (a b : Bool) {number : ℕ} → number ≡ n then check a 11 → (number ≡ 0 → ⊥) →
    n then check (a && b) 11 ≡ number
first_refused zero true b e refused = absurd (refused e)
first_refused zero false b e refused = sym e
first_refused (suc n) a b e refused = sym e

-- where it is not, the second decides
second_decides : (n : ℕ) (a b : Bool) → n then check a 11 ≡ 0 → n then check (a && b) 11 ≡ check b 11
second_decides zero true b e = refl
second_decides zero false b e = absurd (suc-ne-zero 10 e)
second_decides (suc n) a b e = absurd (suc-ne-zero n e)

module _ (s : View) (least : ℕ) (plan : List ℕ) where
  -- the sheet is refused, or the plan too short
  pub list_refused : {number : ℕ} (room : ℕ) → number ≡ row_refusal s (length plan) → (number ≡ 0 → ⊥) →
      list_refusal s least plan room ≡ number
  unfolding list_lines row_lines
  list_refused room e refused = first_refused (sheet_refusal value_limit s) (leb (plan_needed s) (length plan)) _ e refused

  -- the buffer is too short
  pub list_short : (room : ℕ) → row_refusal s (length plan) ≡ 0 → room < length (listing s least plan) → list_refusal s least plan room ≡ 11
  unfolding list_lines row_lines
  list_short room e short =
      second_decides (sheet_refusal value_limit s) (leb (plan_needed s) (length plan)) _ e ∙
      check_false _ 11 (lt-leb (length (listing s least plan)) room short)

  -- there is room
  pub list_fits : (room : ℕ) → row_refusal s (length plan) ≡ 0 → length (listing s least plan) ≤ room → list_refusal s least plan room ≡ 0
  unfolding list_lines row_lines
  list_fits room e fits =
      second_decides (sheet_refusal value_limit s) (leb (plan_needed s) (length plan)) _ e ∙
      check_true _ 11 (le-leb (length (listing s least plan)) room fits)
