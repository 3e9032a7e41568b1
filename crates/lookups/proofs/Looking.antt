-- What looking a speed or an arrival up on a sheet finds.
use Rattle.std.proofs.Common.{ℕ, zero, suc, ◌≤◌, ◌<◌, ◌≡◌, refl, sym, ap, ◌∙◌, subst, Bool, true, false, cond, not, Option, Some, None, nat_lt, List, length, take, get_or, T, ltb, eqb, ltb→lt, ltb-false, eqb→eq, add-one, arith}
use Rattle.std.proofs.Math.Nat.{lt_of_lt_of_le, not-le_of_lt}
use Rattle.std.proofs.lemmas.List.{take_all}
use Rattle.std.proofs.lemmas.List.Folds.{list_any_more}
use Rattle.std.proofs.lemmas.List.Sums.{position_or_len_is, prefix_len-le-length}
use Rattle.std.specs.List.{list_any, position, position_or_len}
use Rattle.std.specs.Option.{unwrap_or}
use Rattle.model.proofs.Refusal.{ranged}
use Rattle.model.proofs.Tests.{and_left, holds_true, fails_false, anywhere_at, first_holds, first_within, first_upto, anywhere_first}
use Rattle.model.specs.View.{view_of, zero_speed, energy_at, size_at, is_speed_at, on_sheet, place_of_speed, energy_of}
use Rattle.model.specs.Refusal.{fields_refusal}
use Rattle.model.specs.Stepper.{is_entry_at, is_entry}
use Rattle.model.specs.Tests.{first_place, anywhere}
use Rattle.model.specs.declared.Sheet.{Sheet}
use Rattle.model.specs.declared.Speed.{Speed}
use Rattle.limits.proofs.Places.{speed_counts}

-- a search through a list, and the definitions that go by places

-- a test holds at one of the first places exactly where it does of one of the first few
anywhere_taken : {A : Type 0} (test : A → Bool) (l : List A) (d : A) (n : ℕ) → n ≤ length l →
    anywhere (λ i. test (get_or l i d)) n ≡ list_any test (take n l)
unfolding anywhere
anywhere_taken test l d zero h = refl
anywhere_taken test l d (suc n) h =
    rw (← add-one n, list_any_more test l n d (omega arith), anywhere_taken test l d n (omega arith)) refl

-- at one of the places exactly where it does of one of the list
pub anywhere_listed : {A : Type 0} (test : A → Bool) (l : List A) (d : A) (n : ℕ) → length l ≡ n →
    anywhere (λ i. test (get_or l i d)) n ≡ list_any test l
anywhere_listed test l d n e =
    anywhere_taken test l d n (omega arith) ∙ ap (list_any test) (take_all n l (omega arith))

-- the first place at which it holds
pub first_listed : {A : Type 0} (test : A → Bool) (l : List A) (d : A) →
    position_or_len test l ≡ first_place (λ i. test (get_or l i d)) (length l)
first_listed test l d =
    let here : ℕ → Bool = λ i. test (get_or l i d) in
    position_or_len_is test l (first_place here (length l)) d (first_within here (length l))
    (λ k h. fails_false (here k) (λ t. not-le_of_lt h (first_upto here (length l) k (lt_of_lt_of_le h (first_within here (length l))) t)))
    (λ h. holds_true (here (first_place here (length l))) (first_holds here (length l) h))

-- the place that a search found, or the length where it found none
pub position_or : {A : Type 0} (test : A → Bool) (l : List A) {n : ℕ} {found : Option ℕ} → length l ≡ n → found ≡ position test l →
    unwrap_or found n ≡ position_or_len test l
position_or test l {n} e f =
    let k = position_or_len test l in
    ap (λ o. unwrap_or o n) f ∙ go k (prefix_len-le-length (λ x. not (test x)) l) (nat_lt k (length l)) refl
  where
    go : (k : ℕ) → k ≤ length l → (b : Bool) → nat_lt k (length l) ≡ b → unwrap_or (cond b (Some k) None) n ≡ k
    go k h true t = refl
    go k h false t = omega (arith, e, ltb-false k (length l) t)

module _ (s : Sheet) where
  -- a speed on the sheet

  -- it is on the sheet exactly where its place is below the count
  pub on_sheet_place : (a : ℕ) → on_sheet (view_of s) a ≡ ltb (place_of_speed (view_of s) a) s.speed_count
  unfolding on_sheet
  on_sheet_place a = anywhere_first (is_speed_at (view_of s) a) s.speed_count

  -- its energy is the one that stands there
  pub energy_at_place : (a j : ℕ) → j ≡ place_of_speed (view_of s) a → T (on_sheet (view_of s) a) →
      (j < s.speed_count) × ((get_or s.speeds j zero_speed).energy ≡ energy_of (view_of s) a)
  unfolding energy_of
  energy_at_place a j e t =
      let below : place_of_speed (view_of s) a < s.speed_count = ltb→lt _ _ (subst T (on_sheet_place a) t) in
      let h : j < s.speed_count = omega arith in
      (h, sym (ap (λ (one : Speed). one.energy) (speed_counts s j h)) ∙ ap (energy_at (view_of s)) e)

  -- an arrival on the sheet

  -- an arrival that is an entry has a size that can be added
  pub entry_small : (size deadline : ℕ) → fields_refusal (view_of s) ≡ 0 → T (is_entry (view_of s) size deadline) → size ≤ 255
  unfolding is_entry
  entry_small size deadline right t =
      let f = anywhere_at (is_entry_at (view_of s) size deadline) s.job_count t in
      let same = eqb→eq (size_at (view_of s) f.0) size (and_left (eqb (size_at (view_of s) f.0) size) _ f.2) in
      omega (arith, same, (ranged (view_of s) right).size_high f.0 f.1)
