-- Laws of what is laid over a lent buffer (specs/Laid.antt): nothing, one byte, a list and then another.
use Prim.Native.Nat.{ℕ, ◌+◌, ◌-◌, ◌≤◌, ◌<◌}
use mathlib.Core.Path.{◌≡◌, refl, sym, ap, ◌∙◌, subst}
use mathlib.Core.Bool.{Bool, true, false}
use mathlib.Core.List.{List, [], ◌∷◌, ◌++◌}
use mathlib.Core.Logic.{inr}
use native.Mathlib.Nat.{mul-one, zero-add}
use native.Mathlib.Omega.{arith}
use borrow.Author.Tests.{ltb-true, ltb-false}
use lib.Dec.{ltb}
use lib.ListN.{length, get_or, take, drop, set, length-append, length-drop, get_or-append}
use lib.Seq.{ext_get_or, get_or-append-add, get_or-drop, take-append_seam}
use Rattle.model.specs.Bytes.{written, Wrote}
use Rattle.model.specs.Tests.{in_turn}
use Rattle.buffers.specs.Fills.{Fills, number_at}
use Rattle.buffers.specs.Laid.{Laid}
use Rattle.buffers.proofs.Filling.{number_local, number_stored, fills_none, fills_same, fills_then}

-- nothing
pub laid_none : (at : ℕ) (buffer : List ℕ) → Laid at [] buffer buffer at
laid_none at buffer = record { next_is = omega arith; filled = fills_none 1 number_at (number_at []) at buffer }

-- one byte, stored
pub laid_one : (at b : ℕ) (buffer : List ℕ) → at < length buffer → Laid at (b ∷ []) buffer (set buffer at b) (at + 1)
laid_one at b buffer h =
    record {
      next_is = refl;
      filled = fills_same 1 number_at (λ i l. let zeroth : 0 ≡ i = omega arith in ap (number_at (b ∷ [])) zeroth) (number_stored buffer at b h);
    }

-- the length of the buffer is kept
pub laid_length : {at next : ℕ} {l before after : List ℕ} → Laid at l before after next → length after ≡ length before
laid_length laid = laid.filled.same_length

-- the place that follows is as far behind the first as the list is long
pub laid_next : {at next : ℕ} {l before after : List ℕ} → Laid at l before after next → next ≡ at + length l
laid_next laid = laid.next_is

-- a list and then another behind it are the two as one
pub laid_then : {at next last : ℕ} {l m before between after : List ℕ} → Laid at l before between next → Laid next m between after last →
    Laid at (l ++ m) before after last
laid_then {at = at} {l = l} {m = m} {before = before} {between = between} {after = after} first second =
    record {
      next_is = omega (arith, first.next_is, second.next_is, length-append l m);
      filled = subst (λ (n : ℕ). Fills 1 number_at (number_at (l ++ m)) at n before after) (sym (length-append l m)) both;
    }
  where
    front : Fills 1 number_at (number_at (l ++ m)) at (length l) before between
    front = fills_same 1 number_at (λ i h. sym (get_or-append l m 0 i h)) first.filled

    both : Fills 1 number_at (number_at (l ++ m)) at (length l + length m) before after
    both =
        fills_then 1 number_at number_local first.next_is
        (λ j h. sym (get_or-append-add l m j 0)) front second.filled

-- how far a loop, or a row of calls, over n lists in turn has come: there is room for all, and the first j are laid
pub record LaidTo (f : ℕ → List ℕ) (n at : ℕ) (before : List ℕ) (j : ℕ) (between : List ℕ) (next : ℕ) : Type 0 where
  pub upto : j ≤ n
  pub room : at + length (in_turn f n) ≤ length before
  pub first : Laid at (in_turn f j) before between next

-- what is laid from the first place on, where there is room for it, is what a call writes that is not refused
pub laid_written : {bytes before after : List ℕ} {next : ℕ} (tested : ℕ) → tested ≡ 0 → length bytes ≤ length before →
    Laid 0 bytes before after next → Wrote (written tested bytes before) 0 next after
laid_written {bytes = bytes} {before = before} {after = after} tested e room laid =
    record { number_is = rw e; written_is = rw e (rw zero-add at laid.next_is); buffer_is = rw e whole }
  where
    n : ℕ
    n = length bytes

    long : length after ≡ length (bytes ++ drop n before)
    long = omega (arith, laid_length laid, length-append bytes (drop n before), length-drop n before)

    each : (i : ℕ) (b : Bool) → ltb i n ≡ b → get_or after i 0 ≡ get_or (bytes ++ drop n before) i 0
    each i true t =
        let h = ltb-true i n t in
        ap (λ (j : ℕ). get_or after j 0) (sym (zero-add i)) ∙ laid.filled.filled i h ∙ sym (get_or-append bytes (drop n before) 0 i h)
    each i false t =
        let h = ltb-false i n t in
        let past : n + (i - n) ≡ i = omega arith in
        laid.filled.outside i (inr (omega (arith, mul-one (0 + n)))) ∙
        ap (λ (j : ℕ). get_or before j 0) (sym past) ∙ sym (get_or-drop n before (i - n) 0) ∙ sym (get_or-append-add bytes (drop n before) (i - n) 0) ∙
        ap (λ (j : ℕ). get_or (bytes ++ drop n before) j 0) past

    whole : after ≡ bytes ++ drop n before
    whole = ext_get_or 0 after (bytes ++ drop n before) long (λ i h. each i (ltb i n) refl)

-- .. and it stands there, up to the place that follows
pub laid_front : {l before after : List ℕ} {next : ℕ} → length l ≤ length before → Laid 0 l before after next → take next after ≡ l
laid_front {l = l} room laid = rw ((laid_written 0 refl room laid).buffer_is, laid.next_is, zero-add) (take-append_seam l _)
