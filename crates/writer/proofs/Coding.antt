-- A number's code, one group of seven bits at a time: what each turn of `put_number` knows.
use Prim.Native.Nat.{ℕ, zero, suc, ◌+◌, ◌-◌, ◌^◌, ◌%◌, ◌/◌, ◌≤◌, ◌<◌}
use mathlib.Core.Path.{◌≡◌, refl, sym, ap, ◌∙◌, subst}
use mathlib.Core.List.{List, [], ◌∷◌, ◌++◌, append_assoc}
use native.Mathlib.Nat.{not-suc-le-zero}
use native.Mathlib.Omega.{arith}
use borrow.Author.Tests.{lt-ltb, le-ltb}
use lib.ListN.{length, length-append}
use Rattle.laws.proofs.Codes.{rest_shorter}
use Rattle.model.specs.Bytes.{code_in, code}
use Rattle.sinks.specs.Laws.{Takes}

-- the last group
pub code_last : (most x : ℕ) → 1 ≤ most → x < 128 → code_in most x ≡ x ∷ []
unfolding code_in
code_last zero x some h = absurd (not-suc-le-zero some)
code_last (suc n) x some h = rw (lt-ltb x 128 h)

-- a group, and then the code of the others
pub code_more : (most x : ℕ) → 1 ≤ most → 128 ≤ x → code_in most x ≡ (128 + x % 128) ∷ code_in (most - 1) (x / 128)
unfolding code_in
code_more zero x some h = absurd (not-suc-le-zero some)
code_more (suc n) x some h = let less : suc n - 1 ≡ n = omega arith in rw (le-ltb x 128 h, less)

-- the code of x begins with the groups that are put, and what follows is the code of `rest` in at most `most` bytes
pub record PutGroups {A : Type 0} (HasRoom : A → ℕ → Type 0) (Puts : A → List ℕ → A → Type 0) (x : ℕ) (s : A) (rest : ℕ) (t : A) : Type 0 where
  pub most : ℕ
  pub groups : List ℕ
  pub some : 1 ≤ most
  pub short : rest < 128 ^ most
  pub whole : code x ≡ groups ++ code_in most rest
  pub room : HasRoom s (length (code x))
  pub put : Puts s groups t

module _ {A : Type 0} {HasRoom : A → ℕ → Type 0} {Puts : A → List ℕ → A → Type 0} (takes : Takes HasRoom Puts) where
  -- it begins with none
  pub groups_none : {x : ℕ} {s : A} → x < 128 ^ 3 → HasRoom s (length (code x)) → PutGroups HasRoom Puts x s x s
  groups_none {x} {s} short room =
      record { most = 3; groups = []; some = omega arith; short = short; whole = refl; room = room; put = takes.none s }

  module _ {x rest : ℕ} {s t : A} (to : PutGroups HasRoom Puts x s rest t) where
    -- there is room for what follows, and for its first byte
    first_room : {b : ℕ} {others : List ℕ} → code_in to.most rest ≡ b ∷ others → HasRoom t 1
    first_room {b} {others} e =
        takes.room_left s t to.groups 1 to.put
        (takes.room_less s (length to.groups + 1) (length (code x))
        (omega (arith, ap length (to.whole ∙ ap (λ (l : List ℕ). to.groups ++ l) e), length-append to.groups (b ∷ others))) to.room)

    -- where it is not the last, another group has room
    pub groups_room : 128 ≤ rest → HasRoom t 1
    groups_room more = first_room (code_more to.most rest to.some more)

    -- .. and once it is put, one group more is
    pub groups_more : {u : A} → 128 ≤ rest → Puts t ((128 + rest % 128) ∷ []) u → PutGroups HasRoom Puts x s (rest / 128) u
    groups_more {u} more second =
        let less = rest_shorter 128 to.most rest (omega arith) more to.short in
        let byte = 128 + rest % 128 in
        record {
          most = to.most - 1;
          groups = to.groups ++ byte ∷ [];
          some = less.0;
          short = less.1;
          whole = to.whole ∙ ap (λ (l : List ℕ). to.groups ++ l) (code_more to.most rest to.some more) ∙
              sym (append_assoc to.groups (byte ∷ []) (code_in (to.most - 1) (rest / 128)));
          room = to.room;
          put = takes.more s t u to.groups (byte ∷ []) to.put second;
        }

    -- the last has room
    pub groups_last_room : rest < 128 → HasRoom t 1
    groups_last_room last = first_room (code_last to.most rest to.some last)

    -- .. and once it is put, the code is
    pub groups_all : {u : A} → rest < 128 → Puts t (rest ∷ []) u → Puts s (code x) u
    groups_all {u} last second =
        let e : code x ≡ to.groups ++ rest ∷ [] = to.whole ∙ ap (λ (l : List ℕ). to.groups ++ l) (code_last to.most rest to.some last) in
        subst (λ (l : List ℕ). Puts s l u) (sym e) (takes.more s t u to.groups (rest ∷ []) to.put second)
