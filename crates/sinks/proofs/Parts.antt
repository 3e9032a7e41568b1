-- Bytes put part by part: what there is room for at each part, and what is put behind the last.
use Prim.Native.Nat.{ℕ, suc, ◌+◌, ◌≤◌, ◌<◌}
use mathlib.Core.Path.{◌≡◌, ap}
use mathlib.Core.List.{List, ◌++◌}
use native.Mathlib.Numerals.{add-one}
use native.Mathlib.Omega.{arith}
use lib.ListN.{length, length-append}
use Rattle.model.specs.Tests.{in_turn}
use Rattle.model.proofs.Tests.{turn_upto}
use Rattle.sinks.specs.Laws.{Takes}

-- how far a loop over n lists in turn has come: there is room for all, and the first j are put
pub record PutTo {A : Type 0} (HasRoom : A → ℕ → Type 0) (Puts : A → List ℕ → A → Type 0)
    (f : ℕ → List ℕ) (n : ℕ) (s : A) (j : ℕ) (t : A) : Type 0 where
  pub upto : j ≤ n
  pub room : HasRoom s (length (in_turn f n))
  pub first : Puts s (in_turn f j) t

module _ {A : Type 0} {HasRoom : A → ℕ → Type 0} {Puts : A → List ℕ → A → Type 0} (takes : Takes HasRoom Puts) where
  -- room for two lists is room for the first
  pub room_first : {s : A} (l m : List ℕ) → HasRoom s (length (l ++ m)) → HasRoom s (length l)
  room_first {s} l m room = takes.room_less s (length l) (length (l ++ m)) (omega (arith, length-append l m)) room

  -- .. and, once that is put, for the second
  pub room_then : {s t : A} (l m : List ℕ) → Puts s l t → HasRoom s (length (l ++ m)) → HasRoom t (length m)
  room_then {s} {t} l m puts room =
      takes.room_left s t l (length m) puts (takes.room_less s (length l + length m) (length (l ++ m)) (omega (arith, length-append l m)) room)

  -- it begins with none
  pub put_to_none : {f : ℕ → List ℕ} {n : ℕ} {s : A} → HasRoom s (length (in_turn f n)) → PutTo HasRoom Puts f n s 0 s
  unfolding in_turn
  put_to_none {s = s} room = record { upto = omega arith; room = room; first = takes.none s }

  module _ {f : ℕ → List ℕ} {n : ℕ} {s : A} {j : ℕ} {t : A} (to : PutTo HasRoom Puts f n s j t) (inside : j < n) where
    -- the list that comes next has room
    pub put_to_room : {l : List ℕ} → f j ≡ l → HasRoom t (length l)
    unfolding in_turn
    put_to_room {l} here =
        takes.room_left s t (in_turn f j) (length l) to.first
        (takes.room_less s (length (in_turn f j) + length l) (length (in_turn f n))
        (omega (arith, turn_upto f (suc j) n inside, length-append (in_turn f j) (f j), ap length here)) to.room)

    -- once it is put, one list more is
    pub put_to_more : {l : List ℕ} {u : A} → f j ≡ l → Puts t l u → PutTo HasRoom Puts f n s (j + 1) u
    unfolding in_turn
    put_to_more {l} {u} here second =
        record {
          upto = omega arith;
          room = to.room;
          first = rw (add-one, here) (takes.more s t u (in_turn f j) l to.first second);
        }

  -- at the end all are
  pub put_to_whole : {f : ℕ → List ℕ} {n : ℕ} {s : A} {j : ℕ} {t : A} → PutTo HasRoom Puts f n s j t → n ≤ j → Puts s (in_turn f n) t
  put_to_whole {j = j} to h = let whole : j ≡ _ = omega arith in rw whole at to.first
