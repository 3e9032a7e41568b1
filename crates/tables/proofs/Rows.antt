-- A table, entry by entry: the entries read so far, followed by those that are read from here on, are all that are read.
use Prim.Native.Nat.{ℕ, zero, suc, ◌+◌, ◌-◌, ◌≤◌, ◌<◌}
use mathlib.Core.Path.{◌≡◌, refl, ap}
use mathlib.Core.Bool.{Bool}
use mathlib.Core.List.{List, [], ◌∷◌, ◌++◌, append_assoc, append-nil}
use native.Mathlib.Nat.{le_refl, not-suc-le-zero, le_of_suc-le-suc, sub-zero, sub-eq-zero_of_le}
use native.Mathlib.Numerals.{add-one}
use native.Mathlib.Omega.{arith}
use lib.ListN.{length, take, set, replicate, length-append}
use Rattle.laws.proofs.Readers.{headed}
use Rattle.model.specs.Reading.{Answer, value, refused, Reader, onward}
use Rattle.model.specs.Tests.{padded}
use Rattle.tables.specs.Tables.{IsTable, in_memory}

-- places past the end of a list

-- the first places of many that all hold the same
zeros : {A : Type 0} (z : A) (n k : ℕ) → n ≤ k → take n (replicate k z) ≡ replicate n z
zeros z zero k h = refl
zeros z (suc n) zero h = absurd (not-suc-le-zero h)
zeros z (suc n) (suc k) h = ap (λ l. z ∷ l) (zeros z n k (le_of_suc-le-suc h))

-- an entry stored at the first place past the end
stored : {A : Type 0} (z x : A) (l : List A) (n k : ℕ) → length l < n → n ≤ k →
    set (take n (l ++ replicate k z)) (length l) x ≡ take n (l ++ (x ∷ []) ++ replicate k z)
stored z x l zero k h m = absurd (not-suc-le-zero h)
stored z x [] (suc n) k h m = let p : n ≤ k = omega arith in rw (zeros z (suc n) k m, zeros z n k p)
stored z x (y ∷ l) (suc n) k h m = ap (λ l. y ∷ l) (stored z x l n k (le_of_suc-le-suc h) (omega arith))

-- entries in front of an answer

abbrev pub in_front : {A : Type 0} → List A → Answer (List A) → Answer (List A)
in_front l (value rest next) = value (l ++ rest) next
in_front l (refused k) = refused k

-- no entries in front
in_front_none : {A : Type 0} (x : Answer (List A)) → in_front [] x ≡ x
in_front_none (value rest next) = refl
in_front_none (refused k) = refl

-- entries in front, and one after them
in_front_one : {A : Type 0} (l : List A) (one : A) (x : Answer (List A)) → in_front l (in_front (one ∷ []) x) ≡ in_front (l ++ (one ∷ [])) x
in_front_one l one (value rest next) = rw append_assoc
in_front_one l one (refused k) = refl

-- a reader reads one entry and then the others
pub record Heads {A : Type 0} (left : Reader (List A)) (r : Reader A) (more : A → Reader (List A)) : Type 0 where
  pub is : left ≡ headed r more

module _ {A : Type 0} {left : Reader (List A)} {r : Reader A} {more : A → Reader (List A)} (h : Heads left r more)
    {bytes : List ℕ} {at : ℕ} where
  -- an entry that was read stands in front of the others
  head_read : {one : A} {next : ℕ} → r bytes at ≡ value one next → left bytes at ≡ in_front (one ∷ []) (more one bytes next)
  head_read {one = one} {next = next} e = rw (h.is, e) (go (more one bytes next))
    where
      go : (x : Answer (List A)) → onward x (λ rest n. value (one ∷ rest) n) ≡ in_front (one ∷ []) x
      go (value rest n) = refl
      go (refused k) = refl

  -- an entry that was refused is the answer
  head_refused : {k : ℕ} → r bytes at ≡ refused k → left bytes at ≡ refused k
  head_refused e = rw (h.is, e)

-- a table of n places, z past the count

-- it is read up to a place: the entries so far stand in their places, and in front of the rest they are the whole
pub record SoFar {A : Type 0} (n : ℕ) (z : A) (place : ℕ) (places : List A) (whole rest : Answer (List A)) : Type 0 where
  pub entries : List A
  pub many : length entries ≡ place
  pub held : places ≡ padded n z entries
  pub goes : whole ≡ in_front entries rest

-- nothing is read yet, and all is left
pub begins : {A : Type 0} (n : ℕ) (z : A) (read : ℕ → Answer (List A)) (count : ℕ) {places : List A} → places ≡ replicate n z →
    SoFar n z 0 places (read count) (read (count - 0))
begins n z read count empty =
    record {
      entries = [];
      many = refl;
      held = rw (zeros z n n (le_refl n)) empty;
      goes = rw (in_front_none, sub-zero);
    }

module _ {A : Type 0} {n place next : ℕ} {z : A} {places : List A} {bytes : List ℕ} {whole : Answer (List A)} {left : Reader (List A)}
    {r : Reader A} {more : A → Reader (List A)} (h : Heads left r more) (s : SoFar n z place places whole (left bytes next)) where
  -- one entry more is read, and stored in its place
  pub goes_on : {one : A} {after : ℕ} → place < n → r bytes next ≡ value one after →
      SoFar n z (place + 1) (set places place one) whole (more one bytes after)
  goes_on {one = one} k e =
      record {
        entries = s.entries ++ (one ∷ []);
        many = rw (length-append, s.many);
        held = rw (s.held, ← s.many) (stored z one s.entries n n (rw s.many k) (le_refl n));
        goes = rw (s.goes, head_read h e, in_front_one);
      }

  -- the next entry is refused: so is the whole
  pub stops : {k : ℕ} → r bytes next ≡ refused k → refused k ≡ in_memory n z whole
  stops e = rw (s.goes, head_refused h e)

-- no entry is left: the table in memory is the whole
pub ends : {A : Type 0} {n place count next : ℕ} {z : A} {places : List A} {whole rest : Answer (List A)} →
    SoFar n z place places whole rest → rest ≡ value [] next → place ≡ count →
    value (count, places) next ≡ in_memory n z whole
ends s d e = rw (s.goes, d, append-nil, s.held, s.many, e)

-- what is left at a place, and at the one after it
left_more : (count place : ℕ) → place < count → count - place ≡ suc (count - (place + 1))
left_more count place h = omega arith

module _ {A : Type 0} {none : A} {right : ℕ → Bool} {number : ℕ} {one : ℕ → A → Reader A} {all : ℕ → ℕ → A → Reader (List A)}
    {whole : Reader (List A)} (h : IsTable none right number one all whole) where
  -- while entries are left, one and then the others
  pub next_entry : (count place : ℕ) (before : A) → place < count →
      Heads (all (count - place) place before) (one place before) (λ entry. all (count - (place + 1)) (place + 1) entry)
  next_entry count place before k = record { is = rw (left_more count place k, h.some_left, add-one) }

  -- no entry is left
  pub no_entry_left : (count place : ℕ) (before : A) (bytes : List ℕ) (next : ℕ) → count ≤ place →
      all (count - place) place before bytes next ≡ value [] next
  no_entry_left count place before bytes next k = rw (sub-eq-zero_of_le k, h.none_left)
