-- What holds of everything that takes bytes: of its room, and of what it is before and after bytes are put.
use Rattle.std.specs.Prelude.{ℕ, ◌+◌, ◌<◌, ◌≤◌, ◌≡◌, List, [], ◌++◌, length, Result, Ok, Err}
use Rattle.buffers.specs.Laid.{Laid}
use Rattle.refusals.specs.declared.Refusal.{Refusal}
use Rattle.refusals.specs.declared.Refusal.TheVariants as refusal

-- with room for so many bytes, there is room for fewer and, once some are put, for the others; nothing changes nothing; some bytes and then
-- others are the two as one
pub record Takes {A : Type 0} (HasRoom : A → ℕ → Type 0) (Puts : A → List ℕ → A → Type 0) : Type 0 where
  pub room_less : (s : A) (m n : ℕ) → m ≤ n → HasRoom s n → HasRoom s m
  pub room_left : (s t : A) (l : List ℕ) (n : ℕ) → Puts s l t → HasRoom s (length l + n) → HasRoom t n
  pub none : (s : A) → Puts s [] s
  pub more : (s t u : A) (l m : List ℕ) → Puts s l t → Puts t m u → Puts s (l ++ m) u

-- how a whole is written: its bytes stand from the first place on, up to the place that is answered
pub record Written (bytes before after : List ℕ) (end : ℕ) : Type 0 where
  pub room : length bytes ≤ length before
  pub laid : Laid 0 bytes before after end

-- .. and how it is refused: the buffer is too short for them, and holds what it held
pub record TooShort (bytes before after : List ℕ) (why : Refusal) : Type 0 where
  pub short : length before < length bytes
  pub same : after ≡ before
  pub why_is : why ≡ refusal.Room

-- the length that a call answers: 0 where it refuses
abbrev pub length_of : Result ℕ Refusal → ℕ
length_of (Ok n) = n
length_of (Err why) = 0
