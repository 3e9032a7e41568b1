-- What a call leaves in a lent buffer that it fills from a place on. The buffer may hold values, or plain numbers such as plan bytes: a
-- reader says what stands at a place, and `places` how many places of the buffer that takes.
use Rattle.std.specs.Prelude.{ℕ, suc, ◌+◌, ◌*◌, ◌≤◌, ◌<◌, ◌≡◌, List, ◌⊎◌, length, get_or}

-- a plain number at each place
abbrev pub number_at : List ℕ → ℕ → ℕ
number_at l i = get_or l i 0

-- from place `from` on stand n things, f 0 to f (n - 1); outside them every place of the buffer holds what it held
pub record Fills {A : Type 0} (places : ℕ) (reader : List ℕ → ℕ → A) (f : ℕ → A) (from n : ℕ) (before after : List ℕ) : Type 0 where
  pub same_length : length after ≡ length before
  pub filled : (i : ℕ) → i < n → reader after (from + i) ≡ f i
  pub outside : (p : ℕ) → (p < from * places) ⊎ ((from + n) * places ≤ p) → get_or after p 0 ≡ get_or before p 0

-- from place `from` on stands each thing f i for which `done` holds of i; a place that belongs to none of these holds what it held
pub record FillsWhere {A : Type 0} (places : ℕ) (reader : List ℕ → ℕ → A) (f : ℕ → A) (from : ℕ) (done : ℕ → Type 0) (before after : List ℕ) :
    Type 0 where
  pub same_length : length after ≡ length before
  pub filled : (i : ℕ) → done i → reader after (from + i) ≡ f i
  pub outside : (p : ℕ) → ((i : ℕ) → done i → (p < (from + i) * places) ⊎ (suc (from + i) * places ≤ p)) → get_or after p 0 ≡ get_or before p 0
