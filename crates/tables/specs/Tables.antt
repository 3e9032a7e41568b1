-- What a kind of table is in the model: its count, and so many entries, one after another. And a table as it stands in memory.
use Rattle.std.specs.Prelude.{ℕ, suc, ◌≡◌, Bool, List, [], ◌∷◌, length}
use Rattle.model.specs.Reading.{Answer, value, refused, Reader, ◌>>=◌, ◌>>◌, done, test, field}
use Rattle.model.specs.Tests.{padded}

-- `one` reads an entry at a place, after the entry before it; `all` reads so many from a place on; `whole` reads the table
pub record IsTable {A : Type 0} (none : A) (count_right : ℕ → Bool) (number : ℕ) (one : ℕ → A → Reader A) (all : ℕ → ℕ → A → Reader (List A)) (whole : Reader (List A)) : Type 0 where
  -- no entry is left
  pub none_left : (place : ℕ) (before : A) → all 0 place before ≡ done []
  -- one entry, and then the others
  pub some_left : (left place : ℕ) (before : A) →
      all (suc left) place before ≡ ◌>>=◌ (one place before) (λ entry. ◌>>=◌ (all left (suc place) entry) (λ rest. done (entry ∷ rest)))
  -- the count is read and tested, and then the entries
  pub counted : whole ≡ ◌>>=◌ field (λ count. ◌>>◌ (test (count_right count) number) (all count 0 none))

-- what was read, as it stands in memory: the count, and the places, the ones past the count filled with `none`
abbrev pub in_memory : {A : Type 0} → (places : ℕ) → A → Answer (List A) → Answer (ℕ × List A)
in_memory places none (value entries next) = value (length entries, padded places none entries) next
in_memory places none (refused number) = refused number
