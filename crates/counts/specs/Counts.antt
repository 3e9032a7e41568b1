-- Document 01's constant of counts: which number stands at which of its 2,352 places.
use Rattle.std.specs.Prelude.{ℕ, ◌+◌, ◌-◌, ◌*◌, ◌≤◌, ◌<◌, ◌≡◌, List, length, get_or}
use Rattle.model.specs.Queue.{continuation_count}

-- "largest speed 1 to 8, r 0 to 5, slack 0 to 48"
abbrev pub table_place : ℕ → ℕ → ℕ → ℕ
table_place M r g = (M - 1) * 294 + r * 49 + g

-- "A place with g above (6-r) times M is never needed": the places that are
pub record InTable (M r g : ℕ) : Type 0 where
  pub speed_low : 1 ≤ M
  pub speed_high : M ≤ 8
  pub left_high : r ≤ 5
  pub slack_high : g ≤ (6 - r) * M

-- ".. and holds zero; at every other place the recurrence is proved"
pub record HoldsCounts (table : List ℕ) : Type 0 where
  pub places : length table ≡ 2352
  pub needed : (M r g : ℕ) → InTable M r g → get_or table (table_place M r g) 0 ≡ continuation_count M r g
  pub unneeded : (M r g : ℕ) → 1 ≤ M → M ≤ 8 → r ≤ 5 → (6 - r) * M < g → g ≤ 48 → get_or table (table_place M r g) 0 ≡ 0
