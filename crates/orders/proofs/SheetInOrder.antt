-- The numbers of a sheet's lines, in memory and as it is read: a test that holds of each of them holds of every line's number (`Each` of
-- InOrder.antt). So a call names the numbers of its own lines alone.
use Prim.Native.Nat.{ℕ}
use mathlib.Core.Bool.{Bool}
use mathlib.Core.List.{List, [], ◌∷◌}
use lib.Dec.{T}
use Rattle.model.specs.View.{View}
use Rattle.model.specs.Refusal.{speeds_lines, jobs_lines, field_lines, limit_lines, lines_given, sheet_lines}
use Rattle.model.specs.Tests.{Lines}
use Rattle.orders.proofs.InOrder.{Each}

-- the test holds of each of these numbers
abbrev pub EachNumber : (ℕ → Bool) → List ℕ → Type 0
EachNumber so [] = Unit {0}
EachNumber so (n ∷ l) = T (so n) × EachNumber so l

module _ (so : ℕ → Bool) (s : View) where
  -- 4 to 8, and those of what is tested where a number is read
  pub each_field : (reading : ℕ → Lines) → ((k : ℕ) → Each so (reading k)) → EachNumber so (4 ∷ 5 ∷ 6 ∷ 7 ∷ 8 ∷ []) → Each so (field_lines reading s)
  unfolding field_lines speeds_lines jobs_lines
  each_field reading r h =
      let five = h.1.0 in
      let six = h.1.1.0 in
      let seven = h.1.1.1.0 in
      let eight = h.1.1.1.1.0 in
      (r _, (h.0, (r _, (five, ((λ j. (r _, (five, (r _, six)))), (r _, (seven, (r _, (eight, (λ i. (r _, (eight, (r _, (eight, (r _, eight)))))))))))))))

  -- 9 and 10
  pub each_limit : (limit queues : ℕ) → EachNumber so (9 ∷ 10 ∷ []) → Each so (limit_lines limit queues s)
  unfolding limit_lines
  each_limit limit queues h = (h.0, h.1.0)

  -- 4 to 10, of a sheet in memory
  pub each_of_sheet : (limit : ℕ) → EachNumber so (4 ∷ 5 ∷ 6 ∷ 7 ∷ 8 ∷ []) → EachNumber so (9 ∷ 10 ∷ []) → Each so (sheet_lines limit s)
  unfolding sheet_lines lines_given
  each_of_sheet limit h k = (each_field _ (λ k. tt) h, each_limit limit _ k)
