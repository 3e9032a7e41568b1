-- What the comparison theorem speaks of: events of two processes paired one to one, actions in rising order, and one process that is as
-- easy as another.
use Rattle.std.specs.Prelude.{ℕ, ◌≤◌, ◌<◌, ◌≡◌, List, T, length, get_or}
use Rattle.process.specs.Ways.{Process, Among}

-- the numbers below n, paired one to one with each other: `there` takes each to its partner, and `back` returns
pub record OneToOne (n : ℕ) (there back : ℕ → ℕ) : Type 0 where
  pub there_below : (i : ℕ) → i < n → there i < n
  pub back_below : (i : ℕ) → i < n → back i < n
  pub back_there : (i : ℕ) → i < n → back (there i) ≡ i
  pub there_back : (i : ℕ) → i < n → there (back i) ≡ i

-- strictly rising
abbrev pub Rising : List ℕ → Type 0
Rising l = (i j : ℕ) → i < j → j < length l → get_or l i 0 < get_or l j 0

-- `Q` is as easy as `P` at states that R relates: where P's is alive so is Q's, each action allowed there has an answer at no more cost,
-- and R holds again after it and each pair of events
pub record Eases {S S' : Type 0} (P : Process S) (Q : Process S') (n : ℕ) (there : ℕ → ℕ) (R : S → S' → Type 0) : Type 0 where
  pub alive : (x : S) (y : S') → R x y → T (P.alive x) → T (Q.alive y)
  pub answer : (x : S) (y : S') (a : ℕ) → R x y → T (P.alive x) → Among P.actions a → T (P.allowed x a) →
      (b : ℕ) × Among Q.actions b × T (Q.allowed y b) × (Q.cost y b ≤ P.cost x a) ×
      ((i : ℕ) → i < n → R (P.next x a i) (Q.next y b (there i)))
  pub last : (x : S) (y : S') → R x y → T (P.alive x) → Q.last y ≤ P.last x
