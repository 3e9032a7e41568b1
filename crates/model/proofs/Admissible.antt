-- A good way, said by admissible speeds: "A speed is admissible in a queue when it is on the sheet, is at least w(1), and every entry of
-- the sheet leads to a bearable queue". Document 01 has both; here they are the same.
use Prim.Native.Nat.{ℕ, zero, suc, ◌<◌}
use mathlib.Core.Bool.{Bool, ◌&&◌}
use mathlib.Core.List.{List, [], ◌∷◌}
use mathlib.Core.Logic.{◌↔◌}
use lib.Dec.{T, leb}
use Rattle.process.specs.Sums.{Events}
use Rattle.process.specs.Ways.{Way, later, Along, Good}
use Rattle.process.proofs.Value.{good_step}
use Rattle.model.specs.View.{View, weight_at, on_sheet, M}
use Rattle.model.specs.Queue.{Queue, total, bearable}
use Rattle.model.specs.Plan.{next_queue, process_of, admissible, AlongAdmissible}
use Rattle.model.specs.Tests.{everywhere}
use Rattle.model.proofs.Tests.{and_left, and_right, and_both, everywhere_at, everywhere_all}
use Rattle.model.proofs.View.{on_sheet_lem}

-- a speed is admissible exactly where it is on the sheet, at least w(1), and each entry leads to a bearable queue
pub admissible_says : (s : View) (w : Queue) (a : ℕ) →
    T (admissible s w a) ↔
    (T (on_sheet s a) × T (leb (total w 1) a) × ((i : ℕ) → i < s.job_count → T (bearable (M s) (next_queue s w a i))))
unfolding admissible
admissible_says s w a = (
  λ t.
      let u = and_left (on_sheet s a && enough) all t in
      let r = and_right (on_sheet s a && enough) all t in
      (and_left (on_sheet s a) enough u, and_right (on_sheet s a) enough u, everywhere_at test s.job_count r),
  λ t. and_both (on_sheet s a && enough) all (and_both (on_sheet s a) enough t.0 t.1) (everywhere_all test s.job_count t.2),
)
  where
    test : ℕ → Bool
    test i = bearable (M s) (next_queue s w a i)

    enough : Bool
    enough = leb (total w 1) a

    all : Bool
    all = everywhere test s.job_count

-- along a list whose speeds are admissible, from a bearable queue, every queue is bearable and every speed is on the sheet and enough
along_admissible : (s : View) (k : ℕ) (w : Queue) (σ : Way) (l : List ℕ) → Events s.job_count k l → T (bearable (M s) w) →
    AlongAdmissible s w σ l → Along (process_of s) w σ l
unfolding process_of
along_admissible s zero w σ [] e b a = b
along_admissible s zero w σ (i ∷ l) e b a = absurd e
along_admissible s (suc k) w σ [] e b a = absurd e
along_admissible s (suc k) w σ (i ∷ l) e b a =
    let t = (admissible_says s w (σ [])).0 a.0 in
    (b, (on_sheet_lem s (σ [])).0 t.0, t.1, along_admissible s k (next_queue s w (σ []) i) (later σ i) l e.1 (t.2 i e.0) a.1)

-- the queue at which a good way begins is bearable
pub good_bearable : (s : View) → 0 < s.job_count → (k : ℕ) (w : Queue) (σ : Way) → Good (process_of s) s.job_count k w σ →
    T (bearable (M s) w)
unfolding process_of
good_bearable s h zero w σ g = g [] tt
good_bearable s h (suc k) w σ g = (good_step (process_of s) s.job_count (weight_at s) h k w σ g).0

-- a good way's speeds are admissible along every list
good_along : (s : View) → 0 < s.job_count → (k : ℕ) (w : Queue) (σ : Way) → Good (process_of s) s.job_count k w σ →
    (l : List ℕ) → Events s.job_count k l → AlongAdmissible s w σ l
unfolding process_of
good_along s h zero w σ g [] e = tt
good_along s h zero w σ g (i ∷ l) e = absurd e
good_along s h (suc k) w σ g [] e = absurd e
good_along s h (suc k) w σ g (i ∷ l) e =
    let t = good_step (process_of s) s.job_count (weight_at s) h k w σ g in (
      (admissible_says s w (σ [])).1
          ((on_sheet_lem s (σ [])).1 t.1, t.2, λ j b. good_bearable s h k (next_queue s w (σ []) j) (later σ j) (t.3 j b)),
      good_along s h k (next_queue s w (σ []) i) (later σ i) (t.3 i e.0) l e.1,
    )

-- a way is good exactly when the start is bearable and, along every list, each speed is admissible
pub good_admissible : (s : View) → 0 < s.job_count → (k : ℕ) (w : Queue) (σ : Way) →
    Good (process_of s) s.job_count k w σ ↔
    (T (bearable (M s) w) × ((l : List ℕ) → Events s.job_count k l → AlongAdmissible s w σ l))
good_admissible s h k w σ =
    (λ g. (good_bearable s h k w σ g, good_along s h k w σ g), λ a l e. along_admissible s k w σ l e a.0 (a.1 l e))
