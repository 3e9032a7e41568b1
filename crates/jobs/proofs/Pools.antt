-- Every queue that never falls, and so every bearable one, is the queue of a pool, with one job for each position: its work is what the
-- total rises by there.
use Prim.Native.Nat.{ℕ, zero, suc, ◌+◌, ◌-◌, ◌≤◌, ◌<◌}
use mathlib.Core.Path.{◌≡◌, refl, ◌∙◌}
use mathlib.Core.List.{List, [], ◌∷◌}
use native.Mathlib.Nat.{not-suc-le-zero}
use native.Mathlib.Omega.{arith}
use borrow.Author.Tests.{le-leb, lt-leb}
use lib.Dec.{T}
use lib.ListN.{length, get_or}
use Rattle.model.specs.Queue.{Queue, total, NeverFalls, bearable}
use Rattle.model.proofs.Queues.{length_totals, same_totals, bearable_at_lem}
use Rattle.jobs.specs.Pool.{Pool, work_where, due_within, queue_of_pool, NoneLate, SlotsUpto, PoolOf}
use Rattle.jobs.proofs.Slots.{total_of}

-- the jobs of the totals w, the first due within d slots, after a total x
rises : ℕ → ℕ → List ℕ → Pool
rises d x [] = []
rises d x (y ∷ w) = record { work = y - x; slots = d } ∷ rises (suc d) y w

-- none is due before d
rises_before : (d x : ℕ) (w : List ℕ) (u : ℕ) → u < d → due_within (rises d x w) u ≡ 0
unfolding rises work_where
rises_before d x [] u h = refl
rises_before d x (y ∷ w) u h = rw (lt-leb d u h) (omega (arith, rises_before (suc d) y w u (omega arith)))

-- within d + i slots is due what the total there is above x
rises_at : (d x : ℕ) (w : List ℕ) → ((i : ℕ) → i < length w → get_or (x ∷ w) i 0 ≤ get_or w i 0) →
    (i u : ℕ) → u ≡ d + i → i < length w → due_within (rises d x w) u + x ≡ get_or w i 0
unfolding rises work_where
rises_at d x [] h i u e l = absurd (not-suc-le-zero l)
rises_at d x (y ∷ w) h zero u e l =
    rw (le-leb d u (omega arith)) (omega (arith, h zero (omega arith), rises_before (suc d) y w u (omega arith)))
rises_at d x (y ∷ w) h (suc i) u e l =
    rw (le-leb d u (omega arith))
    (omega (arith, h zero (omega arith), rises_at (suc d) y w (λ j k. h (suc j) (omega arith)) i u (omega arith) (omega arith)))

rises_upto : (d x : ℕ) (w : List ℕ) (D : ℕ) → d + length w ≤ suc D → SlotsUpto D (rises d x w)
unfolding rises
rises_upto d x [] D h = tt
rises_upto d x (y ∷ w) D h = (omega arith, rises_upto (suc d) y w D (omega arith))

rises_on_time : (d x : ℕ) (w : List ℕ) → 1 ≤ d → NoneLate (rises d x w)
unfolding rises
rises_on_time d x [] h = tt
rises_on_time d x (y ∷ w) h = (λ late. omega (arith, late.1), rises_on_time (suc d) y w (omega arith))

-- every queue that never falls is that of a pool
pub every_queue : (w : Queue) → NeverFalls w → PoolOf w
every_queue w f =
    record {
      pool = rises 1 0 w;
      is = same_totals (queue_of_pool (length w) (rises 1 0 w)) w len each;
      upto = rises_upto 1 0 w (length w) (omega arith);
      on_time = rises_on_time 1 0 w (omega arith);
    }
  where
    len : length (queue_of_pool (length w) (rises 1 0 w)) ≡ length w
    len = length_totals (length w) (due_within (rises 1 0 w))

    climbs : (i : ℕ) → i < length w → get_or (0 ∷ w) i 0 ≤ get_or w i 0
    climbs zero h = f zero h
    climbs (suc i) h = f (suc i) h

    each : (u : ℕ) → 1 ≤ u → u ≤ length (queue_of_pool (length w) (rises 1 0 w)) → total (queue_of_pool (length w) (rises 1 0 w)) u ≡ total w u
    each zero h l = absurd (not-suc-le-zero h)
    each (suc i) h l =
        total_of (length w) (rises 1 0 w) (suc i) h (omega (arith, len)) ∙
        omega (arith, rises_at 1 0 w climbs i (suc i) (omega arith) (omega (arith, len)))

-- and so has every bearable queue
pub bearable_pool : (M : ℕ) (w : Queue) → T (bearable M w) → PoolOf w
bearable_pool M w t = every_queue w (λ u h. (bearable_at_lem M w t u h).0)
