-- "It is bearable (finishable) when w(u) is at most u times M for each u": the queue of a pool is bearable exactly where some order of service
-- at speed M misses no deadline over the next D slots if nothing more comes.
use Prim.Native.Nat.{ℕ, zero, suc, ◌*◌, ◌-◌, min, ◌≤◌, ◌<◌, zero-le}
use mathlib.Core.Path.{◌≡◌, refl, ap}
use mathlib.Core.Bool.{Bool, true, false, cond}
use mathlib.Core.Logic.{◌↔◌}
use native.Mathlib.Nat.{one-mul, suc-mul, mul-le-mul_right, not-suc-le-zero}
use native.Mathlib.Omega.{arith}
use lib.Dec.{T, leb}
use lib.ListN.{length}
use Rattle.model.specs.Queue.{Queue, total, bearable, one_slot}
use Rattle.model.proofs.Queues.{length_totals, length_slot, total_slot, bearable_upto, bearable_all}
use Rattle.jobs.specs.Pool.{Pool, due_within, queue_of_pool, NoneLate, SlotsUpto}
use Rattle.jobs.specs.Runs.{ArrivalsRight, Enough, quiet, Finishable, TotalsTell}
use Rattle.jobs.proofs.Sums.{due_more}
use Rattle.jobs.proofs.Slots.{total_of}
use Rattle.jobs.proofs.Runs.{totals_tell}

-- an arrival of no work adds nothing, due or not
adds_nothing : (b : Bool) → ◌≡◌ {A = ℕ} (cond b 0 0) 0
adds_nothing true = refl
adds_nothing false = refl

-- the totals after a slot in which nothing comes
total_quiet : (w : Queue) (M u : ℕ) → 1 ≤ u → u ≤ length w → total (one_slot w M 0 1) u ≡ total w (min (suc u) (length w)) - M
total_quiet w M u h k = omega (arith, total_slot w M 0 1 u h k, adds_nothing (leb 1 u))

-- nowhere above u * M: each quiet slot at speed M is enough
quiet_enough : (M : ℕ) (w : Queue) → 1 ≤ length w → ((u : ℕ) → u ≤ length w → total w u ≤ u * M) → (k : ℕ) → Enough w (quiet M k)
unfolding quiet
quiet_enough M w l h zero = tt
quiet_enough M w l h (suc k) =
    (omega (arith, h 1 l, one-mul M), quiet_enough M (one_slot w M 0 1) (omega (arith, length_slot w M 0 1)) next k)
  where
    next : (u : ℕ) → u ≤ length (one_slot w M 0 1) → total (one_slot w M 0 1) u ≤ u * M
    next zero m = zero-le
    next (suc i) m =
        let here : suc i ≤ length w = omega (arith, length_slot w M 0 1) in
        let v = min (suc (suc i)) (length w) in
        let high : v ≤ suc (suc i) = omega arith in
        omega (
          arith,
          total_quiet w M (suc i) (omega arith) here,
          h v (omega arith),
          mul-le-mul_right M high,
          suc-mul (suc i) M,
        )

-- each of k quiet slots at speed M enough: nowhere above u * M, up to k
enough_quiet : (M k : ℕ) (w : Queue) → Enough w (quiet M k) → (u : ℕ) → u ≤ k → u ≤ length w → total w u ≤ u * M
unfolding quiet
enough_quiet M zero w e zero h l = zero-le
enough_quiet M zero w e (suc u) h l = absurd (not-suc-le-zero h)
enough_quiet M (suc k) w e zero h l = zero-le
enough_quiet M (suc k) w e (suc zero) h l = omega (arith, e.0, one-mul M)
enough_quiet M (suc k) w e (suc (suc i)) h l =
    let whole : min (suc (suc i)) (length w) ≡ suc (suc i) = omega arith in
    omega (
      arith,
      enough_quiet M k (one_slot w M 0 1) e.1 (suc i) (omega arith) (omega (arith, length_slot w M 0 1)),
      total_quiet w M (suc i) (omega arith) (omega arith),
      ap (total w) whole,
      suc-mul (suc i) M,
    )

quiet_arrivals : (M D : ℕ) → 1 ≤ D → (k : ℕ) → ArrivalsRight D (quiet M k)
unfolding quiet
quiet_arrivals M D l zero = tt
quiet_arrivals M D l (suc k) = (omega arith, l, quiet_arrivals M D l k)

-- the queue of a pool never falls
pub own_never_falls : (D : ℕ) (p : Pool) (i : ℕ) → i < D → total (queue_of_pool D p) i ≤ total (queue_of_pool D p) (suc i)
own_never_falls D p zero h = zero-le
own_never_falls D p (suc i) h =
    omega (
      arith,
      total_of D p (suc i) (omega arith) (omega arith),
      total_of D p (suc (suc i)) (omega arith) h,
      due_more p (suc i) (suc (suc i)) (omega arith),
    )

-- the theorem: bearable is finishable
pub bearable_finishable : (D : ℕ) → 1 ≤ D → (p : Pool) → SlotsUpto D p → NoneLate p → (M : ℕ) →
    T (bearable M (queue_of_pool D p)) ↔ Finishable M D p
bearable_finishable D l p h n M = (
  λ b. tell.some_order.0 (quiet_enough M w (omega (arith, len)) (bearable_upto M w b) D),
  λ m. bearable_all M w (λ i k. (
    own_never_falls D p i (omega (arith, len)),
    enough_quiet M D w (tell.some_order.1 m) (suc i) (omega (arith, len)) k,
  )),
)
  where
    w : Queue
    w = queue_of_pool D p

    len : length w ≡ D
    len = length_totals D (due_within p)

    tell : TotalsTell D p (quiet M D)
    tell = totals_tell D l p h n (quiet M D) (quiet_arrivals M D l D)
