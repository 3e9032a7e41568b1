-- Along a run, earliest deadline first leaves after each slot, within every u, no more due than any other order of service.
use Prim.Native.Nat.{suc}
use mathlib.Core.List.{List, [], ◌∷◌}
use native.Mathlib.Nat.{le_refl}
use native.Mathlib.Omega.{arith}
use Rattle.jobs.specs.Given.{ServesAlong}
use Rattle.jobs.specs.Pool.{Pool, due_within, NoMoreDue}
use Rattle.jobs.specs.Runs.{Slot, next_pool, pool_after, earliest_run}
use Rattle.jobs.specs.Service.{Service, Serves, earliest}
use Rattle.jobs.proofs.Sums.{serves_leaves}
use Rattle.jobs.proofs.Earliest.{earliest_leaves}
use Rattle.jobs.proofs.Slots.{due_next}
use Rattle.jobs.proofs.Given.{serves_first, serves_later}

-- a slot of earliest deadline first keeps it so, against any service of p
earliest_keeps : (q p : Pool) (t : Service) (x : Slot) → Serves x.speed p t → NoMoreDue q p →
    NoMoreDue (next_pool q (earliest x.speed q) x) (next_pool p t x)
earliest_keeps q p t x v h u =
    omega (
      arith,
      due_next q (earliest x.speed q) x u,
      due_next p t x u,
      earliest_leaves x.speed q (suc u),
      serves_leaves v (suc u),
      h (suc u),
    )

least_from : (q p : Pool) → NoMoreDue q p → (run : List Slot) (services : List Service) → ServesAlong p run services →
    NoMoreDue (pool_after q run (earliest_run q run)) (pool_after p run services)
unfolding pool_after earliest_run
least_from q p h [] services v = h
least_from q p h (x ∷ run) [] v = absurd v.at_speeds
least_from q p h (x ∷ run) (t ∷ services) v =
    least_from (next_pool q (earliest x.speed q) x) (next_pool p t x) (earliest_keeps q p t x (serves_first p x run t services v) h) run services
    (serves_later p x run t services v)

-- after any run, and so after each slot of one
pub earliest_least_run : (p : Pool) (run : List Slot) (services : List Service) → ServesAlong p run services →
    NoMoreDue (pool_after p run (earliest_run p run)) (pool_after p run services)
earliest_least_run p run services v = least_from p p (λ u. le_refl (due_within p u)) run services v
