-- Services miss no deadline, as the pool after each slot tells it, exactly where, said without a pool, they take at most the speeds and
-- give no job more than its work, and every job that is due within the run has been given all its work by its deadline.
use Prim.Native.Nat.{ℕ, zero, suc, ◌+◌, ◌-◌, ◌≤◌, ◌<◌, zero-le}
use mathlib.Core.Path.{◌≡◌, refl, sym, ap, ◌∙◌, subst}
use mathlib.Core.List.{List, [], ◌∷◌}
use mathlib.Core.Logic.{⊎_elim, ◌↔◌}
use native.Mathlib.Nat.{not-suc-le-zero, suc-ne-zero, le_of_suc-le-suc, eq-or-lt_of_le}
use native.Mathlib.Omega.{arith}
use lib.ListN.{length, get_or}
use Rattle.jobs.specs.Given.{given, OfJob, Coming, EachJob, NoMore, ByDeadline, AtSpeeds, ServesAlong}
use Rattle.jobs.specs.Pool.{Waiting, Pool, job_at, queue_of_pool, NoneLate, SlotsUpto}
use Rattle.jobs.specs.Runs.{Slot, ArrivalsRight, next_pool, MissesNone, Enough, TotalsTell}
use Rattle.jobs.specs.Service.{Service, WorkAllows, Serves, spend}
use Rattle.jobs.proofs.Runs.{totals_tell}

-- what a job is given: in no slot nothing

given_none : (i k : ℕ) (services : List Service) → k ≡ 0 → given i k services ≡ 0
unfolding given
given_none i zero services e = refl
given_none i (suc k) services e = absurd (suc-ne-zero k e)

-- and otherwise in the first slot, and then in the others
given_first : (i k : ℕ) (t : Service) (services : List Service) → 1 ≤ k → given i k (t ∷ services) ≡ get_or t i 0 + given i (k - 1) services
unfolding given
given_first i zero t services h = absurd (not-suc-le-zero h)
given_first i (suc k) t services h = let e : k ≡ suc k - 1 = omega arith in ap (λ n. get_or t i 0 + given i n services) e

-- a service by place

allows_at : (p : Pool) (t : Service) → WorkAllows p t → (i : ℕ) → i < length p → get_or t i 0 ≤ (job_at p i).work
allows_at [] t h i l = absurd (not-suc-le-zero l)
allows_at (j ∷ p) [] h i l = absurd h
allows_at (j ∷ p) (y ∷ t) h zero l = h.0
allows_at (j ∷ p) (y ∷ t) h (suc i) l = allows_at p t h.1 i (le_of_suc-le-suc l)

allows_all : (p : Pool) (t : Service) → length t ≡ length p → ((i : ℕ) → i < length p → get_or t i 0 ≤ (job_at p i).work) → WorkAllows p t
allows_all [] [] e h = tt
allows_all [] (y ∷ t) e h = absurd (suc-ne-zero (length t) e)
allows_all (j ∷ p) [] e h = absurd (suc-ne-zero (length p) (sym e))
allows_all (j ∷ p) (y ∷ t) e h = (h zero (omega arith), allows_all p t (omega arith) (λ i l. h (suc i) (omega arith)))

allows_length : (p : Pool) (t : Service) → WorkAllows p t → length t ≡ length p
allows_length [] [] h = refl
allows_length [] (y ∷ t) h = absurd h
allows_length (j ∷ p) [] h = absurd h
allows_length (j ∷ p) (y ∷ t) h = ap suc (allows_length p t h.1)

-- lateness by place

late_at : (p : Pool) → NoneLate p → (i : ℕ) → i < length p → (job_at p i).slots ≡ 0 → (job_at p i).work ≡ 0
late_at [] n i l e = absurd (not-suc-le-zero l)
late_at (j ∷ p) n zero l e = go j.work refl
  where
    go : (x : ℕ) → j.work ≡ x → j.work ≡ 0
    go zero q = q
    go (suc x) q = absurd (n.0 (omega arith, e))
late_at (j ∷ p) n (suc i) l e = late_at p n.1 i (le_of_suc-le-suc l) e

late_all : (p : Pool) → ((i : ℕ) → i < length p → (job_at p i).slots ≡ 0 → (job_at p i).work ≡ 0) → NoneLate p
late_all [] h = tt
late_all (j ∷ p) h =
    (λ late. omega (arith, late.0, h zero (omega arith) late.1), late_all p (λ i l e. h (suc i) (omega arith) e))

-- after a slot a job keeps its place, and one more comes behind

length_next : (p : Pool) (t : Service) (x : Slot) → WorkAllows p t → length (next_pool p t x) ≡ suc (length p)
unfolding spend
length_next [] [] x h = refl
length_next [] (y ∷ t) x h = absurd h
length_next (j ∷ p) [] x h = absurd h
length_next (j ∷ p) (y ∷ t) x h = ap suc (length_next p t x h.1)

next_at : (p : Pool) (t : Service) (x : Slot) → WorkAllows p t → (i : ℕ) → i < length p →
    job_at (next_pool p t x) i ≡ record { work = (job_at p i).work - get_or t i 0; slots = (job_at p i).slots - 1 }
unfolding spend
next_at [] t x h i l = absurd (not-suc-le-zero l)
next_at (j ∷ p) [] x h i l = absurd h
next_at (j ∷ p) (y ∷ t) x h zero l = refl
next_at (j ∷ p) (y ∷ t) x h (suc i) l = next_at p t x h.1 i (le_of_suc-le-suc l)

next_last : (p : Pool) (t : Service) (x : Slot) → WorkAllows p t →
    job_at (next_pool p t x) (length p) ≡ record { work = x.size; slots = x.deadline }
unfolding spend
next_last [] [] x h = refl
next_last [] (y ∷ t) x h = absurd h
next_last (j ∷ p) [] x h = absurd h
next_last (j ∷ p) (y ∷ t) x h = next_last p t x h.1

-- a statement about a job that goes with it: it holds before a slot exactly where it holds after, when the job has so much less work and one
-- slot fewer; back from there, of a job that was not late
record GoesWith (P : OfJob) : Type 0 where
  on : (i work slots n : ℕ) (t : Service) (services : List Service) → get_or t i 0 ≤ work →
      P i work slots (suc n) (t ∷ services) → P i (work - get_or t i 0) (slots - 1) n services
  back : (i work slots n : ℕ) (t : Service) (services : List Service) → get_or t i 0 ≤ work → (slots ≡ 0 → work ≡ 0) →
      P i (work - get_or t i 0) (slots - 1) n services → P i work slots (suc n) (t ∷ services)

no_more_goes : GoesWith NoMore
unfolding given
no_more_goes = record { on = λ i work slots n t services l h. omega arith; back = λ i work slots n t services l none h. omega arith }

by_deadline_goes : GoesWith ByDeadline
by_deadline_goes = record { on = on; back = back }
  where
    on : (i work slots n : ℕ) (t : Service) (services : List Service) → get_or t i 0 ≤ work →
        ByDeadline i work slots (suc n) (t ∷ services) → ByDeadline i (work - get_or t i 0) (slots - 1) n services
    on i work zero n t services l h m = omega (arith, given_none i (0 - 1) services (omega arith), given_none i 0 (t ∷ services) refl, h zero-le)
    on i work (suc k) n t services l h m = omega (arith, h (omega arith), given_first i (suc k) t services (omega arith))

    back : (i work slots n : ℕ) (t : Service) (services : List Service) → get_or t i 0 ≤ work → (slots ≡ 0 → work ≡ 0) →
        ByDeadline i (work - get_or t i 0) (slots - 1) n services → ByDeadline i work slots (suc n) (t ∷ services)
    back i work zero n t services l none h m = given_none i 0 (t ∷ services) refl ∙ sym (none refl)
    back i work (suc k) n t services l none h m = omega (arith, h (omega arith), given_first i (suc k) t services (omega arith))

-- so it holds of each job of a run before its first slot exactly where it holds of each job after
module _ {P : OfJob} (goes : GoesWith P) (p : Pool) (t : Service) (x : Slot) (allows : WorkAllows p t) (run : List Slot)
    (services : List Service) where
  -- of the job at place i after the slot, by what its work and its slots are
  of_next : (i : ℕ) {j : Waiting} → job_at (next_pool p t x) i ≡ j → P i j.work j.slots (length run) services →
      P i (job_at (next_pool p t x) i).work (job_at (next_pool p t x) i).slots (length run) services
  of_next i e = subst (λ (j : Waiting). P i j.work j.slots (length run) services) (sym e)

  each_on : EachJob P p (x ∷ run) (t ∷ services) → EachJob P (next_pool p t x) run services
  each_on each = record {
    waiting = λ i l. ⊎_elim (last i) (old i) (eq-or-lt_of_le (le_of_suc-le-suc (subst (λ (n : ℕ). i < n) (length_next p t x allows) l)));
    coming = subst (λ (n : ℕ). Coming P n run services) (sym (length_next p t x allows)) each.coming.1;
  }
    where
      last : (i : ℕ) → i ≡ length p → P i (job_at (next_pool p t x) i).work (job_at (next_pool p t x) i).slots (length run) services
      last i e =
          of_next i (ap (job_at (next_pool p t x)) e ∙ next_last p t x allows)
          (subst (λ (n : ℕ). P n x.size x.deadline (length run) services) (sym e) each.coming.0)

      old : (i : ℕ) → i < length p → P i (job_at (next_pool p t x) i).work (job_at (next_pool p t x) i).slots (length run) services
      old i l =
          of_next i (next_at p t x allows i l)
          (goes.on i (job_at p i).work (job_at p i).slots (length run) t services (allows_at p t allows i l) (each.waiting i l))

  each_back : NoneLate p → EachJob P (next_pool p t x) run services → EachJob P p (x ∷ run) (t ∷ services)
  each_back none each = record {
    waiting = λ i l.
        goes.back i (job_at p i).work (job_at p i).slots (length run) t services (allows_at p t allows i l) (late_at p none i l)
        (subst (λ (j : Waiting). P i j.work j.slots (length run) services) (next_at p t x allows i l)
        (each.waiting i (omega (arith, length_next p t x allows))));
    coming = (
      subst (λ (j : Waiting). P (length p) j.work j.slots (length run) services) (next_last p t x allows)
          (each.waiting (length p) (omega (arith, length_next p t x allows))),
      subst (λ (n : ℕ). Coming P n run services) (length_next p t x allows) each.coming,
    );
  }

-- services along a run: the first slot's, and the others from the next pool on

pub serves_first : (p : Pool) (x : Slot) (run : List Slot) (t : Service) (services : List Service) →
    ServesAlong p (x ∷ run) (t ∷ services) → Serves x.speed p t
unfolding given
serves_first p x run t services v = record {
  each = allows_all p t v.at_speeds.0 (λ i l. omega (arith, v.no_more.waiting i l));
  in_all = v.at_speeds.1;
}

pub serves_later : (p : Pool) (x : Slot) (run : List Slot) (t : Service) (services : List Service) →
    ServesAlong p (x ∷ run) (t ∷ services) → ServesAlong (next_pool p t x) run services
serves_later p x run t services v =
    let allows = (serves_first p x run t services v).each in
    record {
      at_speeds = subst (λ (n : ℕ). AtSpeeds n run services) (sym (length_next p t x allows)) v.at_speeds.2;
      no_more = each_on no_more_goes p t x allows run services v.no_more;
    }

-- the theorem

to : (p : Pool) (run : List Slot) (services : List Service) → MissesNone p run services →
    ServesAlong p run services × EachJob ByDeadline p run services
to p [] [] m = (
  record { at_speeds = tt; no_more = record { waiting = λ i l. omega (arith, given_none i 0 [] refl); coming = tt } },
  record {
    waiting = λ i l h.
        let e : (job_at p i).slots ≡ 0 = omega arith in
        given_none i (job_at p i).slots [] e ∙ sym (late_at p m i l e);
    coming = tt;
  },
)
to p [] (t ∷ services) m = absurd m
to p (x ∷ run) [] m = absurd m
to p (x ∷ run) (t ∷ services) m =
    let allows = m.1.each in
    let (serves, done) = to (next_pool p t x) run services m.2 in (
      record {
        at_speeds = (
          allows_length p t allows,
          m.1.in_all,
          subst (λ (n : ℕ). AtSpeeds n run services) (length_next p t x allows) serves.at_speeds,
        );
        no_more = each_back no_more_goes p t x allows run services m.0 serves.no_more;
      },
      each_back by_deadline_goes p t x allows run services m.0 done,
    )

from : (p : Pool) (run : List Slot) (services : List Service) → ServesAlong p run services → EachJob ByDeadline p run services →
    MissesNone p run services
from p [] [] v d = late_all p (λ i l e. sym (d.waiting i l (omega arith)) ∙ given_none i (job_at p i).slots [] e)
from p [] (t ∷ services) v d = absurd v.at_speeds
from p (x ∷ run) [] v d = absurd v.at_speeds
from p (x ∷ run) (t ∷ services) v d =
    let serves = serves_first p x run t services v in (
      late_all p (λ i l e. sym (d.waiting i l (omega arith)) ∙ given_none i (job_at p i).slots (t ∷ services) e),
      serves,
      from (next_pool p t x) run services (serves_later p x run t services v)
          (each_on by_deadline_goes p t x serves.each run services d),
    )

pub misses_none_done : (p : Pool) (run : List Slot) (services : List Service) →
    MissesNone p run services ↔ (ServesAlong p run services × EachJob ByDeadline p run services)
misses_none_done p run services = (to p run services, λ d. from p run services d.0 d.1)

-- so "each speed is at least w(1)" says exactly that some services give every job that is due within the run all its work by its deadline
pub enough_done : (D : ℕ) → 1 ≤ D → (p : Pool) → SlotsUpto D p → NoneLate p → (run : List Slot) → ArrivalsRight D run →
    Enough (queue_of_pool D p) run ↔ ((services : List Service) × ServesAlong p run services × EachJob ByDeadline p run services)
enough_done D l p h n run a = (
  λ e.
      let m = tell.some_order.0 e in
      let done = to p run m.0 m.1 in
      (m.0, done.0, done.1),
  λ d. tell.some_order.1 (d.0, from p run d.0 d.1 d.2),
)
  where
    tell : TotalsTell D p run
    tell = totals_tell D l p h n run a
