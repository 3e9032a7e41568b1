-- Laws of a pool's sums: by deadline, after counting off, after an arrival, after a service.
use Prim.Native.Nat.{ℕ, zero, suc, ◌+◌, ◌-◌, ◌≤◌, ◌<◌, zero-le}
use mathlib.Core.Path.{◌≡◌, refl, sym, ap, ◌∙◌}
use mathlib.Core.Bool.{Bool, true, false, cond}
use mathlib.Core.List.{[], ◌∷◌}
use native.Mathlib.Nat.{le_refl, add-le-add}
use native.Mathlib.Omega.{arith}
use borrow.Author.Tests.{leb-true, leb-false, le-leb, lt-leb, eqb-true, eqb-false, ne_eqb}
use lib.Dec.{leb, eqb}
use Rattle.jobs.specs.Pool.{Pool, work_where, due_within, due_at, all_work, counted_off, arrived, NoneLate, SlotsUpto}
use Rattle.jobs.specs.Service.{Service, WorkAllows, taken, Serves, spend}

-- two tests that agree at every deadline have the same sum
pub where_same : (f g : ℕ → Bool) → ((d : ℕ) → f d ≡ g d) → (p : Pool) → work_where f p ≡ work_where g p
unfolding work_where
where_same f g h [] = refl
where_same f g h (j ∷ p) = rw (h j.slots, where_same f g h p)

-- a test that passes wherever another does has no smaller sum
pub where_le : (f g : ℕ → Bool) → ((d : ℕ) → f d ≡ true → g d ≡ true) → (p : Pool) → work_where f p ≤ work_where g p
unfolding work_where
where_le f g h [] = zero-le
where_le f g h (j ∷ p) = add-le-add (go (f j.slots) refl) (where_le f g h p)
  where
    go : (b : Bool) → f j.slots ≡ b → cond b j.work 0 ≤ cond (g j.slots) j.work 0
    go true e = rw (h j.slots e) (le_refl j.work)
    go false e = zero-le

-- more slots, no less work
pub due_more : (p : Pool) (u v : ℕ) → u ≤ v → due_within p u ≤ due_within p v
due_more p u v h = where_le (λ d. leb d u) (λ d. leb d v) (λ d e. le-leb d v (omega (arith, leb-true d u e))) p

-- what is due within u + 1 slots is what is due within u and what is due at u + 1
pub due_suc : (p : Pool) (u : ℕ) → due_within p (suc u) ≡ due_within p u + due_at p (suc u)
unfolding work_where
due_suc [] u = refl
due_suc (j ∷ p) u = omega (arith, due_suc p u, first j.slots j.work)
  where
    first : (d x : ℕ) → cond (leb d (suc u)) x 0 ≡ cond (leb d u) x 0 + cond (eqb d (suc u)) x 0
    first d x = go (leb d u) refl (eqb d (suc u)) refl
      where
        go : (b : Bool) → leb d u ≡ b → (c : Bool) → eqb d (suc u) ≡ c → cond (leb d (suc u)) x 0 ≡ cond b x 0 + cond c x 0
        go true e true q = absurd (omega (arith, leb-true d u e, eqb-true d (suc u) q))
        go true e false q = rw (le-leb d (suc u) (omega (arith, leb-true d u e))) (omega arith)
        go false e true q = rw (le-leb d (suc u) (omega (arith, eqb-true d (suc u) q))) (omega arith)
        go false e false q =
            rw (lt-leb d (suc u) (omega (arith, leb-false d u e, eqb-false d (suc u) q))) (omega arith)

-- what is due within no slot
pub due_zero : (p : Pool) → due_within p 0 ≡ due_at p 0
due_zero p = where_same (λ d. leb d 0) (λ d. eqb d 0) same p
  where
    same : (d : ℕ) → leb d 0 ≡ eqb d 0
    same zero = refl
    same (suc d) = lt-leb (suc d) 0 (omega arith) ∙ sym (ne_eqb (suc d) 0 (λ e. omega arith))

-- counted off, what is due within u slots is what was due within u + 1
pub due_off : (p : Pool) (u : ℕ) → due_within (counted_off p) u ≡ due_within p (suc u)
unfolding work_where
due_off [] u = refl
due_off (j ∷ p) u = rw (same j.slots, due_off p u)
  where
    same : (d : ℕ) → leb (d - 1) u ≡ leb d (suc u)
    same d = go (leb d (suc u)) refl
      where
        go : (b : Bool) → leb d (suc u) ≡ b → leb (d - 1) u ≡ b
        go true e = le-leb (d - 1) u (omega (arith, leb-true d (suc u) e))
        go false e = lt-leb (d - 1) u (omega (arith, leb-false d (suc u) e))

-- an arrival adds its size where it is due
pub due_arrived : (p : Pool) (c d u : ℕ) → due_within (arrived p c d) u ≡ due_within p u + cond (leb d u) c 0
unfolding work_where
due_arrived [] c d u = omega arith
due_arrived (j ∷ p) c d u = omega (arith, due_arrived p c d u)

-- past the latest deadline nothing more is due
pub due_past : (D : ℕ) (p : Pool) → SlotsUpto D p → (u : ℕ) → D ≤ u → due_within p u ≡ all_work p
unfolding work_where
due_past D [] h u l = refl
due_past D (j ∷ p) h u l = rw (le-leb j.slots u (omega (arith, h.0)), due_past D p h.1 u l)

-- none is late exactly where nothing is due within no slot
pub none_late : (p : Pool) → NoneLate p → due_within p 0 ≡ 0
unfolding work_where
none_late [] h = refl
none_late (j ∷ p) h = omega (arith, none_late p h.1, go (leb j.slots 0) refl j.work refl)
  where
    go : (b : Bool) → leb j.slots 0 ≡ b → (x : ℕ) → j.work ≡ x → cond b x 0 ≡ 0
    go true e zero q = refl
    go true e (suc x) q = absurd (h.0 (omega arith, omega (arith, leb-true j.slots 0 e)))
    go false e x q = refl

pub none_due : (p : Pool) → due_within p 0 ≡ 0 → NoneLate p
unfolding work_where
none_due [] h = tt
none_due (j ∷ p) h = (λ late. alone late.0 (le-leb j.slots 0 (omega (arith, late.1))), none_due p (omega (arith)))
  where
    alone : 0 < j.work → leb j.slots 0 ≡ true → ⊥
    alone l e = omega (arith, rw e at h)

-- what is taken, as jobs: from each job so much

unfoldable pub took : Pool → Service → Pool
took [] t = []
took (j ∷ p) [] = []
took (j ∷ p) (x ∷ t) = record { work = x; slots = j.slots } ∷ took p t

-- what is left and what was taken are what was there, for every test of deadlines
pub where_spent : (f : ℕ → Bool) (p : Pool) (t : Service) → WorkAllows p t →
    work_where f (spend p t) + work_where f (took p t) ≡ work_where f p
unfolding work_where spend took
where_spent f [] [] h = refl
where_spent f [] (x ∷ t) h = absurd h
where_spent f (j ∷ p) [] h = absurd h
where_spent f (j ∷ p) (x ∷ t) h = omega (arith, where_spent f p t h.1, go (f j.slots))
  where
    go : (b : Bool) → cond b (j.work - x) 0 + cond b x 0 ≡ cond b j.work 0
    go true = omega (arith, h.0)
    go false = refl

-- all that is taken is the work of what is taken
pub took_all : (p : Pool) (t : Service) → WorkAllows p t → all_work (took p t) ≡ taken t
unfolding work_where took taken
took_all [] [] h = refl
took_all [] (x ∷ t) h = absurd h
took_all (j ∷ p) [] h = absurd h
took_all (j ∷ p) (x ∷ t) h = ap (λ n. x + n) (took_all p t h.1)

-- within u slots no more is taken than in all
pub took_upto : (p : Pool) (t : Service) → WorkAllows p t → (u : ℕ) → due_within (took p t) u ≤ taken t
took_upto p t h u = omega (arith, took_all p t h, where_le (λ d. leb d u) (λ d. true) (λ d e. refl) (took p t))

-- a service of at most s units leaves, within each u, at least what was due less s
pub serves_leaves : {s : ℕ} {p : Pool} {t : Service} → Serves s p t → (u : ℕ) → due_within p u - s ≤ due_within (spend p t) u
serves_leaves {s} {p} {t} h u = omega (arith, h.in_all, where_spent (λ d. leb d u) p t h.each, took_upto p t h.each u)
