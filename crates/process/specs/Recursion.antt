-- The backward induction: a recursion over the slots left that finds the least good way. The planner computes it; that it answers the
-- published problem of Ways.antt is proved in proofs/. No contract of a public call mentions it.
use Rattle.std.specs.Prelude.{ℕ, zero, suc, ◌+◌, ◌*◌, ◌^◌, ◌≤◌, Bool, true, false, cond, List, [], ◌∷◌, eqb, ltb, length, get_or}
use Rattle.std.proofs.Math.Option.{Option, none, some}
use Rattle.process.specs.Sums.{sum}
use Rattle.process.specs.Ways.{Process, Rule}

-- numbers or none: the result is none as soon as a part of it is none

abbrev pub plus : Option ℕ → Option ℕ → Option ℕ
plus none q = none
plus (some u) none = none
plus (some u) (some v) = some (u + v)

abbrev pub times : ℕ → Option ℕ → Option ℕ
times m none = none
times m (some v) = some (m * v)

-- f 0 + f 1 + .. + f (n - 1)
unfoldable pub sum_or_none : (ℕ → Option ℕ) → ℕ → Option ℕ
sum_or_none f zero = some 0
sum_or_none f (suc n) = plus (sum_or_none f n) (f n)

abbrev pub only : Bool → Option ℕ → Option ℕ
only true r = r
only false r = none

-- a number, where there is one, is at most u; what none comes to is a parameter
abbrev pub UptoOr : Type 0 → Option ℕ → ℕ → Type 0
UptoOr N none u = N
UptoOr N (some v) u = v ≤ u

-- a number, not none, that is at most u
abbrev pub Upto : Option ℕ → ℕ → Type 0
Upto = UptoOr ⊥

-- the least of several prices: nothing so far, or an action with its price
pub data Choice : Type 0 where
  nothing : Choice
  chosen : ℕ → ℕ → Choice

-- when a later action is taken in place of an earlier one: where its price v is less than u, so that ties go to the first
unfoldable pub cheaper : ℕ → ℕ → Bool
cheaper v u = ltb v u

-- one action more
abbrev pub better : Choice → ℕ → Option ℕ → Choice
better c a none = c
better nothing a (some v) = chosen a v
better (chosen b u) a (some v) = cond (cheaper v u) (chosen a v) (chosen b u)

-- the least of the first j actions
unfoldable pub best : (ℕ → Option ℕ) → List ℕ → ℕ → Choice
best price actions zero = nothing
best price actions (suc j) = better (best price actions j) (get_or actions j 0) (price (get_or actions j 0))

abbrev pub worth : Choice → Option ℕ
worth nothing = none
worth (chosen a v) = some v

abbrev pub action_of : Choice → ℕ
action_of nothing = 0
action_of (chosen a v) = a

-- what an action costs, with k slots left after it, where `ahead` is the value of each state then
unfoldable pub priced : {S : Type 0} → Process S → ℕ → (ℕ → ℕ) → ℕ → (S → Option ℕ) → S → ℕ → Option ℕ
priced P n w k ahead x a =
    only (P.allowed x a) (plus (some (sum w n ^ suc k * P.cost x a)) (sum_or_none (λ i. times (w i) (ahead (P.next x a i))) n))

-- the least over the actions, with k slots left after this one
unfoldable pub choice : {S : Type 0} → Process S → ℕ → (ℕ → ℕ) → ℕ → (S → Option ℕ) → S → Choice
choice P n w k ahead x = best (priced P n w k ahead x) P.actions (length P.actions)

-- the value with k slots left
unfoldable pub value : {S : Type 0} → Process S → ℕ → (ℕ → ℕ) → ℕ → S → Option ℕ
value P n w zero x = only (P.alive x) (some (P.last x))
value P n w (suc k) x = only (P.alive x) (worth (choice P n w k (value P n w k) x))

-- the plan's action with k slots left, this one counted; 0 where there is none
unfoldable pub plan : {S : Type 0} → Process S → ℕ → (ℕ → ℕ) → ℕ → S → ℕ
plan P n w zero x = 0
plan P n w (suc k) x = action_of (choice P n w k (value P n w k) x)

-- the price of a rule: what the way that follows it spends, by the same recursion

-- whether an action stands in a list
unfoldable pub among : List ℕ → ℕ → Bool
among [] a = false
among (b ∷ actions) a = cond (eqb b a) true (among actions a)

-- what one action costs in a state, with k slots left after it: none where the state is not alive or the action not one of the process's
unfoldable pub taken : {S : Type 0} → Process S → ℕ → (ℕ → ℕ) → ℕ → (S → Option ℕ) → S → ℕ → Option ℕ
taken P n w k ahead x a = only (P.alive x) (only (among P.actions a) (priced P n w k ahead x a))

-- the price with k slots left
unfoldable pub price_by : {S : Type 0} → Process S → ℕ → (ℕ → ℕ) → Rule S → ℕ → S → Option ℕ
price_by P n w rule zero x = only (P.alive x) (some (P.last x))
price_by P n w rule (suc k) x = taken P n w k (price_by P n w rule k) x (rule (suc k) x)
