-- The published problem, over any process: what a way is, when it is good, what it costs, and what the least is; and what a rule costs.
-- Nothing here mentions an induction over time or a table, and nothing is imported that does.
--
-- In Harzschale a state is a queue, an action a speed and an event an entry of the sheet; here they are a type and numbers.
use Rattle.std.specs.Prelude.{ℕ, zero, suc, ◌+◌, ◌*◌, ◌≤◌, ◌<◌, ◌≡◌, Bool, List, [], ◌∷◌, T, length, get_or}
use Rattle.std.proofs.Math.Option.{Option, none, some}
use Rattle.process.specs.Sums.{Events, over_lists, weight}

-- `actions` are those that a way may choose from; a state is `alive` where a way may be; an action is `allowed` in a state or not;
-- `next` is the state after an action and then an event; `cost` is what an action costs in a state; `last` is the price of the state
-- that is left when no slot remains
pub record Process (S : Type 0) : Type 0 where
  pub actions : List ℕ
  pub alive : S → Bool
  pub allowed : S → ℕ → Bool
  pub next : S → ℕ → ℕ → S
  pub cost : S → ℕ → ℕ
  pub last : S → ℕ

-- "A way chooses a sheet speed at each slot from the start queue and the entries that have arrived so far (told apart by their place on
-- the sheet), by any rule at all": the action for each list of the events so far, the oldest first
abbrev pub Way : Type 0
Way = List ℕ → ℕ

-- what is left of a way once the event i has come
abbrev pub later : Way → ℕ → Way
later σ i = λ seen. σ (i ∷ seen)

-- `a` stands in the list `actions`
abbrev pub Among : List ℕ → ℕ → Type 0
Among actions a = (j : ℕ) × (j < length actions) × (get_or actions j 0 ≡ a)

-- along the list of events, from the state x: each action is one of the process's and allowed, and every state reached is alive, the one
-- after the last event too
abbrev pub Along : {S : Type 0} → Process S → S → Way → List ℕ → Type 0
Along P x σ [] = T (P.alive x)
Along P x σ (i ∷ l) = T (P.alive x) × Among P.actions (σ []) × T (P.allowed x (σ [])) × Along P (P.next x (σ []) i) (later σ i) l

-- "It is a good way when, along every list of entries, each speed is at least w(1) and every queue reached, the one after the last slot
-- too, is bearable": along every list of k events below n
abbrev pub Good : {S : Type 0} → Process S → ℕ → ℕ → S → Way → Type 0
Good P n k x σ = (l : List ℕ) → Events n k l → Along P x σ l

-- "the energy spent along that list", with the price of the state that is left at its end
unfoldable pub spent : {S : Type 0} → Process S → S → Way → List ℕ → ℕ
spent P x σ [] = P.last x
spent P x σ (i ∷ l) = P.cost x (σ []) + spent P (P.next x (σ []) i) (later σ i) l

-- "Its scaled energy over k slots is the sum, over all lists of k entries, of the product of the weights times the energy spent along
-- that list"
unfoldable pub energy : {S : Type 0} → Process S → ℕ → (ℕ → ℕ) → ℕ → S → Way → ℕ
energy P n w k x σ = over_lists n k (λ l. weight w l * spent P x σ l)

-- the least scaled energy of the ways for which `Q` holds is v
pub record IsLeastOf {S : Type 0} (P : Process S) (n : ℕ) (w : ℕ → ℕ) (k : ℕ) (x : S) (Q : Way → Type 0) (v : ℕ) : Type 0 where
  pub way : Way
  pub holds : Q way
  pub costs : energy P n w k x way ≡ v
  pub least : (σ : Way) → Q σ → v ≤ energy P n w k x σ

-- "The value .. is the least scaled energy of a good way over the last T-t slots, or none": none where no way is good
abbrev pub IsValue : {S : Type 0} → Process S → ℕ → (ℕ → ℕ) → ℕ → S → Option ℕ → Type 0
IsValue P n w k x none = (σ : Way) → Good P n k x σ → ⊥
IsValue P n w k x (some v) = IsLeastOf P n w k x (Good P n k x) v

-- what the action a costs: the least scaled energy of a good way that begins with it
abbrev pub IsCost : {S : Type 0} → Process S → ℕ → (ℕ → ℕ) → ℕ → S → ℕ → ℕ → Type 0
IsCost P n w k x a v = IsLeastOf P n w k x (λ σ. Good P n k x σ × (σ [] ≡ a)) v

-- a least good way
pub record IsLeast {S : Type 0} (P : Process S) (n : ℕ) (w : ℕ → ℕ) (k : ℕ) (x : S) (σ : Way) : Type 0 where
  pub good : Good P n k x σ
  pub least : (τ : Way) → Good P n k x τ → energy P n w k x σ ≤ energy P n w k x τ

-- "The plan speed is the smallest first speed of a least good way"
pub record IsFirst {S : Type 0} (P : Process S) (n : ℕ) (w : ℕ → ℕ) (k : ℕ) (x : S) (a : ℕ) : Type 0 where
  pub way : Way
  pub least : IsLeast P n w k x way
  pub begins : way [] ≡ a
  pub smallest : (σ : Way) → IsLeast P n w k x σ → a ≤ σ []

-- a rule that looks at the slots left, this one counted, and the state, and at nothing else: a plan is one
abbrev pub Rule : Type 0 → Type 0
Rule S = ℕ → S → ℕ

-- the way that follows a rule
unfoldable pub ruled : {S : Type 0} → Process S → Rule S → ℕ → S → Way
ruled P rule zero x seen = 0
ruled P rule (suc k) x [] = rule (suc k) x
ruled P rule (suc k) x (i ∷ seen) = ruled P rule k (P.next x (rule (suc k) x) i) seen

-- [2]: "price any lent plan: the scaled energy .. when each speed is the plan's, or none where along some list a byte is no sheet speed or is
-- below w(1), or a queue reached is not bearable": the price of a rule is the scaled energy of the way that follows it, or none where along
-- some list of k events that way is not good
abbrev pub IsPrice : {S : Type 0} → Process S → ℕ → (ℕ → ℕ) → Rule S → ℕ → S → Option ℕ → Type 0
IsPrice P n w rule k x none = (l : List ℕ) × Events n k l × (Along P x (ruled P rule k x) l → ⊥)
IsPrice P n w rule k x (some v) = Good P n k x (ruled P rule k x) × (energy P n w k x (ruled P rule k x) ≡ v)

-- a price is not below a value: none is above every number, and where there is no value no price is there either
abbrev pub NotBelow : (price value : Option ℕ) → Type 0
NotBelow none value = Unit {0}
NotBelow (some p) none = ⊥
NotBelow (some p) (some v) = v ≤ p
