-- What the functions that fill the rows of the rule's plan leave.
use Rattle.std.specs.Prelude.{ℕ, ◌≤◌, ◌<◌, ◌≡◌, List, length, get_or}
use Rattle.model.specs.View.{View}
use Rattle.model.specs.Plan.{queue_at, place_at, byte_at}
use Rattle.model.specs.Refusal.{N}
use Rattle.model.specs.Pricing.{IsRuleSpeed}

-- how far the lent plan is filled: in its first n places stand the rule's speeds, and every other place holds what it held
pub record FilledTo (s : View) (n : ℕ) (plan₀ plan : List ℕ) : Type 0 where
  pub same_length : length plan ≡ length plan₀
  pub right : (t i : ℕ) → i < N s → place_at s t i < n → IsRuleSpeed s (queue_at s i) (byte_at s plan t i)
  pub outside : (p : ℕ) → n ≤ p → get_or plan p 0 ≡ get_or plan₀ p 0
