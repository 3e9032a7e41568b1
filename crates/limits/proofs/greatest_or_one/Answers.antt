-- `greatest_or_one` meets its contract: whether the greatest energy is 0 decides what G is.
use Rattle.std.proofs.Common.{ℕ, ◌≡◌, cond, eqb, max, ap, ◌∙◌, arith}
use Rattle.std.proofs.lemmas.Bool.Decides.{nat_tests}
use Rattle.model.specs.View.{G}
use Rattle.limits.proofs.greatest_or_one.Goals as goal

or_one : (n : ℕ) → max n 1 ≡ cond (eqb n 0) 1 n
or_one n = grind (arith, nat_tests)

pub returns : goal.returns
unfolding G
returns c = c.max.ensures ∙ ap (λ n. max n 1) c.greatest_of.ensures.1 ∙ or_one _
