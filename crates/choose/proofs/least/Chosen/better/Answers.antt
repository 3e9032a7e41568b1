-- `better` meets its contract: a cost that is less than the least so far is taken.
use mathlib.Core.Path.{sym, ◌∙◌}
use Rattle.choose.proofs.Choices.{better_taken, better_left}
use Rattle.choose.proofs.least.Chosen.better.Goals as goal

pub returns-then-less_than : goal.returns-then-less_than
returns-then-less_than c =
    better_taken c.args.self.speed c.args.self.value c.args.speed c.args.cost (sym c.less_than.ensures ∙ c.if-less_than.true)

pub returns-else-less_than : goal.returns-else-less_than
returns-else-less_than c =
    better_left c.args.self.speed c.args.self.value c.args.speed c.args.cost (sym c.less_than.ensures ∙ c.if-less_than.false)
