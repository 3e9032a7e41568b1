-- `number` meets its contract: the block's line has the number of its first queue and its lowest last total.
use Rattle.choose.proofs.Passing.{number_found}
use Rattle.choose.proofs.pass.Pass.number.Goals as goal

pub returns : goal.returns
returns c = number_found c.args.self.now.given c.requires.within c.requires.line
