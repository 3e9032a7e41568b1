-- `jobs` meets its contract: the sheet is tested, so that its jobs are few and their sizes small.
use Rattle.model.proofs.Refusal.{ranged}
use Rattle.entry_lanes.proofs.entries.Entries.jobs.Goals as goal

pub jobs-requires : goal.jobs-requires
jobs-requires c = (ranged _ c.args.self.now.tested.now.fields).jobs_high

pub returns-clause-small : goal.returns-clause-small
returns-clause-small c = rw c.jobs.ensures.lent (ranged _ c.args.self.now.tested.now.fields).size_high
