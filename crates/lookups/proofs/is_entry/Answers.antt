-- `is_entry` meets its contract: the search through the jobs that count is the definition's, which goes by their places.
use Rattle.std.proofs.Common.{◌≡◌, Bool, sym, ◌∙◌, length, eqb, ◌&&◌, rules, tests}
use Rattle.std.proofs.lemmas.Iterator.{YieldsList-from_slice}
use Rattle.std.proofs.lemmas.Iterator.Search.{any_from_yields_List}
use Rattle.model.specs.View.{view_of, zero_job}
use Rattle.model.specs.Stepper.{is_entry}
use Rattle.model.specs.declared.Job.{Job}
use Rattle.limits.proofs.Places.{jobs_few, jobs_counted}
use Rattle.lookups.proofs.Looking.{anywhere_listed}
use Rattle.lookups.proofs.is_entry.Goals as goal

pub returns : goal.returns
unfolding is_entry
returns c =
    let s = c.args.sheet.sheet in
    let test : Job → Bool = λ one. eqb one.size c.args.size && eqb one.deadline c.args.deadline in
    let long : length s.jobs ≡ 32 = search rules in
    let counted = jobs_counted s long (jobs_few s c.args.sheet.fields) in
    any_from_yields_List test _ _ c.any.result c.any.ensures.ran (YieldsList-from_slice (view_of s).jobs cc)
    (λ x b q k. search (rules, tests)) ∙
    sym (anywhere_listed test (view_of s).jobs zero_job s.job_count counted)
