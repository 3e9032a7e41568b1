-- `write_listing` meets its contract: the row call's tests refuse, or the buffer is too short for the listing, or it is written.
use mathlib.Core.Path.{◌≡◌, sym}
use native.Mathlib.Omega.{arith}
use lib.ListN.{length}
use Rattle.laws.proofs.Rooms.{row_accepted}
use Rattle.model.specs.View.{view_of}
use Rattle.listing.proofs.Outcomes.{listing_refused, listing_ends}
use Rattle.listing.proofs.Rows.{rows_accepted}
use Rattle.listing.proofs.Within.{whole_upto}
use Rattle.lines.specs.Lines.{HasRows}
use Rattle.std.proofs.lemmas.Result.{err_from_is_err_and}
use Rattle.model.specs.Refusal.{sheet_refusal, value_limit}
use Rattle.listing.proofs.call.write_listing.Goals as goal
use Rattle.listing.proofs.call.write_listing.Goals.{In_ok-tested}

-- what is known behind those tests: they refused nothing, and so the plan has every row

right : (c : In_ok-tested) → sheet_refusal value_limit (view_of c.args.sheet) ≡ 0
right c = (row_accepted (view_of c.args.sheet) (length c.args.plan.now) (sym c.in_ok-tested.ensures.number)).0

rows : (c : In_ok-tested) → HasRows c.args.plan.now c.in_ok-tested.tested.sizes.queues (view_of c.args.sheet).horizon
rows c = rows_accepted (view_of c.args.sheet) (sym c.in_ok-tested.ensures.number) c.in_ok-tested.ensures.sized.1.queues_is

pub returns-in_err-tested : goal.returns-in_err-tested
returns-in_err-tested c =
    let a = c.args in
    let why = c.in_err-tested.field-0.0 in
    let p = err_from_is_err_and c.from_residual.result c.from_residual.ensures.1 in
    rw (p.1, p.2) (listing_refused (view_of a.sheet) a.least a.plan.now a.buffer.now why c.in_err-tested.ensures.number)

pub scale_of-requires : goal.scale_of-requires
scale_of-requires c = right c

pub invariant_of-listing : goal.invariant_of-listing
invariant_of-listing c = record { has_rows = rows (goal.at.invariant_of-listing c).In_ok-tested }

pub write-requires : goal.write-requires
write-requires c =
    whole_upto c.scale_of.result c.args.least (rows (goal.at.write-requires c).In_ok-tested) (omega arith) (omega arith)
    (λ i. omega (arith, c.type_inv.plan i))

pub returns : goal.returns
returns c =
    let a = c.args in
    listing_ends (view_of a.sheet) a.least a.plan.now (sym c.in_ok-tested.ensures.number) c.in_ok-tested.ensures.sized.1.queues_is c.scale_of.ensures
    a.buffer.now c.write.new.buffer c.write.result c.write.ensures
