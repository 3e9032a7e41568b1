-- `number_in` meets its contract: what it reads is short, and so the sum fits.
use Rattle.std.proofs.Common.{rules, ℕ, ◌<◌, ◌+◌, ◌*◌, ◌-◌, ◌^◌, arith}
use Rattle.fields.proofs.Groups.{one_below, more_below, below_fits}
use Rattle.fields.proofs.+number_in.Goals as goal
use Rattle.fields.proofs.+number_in.Goals.{In_ok-high}

pub returns-then-byte-lt128-clause-short : goal.returns-then-byte-lt128-clause-short
returns-then-byte-lt128-clause-short t c = one_below c.args.most _ c.if-most-eq0.false c.if-byte-lt128.true

-- the lowest group joined to the rest
joined_short : (t : ℕ) (c : In_ok-high t) → c.from-byte.result - 128 + 128 * c.in_ok-high.high < 128 ^ c.args.most
joined_short t c = more_below c.args.most _ _ c.if-most-eq0.false (search rules) c.in_ok-high.ensures.short

pub overflow_add-result-2 : goal.overflow_add-result-2
overflow_add-result-2 t c =
    let h = goal.at.overflow_add-result-2 t c in
    omega (arith, below_fits c.args.most _ c.requires (joined_short t h.In_ok-high))

pub returns-clause-short : goal.returns-clause-short
returns-clause-short t c = joined_short t (goal.at.returns-clause-short t c).In_ok-high
