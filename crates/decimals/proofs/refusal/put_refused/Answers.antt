-- `put_refused` meets its contract: the line takes at most 29 bytes, since the number has at most 20 digits.
use Rattle.std.proofs.Common.{ℕ, ◌^◌, ◌≤◌, ◌<◌, arith, rules}
use lib.ListN.{length, length-append}
use Rattle.model.specs.Listing.{refused_line}
use Rattle.decimals.proofs.Digits.{digits_upto}
use Rattle.decimals.proofs.refusal.put_refused.Goals as goal

enough : (x : ℕ) → x < 10 ^ 20 → length (refused_line x) ≤ 29
unfolding refused_line
enough x h = simp length-append (omega (arith, digits_upto 20 20 x (omega arith) h))

pub put_line-requires : goal.put_line-requires
put_line-requires c = omega (arith, c.requires, enough c.args.number (omega arith))

pub returns : goal.returns
returns c = (search rules, omega (arith, c.put_line.ensures.0.next_is, enough c.args.number (omega arith)))
