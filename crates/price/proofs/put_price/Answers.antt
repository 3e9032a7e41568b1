-- `put_price` meets its contract: a number of 64 bits has at most 20 digits, so that there is room.
use Prim.Native.Nat.{ℕ, ◌^◌, ◌≤◌, ◌<◌}
use mathlib.Core.List.{◌++◌}
use native.Mathlib.Omega.{arith}
use lib.ListN.{length, length-append}
use Rattle.model.specs.Listing.{text, decimal}
use Rattle.decimals.proofs.Digits.{digits_upto}
use Rattle.price.proofs.put_price.Goals as goal

-- the word and a number take at most 26 bytes
enough : (x : ℕ) → x < 10 ^ 20 → length (text " rule " ++ decimal x) ≤ 26
enough x h = simp length-append (omega (arith, digits_upto 20 20 x (omega arith) h))

pub put_with_text-requires : goal.put_with_text-requires
put_with_text-requires g c =
    g.met.S.Sink.takes.room_less c.args.sink.now (length (text " rule " ++ decimal c.args.priced.price)) 26
    (enough c.args.priced.price (omega arith)) c.requires

pub returns-in-0 : goal.returns-in-0
returns-in-0 g c = (text " rule " ++ decimal c.args.priced.price, enough c.args.priced.price (omega arith), c.put_with_text.ensures)
