-- `put_decimal` meets its contract: what is put is the number in decimal, at once where it has at most three digits.
use Rattle.std.proofs.Common.{◌≡◌, List, ℕ, length, subst, sym, ◌∙◌, arith}
use Rattle.model.specs.Listing.{decimal}
use Rattle.laws.proofs.Listing.{digits_last}
use Rattle.decimals.proofs.Digits.{two_digits, three_digits}
use Rattle.decimals.proofs.Printed.{printed_decimal}
use Rattle.decimals.proofs.decimal.put_decimal.Goals as goal

pub put-requires : goal.put-requires
put-requires g c =
    let Room : List ℕ → Type 0 = λ l. g.S.Sink.HasRoom c.args.sink.now (length l) in
    subst Room (digits_last 20 c.args.x (omega arith) c.if-x-lt10.true) c.requires

pub returns-then-x-lt10 : goal.returns-then-x-lt10
returns-then-x-lt10 g c =
    let Put : List ℕ → Type 0 = λ l. g.S.Sink.Puts c.args.sink.now l c.put.new.self in
    subst Put (sym (digits_last 20 c.args.x (omega arith) c.if-x-lt10.true)) c.put.ensures

pub put-requires-then-x-lt100 : goal.put-requires-then-x-lt100
put-requires-then-x-lt100 g c =
    let Room : List ℕ → Type 0 = λ l. g.S.Sink.HasRoom c.args.sink.now (length l) in
    subst Room (two_digits c.args.x c.if-x-lt10.false c.if-x-lt100.true) c.requires

pub returns-then-x-lt100 : goal.returns-then-x-lt100
returns-then-x-lt100 g c =
    let Put : List ℕ → Type 0 = λ l. g.S.Sink.Puts c.args.sink.now l c.put-then-x-lt100.new.self in
    subst Put (sym (two_digits c.args.x c.if-x-lt10.false c.if-x-lt100.true)) c.put-then-x-lt100.ensures

pub put-requires-then-x-lt1000 : goal.put-requires-then-x-lt1000
put-requires-then-x-lt1000 g c =
    let Room : List ℕ → Type 0 = λ l. g.S.Sink.HasRoom c.args.sink.now (length l) in
    subst Room (three_digits c.args.x c.if-x-lt100.false c.if-x-lt1000.true) c.requires

pub returns-then-x-lt1000 : goal.returns-then-x-lt1000
returns-then-x-lt1000 g c =
    let Put : List ℕ → Type 0 = λ l. g.S.Sink.Puts c.args.sink.now l c.put-then-x-lt1000.new.self in
    subst Put (sym (three_digits c.args.x c.if-x-lt100.false c.if-x-lt1000.true)) c.put-then-x-lt1000.ensures

pub put-requires-2 : goal.put-requires-2
put-requires-2 g c =
    let e : c.as_bytes.result.now ≡ decimal c.args.x = c.as_bytes.ensures.value ∙ c.format.ensures.text ∙ printed_decimal c.args.x (omega arith) in
    let Room : List ℕ → Type 0 = λ l. g.S.Sink.HasRoom c.args.sink.now (length l) in
    subst Room (sym e) c.requires

pub returns : goal.returns
returns g c =
    let e : c.as_bytes.result.now ≡ decimal c.args.x = c.as_bytes.ensures.value ∙ c.format.ensures.text ∙ printed_decimal c.args.x (omega arith) in
    let Put : List ℕ → Type 0 = λ l. g.S.Sink.Puts c.args.sink.now l c.put-2.new.self in
    subst Put e c.put-2.ensures
