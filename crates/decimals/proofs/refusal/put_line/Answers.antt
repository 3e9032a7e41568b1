-- `put_line` meets its contract: the word and the number are put, and the line feed behind them.
use mathlib.Core.List.{◌++◌}
use Rattle.model.specs.Listing.{text, decimal, refused_line}
use Rattle.sinks.proofs.Parts.{room_first, room_then}
use Rattle.decimals.proofs.refusal.put_line.Goals as goal

pub put_with_text-requires : goal.put_with_text-requires
unfolding refused_line
put_with_text-requires g c =
    room_first g.met.S.Sink.takes (text "refused " ++ decimal c.args.number) (text "\n") c.requires

pub put-requires : goal.put-requires
unfolding refused_line
put-requires g c =
    room_then g.met.S.Sink.takes (text "refused " ++ decimal c.args.number) (text "\n") c.put_with_text.ensures c.requires

pub returns : goal.returns
unfolding refused_line
returns g c =
    g.met.S.Sink.takes.more _ _ _ (text "refused " ++ decimal c.args.number) (text "\n") c.put_with_text.ensures c.put.ensures
