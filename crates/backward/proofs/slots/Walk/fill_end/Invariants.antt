-- `fill_end` meets its contract. The loop's invariant: so many values of the end row stand there, and nothing else has changed.
use mathlib.Core.Option.{some}
use Rattle.buffers.specs.Fills.{Fills}
use Rattle.value.specs.Narrow.{width}
use Rattle.model.specs.Width.{value_in}
use Rattle.backward.proofs.slots.Walk.fill_end.Given as goal

abbrev pub invariant-loop-number : goal.invariant-loop-number
invariant-loop-number l = Fills width.places (value_in width) (λ i. some 0) l.from l.number l.initial.values l.values
