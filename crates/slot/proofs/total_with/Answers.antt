-- `total_with` meets its contract: the total with an arrival is found by where the place lies among the first ones, and whether it is
-- before the deadline.
use Prim.Native.Nat.{◌+◌}
use mathlib.Core.Path.{sym}
use mathlib.Core.Bool.{true, false}
use native.Mathlib.Omega.{arith}
use borrow.Author.Tests.{le-leb, lt-leb}
use Rattle.slot.proofs.Places.{small_in, with_past, with_in}
use Rattle.slot.proofs.total_with.Goals as goal

pub returns-then-bound-place : goal.returns-then-bound-place
returns-then-bound-place c =
    let a = c.args in
    sym (with_past a.bound a.queue a.size a.deadline a.place c.if-bound-place.true)

pub returns-then-place-deadline : goal.returns-then-place-deadline
returns-then-place-deadline c =
    let a = c.args in
    let early = lt-leb a.deadline (a.place + 1) c.if-place-deadline.true in
    omega (arith, with_in a.bound a.queue a.size a.deadline a.place false (omega arith) (omega arith) early)

pub overflow_add-result : goal.overflow_add-result
overflow_add-result c =
    let a = c.args in
    omega (arith, small_in a.bound a.queue a.place c.if-bound-place.false c.requires.3)

pub returns-else-place-deadline : goal.returns-else-place-deadline
returns-else-place-deadline c =
    let a = c.args in
    let due = le-leb a.deadline (a.place + 1) c.if-place-deadline.false in
    sym (with_in a.bound a.queue a.size a.deadline a.place true (omega arith) (omega arith) due)
