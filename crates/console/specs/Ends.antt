-- What the programs share, as far as it can be said: what standard input gives and what is printed is not in any contract.
use Rattle.std.specs.Prelude.{ℕ, ◌≡◌, List, Result, Ok, Err}
use Rattle.std.specs.declared.io.Error.{Error}
use Rattle.model.specs.declared.Sheet.{Sheet}
use Rattle.reader.specs.Calls.{IsRead}
use Rattle.console.specs.declared.Stop.{Stop}
use Rattle.console.specs.declared.Stop.TheVariants as stop

-- some bytes are this sheet's, and the reader does not refuse them
pub record HasBytes (sheet : Sheet) : Type 0 where
  pub bytes : List ℕ
  pub is_read : IsRead bytes 0 sheet

-- a program that went to its end does not fail, and one that input or output failed fails so; one that was refused prints a line
abbrev pub EndsAs : {E : Type 0} → Result E Stop → Result E Error → Type 0
EndsAs (Ok x) ended = ended ≡ Ok x
EndsAs (Err (stop.Refused number)) ended = Unit {0}
EndsAs (Err (stop.Failed error)) ended = ended ≡ Err error
