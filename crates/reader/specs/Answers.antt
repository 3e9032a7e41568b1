-- Document 01: "If an answer is an enum, a definition gives this paper's number and values for each of the enum's cases." What a read gives
-- as its number and its sheet.
use Rattle.std.specs.Prelude.{Result, Ok, Err}
use Rattle.model.specs.Reading.{ReadSheet}
use Rattle.model.specs.View.{zero_sheet}
use Rattle.model.specs.declared.Sheet.{Sheet}
use Rattle.refusals.specs.Numbers.{number_of_refusal}
use Rattle.refusals.specs.declared.Refusal.{Refusal}

-- "A refused read gives an all-zero sheet"
abbrev pub number_and_sheet : Result Sheet Refusal → ReadSheet
number_and_sheet (Ok sheet) = record { number = 0; sheet = sheet }
number_and_sheet (Err refusal) = record { number = number_of_refusal refusal; sheet = zero_sheet }
