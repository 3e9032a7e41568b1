-- Document 01: "If an answer is an enum, a definition gives this paper's number and values for each of the enum's cases." What the readers
-- answer, of a field, an entry or a table, as an `Answer` of the model: "a value with its next place, or a refusal".
use Rattle.std.specs.Prelude.{ℕ, ◌<◌, ◌^◌, Result, Ok, Err}
use Rattle.model.specs.Reading.{Answer, value, refused}
use Rattle.refusals.specs.Numbers.{number_of_refusal}
use Rattle.refusals.specs.declared.Refusal.{Refusal}

abbrev pub answer : {A : Type 0} → Result (A × ℕ) Refusal → Answer A
answer (Ok (one, next)) = value one next
answer (Err refusal) = refused (number_of_refusal refusal)

-- a number of at most n bytes is below 128^n, so that no sum of groups wraps
abbrev pub Short : ℕ → Answer ℕ → Type 0
Short n (value x next) = x < 128 ^ n
Short n (refused number) = Unit {0}
