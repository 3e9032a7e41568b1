-- What a write answers (`write` of the model, specs/Bytes.antt), in each of the three ways that it can end.
use Prim.Native.Nat.{ℕ}
use mathlib.Core.Path.{◌≡◌, refl}
use mathlib.Core.List.{List}
use borrow.Author.Tests.{eqb-false}
use lib.ListN.{length}
use Rattle.laws.proofs.RoundTrip.{write_fits, write_short}
use Rattle.model.proofs.Tests.{then_stops}
use Rattle.laws.proofs.Written.{written_refused}
use Rattle.model.specs.Bytes.{sheet_bytes, write_refusal, write_lines, write}
use Rattle.model.specs.View.{View}
use Rattle.model.specs.Refusal.{sheet_refusal, value_limit}
use Rattle.buffers.proofs.Laid.{laid_written}
use Rattle.ranges.proofs.Answers.{number_some}
use Rattle.refusals.specs.Numbers.{number_of_refusal, number_of}
use Rattle.refusals.specs.declared.Refusal.{Refusal}
use Rattle.std.specs.Prelude.{Result, Ok, Err, MatchResult}
use Rattle.sinks.specs.Laws.{Written, TooShort, length_of}
use Rattle.writer.specs.Calls.{IsWritten}

module _ (s : View) where
  -- a refusal touches nothing and has the length 0
  refused_with : (buffer : List ℕ) (number : ℕ) → write_refusal s (length buffer) ≡ number → (number ≡ 0 → ⊥) → IsWritten s buffer number 0 buffer
  unfolding write
  refused_with buffer number e some = rw e (written_refused (sheet_bytes s) buffer some)

  -- the sheet is refused
  pub write_refused : (buffer : List ℕ) (why : Refusal) → number_of_refusal why ≡ sheet_refusal value_limit s →
      IsWritten s buffer (number_of_refusal why) 0 buffer
  unfolding write_lines
  write_refused buffer why e =
      refused_with buffer (number_of_refusal why) (rw (← e) (then_stops (number_of_refusal why) _ (number_some why))) (number_some why)

  -- it is not: what is written of its bytes, or refused for want of room, is what the call answers
  pub write_ends : sheet_refusal value_limit s ≡ 0 → (before after : List ℕ) (r : Result ℕ Refusal) →
      MatchResult r (Written (sheet_bytes s) before after) (TooShort (sheet_bytes s) before after) →
      IsWritten s before (number_of r) (length_of r) after
  unfolding write
  write_ends right before after (Ok n) done =
      laid_written (write_refusal s (length before)) (write_fits s (length before) right done.room) done.room done.laid
  write_ends right before after (Err why) found =
      rw (found.same, found.why_is)
      (refused_with before 11 (write_short s (length before) right found.short) (eqb-false 11 0 refl))
