-- What a listing answers (`list` of the model, specs/Listing.antt), in each of the three ways that it can end.
use Prim.Native.Nat.{ℕ}
use mathlib.Core.Path.{◌≡◌, refl}
use mathlib.Core.List.{List}
use borrow.Author.Tests.{eqb-false}
use lib.ListN.{length}
use Rattle.laws.proofs.Listing.{list_refused, list_short, list_fits}
use Rattle.laws.proofs.Written.{written_refused}
use Rattle.model.specs.View.{View}
use Rattle.model.specs.Listing.{scale_of, listing, list_refusal, list}
use Rattle.model.specs.Plan.{row_refusal}
use Rattle.model.specs.Refusal.{N}
use Rattle.buffers.proofs.Laid.{laid_written}
use Rattle.ranges.proofs.Answers.{number_some}
use Rattle.refusals.specs.Numbers.{number_of_refusal, number_of}
use Rattle.std.specs.Prelude.{Result, Ok, Err, MatchResult}
use Rattle.refusals.specs.declared.Refusal.{Refusal}
use Rattle.sinks.specs.Laws.{Written, TooShort, length_of}
use Rattle.listing.specs.Calls.{IsListed}
use Rattle.listing.specs.Whole.{whole_listing}

module _ (s : View) (least : ℕ) (plan : List ℕ) where
  -- a refusal touches nothing and has the length 0
  refused_with : (buffer : List ℕ) (number : ℕ) → list_refusal s least plan (length buffer) ≡ number → (number ≡ 0 → ⊥) →
      IsListed s least plan buffer number 0 buffer
  unfolding list
  refused_with buffer number e some = rw e (written_refused (listing s least plan) buffer some)

  -- the sheet is refused, or the plan is too short
  pub listing_refused : (buffer : List ℕ) (why : Refusal) → number_of_refusal why ≡ row_refusal s (length plan) →
      IsListed s least plan buffer (number_of_refusal why) 0 buffer
  listing_refused buffer why e =
      refused_with buffer (number_of_refusal why) (list_refused s least plan (length buffer) e (number_some why)) (number_some why)

  module _ {queues scale : ℕ} (accepted : row_refusal s (length plan) ≡ 0) (queues_are : queues ≡ N s) (scale_is : scale ≡ scale_of s) where
    -- what the code puts is the listing
    whole : whole_listing queues scale least plan s.horizon ≡ listing s least plan
    unfolding listing
    whole = rw (queues_are, scale_is)

    -- so what is written of it, or refused for want of room, is what the call answers
    pub listing_ends : (before after : List ℕ) (r : Result ℕ Refusal) →
        MatchResult r (Written (whole_listing queues scale least plan s.horizon) before after)
        (TooShort (whole_listing queues scale least plan s.horizon) before after) →
        IsListed s least plan before (number_of r) (length_of r) after
    unfolding list
    listing_ends before after (Ok n) done =
        let room = rw whole at done.room in
        laid_written (list_refusal s least plan (length before)) (list_fits s least plan (length before) accepted room) room (rw whole at done.laid)
    listing_ends before after (Err why) found =
        rw (found.same, found.why_is)
        (refused_with before 11 (list_short s least plan (length before) accepted (rw whole at found.short)) (eqb-false 11 0 refl))
