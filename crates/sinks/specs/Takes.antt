-- A count of bytes, and a place in lent bytes, take bytes as the laws say (specs/Laws.antt).
use Prim.Native.Nat.{◌+◌, ◌^◌, ◌≤◌, ◌<◌}
use mathlib.Core.Path.{◌≡◌, refl, ◌∙◌}
use native.Mathlib.Omega.{arith}
use lib.ListN.{length, length-append}
use Rattle.buffers.proofs.Laid.{laid_none, laid_next, laid_length, laid_then}
use Rattle.buffers.specs.Laid.{Laid}
use Rattle.sinks.specs.Laws.{Takes}
use Rattle.sinks.specs.declared.Length.{Length}
use Rattle.sinks.specs.declared.Lent.{Lent}

pub length_takes : Takes {A = Length} (λ s n. s.bytes + n < 2 ^ 64) (λ s l t. t.bytes ≡ s.bytes + length l)
length_takes =
    record {
      room_less = λ s m n fewer room. omega arith;
      room_left = λ s t l n puts room. omega arith;
      none = λ s. omega arith;
      more = λ s t u l m first second. omega (arith, length-append l m);
    }

pub lent_takes : Takes {A = Lent} (λ s n. s.at + n ≤ length s.buffer.now)
    (λ s l t. Laid s.at l s.buffer.now t.buffer.now t.at × (t.buffer.ghost_name ≡ s.buffer.ghost_name))
lent_takes =
    record {
      room_less = λ s m n fewer room. omega arith;
      room_left = λ s t l n puts room. omega (arith, laid_next puts.0, laid_length puts.0);
      none = λ s. (laid_none s.at s.buffer.now, refl);
      more = λ s t u l m first second. (laid_then first.0 second.0, second.1 ∙ first.1);
    }
