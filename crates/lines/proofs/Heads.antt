-- A law of the header.
use Prim.Native.Nat.{ℕ, ◌+◌}
use mathlib.Core.Path.{◌≡◌}
use native.Mathlib.Omega.{arith}
use lib.ListN.{length, length-append}
use Rattle.model.specs.Listing.{decimal, header}

-- as long as its three numbers and 22
pub header_length : (queues scale least : ℕ) {a b c : ℕ} → a ≡ length (decimal queues) → b ≡ length (decimal scale) →
    c ≡ length (decimal least) → 22 + a + b + c ≡ length (header queues scale least)
unfolding header
header_length queues scale least d e f = simp length-append (omega arith)
