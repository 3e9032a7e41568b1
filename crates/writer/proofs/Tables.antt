-- The entries of a table, put one after another, are the table's bytes.
use Prim.Native.Nat.{ℕ, zero, suc, ◌≤◌, ◌<◌}
use mathlib.Core.Path.{◌≡◌, refl}
use mathlib.Core.List.{List, append-nil}
use native.Mathlib.Omega.{arith}
use lib.ListN.{length, get_or, take}
use lib.Seq.{take-suc, take-length}
use Rattle.std.proofs.lemmas.List.Concat.{flat_map-append}
use Rattle.std.specs.List.{flat_map}
use Rattle.model.specs.Bytes.{speed_code, job_code, speed_bytes, job_bytes}
use Rattle.model.specs.Tests.{in_turn}
use Rattle.model.specs.View.{View, zero_speed, zero_job}

-- those before a place
turn_front : {X : Type 0} (f : X → List ℕ) (xs : List X) (d : X) (n : ℕ) → n ≤ length xs →
    flat_map f (take n xs) ≡ in_turn (λ j. f (get_or xs j d)) n
unfolding in_turn
turn_front f xs d zero h = refl
turn_front f xs d (suc n) h =
    let inside : n < length xs = omega arith in
    let before : flat_map f (take n xs) ≡ in_turn (λ j. f (get_or xs j d)) n = turn_front f xs d n (omega arith) in
    rw (take-suc xs n d inside, flat_map-append, before, append-nil)

-- all of them
turn_all : {X : Type 0} (f : X → List ℕ) (xs : List X) (d : X) (n : ℕ) → length xs ≡ n → flat_map f xs ≡ in_turn (λ j. f (get_or xs j d)) n
turn_all f xs d n long =
    let whole : take n xs ≡ xs = rw (← long) (take-length xs) in
    rw whole at (turn_front f xs d n (omega arith))

module _ (s : View) where
  pub speeds_put : length s.speeds ≡ s.speed_count → flat_map speed_code s.speeds ≡ speed_bytes s s.speed_count
  unfolding speed_bytes
  speeds_put long = turn_all speed_code s.speeds zero_speed s.speed_count long

  pub jobs_put : length s.jobs ≡ s.job_count → flat_map job_code s.jobs ≡ job_bytes s s.job_count
  unfolding job_bytes
  jobs_put long = turn_all job_code s.jobs zero_job s.job_count long
