-- The front of a log filled with zeros. Assumes nothing.
use Rattle.std.proofs.Common.{◌≡◌, refl, ℕ, zero, suc, ◌≤◌, List, ◌++◌, length, take, drop}
use Rattle.std.specs.Prelude.{replicate}
use native.Mathlib.Nat.{zero-div}
use lib.Seq.{length-take-le}
use Rattle.le.specs.Le.{bytes}

zeros : (k : ℕ) → replicate k 0 ≡ bytes k 0
unfolding bytes
zeros zero = refl
zeros (suc k) = rw (zeros k)

pub zeros_before : (k : ℕ) (m s : List ℕ) → s ≡ replicate (length (take k m)) 0 → k ≤ length m → s ++ drop k m ≡ bytes k 0 ++ drop k m
zeros_before k m s e h = rw (e, length-take-le k m h, zeros k)
