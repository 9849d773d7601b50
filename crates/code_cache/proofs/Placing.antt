-- What Place gives in each of its three cases. Assumes nothing.
use Prim.Native.Nat.{ℕ, ◌+◌, ◌≤◌, ◌<◌}
use mathlib.Core.Path.{◌≡◌}
use mathlib.Core.List.{List}
use lib.ListN.{length}
use borrow.Author.Tests.{lt-ltb, le-ltb}
use Rattle.le.specs.Le.{splice}
use Rattle.code_cache.specs.Place.{aligned, refusal, result, place}

module _ (store : List ℕ) (used : ℕ) (code : List ℕ) where
  abbrev start_of : ℕ
  start_of = aligned (record { bytes = store; used = used })

  pub beyond : length store < used → result (refusal 7) store ≡ place store used code
  unfolding place
  beyond h = rw (lt-ltb (length store) used h)

  pub no_room : used ≤ length store → length store < start_of + length code → result (refusal 8) store ≡ place store used code
  unfolding place
  no_room h k = rw (le-ltb (length store) used h, lt-ltb (length store) (start_of + length code) k)

  pub room : used ≤ length store → (start : ℕ) → start_of ≡ start → start + length code ≤ length store
      → result (record { refusal = 0; start = start; used = start + length code }) (splice store start code)
      ≡ place store used code
  unfolding place
  room h start e k = rw (le-ltb (length store) used h, e, le-ltb (length store) (start + length code) k)
