-- A step of each loop of the definitions. Assumes nothing.
use Prim.Native.Nat.{ℕ, zero, suc, ◌+◌, ◌-◌, ◌%◌, ◌≤◌, ◌<◌}
use mathlib.Core.Path.{◌≡◌, refl, ap, ◌∙◌}
use mathlib.Core.Bool.{Bool, true, false, not, ◌||◌, true≢false}
use mathlib.Core.List.{List}
use native.Mathlib.Omega.{arith}
use lib.Dec.{eqb, ltb}
use lib.ListN.{length}
use borrow.Author.Tests.{eq-eqb, ne_eqb, lt-ltb, le-ltb, ltb-false}
use Rattle.block_log.specs.declared.Entry.{Entry}
use Rattle.block_log.specs.Log.{used, start_at, length_at, count_at}
use Rattle.block_log.proofs.Tests.{by_eqb, by_ltb}
use Rattle.block_index.specs.Index.{slot_of, found_at, lookup, last_end, start_for, overlap_at, swept_at, room_at, swept, room_left, reinserted_at, reinserted, result, placed_at, place}
use Rattle.block_index.specs.Model as Model
use Rattle.block_index.specs.Model.{Found}

-- ---- lookup

found-zero : (m : List ℕ) (p : ℕ) → p ≡ 0 → Model.no_block ≡ found_at m p
found-zero m p z = rw (eq-eqb p 0 z)

found-slot : (m : List ℕ) (p : ℕ) → (p ≡ 0 → ⊥)
    → ◌≡◌ {A = Found} (record { refusal = 0; start = start_at m p; length = length_at m p; count = count_at m p }) (found_at m p)
found-slot m p h = rw (ne_eqb p 0 h)

module _ (m : List ℕ) (space pc p : ℕ) (e : p ≡ slot_of m space pc) where
  pub found_none : p ≡ 0 → Model.no_block ≡ lookup m space pc
  unfolding lookup
  found_none z = found-zero m p z ∙ ap (λ (q : ℕ). found_at m q) e

  pub found_some : (p ≡ 0 → ⊥)
      → ◌≡◌ {A = Found} (record { refusal = 0; start = start_at m p; length = length_at m p; count = count_at m p }) (lookup m space pc)
  unfolding lookup
  found_some h = found-slot m p h ∙ ap (λ (q : ℕ). found_at m q) e

-- ---- refusal 15

abbrev Allowed : ℕ → ℕ → Type 0
Allowed size n = (0 < n) × (n ≤ size) × (n % 4 ≡ 0)

pub accepted : (size n : ℕ) → Model.refused size n ≡ false → Allowed size n
accepted size n =
    by_eqb (λ (t : Bool). (t || (not (eqb (n % 4) 0) || ltb size n)) ≡ false → Allowed size n) n 0
    (λ z e. absurd (true≢false e))
    (λ z. by_eqb (λ (t : Bool). (not t || ltb size n) ≡ false → Allowed size n) (n % 4) 0
    (λ d e. (omega arith, ltb-false size n e, d)) (λ d e. absurd (true≢false e)))

module _ (m store : List ℕ) (space pc count : ℕ) (code : List ℕ) where
  pub place-refused : Model.refused (length store) (length code) ≡ true
      → result (record { refusal = 15; start = 0 }) m store ≡ place m store space pc count code
  unfolding place
  place-refused h = rw h

  pub place-accepted : (at : ℕ) → Model.refused (length store) (length code) ≡ false → at ≡ start_for m (length store) (length code)
      → placed_at m store space pc count code at ≡ place m store space pc count code
  unfolding place
  place-accepted at h e = rw (h, ← e)

-- ---- where a block goes

module _ (m : List ℕ) (bound u s l : ℕ) (eu : u ≡ used m) (es : s ≡ start_at m u) (el : l ≡ length_at m u) where
  pub end_none : u ≡ 0 → 0 ≡ last_end m bound
  end_none h = rw (← eu, eq-eqb u 0 h)

  pub end_beyond : (u ≡ 0 → ⊥) → bound < s + l → 0 ≡ last_end m bound
  end_beyond h k = rw (← eu, ← es, ← el, ne_eqb u 0 h, lt-ltb bound (s + l) k)

  pub end_there : (u ≡ 0 → ⊥) → s + l ≤ bound → s + l ≡ last_end m bound
  end_there h k = rw (← eu, ← es, ← el, ne_eqb u 0 h, le-ltb bound (s + l) k)

-- ---- the sweep

module _ (m : List ℕ) (start end p s : ℕ) (es : s ≡ start_at m p) (h : s < end) where
  pub overlap-before : start < s → true ≡ overlap_at m start end p
  overlap-before k = rw (← es, lt-ltb s end h, lt-ltb start (s + length_at m p) (omega arith))

  pub overlap-after : (l : ℕ) → l ≡ length_at m p → s ≤ start → ltb (start - s) l ≡ overlap_at m start end p
  overlap-after l el k =
      rw (← es, ← el, lt-ltb s end h)
      (by_ltb (λ (t : Bool). ltb (start - s) l ≡ t) start (s + l) (λ q. lt-ltb (start - s) l (omega arith)) (λ q. le-ltb (start - s) l (omega arith)))

pub room_left_step : (m : List ℕ) (e : Entry) (room p : ℕ) → (p ≡ 0 → ⊥)
    → room_left m e room p ≡ room_left (swept_at m e room p) e (room_at m e room p) (p - 1)
unfolding room_left
room_left_step m e room zero h = absurd (h refl)
room_left_step m e room (suc k) h = let z : suc k - 1 ≡ k = omega arith in rw z

pub swept_step : (m : List ℕ) (e : Entry) (room p : ℕ) → (p ≡ 0 → ⊥)
    → swept m e room p ≡ swept (swept_at m e room p) e (room_at m e room p) (p - 1)
unfolding swept
swept_step m e room zero h = absurd (h refl)
swept_step m e room (suc k) h = let z : suc k - 1 ≡ k = omega arith in rw z

-- ---- the reinserting

pub reinserted_step : (m : List ℕ) (n p : ℕ) → p ≤ n → reinserted m (n + 1 - p) p ≡ reinserted (reinserted_at m p)
    (n + 1 - (p + 1)) (p + 1)
unfolding reinserted
reinserted_step m n p h =
    let a : n + 1 - p ≡ suc (n - p) = omega arith in
    let b : n + 1 - (p + 1) ≡ n - p = omega arith in
    rw (a, b)
