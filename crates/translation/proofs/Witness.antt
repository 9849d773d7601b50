-- The premises of demand 3 and of helper blocks can be met: zeros in every register and in 512 bytes of memory, slots in
-- the first 256, the stack at the end (`idle` in Called.antt: what a helper may leave). Slot 0 is among the memory that
-- stays. Assumes nothing.
use mathlib.Core.Path.{◌≡◌, refl}
use mathlib.Core.Bool.{false}
use mathlib.Core.List.{List}
use mathlib.Core.Logic.{inl, inr, ⊎_elim}
use Prim.Native.Nat.{ℕ, zero, suc, ◌+◌, ◌^◌, ◌<◌}
use native.Mathlib.Omega.{arith}
use lib.ListN.{get_or, take, replicate}
use Rattle.le.specs.Le.{Bytes, number, load}
use Rattle.a64_exec.specs.Exec.{State, machine}
use Rattle.translation.specs.Demand3.{place, Entry, Outside}
use Rattle.translation.specs.HelperBlock.{Stack, Beside}
use Rattle.translation.proofs.Registers.{zeros_below}
use Rattle.translation.proofs.Entering.{apart}

zero_at : (n i : ℕ) → ◌≡◌ {A = ℕ} (get_or (replicate n 0) i 0) 0
zero_at n i = omega (arith, zeros_below 1 n i (omega arith))

front_zero : (k n : ℕ) → number (take k (replicate n 0)) ≡ 0
unfolding number
front_zero zero n = refl
front_zero (suc k) zero = refl
front_zero (suc k) (suc n) = omega (arith, front_zero k n)

loads-zero : (k n i : ℕ) → load k (replicate n 0) i ≡ 0
unfolding load
loads-zero k n zero = front_zero k n
loads-zero k zero (suc i) = front_zero k zero
loads-zero k (suc n) (suc i) = loads-zero k n i

bare : State
bare = machine (replicate 31 0) 512 (record { n = false; z = false; c = false; v = false }) 0 (replicate 512 0)

entry : Entry 0 bare (replicate 32 0)
unfolding bare Bytes
entry =
    record {
      count = refl;
      small = λ k. zeros_below (2 ^ 64) 31 k (omega arith);
      bytes = λ i. zeros_below 256 512 i (omega arith);
      top = omega arith;
      aligned = λ n h. rw (zero_at 31 0) (omega arith);
      inside = λ n h. rw (zero_at 31 0) (omega arith, omega arith);
      guest = refl;
      starts = λ n p h. rw (zero_at 32 n, loads-zero 8 512 (place bare 0 n)) refl;
    }

stack : Stack 0 bare
unfolding bare
stack =
    record {
      small = omega arith;
      aligned = omega arith;
      inside = (omega arith, omega arith);
      apart = λ n h. inl (rw (zero_at 31 0) (omega arith));
    }

-- ---- byte i of slot 0 lies in no other slot, and not in the 16 bytes below SP

module _ (o : ℕ) (s : State) (x : List ℕ) (ε : Entry o s x) (i : ℕ) (hi : i < 8) where
  slot_0_outside : Outside s o (place s o 0 + i)
  slot_0_outside n pn hn =
      ⊎_elim (λ l. inr (omega arith)) (λ l. inl (omega arith)) ((apart o s x ε).apart 0 n (omega arith) hn (λ e. omega arith))

  slot_0_beside : Stack o s → Beside s (place s o 0 + i)
  slot_0_beside σ =
      let a = ε.inside 0 (omega arith) in
      ⊎_elim (λ l. inl (omega (arith, σ.inside))) (λ l. inr (omega (arith, σ.inside))) (σ.apart 0 (omega arith))
