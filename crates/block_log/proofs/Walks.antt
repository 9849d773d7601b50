-- Steps of a walk along a chain. Assumes nothing.
use Prim.Native.Nat.{ℕ, zero, suc, ◌+◌, ◌-◌, ◌≤◌, ◌<◌}
use mathlib.Core.Path.{◌≡◌, refl, sym, ◌∙◌}
use mathlib.Core.Bool.{Bool, true, false, cond}
use mathlib.Core.List.{List}
use native.Mathlib.Nat.{zero-add, suc-add}
use native.Mathlib.Omega.{arith}
use borrow.Author.Tests.{eq-eqb, ne_eqb}
use Rattle.block_log.specs.Log.{slots, next_at, walk}
use Rattle.block_log.proofs.Tests.{by_test, by_eqb}

module _ (m : List ℕ) (test : ℕ → Bool) where
  pub walk-le : (k p : ℕ) → walk m test k p ≤ k
  unfolding walk
  walk-le zero p = omega arith
  walk-le (suc k) p =
      let on = walk-le k (next_at m p) in
      let past = walk-le k p in
      by_eqb (λ (t : Bool). cond t (cond (test p) p (walk m test k (next_at m p))) (walk m test k p) ≤ suc k) p (suc k)
      (λ e. by_test (λ (t : Bool). cond t p (walk m test k (next_at m p)) ≤ suc k) (test p) (λ q. omega arith)
      (λ q. omega arith)) (λ e. omega arith)

  walk-high : (k p : ℕ) → k < p → walk m test k p ≡ 0
  unfolding walk
  walk-high zero p h = refl
  walk-high (suc k) p h = rw (ne_eqb p (suc k) (λ e. omega arith)) (walk-high k p (omega arith))

  -- slots above that from which the chain goes on are passed over
  pub walk_past : (k p : ℕ) → p ≤ k → walk m test (suc k) p ≡ walk m test k p
  unfolding walk
  walk_past k p h = rw (ne_eqb p (suc k) (λ e. omega arith))

  pub walk_up : (d k p : ℕ) → p ≤ k → walk m test (d + k) p ≡ walk m test k p
  walk_up zero k p h = rw (zero-add k)
  walk_up (suc d) k p h = rw (suc-add d k) (walk_past (d + k) p (omega arith) ∙ walk_up d k p h)

  walk_down : (k p : ℕ) → p ≤ k → walk m test k p ≡ walk m test p p
  walk_down k p h = let e : k ≡ k - p + p = omega arith in rw e (walk_up (k - p) p p (omega arith))

  pub walk_start : (p : ℕ) → p < slots → walk m test p p ≡ walk m test (slots - 1) p
  walk_start p h = sym (walk_down 1023 p (omega arith))

  pub walk_none : (p r : ℕ) → p ≡ 0 → walk m test p p ≡ r → 0 ≡ r
  unfolding walk
  walk_none p r e h = rw e at h

  pub walk_here : (k : ℕ)
      → walk m test (suc k) (suc k) ≡ cond (test (suc k)) (suc k) (walk m test k (next_at m (suc k)))
  unfolding walk
  walk_here k = rw (eq-eqb (suc k) (suc k) refl)

  pub walk_hit : (p : ℕ) → (p ≡ 0 → ⊥) → test p ≡ true → walk m test p p ≡ p
  walk_hit zero h e = absurd (h refl)
  walk_hit (suc k) h e = walk_here k ∙ rw e

  pub walk-on : (p : ℕ) → (p ≡ 0 → ⊥) → test p ≡ false → next_at m p < p
      → walk m test p p ≡ walk m test (next_at m p) (next_at m p)
  walk-on zero h e l = absurd (h refl)
  walk-on (suc k) h e l = walk_here k ∙ rw e (walk_down k (next_at m (suc k)) (omega arith))

  pub walk_end : (p : ℕ) → (p ≡ 0 → ⊥) → test p ≡ false → p ≤ next_at m p → walk m test p p ≡ 0
  walk_end zero h e l = absurd (h refl)
  walk_end (suc k) h e l = walk_here k ∙ rw e (walk-high k (next_at m (suc k)) (omega arith))
