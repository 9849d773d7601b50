-- The 32 slots of the guest registers in memory, each on its own: p n is the place of slot n. Assumes nothing.
use Rattle.std.proofs.Common.{◌≡◌, ℕ, ◌+◌, ◌-◌, ◌^◌, ◌<◌, ◌≤◌, Bool, true, false, eqb, ◌⊎◌, List, length, get_or, set, sym, refl, ◌∙◌, inl, inr, arith, length-set, get_or-set_other, get_or-set_same, eqb-true}
use borrow.Author.Tests.{eqb-false}
use Rattle.le.specs.Le.{load, store}
use Rattle.le.proofs.Laws.{load_same, load-other, store_below, store_above, length-store}

-- apart from each other, and inside len bytes
pub record Apart (p : ℕ → ℕ) (len : ℕ) : Type 0 where
  pub inside : (n : ℕ) → n < 32 → p n + 8 ≤ len
  pub apart : (n k : ℕ) → n < 32 → k < 32 → (n ≡ k → ⊥) → (p k + 8 ≤ p n) ⊎ (p n + 8 ≤ p k)

-- byte j lies in none of slots 1 to 31
abbrev pub Outside : (ℕ → ℕ) → ℕ → Type 0
Outside p j = (n : ℕ) → 1 ≤ n → n < 32 → (j < p n) ⊎ (p n + 8 ≤ j)

-- the memory m has the numbers vs in its slots from 1 on, and is m₀ elsewhere
pub record Slots (p : ℕ → ℕ) (m₀ m vs : List ℕ) : Type 0 where
  pub size : length m ≡ length m₀
  pub count : length vs ≡ 32
  pub holds : (n : ℕ) → 1 ≤ n → n < 32 → load 8 m (p n) ≡ get_or vs n 0
  pub outside : (j : ℕ) → Outside p j → get_or m j 0 ≡ get_or m₀ j 0

module _ (p : ℕ → ℕ) (m₀ m vs : List ℕ) (d : Apart p (length m₀)) (s : Slots p m₀ m vs) where
  -- a store to slot n, which is not 0
  pub slot_stored : (n w : ℕ) → 1 ≤ n → n < 32 → w < 2 ^ 64 → Slots p m₀ (store 8 m (p n) w) (set vs n w)
  slot_stored n w pn hn hw =
      record {
        size = length-store 8 m (p n) w at_n ∙ s.size;
        count = length-set vs n w ∙ s.count;
        holds = λ k pk hk. by k pk hk (eqb k n) refl;
        outside = λ j o. beside j (o n pn hn) ∙ s.outside j o;
      }
    where
      at_n : p n + 8 ≤ length m
      at_n = rw s.size (d.inside n hn)

      by : (k : ℕ) → 1 ≤ k → k < 32 → (t : Bool) → eqb k n ≡ t → load 8 (store 8 m (p n) w) (p k) ≡ get_or (set vs n w) k 0
      by k pk hk true q =
          let e : k ≡ n = eqb-true k n q in
          rw e (load_same 8 m (p n) w (omega (arith, at_n)) hw ∙ sym (get_or-set_same vs n w 0 (rw s.count hn)))
      by k pk hk false q =
          let ne : k ≡ n → ⊥ = eqb-false k n q in
          load-other 8 m (p n) w (p k) at_n (rw s.size (d.inside k hk)) (d.apart n k hn hk (λ e. ne (sym e)))
          ∙ s.holds k pk hk
          ∙ sym (get_or-set_other vs n k w 0 ne)

      beside : (j : ℕ) → (j < p n) ⊎ (p n + 8 ≤ j) → get_or (store 8 m (p n) w) j 0 ≡ get_or m j 0
      beside j (inl h) = store_below 8 m (p n) w j (omega (arith, at_n)) h
      beside j (inr h) =
          let e : p n + 8 + (j - (p n + 8)) ≡ j = omega arith in
          rw e at (store_above 8 m (p n) w (j - (p n + 8)) (omega (arith, at_n)))
