-- What the flags of a comparison say: Z that the numbers are equal, C that the first is not below the second, N unlike V
-- that it is below as a signed number. Assumes nothing.
use Rattle.std.proofs.Common.{◌≡◌, ℕ, ◌+◌, ◌-◌, ◌%◌, ◌^◌, ◌<◌, ◌≤◌, Bool, true, false, not, eqb, ltb, leb, ◌≢◌, ◌⊎◌, sym, refl, ap, ◌∙◌, inl, inr, arith, ltb-false, ltb-true, le-ltb, lt-ltb, eq-eqb, ne_eqb, eqb-true, leb-false, leb-true}
use mathlib.Core.Bool.{xor}
use native.Mathlib.Nat.{mod-add-mod}
use borrow.Author.Tests.{eqb-false}
use Rattle.word.specs.Word.{sub, complement, bias, sign, slt}
use Rattle.a64_alu.specs.Alu.{difference, compared}

pub difference-sub : (x y : ℕ) → y < 2 ^ 64 → difference x y ≡ sub x y
difference-sub x y h = let e : x + complement y + 1 ≡ x + (2 ^ 64 - y) = omega arith in rw e

-- two tests are equal where each fact gives the other
eqb_eqb : (a b c d : ℕ) → (a ≡ b → c ≡ d) → (c ≡ d → a ≡ b) → eqb a b ≡ eqb c d
eqb_eqb a b c d f g = by (eqb c d) refl
  where
    by : (t : Bool) → eqb c d ≡ t → eqb a b ≡ t
    by true q = eq-eqb a b (g (eqb-true c d q))
    by false q = ne_eqb a b (λ e. eqb-false c d q (f e))

-- ---- the signed order by the signed values plus 2 ^ 63: X, Y those of the numbers and D that of their difference

-- the sign bit
sign-bias : (d : ℕ) → d < 2 ^ 64 → sign d ≡ ltb (bias d) (2 ^ 63)
sign-bias d h = by (sign d) refl
  where
    by : (t : Bool) → sign d ≡ t → sign d ≡ ltb (bias d) (2 ^ 63)
    by true q = q ∙ sym (lt-ltb (bias d) (2 ^ 63) (omega (arith, leb-true (2 ^ 63) d q)))
    by false q = q ∙ sym (le-ltb (bias d) (2 ^ 63) (omega (arith, leb-false (2 ^ 63) d q)))

unlike : (X Y D : ℕ) → X < 2 ^ 64 → Y < 2 ^ 64 → D ≡ (X + (2 ^ 64 - Y) + 2 ^ 63) % 2 ^ 64
    → (n t : Bool) → ltb D (2 ^ 63) ≡ n → eqb (D + 2 ^ 63) (X + (2 ^ 64 - 1 - Y) + 1) ≡ t → xor n (not t) ≡ ltb X Y
unfolding xor
unlike X Y D hX hY e true true p q =
    sym (lt-ltb X Y (omega (arith, ltb-true D (2 ^ 63) p, eqb-true (D + 2 ^ 63) (X + (2 ^ 64 - 1 - Y) + 1) q)))
unlike X Y D hX hY e true false p q =
    let q' : D + 2 ^ 63 ≢ X + (2 ^ 64 - 1 - Y) + 1 = eqb-false (D + 2 ^ 63) (X + (2 ^ 64 - 1 - Y) + 1) q in
    sym (le-ltb X Y (omega (arith, ltb-true D (2 ^ 63) p)))
unlike X Y D hX hY e false true p q =
    sym (le-ltb X Y (omega (arith, ltb-false D (2 ^ 63) p, eqb-true (D + 2 ^ 63) (X + (2 ^ 64 - 1 - Y) + 1) q)))
unlike X Y D hX hY e false false p q =
    let q' : D + 2 ^ 63 ≢ X + (2 ^ 64 - 1 - Y) + 1 = eqb-false (D + 2 ^ 63) (X + (2 ^ 64 - 1 - Y) + 1) q in
    sym (lt-ltb X Y (omega (arith, ltb-false D (2 ^ 63) p)))

bias-complement : (y : ℕ) → y < 2 ^ 64 → bias (complement y) ≡ 2 ^ 64 - 1 - bias y
bias-complement y h = omega arith

shifted : (x : ℕ) → x < 2 ^ 64 → (bias x ≡ x + 2 ^ 63) ⊎ (x ≡ bias x + 2 ^ 63)
shifted x h = by (ltb x (2 ^ 63)) refl
  where
    by : (t : Bool) → ltb x (2 ^ 63) ≡ t → (bias x ≡ x + 2 ^ 63) ⊎ (x ≡ bias x + 2 ^ 63)
    by true q = inl (omega (arith, ltb-true x (2 ^ 63) q))
    by false q = inr (omega (arith, ltb-false x (2 ^ 63) q))

-- in a difference the shifts cancel
cancel : (x y X Y : ℕ) → y < 2 ^ 64 → X < 2 ^ 64 → Y < 2 ^ 64 → (X ≡ x + 2 ^ 63) ⊎ (x ≡ X + 2 ^ 63) → (Y ≡ y + 2 ^ 63) ⊎ (y ≡ Y + 2 ^ 63)
    → sub x y ≡ (X + (2 ^ 64 - Y)) % 2 ^ 64
cancel x y X Y hy hX hY (inl p) (inl q) = omega arith
cancel x y X Y hy hX hY (inl p) (inr q) = omega arith
cancel x y X Y hy hX hY (inr p) (inl q) = omega arith
cancel x y X Y hy hX hY (inr p) (inr q) = omega arith

xor_xor : (n v : Bool) → v ≡ xor (xor n v) n
unfolding xor
xor_xor true true = refl
xor_xor true false = refl
xor_xor false true = refl
xor_xor false false = refl

module _ (x y : ℕ) (hx : x < 2 ^ 64) (hy : y < 2 ^ 64) where
  pub z_law : (compared x y).z ≡ eqb x y
  unfolding compared
  z_law = eqb_eqb (difference x y) 0 x y (λ e. omega arith) (λ e. omega arith)

  pub c_law : (compared x y).c ≡ leb y x
  unfolding compared
  c_law = by (leb y x) refl
    where
      by : (t : Bool) → leb y x ≡ t → not (eqb (difference x y) (x + complement y + 1)) ≡ t
      by true q = let h : y ≤ x = leb-true y x q in ap not (ne_eqb (difference x y) (x + complement y + 1) (λ e. omega arith))
      by false q = let h : x < y = leb-false y x q in ap not (eq-eqb (difference x y) (x + complement y + 1) (omega arith))

  bias-difference : bias (difference x y) ≡ (bias x + (2 ^ 64 - bias y) + 2 ^ 63) % 2 ^ 64
  bias-difference =
      ap bias (difference-sub x y hy ∙ cancel x y (bias x) (bias y) hy (omega arith) (omega arith) (shifted x hx) (shifted y hy))
      ∙ mod-add-mod (bias x + (2 ^ 64 - bias y)) (2 ^ 64) (2 ^ 63)

  pub n_law : (compared x y).n ≡ sign (difference x y)
  unfolding compared
  n_law = refl

  pub lt_law : xor (compared x y).n (compared x y).v ≡ slt x y
  unfolding compared slt
  lt_law =
      rw (sign-bias (difference x y) (omega arith), bias-complement y hy)
      (unlike (bias x) (bias y) (bias (difference x y)) (omega arith) (omega arith) bias-difference _ _ refl refl)

  pub v_law : (compared x y).v ≡ xor (slt x y) (compared x y).n
  v_law = xor_xor (compared x y).n (compared x y).v ∙ ap (λ (b : Bool). xor b (compared x y).n) lt_law
