-- The remainder as what is left of the dividend, and the mixed high product from the unsigned one. Assumes nothing.
use mathlib.Core.Path.{◌≡◌, refl, sym, ap, ◌∙◌}
use mathlib.Core.Bool.{Bool, true, false, cond, xor}
use Prim.Native.Nat.{ℕ, ◌+◌, ◌-◌, ◌*◌, ◌/◌, ◌%◌, ◌^◌, ◌≤◌, ◌<◌}
use native.Mathlib.Nat.{div-add-mod', mul-add-mod_self_right, add-mul-mod_self_right, add-mul, mul-add, mul_comm, mul_assoc, mod-eq_of_lt, div-le_self, mod-le, mod-add-mod, add-mod-mod}
use native.Mathlib.Omega.{arith}
use borrow.Author.Tests.{leb-true, leb-false}
use Rattle.word.specs.Word.{mul, sign, magnitude, signed, sdiv, srem, mulhu, mulhsu}
use Rattle.word.proofs.Laws.{mulhsu_positive, mulhsu_negative}
use Rattle.a64_alu.specs.Alu.{difference}
use Rattle.a64_alu.proofs.Comparing.{difference-sub}

-- a factor may be taken modulo m
mod-mul-mod : (a b m : ℕ) → a % m * b % m ≡ a * b % m
mod-mul-mod a b m =
    sym
    (ap (λ (x : ℕ). x * b % m) (sym (div-add-mod' a m))
    ∙ ap (λ (x : ℕ). x % m) (add-mul (a / m * m) (a % m) b)
    ∙ ap (λ (x : ℕ). (x + a % m * b) % m) (mul_assoc (a / m) m b ∙ ap (λ (x : ℕ). a / m * x) (mul_comm m b) ∙ sym (mul_assoc (a / m) b m))
    ∙ mul-add-mod_self_right (a / m * b) m (a % m * b))

mod_of : (n k x m : ℕ) → n ≡ k * m + x → x < m → n % m ≡ x
mod_of n k x m e h = ap (λ (t : ℕ). t % m) e ∙ mul-add-mod_self_right k m x ∙ mod-eq_of_lt h

-- what is left of x where t is taken away, both modulo 2 ^ 64
rest_of : (x t r : ℕ) → x < 2 ^ 64 → r < 2 ^ 64 → (t + r) % 2 ^ 64 ≡ x → difference x (t % 2 ^ 64) ≡ r
rest_of x t r hx hr e = omega arith

-- the identities for the signs, over a modulus m: p is minus q, c is minus b, s is minus r, x is minus a
minus_minus : (p q c b r a m : ℕ) → p + q ≡ m → c + b ≡ m → q * b + r ≡ a → a < m → (p * c + r) % m ≡ a
minus_minus p q c b r a m e f g h =
    let d : p * c + p * b ≡ p * m = sym (mul-add p c b) ∙ ap (λ (t : ℕ). p * t) f in
    let d' : p * b + q * b ≡ m * b = sym (add-mul p q b) ∙ ap (λ (t : ℕ). t * b) e in
    let z : p * c + r + b * m ≡ p * m + a = omega (arith, mul_comm m b) in
    sym (add-mul-mod_self_right (p * c + r) b m) ∙ mod_of (p * c + r + b * m) p a m z h

minus_plus : (p q b r s a x m : ℕ) → p + q ≡ m → s + r ≡ m → x + a ≡ m → q * b + r ≡ a → x < m → (p * b + s) % m ≡ x
minus_plus p q b r s a x m e f g h l =
    let d : p * b + q * b ≡ m * b = sym (add-mul p q b) ∙ ap (λ (t : ℕ). t * b) e in
    mod_of (p * b + s) b x m (omega (arith, mul_comm m b)) l

plus_minus : (q c b r s a x m : ℕ) → c + b ≡ m → s + r ≡ m → x + a ≡ m → q * b + r ≡ a → x < m → (q * c + s) % m ≡ x
plus_minus q c b r s a x m e f g h l =
    let d : q * c + q * b ≡ q * m = sym (mul-add q c b) ∙ ap (λ (t : ℕ). q * t) e in
    mod_of (q * c + s) q x m (omega arith) l

-- a factor and a summand may be taken modulo m
strip : (a b c m : ℕ) → (a % m * b + c) % m ≡ (a * b + c) % m
strip a b c m = sym (mod-add-mod (a % m * b) m c) ∙ ap (λ (t : ℕ). (t + c) % m) (mod-mul-mod a b m) ∙ mod-add-mod (a * b) m c

module _ (x y : ℕ) (hx : x < 2 ^ 64) (hy : y < 2 ^ 64) where
  -- quotient times divisor, plus remainder, by the signs
  sum_by : (cx cy : Bool) → sign x ≡ cx → sign y ≡ cy → (a b : ℕ) → cond cx (2 ^ 64 - x) x ≡ a → cond cy (2 ^ 64 - y) y ≡ b
      → (signed (xor cx cy) (a / b) * y + signed cx (a % b)) % 2 ^ 64 ≡ x
  unfolding signed xor
  sum_by true true p q a b e f =
      let g : a / b * b + a % b ≡ a = div-add-mod' a b in
      let l : a % b ≤ a = mod-le a b in
      add-mod-mod (a / b * y) (2 ^ 64 - a % b) (2 ^ 64)
      ∙ plus_minus (a / b) y b (a % b) (2 ^ 64 - a % b) a x (2 ^ 64) (omega arith) (omega arith) (omega arith) g hx
  sum_by true false p q a b e f =
      let g : a / b * b + a % b ≡ a = div-add-mod' a b in
      let l : a % b ≤ a = mod-le a b in
      let k : a / b ≤ a = div-le_self a b in
      add-mod-mod ((2 ^ 64 - a / b) % 2 ^ 64 * y) (2 ^ 64 - a % b) (2 ^ 64)
      ∙ strip (2 ^ 64 - a / b) y (2 ^ 64 - a % b) (2 ^ 64)
      ∙ rw f (minus_plus (2 ^ 64 - a / b) (a / b) b (a % b) (2 ^ 64 - a % b) a x (2 ^ 64) (omega arith) (omega arith) (omega arith) g hx)
  sum_by false true p q a b e f =
      let g : a / b * b + a % b ≡ a = div-add-mod' a b in
      let k : a / b ≤ a = div-le_self a b in
      strip (2 ^ 64 - a / b) y (a % b) (2 ^ 64)
      ∙ minus_minus (2 ^ 64 - a / b) (a / b) y b (a % b) a (2 ^ 64) (omega arith) (omega arith) g (omega arith)
      ∙ sym e
  sum_by false false p q a b e f = rw f (ap (λ (t : ℕ). t % 2 ^ 64) (div-add-mod' a b ∙ sym e) ∙ mod-eq_of_lt hx)

  srem-lt : srem x y < 2 ^ 64
  unfolding srem signed magnitude
  srem-lt = by (sign x) refl
    where
      by : (c : Bool) → sign x ≡ c
          → cond c ((2 ^ 64 - cond c (2 ^ 64 - x) x % magnitude y) % 2 ^ 64) (cond c (2 ^ 64 - x) x % magnitude y) < 2 ^ 64
      by true p = omega arith
      by false p = omega (arith, mod-le x (magnitude y))

  -- x less quotient times divisor
  pub rem_law : difference x (mul (sdiv x y) y) ≡ srem x y
  rem_law =
      rest_of x (sdiv x y * y) (srem x y) hx srem-lt
      (unfold sdiv srem magnitude in (sum_by (sign x) (sign y) refl refl _ _ refl refl))

  pub remu_law : difference x (mul (x / y) y) ≡ x % y
  remu_law =
      rest_of x (x / y * y) (x % y) hx (omega (arith, mod-le x y)) (ap (λ (t : ℕ). t % 2 ^ 64) (div-add-mod' x y) ∙ mod-eq_of_lt hx)

  less_zero : (n : ℕ) → n < 2 ^ 64 → difference n 0 ≡ n
  less_zero n h = omega arith

  -- y is taken from the unsigned high product where x is negative
  pub mulhsu_law : mulhu x y < 2 ^ 64 → difference (mulhu x y) (cond (sign x) y 0) ≡ mulhsu x y
  mulhsu_law h = by (sign x) refl
    where
      by : (c : Bool) → sign x ≡ c → difference (mulhu x y) (cond c y 0) ≡ mulhsu x y
      by true q = difference-sub (mulhu x y) y hy ∙ sym (mulhsu_negative x y hx hy (leb-true (2 ^ 63) x q))
      by false q = less_zero (mulhu x y) h ∙ sym (mulhsu_positive x y hx hy (leb-false (2 ^ 63) x q))
