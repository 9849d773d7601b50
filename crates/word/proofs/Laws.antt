-- Laws of the definitions by the signs of their arguments. Assumes nothing.
use Rattle.std.proofs.Common.{◌≡◌, ℕ, ◌+◌, ◌-◌, ◌*◌, ◌/◌, ◌%◌, ◌^◌, ◌<◌, ◌≤◌, Bool, true, false, cond, sym, refl, ap, ◌∙◌, lt_of_le_of_lt, le_of_lt, add_assoc, mul-le-mul_right, mod-lt, mod-eq_of_lt, mul_assoc, mul_comm, div-lt_iff_lt-mul, add-mul, add_comm, mul-add, mul_left_comm, arith, pow_pos, pow_mono, pow-add, le-leb}
use native.Mathlib.Nat.{div-add-mod, mod-add-mod, mod-eq-sub-mod, add-mod_right, add-mul-div_left, add-mul-mod_self_left, mul-lt-mul_of_pos_left}
use borrow.Author.Tests.{lt-leb}
use Rattle.word.specs.Word.{sub, sign, sext, asr, complement, magnitude, sext128, upper, mulhu, mulh, mulhsu}

-- ---- sign extension of j + 1 bits

module _ (x j : ℕ) (e : j + 1 ≤ 64) where
  low_sum : (x + 2 ^ j) % 2 ^ (j + 1) ≡ (x % 2 ^ (j + 1) + 2 ^ j) % 2 ^ (j + 1)
  low_sum = sym (mod-add-mod x (2 ^ (j + 1)) (2 ^ j))

  twice : 2 ^ (j + 1) ≡ 2 ^ j + 2 ^ j
  twice = rw (pow-add 2 j 1) (omega arith)

  j' : j + 1 - 1 ≡ j
  j' = omega arith

  pub sext_low : x % 2 ^ (j + 1) < 2 ^ j → sext (j + 1) x ≡ x % 2 ^ (j + 1)
  sext_low h =
      let t = twice in
      let w : 2 ^ (j + 1) ≤ 2 ^ 64 = pow_mono e in
      let m : (x % 2 ^ (j + 1) + 2 ^ j) % 2 ^ (j + 1) ≡ x % 2 ^ (j + 1) + 2 ^ j = mod-eq_of_lt (omega arith) in
      rw (j', low_sum, m) (omega arith)

  pub sext-high : 2 ^ j ≤ x % 2 ^ (j + 1) → sext (j + 1) x ≡ x % 2 ^ (j + 1) + (2 ^ 64 - 2 ^ (j + 1))
  sext-high h =
      let t = twice in
      let w : 2 ^ (j + 1) ≤ 2 ^ 64 = pow_mono e in
      let l = mod-lt x (pow_pos (j + 1)) in
      let m : (x % 2 ^ (j + 1) + 2 ^ j) % 2 ^ (j + 1) ≡ x % 2 ^ (j + 1) + 2 ^ j - 2 ^ (j + 1) =
      mod-eq-sub-mod (omega arith) ∙ mod-eq_of_lt (omega arith) in
      rw (j', low_sum, m) (omega arith)

-- ---- shifts, magnitudes

pub asr_positive : (x s : ℕ) → x < 2 ^ 63 → asr x s ≡ x / 2 ^ s
unfolding asr
asr_positive x s h = rw (lt-leb (2 ^ 63) x h)

pub asr_negative : (x s : ℕ) → 2 ^ 63 ≤ x → asr x s ≡ complement (complement x / 2 ^ s)
unfolding asr
asr_negative x s h = rw (le-leb (2 ^ 63) x h)

pub magnitude_positive : (x : ℕ) → x < 2 ^ 63 → magnitude x ≡ x
unfolding magnitude
magnitude_positive x h = rw (lt-leb (2 ^ 63) x h)

pub magnitude_negative : (x : ℕ) → 2 ^ 63 ≤ x → magnitude x ≡ 2 ^ 64 - x
unfolding magnitude
magnitude_negative x h = rw (le-leb (2 ^ 63) x h)

-- ---- high halves of signed products, from those of unsigned ones

-- (2^64 - 1) * b is - b modulo 2^64
minus : (x b : ℕ) → b ≤ 2 ^ 64 → (x + (2 ^ 64 - 1) * b) % 2 ^ 64 ≡ (x + (2 ^ 64 - b)) % 2 ^ 64
minus x b h =
    let e : x + (2 ^ 64 - b) + 2 ^ 64 * b ≡ x + (2 ^ 64 - 1) * b + 2 ^ 64 = omega arith in
    sym (add-mod_right (x + (2 ^ 64 - 1) * b) (2 ^ 64))
    ∙ ap (λ (n : ℕ). n % 2 ^ 64) (sym e)
    ∙ add-mul-mod_self_left (x + (2 ^ 64 - b)) (2 ^ 64) b

spread : (P M q r : ℕ) → (P * q + r) * M ≡ M * r + P * (q * M)
spread P M q r = simp (add-mul, mul_assoc, mul_comm, add_comm) refl

-- of a factor only the low 64 bits count
low_factor : (n a : ℕ) → (n + a * (2 ^ 64 - 1)) % 2 ^ 64 ≡ (n + (2 ^ 64 - 1) * (a % 2 ^ 64)) % 2 ^ 64
low_factor n a =
    ap (λ (m : ℕ). (n + m * (2 ^ 64 - 1)) % 2 ^ 64) (sym (div-add-mod a (2 ^ 64)))
    ∙ ap (λ (m : ℕ). (n + m) % 2 ^ 64) (spread (2 ^ 64) (2 ^ 64 - 1) (a / 2 ^ 64) (a % 2 ^ 64))
    ∙ ap (λ (m : ℕ). m % 2 ^ 64) (sym (add_assoc n ((2 ^ 64 - 1) * (a % 2 ^ 64)) (2 ^ 64 * (a / 2 ^ 64 * (2 ^ 64 - 1)))))
    ∙ add-mul-mod_self_left (n + (2 ^ 64 - 1) * (a % 2 ^ 64)) (2 ^ 64) (a / 2 ^ 64 * (2 ^ 64 - 1))

factor : (P M a y : ℕ) → a * (y + P * M) ≡ a * y + P * (a * M)
factor P M a y = simp (mul-add, mul_left_comm) refl

-- a negative factor is y + 2^64 * (2^64 - 1) at 128 bits
upper_negative : (a y : ℕ) → upper (a * (y + 2 ^ 64 * (2 ^ 64 - 1))) ≡ sub (upper (a * y)) (a % 2 ^ 64)
upper_negative a y =
    let r = a % 2 ^ 64 in
    ap upper (factor (2 ^ 64) (2 ^ 64 - 1) a y)
    ∙ ap (λ (n : ℕ). n % 2 ^ 64) (add-mul-div_left (a * y) (a * (2 ^ 64 - 1)) (pow_pos 64))
    ∙ low_factor (a * y / 2 ^ 64) a
    ∙ minus (a * y / 2 ^ 64) r (omega arith)
    ∙ sym (mod-add-mod (a * y / 2 ^ 64) (2 ^ 64) (2 ^ 64 - r))

low_half : (b : Bool) (x : ℕ) → x < 2 ^ 64 → cond b (x + 2 ^ 64 * (2 ^ 64 - 1)) x % 2 ^ 64 ≡ x
low_half true x h = add-mul-mod_self_left x (2 ^ 64) (2 ^ 64 - 1) ∙ mod-eq_of_lt h
low_half false x h = mod-eq_of_lt h

pub product-below : (x y n : ℕ) → x ≤ n → y < 2 ^ 64 → 0 < n → x * y / 2 ^ 64 < n
product-below x y n hx hy h =
    (div-lt_iff_lt-mul (pow_pos 64)).1
    (lt_of_le_of_lt (mul-le-mul_right y hx) (mul-lt-mul_of_pos_left hy h))

module _ (x y : ℕ) (hx : x < 2 ^ 64) (hy : y < 2 ^ 64) where
  below : x * y / 2 ^ 64 < 2 ^ 64
  below = product-below x y (2 ^ 64) (le_of_lt hx) hy (pow_pos 64)

  pub mulhsu_positive : x < 2 ^ 63 → mulhsu x y ≡ mulhu x y
  unfolding mulhsu sext128
  mulhsu_positive h = rw (lt-leb (2 ^ 63) x h) (mod-eq_of_lt below)

  pub mulhsu_negative : 2 ^ 63 ≤ x → mulhsu x y ≡ sub (mulhu x y) y
  unfolding mulhsu sext128
  mulhsu_negative h =
      rw (le-leb (2 ^ 63) x h, mul_comm (x + 2 ^ 64 * (2 ^ 64 - 1)) y, upper_negative y x, mul_comm y x, mod-eq_of_lt below, mod-eq_of_lt hy)

  pub mulh_positive : y < 2 ^ 63 → mulh x y ≡ mulhsu x y
  unfolding mulh mulhsu sext128
  mulh_positive h = rw (lt-leb (2 ^ 63) y h)

  pub mulh_negative : 2 ^ 63 ≤ y → mulh x y ≡ sub (mulhsu x y) x
  unfolding mulh mulhsu sext128
  mulh_negative h = rw (le-leb (2 ^ 63) y h, upper_negative (sext128 x) y, low_half (sign x) x hx)
