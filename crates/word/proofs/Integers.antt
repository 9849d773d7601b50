-- What each signed operation is on integers: the signed value of its result, or the order of the signed values.
-- `quot_z` (rounded toward zero), `rem_z` (with the dividend's sign), `shr_z` (rounded down) and `lt_z` are the library's.
use Rattle.std.proofs.Common.{◌≡◌, ℕ, zero, suc, ◌+◌, ◌-◌, ◌*◌, ◌/◌, ◌%◌, ◌^◌, ◌<◌, ◌≤◌, Bool, true, false, cond, ltb, ℤ, pos, negsuc, ◌*ℤ◌, neg_ℤ, nat_abs, sym, refl, ap, ◌∙◌, ap₂, le_trans, lt_of_le_of_lt, le_of_lt, add_assoc, mod-lt, mul_comm, add-mul, add_comm, mul-le-mul_left, mul-add, div-le_self, div-mul-le_self, div-one, arith, pow_pos, pow_mono, pow-add, ltb-false, ltb-true, le-ltb, lt-ltb, le-leb}
use mathlib.Core.Bool.{xor}
use native.Mathlib.Nat.{mod-le, add_left_comm, mod-add-mod}
use lib.Signed.{lt_z, quot_z, rem_z, shr_z}
use lib.Pow.{shr_mono}
use borrow.Author.Tests.{lt-leb}
use Rattle.word.specs.Word.{wrap, sub, bias, sext, slt, asr, complement, sign, magnitude, signed, sdiv, srem, mulh, mulhsu}
use Rattle.word.proofs.Laws.{sext_low, sext-high, asr_positive, asr_negative, magnitude_positive, magnitude_negative, product-below, mulhsu_positive, mulhsu_negative, mulh_positive, mulh_negative}

-- the signed value of k bits (two's complement)
unfoldable pub toℤ : ℕ → ℕ → ℤ
toℤ k x = cond (ltb x (2 ^ (k - 1))) (pos x) (negsuc (2 ^ k - suc x))

pub toℤ_positive : (k x : ℕ) → x < 2 ^ (k - 1) → toℤ k x ≡ pos x
unfolding toℤ
toℤ_positive k x h = rw (lt-ltb x (2 ^ (k - 1)) h)

pub toℤ_negative : (k x : ℕ) → 2 ^ (k - 1) ≤ x → toℤ k x ≡ negsuc (2 ^ k - suc x)
unfolding toℤ
toℤ_negative k x h = rw (le-ltb x (2 ^ (k - 1)) h)

-- a number of 64 bits is one below 2^63, or minus one
data Value : ℕ → Type 0 where
  positive : (n : ℕ) → n < 2 ^ 63 → Value n
  negative : (n : ℕ) → n < 2 ^ 63 → Value (2 ^ 64 - suc n)

value : (x : ℕ) → x < 2 ^ 64 → Value x
value x h = by (ltb x (2 ^ 63)) refl
  where
    by : (b : Bool) → ltb x (2 ^ 63) ≡ b → Value x
    by true t = positive x (ltb-true x (2 ^ 63) t)
    by false t =
        let l : 2 ^ 63 ≤ x = ltb-false x (2 ^ 63) t in
        let e : 2 ^ 64 - suc (2 ^ 64 - suc x) ≡ x = omega arith in
        rw e at (negative (2 ^ 64 - suc x) (omega arith))

module _ (n : ℕ) (h : n < 2 ^ 63) where
  of_positive : toℤ 64 n ≡ pos n
  of_positive = toℤ_positive 64 n h

  of_negative : toℤ 64 (2 ^ 64 - suc n) ≡ negsuc n
  of_negative =
      let e : 2 ^ 64 - suc (2 ^ 64 - suc n) ≡ n = omega arith in
      rw e at (toℤ_negative 64 (2 ^ 64 - suc n) (omega arith))

  without_sign : magnitude (2 ^ 64 - suc n) ≡ suc n
  without_sign = magnitude_negative (2 ^ 64 - suc n) (omega arith) ∙ omega arith

-- minus q
of_minus : (q : ℕ) → q ≤ 2 ^ 63 → toℤ 64 (wrap (2 ^ 64 - q)) ≡ neg_ℤ (pos q)
of_minus zero h = of_positive 0 (omega arith)
of_minus (suc q) h =
    let e : wrap (2 ^ 64 - suc q) ≡ 2 ^ 64 - suc q = omega arith in
    rw e (of_negative q h)

-- ---- sign extension

module _ (x j : ℕ) (l : j + 1 ≤ 64) where
  half : 2 ^ j ≤ 2 ^ 63
  half = pow_mono {j = 63} (omega arith)

  sext_by : (b : Bool) → ltb (x % 2 ^ (j + 1)) (2 ^ j) ≡ b → toℤ 64 (sext (j + 1) x) ≡ toℤ (j + 1) (x % 2 ^ (j + 1))
  sext_by true t =
      let r = x % 2 ^ (j + 1) in
      let h : r < 2 ^ j = ltb-true r (2 ^ j) t in
      let e : j + 1 - 1 ≡ j = omega arith in
      let p = half in
      rw (sext_low x j l h, toℤ_positive (j + 1) r (rw e h)) (of_positive r (omega arith))
  sext_by false t =
      let r = x % 2 ^ (j + 1) in
      let h : 2 ^ j ≤ r = ltb-false r (2 ^ j) t in
      let e : j + 1 - 1 ≡ j = omega arith in
      let p = half in
      let d : 2 ^ (j + 1) ≡ 2 ^ j + 2 ^ j = rw (pow-add 2 j 1) (omega arith) in
      let b : r < 2 ^ (j + 1) = mod-lt x (pow_pos (j + 1)) in
      let n : r + (2 ^ 64 - 2 ^ (j + 1)) ≡ 2 ^ 64 - suc (2 ^ (j + 1) - suc r) = omega arith in
      rw (sext-high x j l h, n, toℤ_negative (j + 1) r (rw e h)) (of_negative (2 ^ (j + 1) - suc r) (omega arith))

pub sext-value : (k x : ℕ) → 1 ≤ k → k ≤ 64 → toℤ 64 (sext k x) ≡ toℤ k (x % 2 ^ k)
sext-value k x h l =
    let e : k - 1 + 1 ≡ k = omega arith in
    rw e at (sext_by x (k - 1) (omega arith) (ltb (x % 2 ^ (k - 1 + 1)) (2 ^ (k - 1))) refl)

-- ---- order

same_test : (a b c d : ℕ) → (a < b → c < d) → (c < d → a < b) → ltb a b ≡ ltb c d
same_test a b c d f g = by (ltb a b) (ltb c d) refl refl
  where
    by : (s t : Bool) → ltb a b ≡ s → ltb c d ≡ t → ltb a b ≡ ltb c d
    by s true e e' = lt-ltb a b (g (ltb-true c d e')) ∙ sym e'
    by true false e e' = e ∙ sym (lt-ltb c d (f (ltb-true a b e)))
    by false false e e' = e ∙ sym e'

slt_by : {x y : ℕ} → Value x → Value y → slt x y ≡ lt_z (toℤ 64 x) (toℤ 64 y)
unfolding slt
slt_by (positive m h) (positive n l) =
    rw (of_positive m h, of_positive n l) (same_test (bias m) (bias n) m n (λ i. omega arith) (λ i. omega arith))
slt_by (positive m h) (negative n l) = rw (of_positive m h, of_negative n l) (le-ltb (bias m) (bias (2 ^ 64 - suc n)) (omega arith))
slt_by (negative m h) (positive n l) = rw (of_negative m h, of_positive n l) (lt-ltb (bias (2 ^ 64 - suc m)) (bias n) (omega arith))
slt_by (negative m h) (negative n l) =
    rw (of_negative m h, of_negative n l)
    (same_test (bias (2 ^ 64 - suc m)) (bias (2 ^ 64 - suc n)) n m (λ i. omega arith) (λ i. omega arith))

pub slt-value : (x y : ℕ) → x < 2 ^ 64 → y < 2 ^ 64 → slt x y ≡ lt_z (toℤ 64 x) (toℤ 64 y)
slt-value x y hx hy = slt_by (value x hx) (value y hy)

-- ---- arithmetic shift

asr_by : {x : ℕ} (s : ℕ) → Value x → toℤ 64 (asr x s) ≡ shr_z (toℤ 64 x) (2 ^ s)
asr_by s (positive n h) =
    rw (asr_positive n s h, of_positive n h) (of_positive (n / 2 ^ s) (lt_of_le_of_lt (div-le_self n (2 ^ s)) h))
asr_by s (negative n h) =
    let e : complement (2 ^ 64 - suc n) ≡ n = omega arith in
    let l : n / 2 ^ s ≤ n = div-le_self n (2 ^ s) in
    let d : complement (n / 2 ^ s) ≡ 2 ^ 64 - suc (n / 2 ^ s) = omega arith in
    rw (asr_negative (2 ^ 64 - suc n) s (omega arith), e, d, of_negative n h) (of_negative (n / 2 ^ s) (omega arith))

pub asr-value : (x s : ℕ) → x < 2 ^ 64 → toℤ 64 (asr x s) ≡ shr_z (toℤ 64 x) (2 ^ s)
asr-value x s h = asr_by s (value x h)

-- ---- quotient and remainder

-- what is known of a number's sign
module _ (n : ℕ) (h : n < 2 ^ 63) where
  no_sign : sign n ≡ false
  no_sign = lt-leb (2 ^ 63) n h

  a_sign : sign (2 ^ 64 - suc n) ≡ true
  a_sign = le-leb (2 ^ 63) (2 ^ 64 - suc n) (omega arith)

  back : 2 ^ 64 - (2 ^ 64 - suc n) ≡ suc n
  back = omega arith

-- a quotient of two negative numbers is below 2^63 unless it is that of the least by -1
below : (m n : ℕ) → m < 2 ^ 63 → (2 ^ 64 - suc m ≡ 2 ^ 63 → 2 ^ 64 - suc n ≡ 2 ^ 64 - 1 → ⊥) → suc m / suc n < 2 ^ 63
below m zero h o =
    let o' : suc m ≡ 2 ^ 63 → ⊥ = λ e. o (omega arith) refl in
    rw (div-one (suc m)) (omega arith)
below m (suc n) h o =
    let d = div-mul-le_self (suc m) (suc (suc n)) in
    let e : suc m / suc (suc n) * 2 ≤ suc m / suc (suc n) * suc (suc n) = mul-le-mul_left (suc m / suc (suc n)) (omega arith) in
    omega arith

sdiv_by : {x y : ℕ} → Value x → Value y → (x ≡ 2 ^ 63 → y ≡ 2 ^ 64 - 1 → ⊥) → toℤ 64 (sdiv x y) ≡ quot_z (toℤ 64 x) (toℤ 64 y)
unfolding sdiv signed xor
sdiv_by (positive m h) (positive n l) o =
    rw (no_sign m h, no_sign n l, of_positive m h, of_positive n l)
    (of_positive (m / n) (lt_of_le_of_lt (div-le_self m n) h))
sdiv_by (positive m h) (negative n l) o =
    rw (no_sign m h, a_sign n l, back n l, of_positive m h, of_negative n l)
    (of_minus (m / suc n) (le_trans (div-le_self m (suc n)) (omega arith)))
sdiv_by (negative m h) (positive n l) o =
    rw (a_sign m h, no_sign n l, back m h, of_negative m h, of_positive n l)
    (of_minus (suc m / n) (le_trans (div-le_self (suc m) n) (omega arith)))
sdiv_by (negative m h) (negative n l) o =
    rw (a_sign m h, a_sign n l, back m h, back n l, of_negative m h, of_negative n l)
    (of_positive (suc m / suc n) (below m n h o))

-- the quotient of the least number by -1 is the least number
pub sdiv-value : (x y : ℕ) → x < 2 ^ 64 → y < 2 ^ 64 → (x ≡ 2 ^ 63 → y ≡ 2 ^ 64 - 1 → ⊥)
    → toℤ 64 (sdiv x y) ≡ quot_z (toℤ 64 x) (toℤ 64 y)
sdiv-value x y hx hy o = sdiv_by (value x hx) (value y hy) o

pub sdiv-overflow : sdiv (2 ^ 63) (2 ^ 64 - 1) ≡ 2 ^ 63
unfolding sdiv magnitude signed xor
sdiv-overflow = refl

without_signs : {y : ℕ} → Value y → magnitude y ≡ nat_abs (toℤ 64 y)
without_signs (positive n h) = rw (magnitude_positive n h, of_positive n h)
without_signs (negative n h) = rw (without_sign n h, of_negative n h)

srem_by : {x : ℕ} (y : ℕ) → Value x → Value y → toℤ 64 (srem x y) ≡ rem_z (toℤ 64 x) (toℤ 64 y)
unfolding srem signed
srem_by y (positive m h) v =
    rw (no_sign m h, without_signs v, of_positive m h)
    (of_positive (m % nat_abs (toℤ 64 y)) (lt_of_le_of_lt (mod-le m (nat_abs (toℤ 64 y))) h))
srem_by y (negative m h) v =
    rw (a_sign m h, back m h, without_signs v, of_negative m h)
    (of_minus (suc m % nat_abs (toℤ 64 y)) (le_trans (mod-le (suc m) (nat_abs (toℤ 64 y))) (omega arith)))

pub srem-value : (x y : ℕ) → x < 2 ^ 64 → y < 2 ^ 64 → toℤ 64 (srem x y) ≡ rem_z (toℤ 64 x) (toℤ 64 y)
srem-value x y hx hy = srem_by y (value x hx) (value y hy)

-- ---- high halves of products

quotient : (q p y : ℕ) → q + suc p ≡ 2 ^ 64 * y → q / 2 ^ 64 + suc (p / 2 ^ 64) ≡ y
quotient q p y e = omega arith

less : (a b y : ℕ) → a + suc b ≡ y → y < 2 ^ 64 → sub a y ≡ 2 ^ 64 - suc b
less a b y e h = omega arith

exact : (q y : ℕ) → q + 0 ≡ 2 ^ 64 * y → q / 2 ^ 64 ≡ y
exact q y e = omega arith

none : (a y : ℕ) → a ≡ y → y < 2 ^ 64 → sub a y ≡ 0
none a y e h = omega arith

-- q is 2^64 * y less p
upper_minus : (q p y : ℕ) → q + p ≡ 2 ^ 64 * y → p / 2 ^ 64 < 2 ^ 63 → y < 2 ^ 64
    → toℤ 64 (sub (q / 2 ^ 64) y) ≡ shr_z (neg_ℤ (pos p)) (2 ^ 64)
upper_minus q zero y e h l = rw (none (q / 2 ^ 64) y (exact q y e) l) (of_positive 0 (omega arith))
upper_minus q (suc p) y e h l =
    rw (less (q / 2 ^ 64) (p / 2 ^ 64) y (quotient q p y e) l)
    (of_negative (p / 2 ^ 64) (lt_of_le_of_lt (shr_mono {a = p} {b = suc p} 64 (omega arith)) h))

-- a negative number times y, and minus that
part : (m y : ℕ) → suc m ≤ 2 ^ 64 → (2 ^ 64 - suc m) * y + suc m * y ≡ 2 ^ 64 * y
part m y h =
    let e : 2 ^ 64 - suc m + suc m ≡ 2 ^ 64 = omega arith in
    sym (add-mul (2 ^ 64 - suc m) (suc m) y) ∙ ap (λ (n : ℕ). n * y) e

mulhsu_by : {x : ℕ} (y : ℕ) → y < 2 ^ 64 → Value x → toℤ 64 (mulhsu x y) ≡ shr_z (toℤ 64 x *ℤ pos y) (2 ^ 64)
mulhsu_by y hy (positive m h) =
    rw (mulhsu_positive m y (omega arith) hy h, of_positive m h)
    (of_positive (m * y / 2 ^ 64) (product-below m y (2 ^ 63) (le_of_lt h) hy (pow_pos 63)))
mulhsu_by y hy (negative m h) =
    rw (mulhsu_negative (2 ^ 64 - suc m) y (omega arith) hy (omega arith), of_negative m h)
    (upper_minus ((2 ^ 64 - suc m) * y) (suc m * y) y (part m y (omega arith)) (product-below (suc m) y (2 ^ 63) h hy (pow_pos 63)) hy)

pub mulhsu-value : (x y : ℕ) → x < 2 ^ 64 → y < 2 ^ 64 → toℤ 64 (mulhsu x y) ≡ shr_z (toℤ 64 x *ℤ pos y) (2 ^ 64)
mulhsu-value x y hx hy = mulhsu_by y hy (value x hx)

-- (c + b) * (c + a), where c + a + b is 2^64
both : (a b c : ℕ) → (c + b) * (c + a) ≡ c * (c + a + b) + a * b
both a b c = simp (mul-add, add-mul, mul_comm, add_assoc, add_comm, add_left_comm) refl

added : (q p c : ℕ) → q ≡ c * 2 ^ 64 + p → q / 2 ^ 64 ≡ c + p / 2 ^ 64
added q p c e = omega arith

twice_less : (t c x y : ℕ) → c + 2 ^ 64 ≡ x + y → x < 2 ^ 64 → y < 2 ^ 64 → t < 2 ^ 63 → sub (sub (c + t) y) x ≡ t
twice_less t c x y e hx hy h =
    let i : c + t + (2 ^ 64 - y) ≡ x + t = omega arith in
    rw (i, mod-add-mod (x + t) (2 ^ 64) (2 ^ 64 - x)) (omega arith)

upper_both : (a b : ℕ) → a ≤ 2 ^ 63 → b ≤ 2 ^ 63 → 0 < a → 0 < b → a * b / 2 ^ 64 < 2 ^ 63
    → sub (sub ((2 ^ 64 - a) * (2 ^ 64 - b) / 2 ^ 64) (2 ^ 64 - b)) (2 ^ 64 - a) ≡ a * b / 2 ^ 64
upper_both a b ha hb pa pb h =
    let c = 2 ^ 64 - a - b in
    let z : c + a + b ≡ 2 ^ 64 = omega arith in
    let s : c + 2 ^ 64 ≡ 2 ^ 64 - a + (2 ^ 64 - b) = omega arith in
    let x : 2 ^ 64 - a < 2 ^ 64 = omega arith in
    let y : 2 ^ 64 - b < 2 ^ 64 = omega arith in
    let e : (2 ^ 64 - a) * (2 ^ 64 - b) ≡ c * 2 ^ 64 + a * b =
    ap₂ (λ (m n : ℕ). m * n) (omega arith) (omega arith) ∙ both a b c ∙ ap (λ (n : ℕ). c * n + a * b) z in
    rw (added ((2 ^ 64 - a) * (2 ^ 64 - b)) (a * b) c e)
    (twice_less (a * b / 2 ^ 64) c (2 ^ 64 - a) (2 ^ 64 - b) s x y h)

mulh_by : {x y : ℕ} → x < 2 ^ 64 → y < 2 ^ 64 → Value x → Value y
    → toℤ 64 (mulh x y) ≡ shr_z (toℤ 64 x *ℤ toℤ 64 y) (2 ^ 64)
mulh_by {x} hx hy v (positive n l) = rw (mulh_positive x n hx hy l, of_positive n l) (mulhsu_by n hy v)
mulh_by hx hy (positive m h) (negative n l) =
    let e : m * (2 ^ 64 - suc n) + m * suc n ≡ 2 ^ 64 * m =
    rw (mul_comm m (2 ^ 64 - suc n), mul_comm m (suc n)) (part n m (omega arith)) in
    rw (mulh_negative m (2 ^ 64 - suc n) hx hy (omega arith), mulhsu_positive m (2 ^ 64 - suc n) hx hy h, of_positive m h, of_negative n l)
    (upper_minus (m * (2 ^ 64 - suc n)) (m * suc n) m e (product-below m (suc n) (2 ^ 63) (le_of_lt h) (omega arith) (pow_pos 63)) hx)
mulh_by hx hy (negative m h) (negative n l) =
    let t = suc m * suc n / 2 ^ 64 in
    let b : t < 2 ^ 63 = product-below (suc m) (suc n) (2 ^ 63) h (omega arith) (pow_pos 63) in
    rw (mulh_negative (2 ^ 64 - suc m) (2 ^ 64 - suc n) hx hy (omega arith), mulhsu_negative (2 ^ 64 - suc m) (2 ^ 64 - suc n) hx hy (omega arith), of_negative m h, of_negative n l, upper_both (suc m) (suc n) h l (omega arith) (omega arith) b)
    (of_positive t b)

pub mulh-value : (x y : ℕ) → x < 2 ^ 64 → y < 2 ^ 64 → toℤ 64 (mulh x y) ≡ shr_z (toℤ 64 x *ℤ toℤ 64 y) (2 ^ 64)
mulh-value x y hx hy = mulh_by hx hy (value x hx) (value y hy)
