-- Words as rows of fields: masks that keep the low half of each field, the sums of neighbouring fields, and the ones
-- in each field. After Warren, Hacker's Delight, 5-1; the laws for any width. Assumes nothing.
use Rattle.std.proofs.Common.{◌≡◌, ℕ, zero, suc, ◌+◌, ◌-◌, ◌*◌, ◌/◌, ◌%◌, ◌^◌, ◌<◌, ◌≤◌, sym, refl, ap, ◌∙◌, ap₂, lt_of_lt_of_le, le-add_right, lt_of_le_of_lt, mod-lt, lt-suc_self, add-mul, arith, pow_pos, pow_mono, shr-shr}
use native.Mathlib.Nat.{mod-one}
use lib.Arith.{digits_div, digits_mod}
use lib.Pow.{pow-lt, split, mod-mod-pow, mod-pow-add, ones_lt}
use lib.Bits.{bit_and, and_block, and_mask, and_zero_r}
use lib.Count.{ones, ones_cat, ones-le}
use Rattle.word.proofs.Counting.{ones_bit}

-- the mask for m fields of k + k bits: the k low bits of each
unfoldable pub evens : ℕ → ℕ → ℕ
evens k zero = zero
evens k (suc m) = evens k m * 2 ^ (k + k) + (2 ^ k - 1)

-- twice m, two at a time
unfoldable pub twice : ℕ → ℕ
twice zero = zero
twice (suc m) = suc (suc (twice m))

-- in each of the m low fields of k bits of x, the number of its ones
unfoldable pub counts : ℕ → ℕ → ℕ → ℕ
counts k zero x = zero
counts k (suc m) x = counts k m (x / 2 ^ k) * 2 ^ k + ones (x % 2 ^ k)

-- the mask's lowest field keeps the k low bits of y, the rest of the mask meets the rest of y
pub low_field : (k y e : ℕ) → bit_and y (e * 2 ^ (k + k) + (2 ^ k - 1)) ≡ bit_and (y / 2 ^ (k + k)) e * 2 ^ (k + k) + y % 2 ^ k
low_field k y e =
    ap (λ (n : ℕ). bit_and n (e * 2 ^ (k + k) + (2 ^ k - 1))) (sym (split y (k + k)))
    ∙ and_block (k + k) (y / 2 ^ (k + k)) e (y % 2 ^ (k + k)) (2 ^ k - 1) (mod-lt y (pow_pos (k + k))) (lt_of_lt_of_le (ones_lt k) (pow_mono (le-add_right k k)))
    ∙ ap (λ (n : ℕ). bit_and (y / 2 ^ (k + k)) e * 2 ^ (k + k) + n) (and_mask (y % 2 ^ (k + k)) k ∙ mod-mod-pow y k k)

sum_fields : (a b p u v : ℕ) → (a * p + u) + (b * p + v) ≡ (a + b) * p + (u + v)
sum_fields a b p u v = let e : (a + b) * p ≡ a * p + b * p = add-mul a b p in omega (arith, e)

lt_pow_self : (k : ℕ) → k < 2 ^ k
lt_pow_self zero = omega arith
lt_pow_self (suc k) = lt_of_le_of_lt (lt_pow_self k) (pow-lt (lt-suc_self k))

ones_below : (k f : ℕ) → f < 2 ^ k → ones f < 2 ^ k
ones_below k f h = lt_of_le_of_lt (ones-le k f h) (lt_pow_self k)

-- a field of one bit holds its own count
pub counts_bits : (m x : ℕ) → counts 1 m x ≡ x % 2 ^ m
unfolding counts
counts_bits zero x = sym (mod-one x)
counts_bits (suc m) x =
    let e : suc m ≡ m + 1 = omega arith in
    ap₂ (λ (p q : ℕ). p * 2 ^ 1 + q) (counts_bits m (x / 2 ^ 1)) (ones_bit (x % 2 ^ 1) (mod-lt x (pow_pos 1)))
    ∙ sym (mod-pow-add x m 1) ∙ ap (λ (n : ℕ). x % 2 ^ n) (sym e)

-- the ones of two fields side by side
ones_two : (k x : ℕ) → ones (x / 2 ^ k % 2 ^ k) + ones (x % 2 ^ k) ≡ ones (x % 2 ^ (k + k))
ones_two k x = sym (ones_cat k (x / 2 ^ k % 2 ^ k) (x % 2 ^ k) (mod-lt x (pow_pos k))) ∙ ap ones (sym (mod-pow-add x k k))

-- ---- the three ways to add neighbouring counts, each for the row that it is used on

-- fields of one bit: what the higher bits of the pairs are less
pub first : (m x : ℕ) → counts 2 m x + bit_and (counts 1 (twice m) x / 2) (evens 1 m) ≡ counts 1 (twice m) x
unfolding counts evens twice
first zero x = refl
first (suc m) x =
    let o₀ : ℕ = ones (x % 2) in
    let o₁ : ℕ = ones (x / 2 % 2) in
    let a : ℕ = counts 1 (twice m) (x / 2 / 2) in
    let h₀ : o₀ ≤ 1 = ones-le 1 (x % 2) (omega arith) in
    let h₁ : o₁ ≤ 1 = ones-le 1 (x / 2 % 2) (omega arith) in
    let y : ℕ = ((a * 2 + o₁) * 2 + o₀) / 2 in
    let d : y / 4 ≡ a / 2 = omega arith in
    let r : y % 2 ≡ o₁ = omega arith in
    let l : bit_and y (evens 1 m * 4 + 1) ≡ bit_and (a / 2) (evens 1 m) * 4 + o₁ =
    low_field 1 y (evens 1 m) ∙ ap₂ (λ (p q : ℕ). bit_and p (evens 1 m) * 4 + q) d r in
    let s : x / 2 / 2 ≡ x / 4 = shr-shr x 1 1 in
    let t : o₁ + o₀ ≡ ones (x % 4) = ones_two 1 x in
    let i : counts 2 m (x / 4) + bit_and (a / 2) (evens 1 m) ≡ a = rw s (first m (x / 4)) in
    omega (arith, l, t, i)

-- fields of any width k: both halves of each pair by the mask
pub both : (k m x : ℕ) → bit_and (counts k (twice m) x) (evens k m) + bit_and (counts k (twice m) x / 2 ^ k) (evens k m) ≡ counts (k + k) m x
unfolding counts evens twice
both k zero x = ap₂ (λ (p q : ℕ). p + q) (and_zero_r 0) (and_zero_r (0 / 2 ^ k))
both k (suc m) x =
    let o₀ : ℕ = ones (x % 2 ^ k) in
    let o₁ : ℕ = ones (x / 2 ^ k % 2 ^ k) in
    let a : ℕ = counts k (twice m) (x / 2 ^ k / 2 ^ k) in
    let b : ℕ = a * 2 ^ k + o₁ in
    let y : ℕ = b * 2 ^ k + o₀ in
    let h₀ : o₀ < 2 ^ k = ones_below k (x % 2 ^ k) (mod-lt x (pow_pos k)) in
    let h₁ : o₁ < 2 ^ k = ones_below k (x / 2 ^ k % 2 ^ k) (mod-lt (x / 2 ^ k) (pow_pos k)) in
    let s : x / 2 ^ k / 2 ^ k ≡ x / 2 ^ (k + k) = shr-shr x k k in
    let hb : y / 2 ^ k ≡ b = digits_div b h₀ in
    let ha : b / 2 ^ k ≡ a = digits_div a h₁ in
    let hy : y / 2 ^ (k + k) ≡ a = sym (shr-shr y k k) ∙ ap (λ (n : ℕ). n / 2 ^ k) hb ∙ ha in
    let hc : b / 2 ^ (k + k) ≡ a / 2 ^ k = sym (shr-shr b k k) ∙ ap (λ (n : ℕ). n / 2 ^ k) ha in
    let l : bit_and y (evens k m * 2 ^ (k + k) + (2 ^ k - 1)) ≡ bit_and a (evens k m) * 2 ^ (k + k) + o₀ =
    low_field k y (evens k m) ∙ ap₂ (λ (p q : ℕ). bit_and p (evens k m) * 2 ^ (k + k) + q) hy (digits_mod b h₀) in
    let r : bit_and (y / 2 ^ k) (evens k m * 2 ^ (k + k) + (2 ^ k - 1)) ≡ bit_and (a / 2 ^ k) (evens k m) * 2 ^ (k + k) + o₁ =
    ap (λ (n : ℕ). bit_and n (evens k m * 2 ^ (k + k) + (2 ^ k - 1))) hb ∙ low_field k b (evens k m)
    ∙ ap₂ (λ (p q : ℕ). bit_and p (evens k m) * 2 ^ (k + k) + q) hc (digits_mod a h₁) in
    let t : o₁ + o₀ ≡ ones (x % 2 ^ (k + k)) = ones_two k x in
    let i : bit_and a (evens k m) + bit_and (a / 2 ^ k) (evens k m) ≡ counts (k + k) m (x / 2 ^ (k + k)) = rw s (both k m (x / 2 ^ (k + k))) in
    ap₂ (λ (p q : ℕ). p + q) l r
    ∙ sum_fields (bit_and a (evens k m)) (bit_and (a / 2 ^ k) (evens k m)) (2 ^ (k + k)) o₀ o₁
    ∙ ap₂ (λ (p q : ℕ). p * 2 ^ (k + k) + q) i (omega (arith, t))

-- fields of four bits, whose sums fit in them: one mask behind the sum
low_four : (n x : ℕ) → counts 4 n x % 16 ≤ 4
unfolding counts
low_four zero x = omega arith
low_four (suc n) x = let h : ones (x % 16) ≤ 4 = ones-le 4 (x % 16) (omega arith) in omega arith

pub last : (m x : ℕ) → bit_and (counts 4 (twice m) x + counts 4 (twice m) x / 16) (evens 4 m) ≡ counts 8 m x
unfolding counts evens twice
last zero x = and_zero_r 0
last (suc m) x =
    let o₀ : ℕ = ones (x % 16) in
    let o₁ : ℕ = ones (x / 16 % 16) in
    let a : ℕ = counts 4 (twice m) (x / 16 / 16) in
    let h₀ : o₀ ≤ 4 = ones-le 4 (x % 16) (omega arith) in
    let h₁ : o₁ ≤ 4 = ones-le 4 (x / 16 % 16) (omega arith) in
    let h₂ : a % 16 ≤ 4 = low_four (twice m) (x / 16 / 16) in
    let y : ℕ = (a * 16 + o₁) * 16 + o₀ in
    let e : y / 16 ≡ a * 16 + o₁ = omega arith in
    let z : ℕ = y + y / 16 in
    let w : ℕ = (a % 16 + o₁) * 16 + (o₁ + o₀) in
    let hw : w < 256 = omega arith in
    let c : z ≡ (a + a / 16) * 256 + w = omega (arith, e) in
    let d : z / 256 ≡ a + a / 16 = ap (λ (n : ℕ). n / 256) c ∙ digits_div (a + a / 16) hw in
    let r : z % 16 ≡ o₁ + o₀ = ap (λ (n : ℕ). n % 16) c ∙ omega arith in
    let s : x / 16 / 16 ≡ x / 256 = shr-shr x 4 4 in
    let i : bit_and (a + a / 16) (evens 4 m) ≡ counts 8 m (x / 256) = rw s (last m (x / 256)) in
    low_field 4 z (evens 4 m) ∙ ap₂ (λ (p q : ℕ). bit_and p (evens 4 m) * 256 + q) d r
    ∙ ap₂ (λ (p q : ℕ). p * 256 + q) i (ones_two 4 x)
