-- The counts of the definition are the language's. Assumes nothing.
use Rattle.std.proofs.Common.{◌≡◌, ℕ, zero, suc, ◌+◌, ◌*◌, ◌/◌, ◌%◌, ◌^◌, ◌<◌, ◌≤◌, Bool, true, false, cond, eqb, sym, refl, ap, ◌∙◌, ap₂, mod-lt, mod-eq_of_lt, pow-suc, arith, pow_pos, ne_eqb, eqb-true}
use native.Mathlib.Nat.{mod-one}
use lib.Pow.{mod-pow-add, mod-mod-pow, field}
use lib.Count.{ones, ones_cat, count_leading_zeros, leading_le, leading_length, leading_unique, count_trailing_zeros, under}
use borrow.Author.Tests.{eqb-false}
use Rattle.word.specs.Counts.{bit_at, clz, ctz, cpop}

-- the k + 1 low bits: bit k above the k low ones
low_bits : (k x : ℕ) → x % 2 ^ suc k ≡ bit_at k x * 2 ^ k + x % 2 ^ k
low_bits k x = let e : suc k ≡ 1 + k = omega arith in ap (λ (n : ℕ). x % 2 ^ n) e ∙ mod-pow-add x 1 k

pub ones_bit : (r : ℕ) → r < 2 → ones r ≡ r
unfolding ones
ones_bit zero h = refl
ones_bit (suc zero) h = refl
ones_bit (suc (suc r)) h = absurd (omega arith)

pub cpop-ones : (k x : ℕ) → cpop k x ≡ ones (x % 2 ^ k)
unfolding cpop ones
cpop-ones zero x = ap ones (sym (mod-one x))
cpop-ones (suc k) x =
    ap₂ (λ (a b : ℕ). a + b) (sym (ones_bit (bit_at k x) (omega arith))) (cpop-ones k x)
    ∙ sym (ones_cat k (bit_at k x) (x % 2 ^ k) (mod-lt x (pow_pos k))) ∙ ap ones (sym (low_bits k x))

-- a number of k bits among k + 1, with a set bit above it and without
leading_set : (k r : ℕ) → r < 2 ^ k → count_leading_zeros (suc k) (2 ^ k + r) ≡ 0
leading_set k r h =
    let p : 2 ^ suc k ≡ 2 ^ k * 2 = pow-suc 2 k in
    sym (leading_unique (suc k) (2 ^ k + r) 0 (suc k) (omega arith) (omega arith) (omega arith))

leading_clear : (k r : ℕ) → r < 2 ^ k → count_leading_zeros (suc k) r ≡ suc (count_leading_zeros k r)
leading_clear k r h =
    let s = leading_length k r h in
    sym (leading_unique (suc k) r (suc (count_leading_zeros k r)) s.0 (omega (arith, s.1)) s.2 s.3)

pub clz_leading : (k x : ℕ) → clz k x ≡ count_leading_zeros k (x % 2 ^ k)
unfolding clz count_leading_zeros
clz_leading zero x = refl
clz_leading (suc k) x = by (eqb (bit_at k x) 0) refl (clz_leading k x)
  where
    r<p : x % 2 ^ k < 2 ^ k
    r<p = mod-lt x (pow_pos k)

    by : (b : Bool) → eqb (bit_at k x) 0 ≡ b → clz k x ≡ count_leading_zeros k (x % 2 ^ k) → cond b (suc (clz k x)) 0 ≡ count_leading_zeros (suc k) (x % 2 ^ suc k)
    by true q ih =
        let z : bit_at k x ≡ 0 = eqb-true (bit_at k x) 0 q in
        let e : x % 2 ^ suc k ≡ x % 2 ^ k = low_bits k x ∙ ap (λ (n : ℕ). n * 2 ^ k + x % 2 ^ k) z ∙ omega arith in
        ap suc ih ∙ sym (leading_clear k (x % 2 ^ k) r<p) ∙ ap (count_leading_zeros (suc k)) (sym e)
    by false q ih =
        let z : bit_at k x ≡ 1 = omega (arith, eqb-false (bit_at k x) 0 q) in
        let e : x % 2 ^ suc k ≡ 2 ^ k + x % 2 ^ k = low_bits k x ∙ ap (λ (n : ℕ). n * 2 ^ k + x % 2 ^ k) z ∙ omega arith in
        sym (leading_set k (x % 2 ^ k) r<p) ∙ ap (count_leading_zeros (suc k)) (sym e)

pub clz-le : (k x : ℕ) → clz k x ≤ k
clz-le k x = rw (clz_leading k x) (leading_le k (x % 2 ^ k))

pub ctz-trailing : (k x : ℕ) → ctz k x ≡ count_trailing_zeros k x
unfolding ctz count_trailing_zeros
ctz-trailing zero x = refl
ctz-trailing (suc k) x = by (x % 2) (ctz-trailing k (x / 2))
  where
    by : (d : ℕ) → ctz k (x / 2) ≡ count_trailing_zeros k (x / 2) → cond (eqb d 0) (suc (ctz k (x / 2))) 0 ≡ under d (count_trailing_zeros k (x / 2))
    by zero ih = ap suc ih
    by (suc d) ih = rw (ne_eqb (suc d) 0 (omega arith))

-- bits above the k low ones do not count
pub ctz-low : (k x : ℕ) → ctz k (x % 2 ^ k) ≡ ctz k x
unfolding ctz
ctz-low zero x = refl
ctz-low (suc k) x =
    let p : suc k ≡ k + 1 = omega arith in
    let e : x % 2 ^ suc k % 2 ≡ x % 2 = rw p (mod-mod-pow x k 1) in
    let f : x % 2 ^ suc k / 2 ≡ x / 2 % 2 ^ k = rw p (field x k 1) in
    rw (e, f, ctz-low k (x / 2))

-- ---- of a number of k bits, and of the k low bits of any number

module _ (k x : ℕ) (h : x < 2 ^ k) where
  pub leading_is : count_leading_zeros k x ≡ clz k x
  leading_is = sym (clz_leading k x ∙ ap (count_leading_zeros k) (mod-eq_of_lt h))

  pub trailing_is : count_trailing_zeros k x ≡ ctz k x
  trailing_is = sym (ctz-trailing k x)

  pub ones_is : ones x ≡ cpop k x
  ones_is = sym (cpop-ones k x ∙ ap ones (mod-eq_of_lt h))

pub leading_low : (k x : ℕ) → count_leading_zeros k (x % 2 ^ k) ≡ clz k x
leading_low k x = sym (clz_leading k x)

pub trailing-low : (k x : ℕ) → count_trailing_zeros k (x % 2 ^ k) ≡ ctz k x
trailing-low k x = sym (ctz-trailing k (x % 2 ^ k)) ∙ ctz-low k x

pub ones_low : (k x : ℕ) → ones (x % 2 ^ k) ≡ cpop k x
ones_low k x = sym (cpop-ones k x)
