-- What the sequences of CLZW, CTZ, CTZW and CPOPW compute. Assumes nothing.
use Rattle.std.proofs.Common.{◌≡◌, ℕ, zero, suc, ◌+◌, ◌-◌, ◌*◌, ◌/◌, ◌%◌, ◌^◌, ◌<◌, ◌≤◌, min, Bool, true, false, cond, eqb, ◌⊎◌, sym, refl, ap, ◌∙◌, ap₂, inl, inr, add-zero, pow-suc, arith, pow_pos, pow_mono}
use lib.Bits.{bit_and, bit_or, and_step, and_mask, and_zero_r, or_mod, or_shr, or_zero_r}
use lib.Count.{count_leading_zeros, leading_length, leading_unique, ones, ones_cat}
use Rattle.word.specs.Word.{sub, shl, and64, or64, complement}
use Rattle.word.specs.Counts.{clz, ctz, cpop}
use Rattle.word.proofs.Counting.{cpop-ones, leading_is, leading_low}

-- ---- CLZW: the zeros of the low word, with 32 more above it

pub clzw_law : (x : ℕ) → sub (clz 64 (and64 x 0xFFFFFFFF)) 32 ≡ clz 32 x
clzw_law x =
    let a : ℕ = x % 2 ^ 32 in
    let h : a < 2 ^ 32 = omega arith in
    let s = leading_length 32 a h in
    let e : 32 + count_leading_zeros 32 a ≡ count_leading_zeros 64 a =
    leading_unique 64 a (32 + count_leading_zeros 32 a) s.0 (omega (arith, s.1)) s.2 s.3 in
    let c : clz 64 (and64 x 0xFFFFFFFF) ≡ 32 + count_leading_zeros 32 a =
    ap (clz 64) (and_mask x 32) ∙ sym (leading_is 64 a (omega arith)) ∙ sym e in
    let l : count_leading_zeros 32 a ≤ 32 = omega (arith, s.1) in
    ap (λ (n : ℕ). sub n 32) c ∙ omega arith ∙ leading_low 32 x

-- ---- CTZ: x - 1 has ones where x has its trailing zeros, and those alone are not in x

ctz-le : (k x : ℕ) → ctz k x ≤ k
unfolding ctz
ctz-le zero x = omega arith
ctz-le (suc k) x = by (eqb (x % 2) 0) (ctz-le k (x / 2))
  where
    by : (b : Bool) → ctz k (x / 2) ≤ k → cond b (suc (ctz k (x / 2))) 0 ≤ suc k
    by true h = omega arith
    by false h = omega arith

and_none : (k y : ℕ) → y < 2 ^ k → bit_and y (2 ^ k - 1 - y) ≡ 0
and_none zero y h = let e : y ≡ 0 = omega arith in rw e
and_none (suc k) y h =
    let p : 2 ^ suc k ≡ 2 ^ k * 2 = pow-suc 2 k in
    let q : 0 < 2 ^ k = pow_pos k in
    let d : (2 ^ suc k - 1 - y) / 2 ≡ 2 ^ k - 1 - y / 2 = omega (arith, p, q) in
    let m : (2 ^ suc k - 1 - y) % 2 ≡ 1 - y % 2 = omega (arith, p, q) in
    let i : bit_and (y / 2) (2 ^ k - 1 - y / 2) ≡ 0 = and_none k (y / 2) (omega (arith, p)) in
    and_step y (2 ^ suc k - 1 - y) ∙ ap₂ (λ (a b : ℕ). bit_and (y / 2) a * 2 + min (y % 2) b) d m ∙ ap (λ (a : ℕ). a * 2 + min (y % 2) (1 - y % 2)) i ∙ low (y % 2) (omega arith)
  where
    low : (b : ℕ) → b < 2 → 0 * 2 + min b (1 - b) ≡ 0
    low zero h = refl
    low (suc zero) h = refl
    low (suc (suc b)) h = absurd (omega arith)

-- p is x - 1 in k bits
abbrev Before : ℕ → ℕ → ℕ → Type 0
Before k x p = (p + 1 ≡ x) ⊎ ((x ≡ 0) × (p + 1 ≡ 2 ^ k))

half-before : (k x p : ℕ) → x % 2 ≡ 0 → Before (suc k) x p → Before k (x / 2) (p / 2) × (p % 2 ≡ 1)
half-before k x p e (inl h) = (inl (omega arith), omega arith)
half-before k x p e (inr h) = let q : 2 ^ suc k ≡ 2 ^ k * 2 = pow-suc 2 k in (inr (omega (arith, h.0), omega (arith, h.1, q)), omega (arith, h.1, q))

odd_before : (k x p : ℕ) → x % 2 ≡ 1 → Before (suc k) x p → (p / 2 ≡ x / 2) × (p % 2 ≡ 0)
odd_before k x p e (inl h) = (omega arith, omega arith)
odd_before k x p e (inr h) = absurd (omega (arith, h.0))

below : (k x p : ℕ) → x < 2 ^ k → Before k x p → bit_and p (2 ^ k - 1 - x) ≡ 2 ^ ctz k x - 1
unfolding ctz
below zero x p h b = let e : x ≡ 0 = omega arith in rw e (and_zero_r p)
below (suc k) x p h b = by (x % 2) refl (λ g. below k (x / 2) (p / 2) (omega (arith, pow-suc 2 k)) g)
  where
    P : 2 ^ suc k ≡ 2 ^ k * 2
    P = pow-suc 2 k

    d : (2 ^ suc k - 1 - x) / 2 ≡ 2 ^ k - 1 - x / 2
    d = omega (arith, P, pow_pos k)

    m : (2 ^ suc k - 1 - x) % 2 ≡ 1 - x % 2
    m = omega (arith, P, pow_pos k)

    by : (r : ℕ) → x % 2 ≡ r → (Before k (x / 2) (p / 2) → bit_and (p / 2) (2 ^ k - 1 - x / 2) ≡ 2 ^ ctz k (x / 2) - 1)
        → bit_and p (2 ^ suc k - 1 - x) ≡ 2 ^ cond (eqb r 0) (suc (ctz k (x / 2))) 0 - 1
    by zero e i =
        let g = half-before k x p e b in
        let t : 2 ^ suc (ctz k (x / 2)) ≡ 2 ^ ctz k (x / 2) * 2 = pow-suc 2 (ctz k (x / 2)) in
        and_step p (2 ^ suc k - 1 - x) ∙ ap₂ (λ (a c : ℕ). bit_and (p / 2) a * 2 + min (p % 2) c) d m
        ∙ ap₂ (λ (a c : ℕ). a * 2 + min c (1 - x % 2)) (i g.0) g.1 ∙ ap (λ (a : ℕ). (2 ^ ctz k (x / 2) - 1) * 2 + min 1 (1 - a)) e
        ∙ omega (arith, t, pow_pos (ctz k (x / 2)))
    by (suc zero) e i =
        let g = odd_before k x p e b in
        and_step p (2 ^ suc k - 1 - x) ∙ ap₂ (λ (a c : ℕ). bit_and (p / 2) a * 2 + min (p % 2) c) d m
        ∙ ap₂ (λ (a c : ℕ). bit_and a (2 ^ k - 1 - x / 2) * 2 + min c (1 - x % 2)) g.0 g.1
        ∙ ap₂ (λ (a c : ℕ). a * 2 + min 0 (1 - c)) (and_none k (x / 2) (omega (arith, P))) e
    by (suc (suc r)) e i = absurd (omega arith)

-- 64 less the zeros above those ones
pub ctz_law : (x : ℕ) → x < 2 ^ 64 → sub 64 (clz 64 (and64 (sub x 1) (complement x))) ≡ ctz 64 x
ctz_law x h =
    let t : ℕ = ctz 64 x in
    let l : t ≤ 64 = ctz-le 64 x in
    let e : and64 (sub x 1) (complement x) ≡ 2 ^ t - 1 = below 64 x (sub x 1) h (before x h) in
    let q : 0 < 2 ^ t = pow_pos t in
    let a : 2 ^ t ≤ 2 ^ 64 = pow_mono l in
    let u : 64 - t ≡ count_leading_zeros 64 (2 ^ t - 1) = leading_unique 64 (2 ^ t - 1) (64 - t) t (omega arith) (omega arith) (omega arith) in
    let c : clz 64 (and64 (sub x 1) (complement x)) ≡ 64 - t = ap (clz 64) e ∙ sym (leading_is 64 (2 ^ t - 1) (omega arith)) ∙ sym u in
    ap (sub 64) c ∙ omega arith
  where
    before : (x : ℕ) → x < 2 ^ 64 → Before 64 x (sub x 1)
    before zero h = inr (refl, refl)
    before (suc x) h = inl (omega arith)

-- ---- CTZW: with a one behind the low word

or_one : (b : ℕ) → b < 2 → bit_or b 1 ≡ 1
or_one zero h = refl
or_one (suc zero) h = refl
or_one (suc (suc b)) h = absurd (omega arith)

ctz_or : (k j x : ℕ) → ctz (k + suc j) (bit_or x (2 ^ k)) ≡ ctz k x
unfolding ctz
ctz_or zero j x =
    let e : bit_or x 1 % 2 ≡ 1 = or_mod x 1 1 ∙ or_one (x % 2) (omega arith) in
    let n : 0 + suc j ≡ suc j = omega arith in
    rw (n, e)
ctz_or (suc k) j x =
    let p : 2 ^ suc k ≡ 2 ^ k * 2 = pow-suc 2 k in
    let e : bit_or x (2 ^ suc k) % 2 ≡ x % 2 =
    or_mod x (2 ^ suc k) 1 ∙ ap (bit_or (x % 2)) (let z : 2 ^ suc k % 2 ≡ 0 = omega (arith, p) in z) ∙ or_zero_r (x % 2) in
    let f : bit_or x (2 ^ suc k) / 2 ≡ bit_or (x / 2) (2 ^ k) =
    or_shr x (2 ^ suc k) 1 ∙ ap (bit_or (x / 2)) (let z : 2 ^ suc k / 2 ≡ 2 ^ k = omega (arith, p) in z) in
    let n : suc k + suc j ≡ suc (k + suc j) = omega arith in
    rw (n, e, f, ctz_or k j (x / 2))

pub ctzw_law : (x : ℕ) → ctz 64 (or64 x 0x100000000) ≡ ctz 32 x
ctzw_law x = ctz_or 32 31 x

-- ---- CPOPW: the low word alone, in the upper half

pub cpopw_law : (x : ℕ) → cpop 64 (shl x 32) ≡ cpop 32 x
unfolding ones
cpopw_law x =
    let e : shl x 32 % 2 ^ 64 ≡ x % 2 ^ 32 * 2 ^ 32 + 0 = omega arith in
    cpop-ones 64 (shl x 32) ∙ ap ones e ∙ ones_cat 32 (x % 2 ^ 32) 0 (omega arith) ∙ add-zero (ones (x % 2 ^ 32)) ∙ sym (cpop-ones 32 x)
