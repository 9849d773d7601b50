-- XOR with a complement is the complement of XOR. Assumes nothing.
use Rattle.std.proofs.Common.{◌≡◌, ℕ, zero, suc, ◌+◌, ◌-◌, ◌*◌, ◌/◌, ◌%◌, ◌^◌, ◌<◌, sym, refl, ◌∙◌, ap₂, pow-suc, arith, pow_pos}
use lib.Bits.{bit_xor, differ, xor_lt, xor_step}
use Rattle.word.specs.Word.{xor64, complement}

bit_not : (a b : ℕ) → a < 2 → b < 2 → differ a (1 - b) ≡ 1 - differ a b
bit_not zero zero h l = refl
bit_not zero (suc zero) h l = refl
bit_not (suc zero) zero h l = refl
bit_not (suc zero) (suc zero) h l = refl
bit_not (suc (suc a)) b h l = absurd (omega arith)
bit_not zero (suc (suc b)) h l = absurd (omega arith)
bit_not (suc zero) (suc (suc b)) h l = absurd (omega arith)

bit-lt : (a b : ℕ) → a < 2 → b < 2 → differ a b < 2
bit-lt zero b h l = l
bit-lt (suc zero) zero h l = omega arith
bit-lt (suc zero) (suc zero) h l = omega arith
bit-lt (suc (suc a)) b h l = absurd (omega arith)
bit-lt (suc zero) (suc (suc b)) h l = absurd (omega arith)

less : (p b c : ℕ) → b < p → c < 2 → (p - 1 - b) * 2 + (1 - c) ≡ p * 2 - 1 - (b * 2 + c)
less p b c h l = omega arith

xor_not : (k x y : ℕ) → x < 2 ^ k → y < 2 ^ k → bit_xor x (2 ^ k - 1 - y) ≡ 2 ^ k - 1 - bit_xor x y
xor_not zero x y h l = let e : x ≡ 0 = omega arith in let f : y ≡ 0 = omega arith in rw (e, f)
xor_not (suc k) x y h l =
    let p : 2 ^ suc k ≡ 2 ^ k * 2 = pow-suc 2 k in
    let q : 0 < 2 ^ k = pow_pos k in
    let d : (2 ^ suc k - 1 - y) / 2 ≡ 2 ^ k - 1 - y / 2 = omega (arith, p, q) in
    let m : (2 ^ suc k - 1 - y) % 2 ≡ 1 - y % 2 = omega (arith, p, q) in
    let i : bit_xor (x / 2) (2 ^ k - 1 - y / 2) ≡ 2 ^ k - 1 - bit_xor (x / 2) (y / 2) = xor_not k (x / 2) (y / 2) (omega (arith, p)) (omega (arith, p)) in
    let b : bit_xor (x / 2) (y / 2) < 2 ^ k = xor_lt k (x / 2) (y / 2) (omega (arith, p)) (omega (arith, p)) in
    let c : differ (x % 2) (y % 2) < 2 = bit-lt (x % 2) (y % 2) (omega arith) (omega arith) in
    let n : differ (x % 2) (1 - y % 2) ≡ 1 - differ (x % 2) (y % 2) = bit_not (x % 2) (y % 2) (omega arith) (omega arith) in
    xor_step x (2 ^ suc k - 1 - y) ∙ ap₂ (λ (u w : ℕ). bit_xor (x / 2) u * 2 + differ (x % 2) w) d m
    ∙ ap₂ (λ (u w : ℕ). u * 2 + w) i n ∙ less (2 ^ k) (bit_xor (x / 2) (y / 2)) (differ (x % 2) (y % 2)) b c
    ∙ ap₂ (λ (u w : ℕ). u - 1 - w) (sym p) (sym (xor_step x y))

pub xnor_law : (x y : ℕ) → x < 2 ^ 64 → y < 2 ^ 64 → xor64 x (complement y) ≡ complement (xor64 x y)
xnor_law x y h l = xor_not 64 x y h l
