-- What the sequence of ORC.B computes: for each byte, whether a carry out of its low seven bits or its high bit says
-- that it is not 0. Assumes nothing.
use Rattle.std.proofs.Common.{◌≡◌, ℕ, zero, suc, ◌+◌, ◌*◌, ◌/◌, ◌%◌, ◌^◌, ◌<◌, ◌≤◌, Bool, true, false, cond, eqb, sym, refl, ap, ◌∙◌, ap₂, mod-eq_of_lt, pow-suc, arith, eq-eqb, ne_eqb, eqb-true}
use lib.Pow.{split}
use lib.Bits.{bit_and, bit_or, and_block, or_block, and_mask, and_zero_r, or_shr, or_lt, and_le_r}
use borrow.Author.Tests.{eqb-false}
use Rattle.word.specs.Word.{wrap, add, mul, and64, or64, shr}
use Rattle.word.specs.Bytes.{combined}

-- m times the byte c
unfoldable pub spread : ℕ → ℕ → ℕ
spread c zero = 0
spread c (suc m) = spread c m * 256 + c

-- by bytes
and_bytes : (x e c : ℕ) → c < 256 → bit_and x (e * 256 + c) ≡ bit_and (x / 256) e * 256 + bit_and (x % 256) c
and_bytes x e c h = ap (λ (n : ℕ). bit_and n (e * 256 + c)) (sym (split x 8)) ∙ and_block 8 (x / 256) e (x % 256) c (omega arith) h

-- a byte: 1 where it is not 0
flag : ℕ → ℕ
flag b = bit_or (b % 128 + 127) b

or_bits : (p q : ℕ) → p < 2 → q < 2 → bit_or p q ≡ cond (eqb (p + q) 0) 0 1
or_bits zero zero h l = refl
or_bits zero (suc zero) h l = refl
or_bits (suc zero) zero h l = refl
or_bits (suc zero) (suc zero) h l = refl
or_bits (suc (suc p)) q h l = absurd (omega arith)
or_bits zero (suc (suc q)) h l = absurd (omega arith)
or_bits (suc zero) (suc (suc q)) h l = absurd (omega arith)

flag_lt : (b : ℕ) → b < 256 → flag b < 256
unfolding flag
flag_lt b h = or_lt 8 (b % 128 + 127) b (omega arith) h

same_test : (a b : ℕ) → (a ≡ 0 → b ≡ 0) → (b ≡ 0 → a ≡ 0) → eqb a 0 ≡ eqb b 0
same_test a b f g = by (eqb b 0) refl
  where
    by : (t : Bool) → eqb b 0 ≡ t → eqb a 0 ≡ t
    by true q = eq-eqb a 0 (g (eqb-true b 0 q))
    by false q = ne_eqb a 0 (λ e. eqb-false b 0 q (f e))

flag_is : (b : ℕ) → b < 256 → flag b / 128 ≡ cond (eqb b 0) 0 1
unfolding flag
flag_is b h =
    let p : ℕ = (b % 128 + 127) / 128 in
    let q : ℕ = b / 128 in
    or_shr (b % 128 + 127) b 7 ∙ or_bits p q (omega arith) (omega arith)
    ∙ ap (λ (t : Bool). cond t 0 1) (same_test (p + q) b (λ e. omega arith) (λ e. omega arith))

-- the three parts of the sequence, on m bytes
marked : ℕ → ℕ → ℕ
marked m x = bit_or (bit_and x (spread 127 m) + spread 127 m) x

marked_suc : (m x : ℕ) → marked (suc m) x ≡ marked m (x / 256) * 256 + flag (x % 256)
unfolding marked flag spread
marked_suc m x =
    let b : ℕ = x % 256 in
    let y : ℕ = x / 256 in
    let c : bit_and b 127 ≡ b % 128 = and_mask b 7 in
    let e : bit_and x (spread 127 m * 256 + 127) + (spread 127 m * 256 + 127) ≡ (bit_and y (spread 127 m) + spread 127 m) * 256 + (b % 128 + 127) =
    omega (arith, and_bytes x (spread 127 m) 127 (omega arith), c) in
    ap₂ bit_or e (sym (split x 8)) ∙ or_block 8 (bit_and y (spread 127 m) + spread 127 m) y (b % 128 + 127) b (omega arith) (omega arith)

picked : (m x : ℕ) → bit_and (marked m x / 128) (spread 1 m) * 255 ≡ combined m x
unfolding spread combined
picked zero x = ap (λ (n : ℕ). n * 255) (and_zero_r (marked 0 x / 128))
picked (suc m) x =
    let f : ℕ = flag (x % 256) in
    let a : ℕ = marked m (x / 256) in
    let z : ℕ = (a * 256 + f) / 128 in
    let l : f < 256 = flag_lt (x % 256) (omega arith) in
    let d : z / 256 ≡ a / 128 = omega arith in
    let r : bit_and (z % 256) 1 ≡ f / 128 = and_mask (z % 256) 1 ∙ omega arith in
    let e : bit_and z (spread 1 m * 256 + 1) ≡ bit_and (a / 128) (spread 1 m) * 256 + f / 128 =
    and_bytes z (spread 1 m) 1 (omega arith) ∙ ap₂ (λ (u v : ℕ). bit_and u (spread 1 m) * 256 + v) d r in
    let c : f / 128 * 255 ≡ cond (eqb (x % 256) 0) 0 255 =
    ap (λ (n : ℕ). n * 255) (flag_is (x % 256) (omega arith)) ∙ times (eqb (x % 256) 0) in
    ap (λ (n : ℕ). bit_and (n / 128) (spread 1 m * 256 + 1) * 255) (marked_suc m x)
    ∙ ap (λ (n : ℕ). n * 255) e ∙ sums (bit_and (a / 128) (spread 1 m)) (f / 128) ∙ ap₂ (λ (u v : ℕ). u * 256 + v) (picked m (x / 256)) c
  where
    times : (t : Bool) → cond t 0 1 * 255 ≡ cond t 0 255
    times true = refl
    times false = refl

    sums : (u v : ℕ) → (u * 256 + v) * 255 ≡ u * 255 * 256 + v * 255
    sums u v = omega arith

one_byte : (t : Bool) → cond t 0 255 ≤ 255
one_byte true = omega arith
one_byte false = omega arith

combined-lt : (m x : ℕ) → combined m x < 256 ^ m
unfolding combined
combined-lt zero x = omega arith
combined-lt (suc m) x =
    omega (arith, pow-suc 256 m, combined-lt m (x / 256), one_byte (eqb (x % 256) 0))

pub picked_8 : (x : ℕ) → bit_and (bit_or (bit_and x 0x7F7F7F7F7F7F7F7F + 0x7F7F7F7F7F7F7F7F) x / 128) 0x0101010101010101 * 255 ≡ combined 8 x
unfolding marked spread
picked_8 x = picked 8 x

pub orcb_law : (x : ℕ) → mul (and64 (shr (or64 (add (and64 x 0x7F7F7F7F7F7F7F7F) 0x7F7F7F7F7F7F7F7F) x) 7) 0x0101010101010101) 255 ≡ combined 8 x
orcb_law x =
    let l : bit_and x 0x7F7F7F7F7F7F7F7F ≤ 0x7F7F7F7F7F7F7F7F = and_le_r x 0x7F7F7F7F7F7F7F7F in
    let e : add (bit_and x 0x7F7F7F7F7F7F7F7F) 0x7F7F7F7F7F7F7F7F ≡ bit_and x 0x7F7F7F7F7F7F7F7F + 0x7F7F7F7F7F7F7F7F = omega arith in
    ap (λ (n : ℕ). wrap (bit_and (bit_or n x / 128) 0x0101010101010101 * 255)) e
    ∙ ap wrap (picked_8 x) ∙ mod-eq_of_lt (combined-lt 8 x)
