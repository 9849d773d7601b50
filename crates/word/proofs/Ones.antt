-- The mask sequence counts the ones. Assumes nothing.
use Rattle.std.proofs.Common.{◌≡◌, ℕ, zero, suc, ◌+◌, ◌*◌, ◌/◌, ◌%◌, ◌^◌, ◌<◌, ◌≤◌, sym, ap, ◌∙◌, mod-eq_of_lt, zero-add, arith}
use lib.Arith.{digits_div, digits_mod}
use lib.Pow.{split}
use lib.Bits.{bit_and, and_le_r}
use lib.Count.{ones, ones_cat, ones-le}
use Rattle.word.specs.Word.{add, sub, mul, and64, shr}
use Rattle.word.specs.Counts.{cpop}
use Rattle.word.proofs.Counting.{cpop-ones}
use Rattle.word.proofs.Fields.{evens, twice, counts, counts_bits, first, both, last}

-- what the words compute
abbrev step₁ : ℕ → ℕ
step₁ x = sub x (and64 (shr x 1) 0x5555555555555555)

abbrev step₂ : ℕ → ℕ
step₂ a = add (and64 a 0x3333333333333333) (and64 (shr a 2) 0x3333333333333333)

abbrev step₃ : ℕ → ℕ
step₃ b = and64 (add b (shr b 4)) 0x0F0F0F0F0F0F0F0F

abbrev step₄ : ℕ → ℕ
step₄ c = shr (mul c 0x0101010101010101) 56

byte : (x : ℕ) → ones (x % 256) ≤ 8
byte x = ones-le 8 (x % 256) (omega arith)

-- the ones of the m low fields of k bits, summed
total : ℕ → ℕ → ℕ → ℕ
total k zero x = zero
total k (suc m) x = total k m (x / 2 ^ k) + ones (x % 2 ^ k)

fits : (s r : ℕ) → s ≤ 64 → r < 2 ^ 56 → s * 2 ^ 56 + r < 2 ^ 64
fits s r h l = omega arith

expanded : (a b c d e f g h : ℕ) → (((((((a * 256 + b) * 256 + c) * 256 + d) * 256 + e) * 256 + f) * 256 + g) * 256 + h) * 0x0101010101010101 ≡ ((((((a * 256 + (b + a)) * 256 + (c + b + a)) * 256 + (d + c + b + a)) * 256 + (e + d + c + b + a)) * 256 + (f + e + d + c + b + a)) * 256 + (g + f + e + d + c + b + a)) * 2 ^ 64 + ((a + b + c + d + e + f + g + h) * 2 ^ 56 + (((((((h + g + f + e + d + c + b) * 256 + (h + g + f + e + d + c)) * 256 + (h + g + f + e + d)) * 256 + (h + g + f + e)) * 256 + (h + g + f)) * 256 + (h + g)) * 256 + h))
expanded a b c d e f g h = omega arith

-- eight digits of base 256, none above 8, times 0x0101..: the digit at 2 ^ 56 is their sum, and no carry reaches it
product : (a b c d e f g h : ℕ) → a ≤ 8 → b ≤ 8 → c ≤ 8 → d ≤ 8 → e ≤ 8 → f ≤ 8 → g ≤ 8 → h ≤ 8
    → step₄ (((((((a * 256 + b) * 256 + c) * 256 + d) * 256 + e) * 256 + f) * 256 + g) * 256 + h) ≡ (a + b + c + d + e + f + g + h)
product a b c d e f g h ha hb hc hd he hf hg hh =
    let r : ℕ = (((((((h + g + f + e + d + c + b) * 256 + (h + g + f + e + d + c)) * 256 + (h + g + f + e + d)) * 256 + (h + g + f + e)) * 256 + (h + g + f)) * 256 + (h + g)) * 256 + h) in
    let k : ℕ = ((((((a * 256 + (b + a)) * 256 + (c + b + a)) * 256 + (d + c + b + a)) * 256 + (e + d + c + b + a)) * 256 + (f + e + d + c + b + a)) * 256 + (g + f + e + d + c + b + a)) in
    let s : ℕ = (a + b + c + d + e + f + g + h) in
    let hr : r < 2 ^ 56 = omega arith in
    let hs : s * 2 ^ 56 + r < 2 ^ 64 = fits s r (omega arith) hr in
    ap (λ (n : ℕ). n % 2 ^ 64 / 2 ^ 56) (expanded a b c d e f g h) ∙ ap (λ (n : ℕ). n / 2 ^ 56) (digits_mod k hs) ∙ digits_div s hr

bytes_sum : (x : ℕ) → step₄ (counts 8 8 x) ≡ total 8 8 x
unfolding counts total
bytes_sum x =
    rw zero-add
    (product _ _ _ _ _ _ _ _
    (byte (x / 256 / 256 / 256 / 256 / 256 / 256 / 256)) (byte (x / 256 / 256 / 256 / 256 / 256 / 256)) (byte (x / 256 / 256 / 256 / 256 / 256))
    (byte (x / 256 / 256 / 256 / 256)) (byte (x / 256 / 256 / 256)) (byte (x / 256 / 256)) (byte (x / 256)) (byte x))

-- the ones of x are those of its m low bytes and of what is above them
above : ℕ → ℕ → ℕ
above zero x = x
above (suc m) x = above m (x / 256)

ones_total : (m x : ℕ) → ones x ≡ total 8 m x + ones (above m x)
unfolding total above
ones_total zero x = sym (zero-add (ones x))
ones_total (suc m) x =
    let e : ones x ≡ ones (x / 256) + ones (x % 256) = ap ones (sym (split x 8)) ∙ ones_cat 8 (x / 256) (x % 256) (omega arith) in
    omega (arith, e, ones_total m (x / 256))

total_is : (x : ℕ) → x < 2 ^ 64 → total 8 8 x ≡ ones x
unfolding above ones
total_is x h =
    let z : x / 256 / 256 / 256 / 256 / 256 / 256 / 256 / 256 ≡ 0 = omega arith in
    let e : ones (above 8 x) ≡ 0 = ap ones z in
    omega (arith, e, ones_total 8 x)

-- ---- the steps

module _ (x : ℕ) (h : x < 2 ^ 64) where
  row : counts 1 64 x ≡ x
  row = counts_bits 64 x ∙ mod-eq_of_lt h

  one_is : step₁ x ≡ counts 2 32 x
  unfolding evens twice
  one_is =
      let e : counts 2 32 x + bit_and (x / 2) 0x5555555555555555 ≡ x =
      ap (λ (n : ℕ). counts 2 32 x + bit_and (n / 2) 0x5555555555555555) (sym row) ∙ first 32 x ∙ row in
      omega (arith, e)

  pairs : bit_and (counts 2 32 x) 0x3333333333333333 + bit_and (counts 2 32 x / 4) 0x3333333333333333 ≡ counts 4 16 x
  unfolding evens twice
  pairs = both 2 16 x

  small : counts 4 16 x ≤ 0x6666666666666666
  small = omega (arith, pairs, and_le_r (counts 2 32 x) 0x3333333333333333, and_le_r (counts 2 32 x / 4) 0x3333333333333333)

  two_is : step₂ (counts 2 32 x) ≡ counts 4 16 x
  two_is = omega (arith, pairs, small)

  three_is : step₃ (counts 4 16 x) ≡ counts 8 8 x
  unfolding evens twice
  three_is =
      let e : add (counts 4 16 x) (counts 4 16 x / 16) ≡ counts 4 16 x + counts 4 16 x / 16 = omega (arith, small) in
      ap (λ (n : ℕ). bit_and n 0x0F0F0F0F0F0F0F0F) e ∙ last 8 x

  -- the mask sequence
  pub mask_sequence : step₄ (step₃ (step₂ (step₁ x))) ≡ cpop 64 x
  mask_sequence =
      ap (λ (n : ℕ). step₄ (step₃ (step₂ n))) one_is ∙ ap (λ (n : ℕ). step₄ (step₃ n)) two_is ∙ ap step₄ three_is
      ∙ bytes_sum x ∙ total_is x h ∙ sym (cpop-ones 64 x ∙ ap ones (mod-eq_of_lt h))
