-- A number as lanes of k bits, the lowest first, all worked on at once: the digits of a word. Assumes nothing.
use mathlib.Core.Path.{◌≡◌, sym, ap, ◌∙◌}
use mathlib.Core.List.{◌∷◌, ◌++◌, append-nil}
use mathlib.Core.Logic.{⊎_elim}
use Prim.Native.Nat.{ℕ, zero, suc, ◌+◌, ◌-◌, ◌*◌, ◌/◌, ◌%◌, ◌^◌, ◌≤◌, ◌<◌}
use native.Mathlib.Nat.{zero-add, mod-lt, lt_of_lt_of_le, le-add_left, eq-zero-or-pos}
use native.Mathlib.Omega.{arith}
use lib.Arith.{digits_mod, digits_div}
use lib.Bits.{bit_and, and_block, and_mask, and_le_r}
use lib.Pow.{pow_pos, pow_mono, split, mod-mod-pow, ones_lt}
use borrow.Author.Tests.{lt-ltb, le-ltb}
use Rattle.le.specs.Le.{bytes}
use Rattle.ascii.proofs.Numbers.{hex-add}
use Rattle.ascii.specs.Ascii.{digit, hex}

-- x in each of n lanes
abbrev pub each : ℕ → ℕ → ℕ → ℕ
each k x zero = 0
each k x (suc n) = each k x n * 2 ^ k + x

-- the low j bits of each lane, by the lowest and the others
and_each : (j d n a : ℕ) → bit_and a (each (d + j) (2 ^ j - 1) (suc n)) ≡ bit_and (a / 2 ^ (d + j)) (each (d + j) (2 ^ j - 1) n) * 2 ^ (d + j) + a % 2 ^ j
and_each j d n a =
    let k = d + j in
    let l : 2 ^ j - 1 < 2 ^ k = lt_of_lt_of_le (ones_lt j) (pow_mono (le-add_left j d)) in
    ap (λ (x : ℕ). bit_and x (each k (2 ^ j - 1) (suc n))) (sym (split a k))
    ∙ and_block k (a / 2 ^ k) (each k (2 ^ j - 1) n) (a % 2 ^ k) (2 ^ j - 1) (mod-lt a (pow_pos k)) l
    ∙ rw (and_mask (a % 2 ^ k) j, mod-mod-pow a d j)

-- the bytes of v in lanes of 16 bits, the highest first
abbrev pub apart : ℕ → ℕ
apart v = ((v % 256 * 65536 + v / 256 % 256) * 65536 + v / 65536 % 256) * 65536 + v / 16777216

-- the halves of the low bytes of n lanes of 16 bits, in lanes of 8
abbrev pub halves : ℕ → ℕ → ℕ
halves n b = bit_and (b / 16) (each 16 15 n) + bit_and b (each 16 15 n) * 256

-- the digits of n lanes of 8 bits
abbrev pub digits : ℕ → ℕ → ℕ
digits n c = c + each 8 48 n + bit_and ((c + each 8 6 n) / 16) (each 8 1 n) * 39

-- what the masks leave
pub masked : (b : ℕ) → (bit_and (b / 16) (each 16 15 4) ≤ each 16 15 4) × (bit_and b (each 16 15 4) ≤ each 16 15 4)
    × (bit_and ((halves 4 b + each 8 6 8) / 16) (each 8 1 8) ≤ each 8 1 8)
masked b = (and_le_r (b / 16) (each 16 15 4), and_le_r b (each 16 15 4), and_le_r ((halves 4 b + each 8 6 8) / 16) (each 8 1 8))

-- halves and digits, by the lowest lane and the others
halves_more : (n h x : ℕ) → x < 256 → halves (suc n) (h * 65536 + x) ≡ (halves n h * 256 + x % 16) * 256 + x / 16 % 16
halves_more n h x l =
    let b = h * 65536 + x in
    let q : b / 16 / 65536 ≡ h / 16 = omega arith in
    let r : b / 65536 ≡ h = omega arith in
    let s : b / 16 % 16 ≡ x / 16 % 16 = omega arith in
    rw (and_each 4 12 n b, and_each 4 12 n (b / 16), q, r, s) (omega arith)

digit_sum : (x : ℕ) → x < 16 → digit x ≡ x + 48 + (x + 6) / 16 % 2 * 39
digit_sum x h =
    ⊎_elim (λ l. rw (le-ltb x 10 (omega arith)) (omega arith)) (λ l. rw (lt-ltb x 10 (omega arith)) (omega arith)) (eq-zero-or-pos (10 - x))

digits_more : (n c x : ℕ) → x < 16 → bytes (suc n) (digits (suc n) (c * 256 + x)) ≡ digit x ∷ bytes n (digits n c)
unfolding bytes
digits_more n c x h =
    let y = (c * 256 + x + (each 8 6 n * 256 + 6)) / 16 in
    let q : y / 256 ≡ (c + each 8 6 n) / 16 = omega arith in
    let r : y % 2 ≡ (x + 6) / 16 % 2 = omega arith in
    let s : digits (suc n) (c * 256 + x) ≡ digits n c * 256 + digit x = rw (and_each 1 7 n y, q, r, digit_sum x h) (omega arith) in
    let l : digit x < 256 = rw (digit_sum x h) (omega arith) in
    rw (s, digits_mod (digits n c) l, digits_div (digits n c) l)

two_more : (n k h x : ℕ) → x < 256 → bytes (suc (suc k)) (digits (suc (suc k)) (halves (suc n) (h * 65536 + x))) ≡ hex 2 x ++ bytes k (digits k (halves n h))
unfolding hex
two_more n k h x l =
    let c = halves n h in
    rw (halves_more n h x l, digits_more (suc k) (c * 256 + x % 16) (x / 16 % 16) (omega arith), digits_more k c (x % 16) (omega arith))

hex2 : (v : ℕ) → hex 2 (v % 256) ≡ hex 2 v
unfolding hex
hex2 v =
    let h : v % 256 / 16 % 16 ≡ v / 16 % 16 = omega arith in
    let l : v % 256 % 16 ≡ v % 16 = omega arith in
    rw (h, l)

pub hex8 : (v : ℕ) → v < 4294967296 → bytes 8 (digits 8 (halves 4 (apart v))) ≡ hex 8 v
hex8 v l =
    let b₃ = v % 256 in
    let b₂ = b₃ * 65536 + v / 256 % 256 in
    let b₁ = b₂ * 65536 + v / 65536 % 256 in
    two_more 3 6 b₁ (v / 16777216) (omega arith)
    ∙ rw (
      two_more 2 4 b₂ (v / 65536 % 256) (omega arith),
      two_more 1 2 b₃ (v / 256 % 256) (omega arith),
      rw (zero-add b₃) at (two_more 0 0 0 b₃ (omega arith)),
      hex-add 2 6 v,
      hex-add 2 4 v,
      hex-add 2 2 v,
      hex2 (v / 65536),
      hex2 (v / 256),
      hex2 v,
    ) (unfold bytes in rw append-nil)
