-- The language's signed numbers are the signed values of a register's bits. Assumes nothing.
use Rattle.std.proofs.Common.{◌≡◌, ℕ, suc, ◌-◌, ◌/◌, ◌%◌, ◌^◌, ◌<◌, Bool, true, false, cond, eqb, ltb, ℤ, pos, negsuc, sym, refl, lt_of_le_of_lt, div-le_self, eqb-true, arith}
use mir.Syntax.{w64}
use mir.Val.{sel, to_z, of_z}
use lib.Signed.{lt_z, quot_z, rem_z, shr_z}
use mathlib.Core.Bool.{xor}
use native.Mathlib.Nat.{mod-le}
use Rattle.std.proofs.lemmas.Int.{of_z-to_z}
use Rattle.std.specs.Int.{IsNonZero}
use Rattle.word.specs.Word.{slt, asr, complement, sign, magnitude, signed, sdiv, srem}
use Rattle.word.proofs.Integers.{toℤ, slt-value, asr-value, sdiv-value, sdiv-overflow, srem-value}

pub cast : (x : ℕ) → to_z w64 x ≡ toℤ 64 x
unfolding toℤ
cast x = by (ltb x (2 ^ 63)) (pos x) (negsuc (2 ^ 64 - suc x))
  where
    by : (b : Bool) (p q : ℤ) → sel b p q ≡ cond b p q
    by true p q = refl
    by false p q = refl

-- bits that are read as signed and put back
back : (x : ℕ) (z : ℤ) → x < 2 ^ 64 → toℤ 64 x ≡ z → of_z w64 z ≡ x
back x z h e = rw (← e, ← cast x) (of_z-to_z w64 x h)

pub slt-cast : (x y : ℕ) → x < 2 ^ 64 → y < 2 ^ 64 → lt_z (to_z w64 x) (to_z w64 y) ≡ slt x y
slt-cast x y h l = rw (cast x, cast y) (sym (slt-value x y h l))

-- ---- the results are registers

asr-below : (x s : ℕ) → x < 2 ^ 64 → asr x s < 2 ^ 64
unfolding asr
asr-below x s h = by (sign x)
  where
    by : (b : Bool) → cond b (complement (complement x / 2 ^ s)) (x / 2 ^ s) < 2 ^ 64
    by true = omega arith
    by false = lt_of_le_of_lt (div-le_self x (2 ^ s)) h

magnitude-below : (x : ℕ) → x < 2 ^ 64 → magnitude x < 2 ^ 64
unfolding magnitude
magnitude-below x h = by (sign x) refl
  where
    by : (b : Bool) → sign x ≡ b → cond b (2 ^ 64 - x) x < 2 ^ 64
    by true e = grind arith
    by false e = h

signed-below : (s : Bool) (m : ℕ) → m < 2 ^ 64 → signed s m < 2 ^ 64
unfolding signed
signed-below true m h = omega arith
signed-below false m h = h

sdiv-below : (x y : ℕ) → x < 2 ^ 64 → sdiv x y < 2 ^ 64
unfolding sdiv
sdiv-below x y h =
    signed-below (xor (sign x) (sign y)) (magnitude x / magnitude y)
    (lt_of_le_of_lt (div-le_self (magnitude x) (magnitude y)) (magnitude-below x h))

srem-below : (x y : ℕ) → x < 2 ^ 64 → srem x y < 2 ^ 64
unfolding srem
srem-below x y h =
    signed-below (sign x) (magnitude x % magnitude y)
    (lt_of_le_of_lt (mod-le (magnitude x) (magnitude y)) (magnitude-below x h))

-- ---- each operation between casts

shifted : (x s : ℕ) → x < 2 ^ 64 → of_z w64 (shr_z (to_z w64 x) (2 ^ s)) ≡ asr x s
shifted x s h = rw (cast x) (back (asr x s) _ (asr-below x s h) (asr-value x s h))

pub asr-cast : (x s : ℕ) → x < 2 ^ 64 → of_z w64 (to_z w64 (of_z w64 (shr_z (to_z w64 x) (2 ^ s)))) ≡ asr x s
asr-cast x s h = rw (shifted x s h) (of_z-to_z w64 (asr x s) (asr-below x s h))

quotient : (x y : ℕ) → x < 2 ^ 64 → y < 2 ^ 64 → of_z w64 (quot_z (to_z w64 x) (to_z w64 y)) ≡ sdiv x y
quotient x y h l = by (eqb x (2 ^ 63)) (eqb y (2 ^ 64 - 1)) refl refl
  where
    other : (x ≡ 2 ^ 63 → y ≡ 2 ^ 64 - 1 → ⊥) → of_z w64 (quot_z (to_z w64 x) (to_z w64 y)) ≡ sdiv x y
    other o = rw (cast x, cast y) (back (sdiv x y) _ (sdiv-below x y h) (sdiv-value x y h l o))

    by : (a b : Bool) → eqb x (2 ^ 63) ≡ a → eqb y (2 ^ 64 - 1) ≡ b → of_z w64 (quot_z (to_z w64 x) (to_z w64 y)) ≡ sdiv x y
    by true true e f =
        let e' = eqb-true x (2 ^ 63) e in
        let f' = eqb-true y (2 ^ 64 - 1) f in
        rw (e', f') (sym sdiv-overflow)
    by false b e f = other (λ i j. grind arith)
    by true false e f = other (λ i j. grind arith)

pub sdiv-cast : (x y : ℕ) → x < 2 ^ 64 → y < 2 ^ 64
    → of_z w64 (to_z w64 (of_z w64 (to_z w64 (of_z w64 (quot_z (to_z w64 x) (to_z w64 y)))))) ≡ sdiv x y
sdiv-cast x y h l =
    let e = of_z-to_z w64 (sdiv x y) (sdiv-below x y h) in
    rw (quotient x y h l, e) e

remainder : (x y : ℕ) → x < 2 ^ 64 → y < 2 ^ 64 → of_z w64 (rem_z (to_z w64 x) (to_z w64 y)) ≡ srem x y
remainder x y h l = rw (cast x, cast y) (back (srem x y) _ (srem-below x y h) (srem-value x y h l))

pub srem-cast : (x y : ℕ) → x < 2 ^ 64 → y < 2 ^ 64
    → of_z w64 (to_z w64 (of_z w64 (rem_z (to_z w64 x) (to_z w64 y)))) ≡ srem x y
srem-cast x y h l = rw (remainder x y h l) (of_z-to_z w64 (srem x y) (srem-below x y h))

-- a divisor of bits that are not all 0
pub nonzero : (y : ℕ) (z : ℤ) → z ≡ to_z w64 y → y < 2 ^ 64 → (y ≡ 0 → ⊥) → IsNonZero w64 (to_z w64 (of_z w64 z))
nonzero y z e h n =
    let i = of_z-to_z w64 y h in
    let p : 0 < y = omega arith in
    rw (e, i, i) p
