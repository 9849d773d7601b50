-- ROL as a rotation the other way. Assumes nothing.
use Rattle.std.proofs.Common.{◌≡◌, ℕ, zero, suc, ◌-◌, ◌*◌, ◌/◌, ◌%◌, ◌^◌, ◌<◌, sym, ap, ◌∙◌, div-one, refl, mul-one, mod-eq_of_lt, arith}
use native.Mathlib.Nat.{mul-mod_left}
use lib.Bits.{or_comm, or_zero_r, or_self}
use mir.Syntax.{w64}
use Rattle.std.specs.Int.{rotate_left, rotate_right}
use Rattle.word.specs.Word.{wrap, sub}
use Rattle.word.specs.Bytes.{ror, rol}

whole : (x : ℕ) → x < 2 ^ 64 → x * 1 % 2 ^ 64 ≡ x
whole x h = omega arith

none : (x : ℕ) → x < 2 ^ 64 → x / 2 ^ 64 ≡ 0
none x h = omega arith

pub other_way : (x s t : ℕ) → x < 2 ^ 64 → t ≡ (64 - s) % 64 → s < 64 → ror x t ≡ rol x s
other_way x zero t h e l = ap (ror x) e ∙ rw (div-one x, mul-mod_left x (2 ^ 64), whole x h, none x h)
other_way x (suc s) t h e l =
    let e' : t ≡ 64 - suc s = omega arith in
    let f : 64 - (64 - suc s) ≡ suc s = omega arith in
    rw (e', f) (or_comm (x / 2 ^ (64 - suc s)) (wrap (x * 2 ^ suc s)))

-- the count of RORV is 0 - y
pub rol_law : (x y : ℕ) → x < 2 ^ 64 → y < 2 ^ 64 → ror x (sub 0 y % 64) ≡ rol x (y % 64)
rol_law x y h l = other_way x (y % 64) (sub 0 y % 64) h (omega arith) (omega arith)

-- the language's rotations take the count modulo 64
pub right_by : (x s : ℕ) → x < 2 ^ 64 → s < 64 → rotate_right w64 x s ≡ ror x s
right_by x zero h l = rw (div-one x, mul-one x, mod-eq_of_lt h, mul-mod_left x (2 ^ 64)) (or_self x ∙ sym (or_zero_r x))
right_by x (suc s) h l =
    let e : suc s % 64 ≡ suc s = omega arith in
    let f : (64 - suc s) % 64 ≡ 64 - suc s = omega arith in
    rw (e, f) refl

pub left_by : (x s : ℕ) → x < 2 ^ 64 → s < 64 → rotate_left w64 x s ≡ rol x s
left_by x zero h l = rw (div-one x, mul-one x, mod-eq_of_lt h, none x h) (or_self x ∙ sym (or_zero_r x))
left_by x (suc s) h l =
    let e : suc s % 64 ≡ suc s = omega arith in
    let f : (64 - suc s) % 64 ≡ 64 - suc s = omega arith in
    rw (e, f) refl
