-- What the A64 forms compute, from the Arm Architecture Reference Manual (DDI 0487): C6.2 for the forms, J1 for the shared
-- pseudocode that they call. Definitions only.
use Rattle.std.specs.Prelude.{ℕ, ◌+◌, ◌*◌, ◌/◌, ◌%◌, ◌^◌, Bool, true, cond, not, ◌&&◌, ◌==◌}
use Rattle.std.specs.Bool.{xor}
use Rattle.word.specs.Word.{wrap, add, mul, and64, or64, xor64, complement, sign, bias, shl, shr, asr, udiv, sdiv, mulh, mulhu}
use Rattle.word.specs.Counts.{clz}
use Rattle.word.specs.Bytes.{reversed, ror}
use Rattle.a64.specs.declared.Op.{Op}
use Rattle.a64.specs.declared.Op.TheVariants.{Add, Sub, And, Orr, Eor, Bic, Orn, Eon, Lslv, Lsrv, Asrv, Rorv, Mul, Smulh, Umulh, Udiv, Sdiv}
use Rattle.a64.specs.declared.Op1.{Op1}
use Rattle.a64.specs.declared.Op1.TheVariants.{Rev, Clz}
use Rattle.a64_alu.specs.declared.Flags.{Flags}

-- ---- AddWithCarry (J1.3, shared/functions/integer): the result, and the flags. V compares the sum of the signed values
-- with the signed value of the result; `bias` is the signed value plus 2 ^ 63

abbrev pub carried : ℕ → ℕ → ℕ → ℕ
carried x y carry = wrap (x + y + carry)

abbrev pub carry_flags : ℕ → ℕ → ℕ → Flags
carry_flags x y carry =
    record {
      n = sign (carried x y carry);
      z = (carried x y carry == 0);
      c = not (carried x y carry == x + y + carry);
      v = not (bias (carried x y carry) + 2 ^ 63 == bias x + bias y + carry);
    }

-- x - y is x + NOT y + 1
abbrev pub difference : ℕ → ℕ → ℕ
difference x y = carried x (complement y) 1

unfoldable pub compared : ℕ → ℕ → Flags
compared x y = carry_flags x (complement y) 1

-- ---- ConditionHolds (J1.3, shared/functions/system): bits 3 to 1 name the test, bit 0 inverts it but for 15

unfoldable pub holds_even : ℕ → Flags → Bool
holds_even k f =
    cond (k == 0) f.z
    (cond (k == 1) f.c
    (cond (k == 2) f.n
    (cond (k == 3) f.v
    (cond (k == 4) (f.c && not f.z)
    (cond (k == 5) (not (xor f.n f.v))
    (cond (k == 6) (not (xor f.n f.v) && not f.z)
    true))))))

unfoldable pub holds : ℕ → Flags → Bool
unfolding holds_even
holds k f = cond (k % 2 == 1 && not (k == 15)) (not (holds_even (k / 2) f)) (holds_even (k / 2) f)

-- ---- results

-- division by 0 gives 0
unfoldable pub op_value : Op → ℕ → ℕ → ℕ
op_value Add x y = add x y
op_value Sub x y = difference x y
op_value And x y = and64 x y
op_value Orr x y = or64 x y
op_value Eor x y = xor64 x y
op_value Bic x y = and64 x (complement y)
op_value Orn x y = or64 x (complement y)
op_value Eon x y = xor64 x (complement y)
op_value Lslv x y = shl x (y % 64)
op_value Lsrv x y = shr x (y % 64)
op_value Asrv x y = asr x (y % 64)
op_value Rorv x y = ror x (y % 64)
op_value Mul x y = mul x y
op_value Smulh x y = mulh x y
op_value Umulh x y = mulhu x y
op_value Udiv x y = udiv x y
op_value Sdiv x y = sdiv x y

unfoldable pub op1_value : Op1 → ℕ → ℕ
op1_value Rev x = reversed 8 x
op1_value Clz x = clz 64 x

-- MOVK: halfword hw of x replaced
unfoldable pub insert : ℕ → ℕ → ℕ → ℕ
insert x hw v = x % 2 ^ (16 * hw) + v * 2 ^ (16 * hw) + x / 2 ^ (16 * hw + 16) * 2 ^ (16 * hw + 16)
