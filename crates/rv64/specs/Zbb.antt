-- What the instructions of Zbb compute of rs1 and their second operand, from the RISC-V Unprivileged ISA, 'B'
-- Extension for Bit Manipulation, 'Zbb: Basic bit-manipulation'. Definitions only.
use Rattle.std.specs.Prelude.{ℕ, ◌-◌, ◌%◌, ◌^◌, cond, nat_lt}
use Rattle.word.specs.Word.{and64, or64, xor64, complement, slt, sext, shl, shr}
use Rattle.word.specs.Counts.{clz, ctz, cpop}
use Rattle.word.specs.Bytes.{reversed, combined, ror, rol}
use Rattle.isa.specs.declared.zbb.Zbb.{Zbb}

-- a rotation's count is the low six bits of its second operand, or the low five in a W instruction; what has one
-- operand does not ask for y
unfoldable pub zbb_value : Zbb → ℕ → ℕ → ℕ
zbb_value Zbb.Andn x y = and64 x (complement y)
zbb_value Zbb.Orn x y = or64 x (complement y)
zbb_value Zbb.Xnor x y = complement (xor64 x y)
zbb_value Zbb.Clz x y = clz 64 x
zbb_value Zbb.Clzw x y = clz 32 x
zbb_value Zbb.Ctz x y = ctz 64 x
zbb_value Zbb.Ctzw x y = ctz 32 x
zbb_value Zbb.Cpop x y = cpop 64 x
zbb_value Zbb.Cpopw x y = cpop 32 x
zbb_value Zbb.Max x y = cond (slt x y) y x
zbb_value Zbb.Maxu x y = cond (nat_lt x y) y x
zbb_value Zbb.Min x y = cond (slt x y) x y
zbb_value Zbb.Minu x y = cond (nat_lt x y) x y
zbb_value Zbb.SextB x y = sext 8 x
zbb_value Zbb.SextH x y = sext 16 x
zbb_value Zbb.ZextH x y = x % 2 ^ 16
zbb_value Zbb.Rol x y = rol x (y % 64)
zbb_value Zbb.Rolw x y = sext 32 (or64 (shl (x % 2 ^ 32) (y % 32)) (shr (x % 2 ^ 32) (32 - y % 32)))
zbb_value Zbb.Ror x y = ror x (y % 64)
zbb_value Zbb.Rorw x y = sext 32 (or64 (shr (x % 2 ^ 32) (y % 32)) (shl (x % 2 ^ 32) (32 - y % 32)))
zbb_value Zbb.OrcB x y = combined 8 x
zbb_value Zbb.Rev8 x y = reversed 8 x
