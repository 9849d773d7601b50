-- What the arithmetic instructions and the branches compute, from the RISC-V Unprivileged ISA: 'Integer Computational
-- Instructions' and 'Conditional Branches' of RV32I and RV64I, and extension M. Definitions only.
use Rattle.std.specs.Prelude.{ℕ, ◌-◌, ◌/◌, ◌%◌, ◌^◌, Bool, cond, not, ◌&&◌, ◌==◌, nat_lt}
use Rattle.word.specs.Word.{add, sub, mul, mulh, mulhsu, mulhu, and64, or64, xor64, shl, shr, asr, slt, sext, sdiv, srem}
use Rattle.rv64.specs.declared.alu.Alu.{Alu}
use Rattle.rv64.specs.declared.alu.Cond.{Cond}

-- 1 where the test holds
abbrev pub bit : Bool → ℕ
bit b = cond b 1 0

-- the result of a W instruction: its low 32 bits, extended by their sign
abbrev pub sextw : ℕ → ℕ
sextw x = sext 32 x

-- M, 'Semantics for division by zero and division overflow'. least: the least signed number of the width, as 64 bits;
-- most: the greatest unsigned one

abbrev pub overflows : ℕ → ℕ → ℕ → Bool
overflows least x y = x == least && y == 2 ^ 64 - 1

unfoldable pub quotient : ℕ → ℕ → ℕ → ℕ
quotient least x y = cond (y == 0) (2 ^ 64 - 1) (cond (overflows least x y) x (sdiv x y))

unfoldable pub remainder : ℕ → ℕ → ℕ → ℕ
remainder least x y = cond (y == 0) x (cond (overflows least x y) 0 (srem x y))

unfoldable pub quotient_u : ℕ → ℕ → ℕ → ℕ
quotient_u most x y = cond (y == 0) most (x / y)

unfoldable pub remainder_u : ℕ → ℕ → ℕ
remainder_u x y = cond (y == 0) x (x % y)

-- a shift's count is the low six bits of its second operand, or the low five in a W instruction
unfoldable pub value : Alu → ℕ → ℕ → ℕ
-- RV64I
value Alu.Add x y = add x y
value Alu.Sub x y = sub x y
value Alu.Sll x y = shl x (y % 64)
value Alu.Slt x y = bit (slt x y)
value Alu.Sltu x y = bit (nat_lt x y)
value Alu.Xor x y = xor64 x y
value Alu.Srl x y = shr x (y % 64)
value Alu.Sra x y = asr x (y % 64)
value Alu.Or x y = or64 x y
value Alu.And x y = and64 x y
-- M
value Alu.Mul x y = mul x y
value Alu.Mulh x y = mulh x y
value Alu.Mulhsu x y = mulhsu x y
value Alu.Mulhu x y = mulhu x y
value Alu.Div x y = quotient (2 ^ 63) x y
value Alu.Divu x y = quotient_u (2 ^ 64 - 1) x y
value Alu.Rem x y = remainder (2 ^ 63) x y
value Alu.Remu x y = remainder_u x y
-- RV64I, W
value Alu.Addw x y = sextw (add x y)
value Alu.Subw x y = sextw (sub x y)
value Alu.Sllw x y = sextw (shl x (y % 32))
value Alu.Srlw x y = sextw (shr (x % 2 ^ 32) (y % 32))
value Alu.Sraw x y = sextw (asr (sextw x) (y % 32))
-- M, W
value Alu.Mulw x y = sextw (mul x y)
value Alu.Divw x y = sextw (quotient (2 ^ 64 - 2 ^ 31) (sextw x) (sextw y))
value Alu.Divuw x y = sextw (quotient_u (2 ^ 32 - 1) (x % 2 ^ 32) (y % 2 ^ 32))
value Alu.Remw x y = sextw (remainder (2 ^ 64 - 2 ^ 31) (sextw x) (sextw y))
value Alu.Remuw x y = sextw (remainder_u (x % 2 ^ 32) (y % 2 ^ 32))

unfoldable pub taken : Cond → ℕ → ℕ → Bool
taken Cond.Eq x y = x == y
taken Cond.Ne x y = not (x == y)
taken Cond.Lt x y = slt x y
taken Cond.Ge x y = not (slt x y)
taken Cond.Ltu x y = nat_lt x y
taken Cond.Geu x y = not (nat_lt x y)
