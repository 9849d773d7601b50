-- What the arithmetic instructions of both widths emit, from X9 and X10 into X11.
use Rattle.std.specs.Prelude.{ℕ, List, [], ◌∷◌, ◌++◌}
use Rattle.a64_emitter.specs.Writers.{add_x, sub_x, and_x, orr_x, eor_x, lslv_x, lsrv_x, asrv_x, mul_x, smulh_x, umulh_x, udiv_x, sdiv_x, cmp_x, csel_x, sxtw_x}
use Rattle.emit_native.specs.Hart.{C_EQ, C_CC, C_MI, C_LT, u64_MAX, i64_MIN}
use Rattle.emit_native.specs.Calls.{Call, emit, mov_imm64}

-- What several arms have in common, by the name of the function that emits it.

-- X11 is 1 where the comparison of X9 and X10 meets the condition, and else 0
abbrev pub compared : ℕ → List Call
compared condition = emit (cmp_x 9 10) ∷ mov_imm64 12 1 ∷ mov_imm64 13 0 ∷ emit (csel_x 11 12 13 condition) ∷ []

-- X11 is all ones where the divisor is 0
abbrev pub zero_divisor : ℕ → ℕ → List Call
zero_divisor z ones = mov_imm64 z 0 ∷ emit (cmp_x 10 z) ∷ mov_imm64 ones u64_MAX ∷ emit (csel_x 11 ones 11 C_EQ) ∷ []

-- X11 is the remainder of the division w into Xq, or the dividend where the divisor is 0
abbrev pub remainder : ℕ → ℕ → ℕ → List Call
remainder w q z =
    emit w ∷ emit (mul_x q q 10) ∷ emit (sub_x 11 9 q) ∷ mov_imm64 z 0 ∷ emit (cmp_x 10 z) ∷ emit (csel_x 11 9 11 C_EQ) ∷ []

-- Xd is 1 where Xn is the value, and else 0
abbrev pub is_value : ℕ → ℕ → ℕ → ℕ → List Call
is_value rn value rd z =
    mov_imm64 12 value ∷ emit (cmp_x rn 12) ∷ mov_imm64 rd 1 ∷ mov_imm64 z 0 ∷ emit (csel_x rd rd z C_EQ) ∷ []

-- whether X9 is the least signed number and X10 is -1, as EQ
abbrev pub overflow : List Call
overflow =
    is_value 9 i64_MIN 14 15 ++ is_value 10 u64_MAX 15 16 ++ emit (and_x 14 14 15) ∷ mov_imm64 16 1 ∷ emit (cmp_x 14 16) ∷ []

-- X11, sign_extended from 32 bits; X9 and X10, sign_extended, and with zeros above
abbrev pub sxtw : List Call
sxtw = emit (sxtw_x 11 11) ∷ []

abbrev pub sign_extended : List Call
sign_extended = emit (sxtw_x 9 9) ∷ emit (sxtw_x 10 10) ∷ []

abbrev pub zero_extended : List Call
zero_extended = mov_imm64 12 0xFFFFFFFF ∷ emit (and_x 9 9 12) ∷ emit (and_x 10 10 12) ∷ []

-- a shift's count: the low five bits of X10
abbrev pub low_count : ℕ → List Call
low_count mask = mov_imm64 mask 31 ∷ emit (and_x 10 10 mask) ∷ []

-- The arms of OPCODE_OP.

abbrev pub add : List Call
add = emit (add_x 11 9 10) ∷ []

abbrev pub sub : List Call
sub = emit (sub_x 11 9 10) ∷ []

abbrev pub slt : List Call
slt = compared C_LT

abbrev pub sltu : List Call
sltu = compared C_CC

abbrev pub and_regs : List Call
and_regs = emit (and_x 11 9 10) ∷ []

abbrev pub or_regs : List Call
or_regs = emit (orr_x 11 9 10) ∷ []

abbrev pub xor_regs : List Call
xor_regs = emit (eor_x 11 9 10) ∷ []

abbrev pub sll : List Call
sll = emit (lslv_x 11 9 10) ∷ []

abbrev pub srl : List Call
srl = emit (lsrv_x 11 9 10) ∷ []

abbrev pub sra : List Call
sra = emit (asrv_x 11 9 10) ∷ []

abbrev pub mul : List Call
mul = emit (mul_x 11 9 10) ∷ []

abbrev pub mulh : List Call
mulh = emit (smulh_x 11 9 10) ∷ []

abbrev pub mulhsu : List Call
mulhsu =
    emit (umulh_x 11 9 10)
    ∷ mov_imm64 12 0
    ∷ emit (cmp_x 9 12)
    ∷ mov_imm64 13 0
    ∷ emit (csel_x 12 10 13 C_MI)
    ∷ emit (sub_x 11 11 12)
    ∷ []

abbrev pub mulhu : List Call
mulhu = emit (umulh_x 11 9 10) ∷ []

abbrev pub div : List Call
div = emit (sdiv_x 11 9 10) ∷ zero_divisor 12 13 ++ overflow ++ emit (csel_x 11 9 11 C_EQ) ∷ []

abbrev pub divu : List Call
divu = emit (udiv_x 11 9 10) ∷ zero_divisor 12 13

abbrev pub rem : List Call
rem = remainder (sdiv_x 12 9 10) 12 13 ++ overflow ++ mov_imm64 17 0 ∷ emit (csel_x 11 17 11 C_EQ) ∷ []

abbrev pub remu : List Call
remu = remainder (udiv_x 12 9 10) 12 13

-- The arms of OPCODE_OP_32; slliw, srliw and sraiw are the arms of OPCODE_OP_IMM_32 whose count is in X10.

abbrev pub addw : List Call
addw = add ++ sxtw

abbrev pub subw : List Call
subw = sub ++ sxtw

abbrev pub slliw : List Call
slliw = sll ++ sxtw

abbrev pub srliw : List Call
srliw = mov_imm64 12 0xFFFFFFFF ∷ emit (and_x 11 9 12) ∷ emit (lsrv_x 11 11 10) ∷ sxtw

abbrev pub sraiw : List Call
sraiw = emit (sxtw_x 11 9) ∷ emit (asrv_x 11 11 10) ∷ sxtw

abbrev pub sllw : List Call
sllw = low_count 12 ++ slliw

abbrev pub srlw : List Call
srlw = mov_imm64 12 0xFFFFFFFF ∷ emit (and_x 11 9 12) ∷ low_count 13 ++ emit (lsrv_x 11 11 10) ∷ sxtw

abbrev pub sraw : List Call
sraw = emit (sxtw_x 11 9) ∷ low_count 12 ++ emit (asrv_x 11 11 10) ∷ sxtw

abbrev pub mulw : List Call
mulw = mul ++ sxtw

abbrev pub divw : List Call
divw = sign_extended ++ emit (sdiv_x 11 9 10) ∷ zero_divisor 12 13 ++ sxtw

abbrev pub divuw : List Call
divuw = zero_extended ++ emit (udiv_x 11 9 10) ∷ zero_divisor 13 14 ++ sxtw

abbrev pub remw : List Call
remw = sign_extended ++ remainder (sdiv_x 12 9 10) 12 13 ++ sxtw

abbrev pub remuw : List Call
remuw = zero_extended ++ remainder (udiv_x 13 9 10) 13 14 ++ sxtw
