-- Fields and immediates of instructions, from the RISC-V Unprivileged ISA: 'Base Instruction Formats', 'Immediate
-- Encoding Variants', and 'Compressed Instruction Formats' of extension C. Each immediate names, from its highest bit
-- down, where the manual's figure takes its bits from. Definitions only.
use Rattle.std.specs.Prelude.{ℕ, suc, ◌+◌, ◌-◌, ◌*◌, ◌/◌, ◌%◌, ◌^◌}
use Rattle.word.specs.Word.{sext}

-- inst[hi:lo]
abbrev pub inst : ℕ → ℕ → ℕ → ℕ
inst hi lo w = w / 2 ^ lo % 2 ^ (suc hi - lo)

-- ---- 32 bits

-- inst[6:0]
abbrev pub opcode : ℕ → ℕ
opcode w = w % 2 ^ 7

abbrev pub rd : ℕ → ℕ
rd w = inst 11 7 w

abbrev pub funct3 : ℕ → ℕ
funct3 w = inst 14 12 w

abbrev pub rs1 : ℕ → ℕ
rs1 w = inst 19 15 w

abbrev pub rs2 : ℕ → ℕ
rs2 w = inst 24 20 w

abbrev pub funct7 : ℕ → ℕ
funct7 w = inst 31 25 w

abbrev pub i_imm : ℕ → ℕ
i_imm w = sext 12 (inst 31 20 w)

abbrev pub s_imm : ℕ → ℕ
s_imm w = sext 12 (inst 31 25 w * 2 ^ 5 + inst 11 7 w)

abbrev pub b_imm : ℕ → ℕ
b_imm w = sext 13 (inst 31 31 w * 2 ^ 12 + inst 7 7 w * 2 ^ 11 + inst 30 25 w * 2 ^ 5 + inst 11 8 w * 2 ^ 1)

abbrev pub u_imm : ℕ → ℕ
u_imm w = sext 32 (inst 31 12 w * 2 ^ 12)

abbrev pub j_imm : ℕ → ℕ
j_imm w = sext 21 (inst 31 31 w * 2 ^ 20 + inst 19 12 w * 2 ^ 12 + inst 20 20 w * 2 ^ 11 + inst 30 21 w * 2 ^ 1)

-- ---- 16 bits

-- registers 8 to 15: rd', rs2' and, seven bits up, rs1', rd'
abbrev pub low_reg : ℕ → ℕ
low_reg w = inst 4 2 w + 8

abbrev pub high_reg : ℕ → ℕ
high_reg w = inst 9 7 w + 8

-- nzuimm[5:4|9:6|2|3] of C.ADDI4SPN
abbrev pub ciw_imm : ℕ → ℕ
ciw_imm w = inst 10 7 w * 2 ^ 6 + inst 12 11 w * 2 ^ 4 + inst 5 5 w * 2 ^ 3 + inst 6 6 w * 2 ^ 2

-- imm[5] imm[4:0] of C.ADDI, C.ADDIW, C.LI, C.ANDI and, times 2 ^ 12, of C.LUI
abbrev pub ci_imm : ℕ → ℕ
ci_imm w = sext 6 (inst 12 12 w * 2 ^ 5 + inst 6 2 w)

-- shamt[5] shamt[4:0] of C.SLLI, C.SRLI, C.SRAI
abbrev pub shamt_c : ℕ → ℕ
shamt_c w = inst 12 12 w * 2 ^ 5 + inst 6 2 w

-- nzimm[9] nzimm[4|6|8:7|5] of C.ADDI16SP
abbrev pub ci16_imm : ℕ → ℕ
ci16_imm w =
    sext 10 (inst 12 12 w * 2 ^ 9 + inst 4 3 w * 2 ^ 7 + inst 5 5 w * 2 ^ 6 + inst 2 2 w * 2 ^ 5 + inst 6 6 w * 2 ^ 4)

-- imm[11|4|9:8|10|6|7|3:1|5] of C.J
abbrev pub cj_imm : ℕ → ℕ
cj_imm w =
    sext 12
    (inst 12 12 w * 2 ^ 11 + inst 8 8 w * 2 ^ 10 + inst 10 9 w * 2 ^ 8 + inst 6 6 w * 2 ^ 7 + inst 7 7 w * 2 ^ 6
    + inst 2 2 w * 2 ^ 5 + inst 11 11 w * 2 ^ 4 + inst 5 3 w * 2 ^ 1)

-- imm[8|4:3] imm[7:6|2:1|5] of C.BEQZ, C.BNEZ
abbrev pub cb_imm : ℕ → ℕ
cb_imm w =
    sext 9
    (inst 12 12 w * 2 ^ 8 + inst 6 5 w * 2 ^ 6 + inst 2 2 w * 2 ^ 5 + inst 11 10 w * 2 ^ 3 + inst 4 3 w * 2 ^ 1)
