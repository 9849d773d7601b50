-- Worked examples of the ISA manual, by computation.
use mathlib.Core.Bool.{xor}
use Rattle.std.proofs.Common.{◌≡◌, ◌-◌, ◌^◌, refl}
use Rattle.word.specs.Counts.{clz, ctz}
use Rattle.word.specs.Bytes.{reversed, combined}
use Rattle.word.specs.Word.{slt, sdiv, srem, magnitude, signed, mulh, mulhsu, sext128}
use Rattle.isa.specs.Classes.{class_of}
use Rattle.isa.specs.Zbb as Z
use Rattle.isa.specs.declared.zbb.Zbb.{Zbb}
use Rattle.rv64.specs.declared.alu.Alu.{Alu}
use Rattle.rv64.specs.declared.alu.Cond.{Cond}
use Rattle.rv64.specs.declared.decode.Instr.{Instr}
use Rattle.rv64.specs.Alu as N
use Rattle.rv64.specs.Zbb.{zbb_value}
use Rattle.rv64.specs.Decode as D

-- ---- encodings: NOP, RET, SLTIU with -1, LUI 0x80000, JAL to itself, SRAI by 63, BGEU; FENCE, FENCE.I, funct3 2 of theirs;
-- LW, SYSTEM, SLLI with bit 26
decoded32 : (D.decode32 0x00000013 ≡ Instr.OpImm Alu.Add 0 0 0)
    × (D.decode32 0x00008067 ≡ Instr.Jalr 0 1 0)
    × (D.decode32 0xFFF2B313 ≡ Instr.OpImm Alu.Sltu 6 5 (2 ^ 64 - 1))
    × (D.decode32 0x800002B7 ≡ Instr.Lui 5 (2 ^ 64 - 2 ^ 31))
    × (D.decode32 0x0000006F ≡ Instr.Jal 0 0)
    × (D.decode32 0x43F55513 ≡ Instr.OpImm Alu.Sra 10 10 63)
    × (D.decode32 0xFEB57EE3 ≡ Instr.Branch Cond.Geu 10 11 (2 ^ 64 - 4))
    × (D.decode32 0x0FF0000F ≡ Instr.Nop)
    × (D.decode32 0x0000100F ≡ Instr.FenceI)
    × (D.decode32 0x0000200F ≡ Instr.Uncovered)
    × (D.decode32 0x00002003 ≡ Instr.Helper)
    × (D.decode32 0x00000073 ≡ Instr.Uncovered)
    × (D.decode32 0x04001013 ≡ Instr.Uncovered)
unfolding D.decode32 D.zbb_or Z.find Z.registers Z.word_shift_of Z.word_shifts Z.unary_of Z.unaries Z.shift_of Z.shifts D.base32 D.by_class class_of D.op_imm D.imms D.shift_imm D.shifts D.branch D.branches D.misc_mem D.fences D.below
decoded32 = (refl, refl, refl, refl, refl, refl, refl, refl, refl, refl, refl, refl, refl)

-- ---- Zbb: ANDN, ZEXT.H, RORI by 63, CLZW, RORIW by 31; uncovered: ZEXT.H with rs2 1, RORIW with bit 25, CLZ with
-- funct12 0x603
decoded_zbb : (D.decode32 0x40C5F533 ≡ Instr.Zbb Zbb.Andn 10 11 12)
    × (D.decode32 0x0805C53B ≡ Instr.ZbbImm Zbb.ZextH 10 11 0)
    × (D.decode32 0x63F5D513 ≡ Instr.ZbbImm Zbb.Ror 10 11 63)
    × (D.decode32 0x6005951B ≡ Instr.ZbbImm Zbb.Clzw 10 11 0)
    × (D.decode32 0x61F5D51B ≡ Instr.ZbbImm Zbb.Rorw 10 11 31)
    × (D.decode32 0x0815C53B ≡ Instr.Uncovered)
    × (D.decode32 0x63F5D51B ≡ Instr.Uncovered)
    × (D.decode32 0x60359513 ≡ Instr.Uncovered)
unfolding D.decode32 D.zbb_or Z.find Z.registers Z.word_shift_of Z.word_shifts Z.unary_of Z.unaries Z.shift_of Z.shifts D.base32 D.by_class class_of D.op_imm D.imms D.shift_imm D.shifts D.op_imm_32 D.imms32 D.shift_imm_32 D.shifts32 D.op32 D.ops32
decoded_zbb = (refl, refl, refl, refl, refl, refl, refl, refl)

-- CTZ of 0, CLZW and CTZW of bits 63 to 32, ROLW into the sign, ROL by -1, MAX and MAXU of -1 and 1, ORC.B, REV8
values_zbb : (zbb_value Zbb.Ctz 0 0 ≡ 64)
    × (zbb_value Zbb.Clzw (2 ^ 64 - 2 ^ 32) 0 ≡ 32)
    × (zbb_value Zbb.Ctzw (2 ^ 64 - 2 ^ 32) 0 ≡ 32)
    × (zbb_value Zbb.Rolw 1 31 ≡ 2 ^ 64 - 2 ^ 31)
    × (zbb_value Zbb.Rol 1 (2 ^ 64 - 1) ≡ 2 ^ 63)
    × (zbb_value Zbb.Max (2 ^ 64 - 1) 1 ≡ 1)
    × (zbb_value Zbb.Maxu (2 ^ 64 - 1) 1 ≡ 2 ^ 64 - 1)
    × (zbb_value Zbb.OrcB 0x0100_0000_0000_8001 0 ≡ 0xFF00_0000_0000_FFFF)
    × (zbb_value Zbb.Rev8 0x0102_0304_0506_0708 0 ≡ 0x0807_0605_0403_0201)
unfolding zbb_value clz ctz slt reversed combined
values_zbb = (refl, refl, refl, refl, refl, refl, refl, refl, refl)

-- ---- SEQZ, SEXT.W, and M's table of division by 0 and overflow, at both widths
values : (N.value Alu.Sltu 0 1 ≡ 1)
    × (N.value Alu.Addw (2 ^ 31) 0 ≡ 2 ^ 64 - 2 ^ 31)
    × (N.value Alu.Div 7 0 ≡ 2 ^ 64 - 1)
    × (N.value Alu.Divu 7 0 ≡ 2 ^ 64 - 1)
    × (N.value Alu.Rem 7 0 ≡ 7)
    × (N.value Alu.Remu 7 0 ≡ 7)
    × (N.value Alu.Div (2 ^ 63) (2 ^ 64 - 1) ≡ 2 ^ 63)
    × (N.value Alu.Rem (2 ^ 63) (2 ^ 64 - 1) ≡ 0)
    × (N.value Alu.Divw 7 (2 ^ 32) ≡ 2 ^ 64 - 1)
    × (N.value Alu.Divuw 7 (2 ^ 32) ≡ 2 ^ 64 - 1)
    × (N.value Alu.Remw (2 ^ 31) 0 ≡ 2 ^ 64 - 2 ^ 31)
    × (N.value Alu.Divw (2 ^ 31) (2 ^ 64 - 1) ≡ 2 ^ 64 - 2 ^ 31)
    × (N.value Alu.Remw (2 ^ 31) (2 ^ 64 - 1) ≡ 0)
    × (N.value Alu.Div (2 ^ 64 - 7) 2 ≡ 2 ^ 64 - 3)
    × (N.value Alu.Rem (2 ^ 64 - 7) 2 ≡ 2 ^ 64 - 1)
    × (N.value Alu.Mulh (2 ^ 64 - 1) (2 ^ 64 - 1) ≡ 0)
    × (N.value Alu.Mulhsu (2 ^ 64 - 1) (2 ^ 64 - 1) ≡ 2 ^ 64 - 1)
unfolding N.value N.quotient N.remainder N.quotient_u N.remainder_u sdiv srem magnitude signed mulh mulhsu sext128 xor
values = (refl, refl, refl, refl, refl, refl, refl, refl, refl, refl, refl, refl, refl, refl, refl, refl, refl)
