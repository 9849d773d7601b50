-- The 16-bit encodings, each as the instruction that it stands for, from the RISC-V Unprivileged ISA, extension C, 'RVC
-- Instruction Set Listings'; what is covered and what is a helper's, from document 01, rules 2 to 4. Definitions only.
use Rattle.std.specs.Prelude.{ℕ, ◌+◌, ◌*◌, ◌%◌, Bool, cond, [], ◌∷◌, ◌==◌}
use Rattle.word.specs.Word.{shl}
use Rattle.isa.specs.Formats.{inst, rd, low_reg, high_reg, ciw_imm, ci_imm, shamt_c, ci16_imm, cj_imm, cb_imm}
use Rattle.rv64.specs.declared.alu.Alu.{Alu}
use Rattle.rv64.specs.declared.alu.Cond.{Cond}
use Rattle.rv64.specs.declared.decode.Instr.{Instr}
use Rattle.rv64.specs.Decode.{Table, lookup, itself}

-- inst[15:13]
abbrev pub funct3 : ℕ → ℕ
funct3 w = inst 15 13 w

abbrev pub rs2 : ℕ → ℕ
rs2 w = inst 6 2 w

-- i unless n is 0
unfoldable pub unless0 : ℕ → Instr → Instr
unless0 n i = cond (n == 0) Instr.Uncovered i

-- ---- quadrant 0: C.ADDI4SPN; C.LW, C.LD, C.SW, C.SD are a helper's

unfoldable pub table0 : ℕ → Table Instr
table0 w =
    (0b000, unless0 (ciw_imm w) (Instr.OpImm Alu.Add (low_reg w) 2 (ciw_imm w)))
    ∷ (0b010, Instr.Helper)
    ∷ (0b011, Instr.Helper)
    ∷ (0b110, Instr.Helper)
    ∷ (0b111, Instr.Helper)
    ∷ []

unfoldable pub quadrant0 : ℕ → Instr
quadrant0 w = lookup (table0 w) (funct3 w) itself Instr.Uncovered

-- ---- quadrant 1

-- C.SUB, C.XOR, C.OR, C.AND, C.SUBW, C.ADDW, by inst[12] and inst[6:5]
abbrev pub reg : ℕ → Alu → Instr
reg w k = Instr.Op k (high_reg w) (high_reg w) (low_reg w)

unfoldable pub ariths : Table Alu
ariths =
    (0b0_00, Alu.Sub)
    ∷ (0b0_01, Alu.Xor)
    ∷ (0b0_10, Alu.Or)
    ∷ (0b0_11, Alu.And)
    ∷ (0b1_00, Alu.Subw)
    ∷ (0b1_01, Alu.Addw)
    ∷ []

unfoldable pub arith : ℕ → Instr
arith w = lookup ariths (inst 12 12 w * 4 + inst 6 5 w) (reg w) Instr.Uncovered

-- by inst[11:10]: C.SRLI, C.SRAI, C.ANDI, and those above
unfoldable pub misc_alus : ℕ → Table Instr
misc_alus w =
    (0b00, Instr.OpImm Alu.Srl (high_reg w) (high_reg w) (shamt_c w))
    ∷ (0b01, Instr.OpImm Alu.Sra (high_reg w) (high_reg w) (shamt_c w))
    ∷ (0b10, Instr.OpImm Alu.And (high_reg w) (high_reg w) (ci_imm w))
    ∷ (0b11, arith w)
    ∷ []

unfoldable pub misc_alu : ℕ → Instr
misc_alu w = lookup (misc_alus w) (inst 11 10 w) itself Instr.Uncovered

-- C.ADDI16SP where rd is 2, else C.LUI; both reserved with the immediate 0, C.LUI refused with rd 0
unfoldable pub lui_addi16sp : ℕ → Instr
lui_addi16sp w =
    cond (rd w == 2) (unless0 (ci16_imm w) (Instr.OpImm Alu.Add 2 2 (ci16_imm w)))
    (unless0 (rd w) (unless0 (ci_imm w) (Instr.Lui (rd w) (shl (ci_imm w) 12))))

-- C.NOP and C.ADDI, C.ADDIW (reserved with rd 0), C.LI, C.ADDI16SP and C.LUI, those above, C.J, C.BEQZ, C.BNEZ
unfoldable pub table1 : ℕ → Table Instr
table1 w =
    (0b000, Instr.OpImm Alu.Add (rd w) (rd w) (ci_imm w))
    ∷ (0b001, unless0 (rd w) (Instr.OpImm Alu.Addw (rd w) (rd w) (ci_imm w)))
    ∷ (0b010, Instr.OpImm Alu.Add (rd w) 0 (ci_imm w))
    ∷ (0b011, lui_addi16sp w)
    ∷ (0b100, misc_alu w)
    ∷ (0b101, Instr.Jal 0 (cj_imm w))
    ∷ (0b110, Instr.Branch Cond.Eq (high_reg w) 0 (cb_imm w))
    ∷ (0b111, Instr.Branch Cond.Ne (high_reg w) 0 (cb_imm w))
    ∷ []

unfoldable pub quadrant1 : ℕ → Instr
quadrant1 w = lookup (table1 w) (funct3 w) itself Instr.Uncovered

-- ---- quadrant 2; e: C.EBREAK does nothing

-- C.JR (reserved with rs1 0) where rs2 is 0, else C.MV (refused with rd 0)
unfoldable pub jr_mv : ℕ → Instr
jr_mv w =
    cond (rs2 w == 0) (unless0 (rd w) (Instr.Jalr 0 (rd w) 0))
    (unless0 (rd w) (Instr.Op Alu.Add (rd w) 0 (rs2 w)))

-- C.EBREAK where both are 0, C.JALR where rs2 is 0, else C.ADD (refused with rd 0)
unfoldable pub ebreak_jalr_add : Bool → ℕ → Instr
ebreak_jalr_add e w =
    cond (rs2 w == 0) (cond (rd w == 0) (cond e Instr.Nop Instr.Uncovered) (Instr.Jalr 1 (rd w) 0))
    (unless0 (rd w) (Instr.Op Alu.Add (rd w) (rd w) (rs2 w)))

-- by inst[12]
unfoldable pub crs : Bool → ℕ → Table Instr
crs e w =
    (0b0, jr_mv w)
    ∷ (0b1, ebreak_jalr_add e w)
    ∷ []

unfoldable pub cr : Bool → ℕ → Instr
cr e w = lookup (crs e w) (inst 12 12 w) itself Instr.Uncovered

-- C.SLLI (refused with rd 0), those above; C.LWSP, C.LDSP, C.SWSP, C.SDSP are a helper's
unfoldable pub table2 : Bool → ℕ → Table Instr
table2 e w =
    (0b000, unless0 (rd w) (Instr.OpImm Alu.Sll (rd w) (rd w) (shamt_c w)))
    ∷ (0b010, Instr.Helper)
    ∷ (0b011, Instr.Helper)
    ∷ (0b100, cr e w)
    ∷ (0b110, Instr.Helper)
    ∷ (0b111, Instr.Helper)
    ∷ []

unfoldable pub quadrant2 : Bool → ℕ → Instr
quadrant2 e w = lookup (table2 e w) (funct3 w) itself Instr.Uncovered

-- ---- by inst[1:0]

unfoldable pub quadrants : Bool → ℕ → Table Instr
quadrants e w =
    (0b00, quadrant0 w)
    ∷ (0b01, quadrant1 w)
    ∷ (0b10, quadrant2 e w)
    ∷ []

unfoldable pub decode16 : Bool → ℕ → Instr
decode16 e w = lookup (quadrants e w) (w % 4) itself Instr.Uncovered
