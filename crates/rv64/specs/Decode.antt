-- The 32-bit encodings, from the RISC-V Unprivileged ISA, 'RV32/64G Instruction Set Listings'; what is covered and what
-- is a helper's, from document 01, rules 2 to 4. Definitions only.
use Rattle.std.specs.Prelude.{ℕ, ◌+◌, ◌*◌, cond, List, [], ◌∷◌, ◌==◌, nat_lt, Some, None}
use Rattle.isa.specs.declared.classes.Class.{Class}
use Rattle.isa.specs.declared.zbb.Found.{Found}
use Rattle.isa.specs.Classes.{class_of}
use Rattle.isa.specs.Zbb.{find, MaybeZbb}
use Rattle.isa.specs.Formats.{inst, opcode, rd, funct3, rs1, rs2, funct7, i_imm, b_imm, u_imm, j_imm}
use Rattle.rv64.specs.declared.alu.Alu.{Alu}
use Rattle.rv64.specs.declared.alu.Cond.{Cond}
use Rattle.rv64.specs.declared.decode.Instr.{Instr}

-- ---- tables: from funct7_funct3, funct6_funct3 or funct3 to what is computed

abbrev pub Table : Type 0 → Type 0
Table A = List (ℕ × A)

-- make of the entry at n, or other where the table has none
abbrev pub lookup : {A B : Type 0} → Table A → ℕ → (A → B) → B → B
lookup [] n make other = other
lookup ((k, a) ∷ t) n make other = cond (n == k) (make a) (lookup t n make other)

-- where the entry itself is the answer
abbrev pub itself : {A : Type 0} → A → A
itself a = a

-- OP: RV32I and RV64I, then M
unfoldable pub ops : Table Alu
ops =
    (0b0000000_000, Alu.Add)
    ∷ (0b0100000_000, Alu.Sub)
    ∷ (0b0000000_001, Alu.Sll)
    ∷ (0b0000000_010, Alu.Slt)
    ∷ (0b0000000_011, Alu.Sltu)
    ∷ (0b0000000_100, Alu.Xor)
    ∷ (0b0000000_101, Alu.Srl)
    ∷ (0b0100000_101, Alu.Sra)
    ∷ (0b0000000_110, Alu.Or)
    ∷ (0b0000000_111, Alu.And)
    ∷ (0b0000001_000, Alu.Mul)
    ∷ (0b0000001_001, Alu.Mulh)
    ∷ (0b0000001_010, Alu.Mulhsu)
    ∷ (0b0000001_011, Alu.Mulhu)
    ∷ (0b0000001_100, Alu.Div)
    ∷ (0b0000001_101, Alu.Divu)
    ∷ (0b0000001_110, Alu.Rem)
    ∷ (0b0000001_111, Alu.Remu)
    ∷ []

-- OP-32
unfoldable pub ops32 : Table Alu
ops32 =
    (0b0000000_000, Alu.Addw)
    ∷ (0b0100000_000, Alu.Subw)
    ∷ (0b0000000_001, Alu.Sllw)
    ∷ (0b0000000_101, Alu.Srlw)
    ∷ (0b0100000_101, Alu.Sraw)
    ∷ (0b0000001_000, Alu.Mulw)
    ∷ (0b0000001_100, Alu.Divw)
    ∷ (0b0000001_101, Alu.Divuw)
    ∷ (0b0000001_110, Alu.Remw)
    ∷ (0b0000001_111, Alu.Remuw)
    ∷ []

-- OP-IMM, by funct3; its shifts by inst[31:26] and funct3
unfoldable pub imms : Table Alu
imms =
    (0b000, Alu.Add)
    ∷ (0b010, Alu.Slt)
    ∷ (0b011, Alu.Sltu)
    ∷ (0b100, Alu.Xor)
    ∷ (0b110, Alu.Or)
    ∷ (0b111, Alu.And)
    ∷ []

unfoldable pub shifts : Table Alu
shifts =
    (0b000000_001, Alu.Sll)
    ∷ (0b000000_101, Alu.Srl)
    ∷ (0b010000_101, Alu.Sra)
    ∷ []

-- OP-IMM-32, by funct3; its shifts by funct7 and funct3
unfoldable pub imms32 : Table Alu
imms32 =
    (0b000, Alu.Addw)
    ∷ []

unfoldable pub shifts32 : Table Alu
shifts32 =
    (0b0000000_001, Alu.Sllw)
    ∷ (0b0000000_101, Alu.Srlw)
    ∷ (0b0100000_101, Alu.Sraw)
    ∷ []

-- BRANCH, by funct3
unfoldable pub branches : Table Cond
branches =
    (0b000, Cond.Eq)
    ∷ (0b001, Cond.Ne)
    ∷ (0b100, Cond.Lt)
    ∷ (0b101, Cond.Ge)
    ∷ (0b110, Cond.Ltu)
    ∷ (0b111, Cond.Geu)
    ∷ []

-- MISC-MEM, by funct3: FENCE, which does nothing, and FENCE.I ('Zifencei'), which ends a block, whatever their other fields
unfoldable pub fences : Table Instr
fences =
    (0b000, Instr.Nop)
    ∷ (0b001, Instr.FenceI)
    ∷ []

-- ---- the instruction that a word w holds

-- funct7_funct3
abbrev pub funct10 : ℕ → ℕ
funct10 w = funct7 w * 8 + funct3 w

abbrev pub reg : ℕ → Alu → Instr
reg w k = Instr.Op k (rd w) (rs1 w) (rs2 w)

abbrev pub imm : ℕ → Alu → Instr
imm w k = Instr.OpImm k (rd w) (rs1 w) (i_imm w)

-- shamt[5:0], and shamt[4:0] in a W instruction
abbrev pub shift : ℕ → Alu → Instr
shift w k = Instr.OpImm k (rd w) (rs1 w) (inst 25 20 w)

abbrev pub shiftw : ℕ → Alu → Instr
shiftw w k = Instr.OpImm k (rd w) (rs1 w) (inst 24 20 w)

abbrev pub on : ℕ → Cond → Instr
on w k = Instr.Branch k (rs1 w) (rs2 w) (b_imm w)

unfoldable pub op : ℕ → Instr
op w = lookup ops (funct10 w) (reg w) Instr.Uncovered

unfoldable pub op32 : ℕ → Instr
op32 w = lookup ops32 (funct10 w) (reg w) Instr.Uncovered

unfoldable pub shift_imm : ℕ → Instr
shift_imm w = lookup shifts (inst 31 26 w * 8 + funct3 w) (shift w) Instr.Uncovered

unfoldable pub op_imm : ℕ → Instr
op_imm w = lookup imms (funct3 w) (imm w) (shift_imm w)

unfoldable pub shift_imm_32 : ℕ → Instr
shift_imm_32 w = lookup shifts32 (funct10 w) (shiftw w) Instr.Uncovered

unfoldable pub op_imm_32 : ℕ → Instr
op_imm_32 w = lookup imms32 (funct3 w) (imm w) (shift_imm_32 w)

unfoldable pub branch : ℕ → Instr
branch w = lookup branches (funct3 w) (on w) Instr.Uncovered

unfoldable pub misc_mem : ℕ → Instr
misc_mem w = lookup fences (funct3 w) itself Instr.Uncovered

-- i where funct3 is below n
unfoldable pub below : ℕ → ℕ → Instr → Instr
below w n i = cond (nat_lt (funct3 w) n) i Instr.Uncovered

-- by opcode. JALR with any funct3; LB, LH, LW, LD, LBU, LHU and LWU (LOAD, funct3 0 to 6), SB, SH, SW and SD (STORE,
-- funct3 0 to 3), floating-point loads and stores and the atomics are a helper's (document 01, source readings and rule 4)
unfoldable pub by_class : Class → ℕ → Instr
by_class Class.Op w = op w
by_class Class.OpImm w = op_imm w
by_class Class.Op32 w = op32 w
by_class Class.OpImm32 w = op_imm_32 w
by_class Class.Lui w = Instr.Lui (rd w) (u_imm w)
by_class Class.Auipc w = Instr.Auipc (rd w) (u_imm w)
by_class Class.Jal w = Instr.Jal (rd w) (j_imm w)
by_class Class.Jalr w = Instr.Jalr (rd w) (rs1 w) (i_imm w)
by_class Class.Branch w = branch w
by_class Class.MiscMem w = misc_mem w
by_class Class.Load w = below w 7 Instr.Helper
by_class Class.Store w = below w 4 Instr.Helper
by_class Class.LoadFp w = Instr.Helper
by_class Class.StoreFp w = Instr.Helper
by_class Class.Amo w = Instr.Helper
by_class Class.System w = Instr.Uncovered
by_class Class.Other w = Instr.Uncovered

-- the base ISA with M
unfoldable pub base32 : ℕ → Instr
base32 w = by_class (class_of (opcode w)) w

-- Zbb's (document 02, No. 7): with rs2, with a number, or with one operand
unfoldable pub zbb_or : MaybeZbb → ℕ → Instr → Instr
zbb_or (Some (Found.Register z)) w i = Instr.Zbb z (rd w) (rs1 w) (rs2 w)
zbb_or (Some (Found.Number z n)) w i = Instr.ZbbImm z (rd w) (rs1 w) n
zbb_or (Some (Found.Unary z)) w i = Instr.ZbbImm z (rd w) (rs1 w) 0
zbb_or None w i = i

unfoldable pub decode32 : ℕ → Instr
decode32 w = zbb_or (find w) w (base32 w)
