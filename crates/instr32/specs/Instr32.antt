-- `emit_native_instr`, arm by arm.
use Rattle.std.specs.Prelude.{ℕ, ◌/◌, ◌%◌, ◌^◌, cond, ◌&&◌, ◌||◌, List, [], ◌∷◌, ◌++◌, ◌==◌}
use Rattle.word.specs.Word as W
use Rattle.isa.specs.declared.decode.Decoded32.{Decoded32}
use Rattle.isa.specs.Isa.{OPCODE_LUI, OPCODE_AUIPC, OPCODE_JAL, OPCODE_JALR, OPCODE_BRANCH, OPCODE_OP_IMM, OPCODE_OP, OPCODE_OP_IMM_32, OPCODE_OP_32, OPCODE_MISC_MEM, F3_ADD_SUB, F3_SLL, F3_SLT, F3_SLTU, F3_XOR, F3_SRL_SRA, F3_OR, F3_AND, F3_BEQ, F3_BNE, F3_BLT, F3_BGE, F3_BLTU, F3_BGEU, F3_FENCE, F3_FENCE_I, F7_BASE, F7_SUB_SRA, F7_MULDIV}
use Rattle.emit_native.specs.Hart.{C_EQ, C_NE, C_CS, C_CC, C_GE, C_LT, not_1}
use Rattle.isa.specs.Decode.{imm_i, imm_b, imm_u, imm_j}
use Rattle.a64_emitter.specs.Writers.{add_x, and_x, cmp_x, csel_x}
use Rattle.emit_native.specs.Calls.{Call, emit, mov_imm64, load, store, if_not_0, Emission, continue, terminate, none, calls_first, then_store_rd}
use Rattle.emit_native.specs.Sequences.{add, sub, slt, sltu, and_regs, or_regs, xor_regs, sll, srl, sra, mul, mulh, mulhsu, mulhu, div, divu, rem, remu, addw, subw, slliw, srliw, sraiw, sllw, srlw, sraw, mulw, divw, divuw, remw, remuw}

unfoldable pub lui : ℕ → Decoded32 → Emission
lui instr d = continue (if_not_0 d.rd (mov_imm64 11 (imm_u instr) ∷ store 11 d.rd ∷ []))

unfoldable pub auipc : ℕ → ℕ → Decoded32 → Emission
auipc pc instr d = continue (if_not_0 d.rd (mov_imm64 11 (W.add pc (imm_u instr)) ∷ store 11 d.rd ∷ []))

unfoldable pub jal : ℕ → ℕ → Decoded32 → Emission
jal pc instr d =
    terminate
    (if_not_0 d.rd (mov_imm64 11 (W.add pc 4) ∷ store 11 d.rd ∷ [])
    ++ (mov_imm64 0 (W.add pc (imm_j instr)) ∷ []))

unfoldable pub jalr : ℕ → ℕ → Decoded32 → Emission
jalr pc instr d =
    terminate
    (load 9 d.rs1
    ∷ (if_not_0 d.rd (mov_imm64 11 (W.add pc 4) ∷ store 11 d.rd ∷ [])
    ++ (mov_imm64 10 (imm_i instr)
    ∷ emit (add_x 11 9 10)
    ∷ mov_imm64 12 not_1
    ∷ emit (and_x 0 11 12)
    ∷ [])))

unfoldable pub branch_on : ℕ → ℕ → Decoded32 → ℕ → Emission
branch_on pc instr d condition =
    terminate
    (load 9 d.rs1
    ∷ load 10 d.rs2
    ∷ emit (cmp_x 9 10)
    ∷ mov_imm64 12 (W.add pc (imm_b instr))
    ∷ mov_imm64 13 (W.add pc 4)
    ∷ emit (csel_x 0 12 13 condition)
    ∷ [])

unfoldable pub branch : ℕ → ℕ → Decoded32 → ℕ → Emission
branch pc instr d funct3 =
    cond (funct3 == F3_BEQ) (branch_on pc instr d C_EQ)
    (cond (funct3 == F3_BNE) (branch_on pc instr d C_NE)
    (cond (funct3 == F3_BLT) (branch_on pc instr d C_LT)
    (cond (funct3 == F3_BGE) (branch_on pc instr d C_GE)
    (cond (funct3 == F3_BLTU) (branch_on pc instr d C_CC)
    (cond (funct3 == F3_BGEU) (branch_on pc instr d C_CS)
    (none []))))))

-- ---- OPCODE_OP_IMM: `match funct3`, with imm for `Self::imm_i(instr) as u64`

unfoldable pub op_imm_arm : ℕ → ℕ → ℕ → Emission
op_imm_arm imm imm12 funct3 =
    let imm_hi = imm12 / 2 ^ 6 % 64 in
    cond (funct3 == F3_ADD_SUB) (continue (mov_imm64 10 imm ∷ add))
    (cond (funct3 == F3_SLT) (continue (mov_imm64 10 imm ∷ slt))
    (cond (funct3 == F3_SLTU) (continue (mov_imm64 10 imm ∷ sltu))
    (cond (funct3 == F3_XOR) (continue (mov_imm64 10 imm ∷ xor_regs))
    (cond (funct3 == F3_OR) (continue (mov_imm64 10 imm ∷ or_regs))
    (cond (funct3 == F3_AND) (continue (mov_imm64 10 imm ∷ and_regs))
    (cond (funct3 == F3_SLL) (cond (imm_hi == 0) (continue (mov_imm64 10 (imm12 % 64) ∷ sll)) (none []))
    (cond (funct3 == F3_SRL_SRA)
    (calls_first (mov_imm64 10 (imm12 % 64) ∷ [])
    (cond (imm_hi == 0x00) (continue srl)
    (cond (imm_hi == 0x10) (continue sra)
    (none []))))
    (none []))))))))

unfoldable pub op_imm : ℕ → Decoded32 → Emission
op_imm instr d = calls_first (load 9 d.rs1 ∷ []) (then_store_rd d.rd (op_imm_arm (imm_i instr) d.imm12 d.funct3))

-- ---- OPCODE_OP_IMM_32

unfoldable pub op_imm_32_arm : ℕ → ℕ → ℕ → ℕ → Emission
op_imm_32_arm imm imm12 funct7 funct3 =
    cond (funct3 == F3_ADD_SUB) (continue (mov_imm64 10 imm ∷ addw))
    (cond (funct3 == F3_SLL) (cond (funct7 == F7_BASE) (continue (mov_imm64 10 (imm12 % 32) ∷ slliw)) (none []))
    (cond (funct3 == F3_SRL_SRA)
    (calls_first (mov_imm64 10 (imm12 % 32) ∷ [])
    (cond (funct7 == F7_BASE) (continue srliw)
    (cond (funct7 == F7_SUB_SRA) (continue sraiw)
    (none []))))
    (none [])))

unfoldable pub op_imm_32 : ℕ → Decoded32 → Emission
op_imm_32 instr d =
    calls_first (load 9 d.rs1 ∷ [])
    (then_store_rd d.rd (op_imm_32_arm (imm_i instr) d.imm12 d.funct7 d.funct3))

-- ---- OPCODE_OP_32 and OPCODE_OP: `match (funct7, funct3)`

-- an arm is a row (funct7, funct3, what it emits), in the Rust's order; any other pair is a `return None`
abbrev pub Arms : Type 0
Arms = List (ℕ × ℕ × List Call)

abbrev pub arm : Arms → ℕ → ℕ → Emission
arm [] funct7 funct3 = none []
arm ((f7, f3, cs) ∷ arms) funct7 funct3 = cond (funct7 == f7 && funct3 == f3) (continue cs) (arm arms funct7 funct3)

abbrev pub ops_32 : Arms
ops_32 =
    (F7_BASE, F3_ADD_SUB, addw)
    ∷ (F7_SUB_SRA, F3_ADD_SUB, subw)
    ∷ (F7_BASE, F3_SLL, sllw)
    ∷ (F7_BASE, F3_SRL_SRA, srlw)
    ∷ (F7_SUB_SRA, F3_SRL_SRA, sraw)
    ∷ (F7_MULDIV, F3_ADD_SUB, mulw)
    ∷ (F7_MULDIV, F3_XOR, divw)
    ∷ (F7_MULDIV, F3_SRL_SRA, divuw)
    ∷ (F7_MULDIV, F3_OR, remw)
    ∷ (F7_MULDIV, F3_AND, remuw)
    ∷ []

unfoldable pub op_32_arm : ℕ → ℕ → Emission
op_32_arm funct7 funct3 = arm ops_32 funct7 funct3

unfoldable pub op_32 : Decoded32 → Emission
op_32 d =
    calls_first (load 9 d.rs1 ∷ load 10 d.rs2 ∷ []) (then_store_rd d.rd (op_32_arm d.funct7 d.funct3))

abbrev pub ops : Arms
ops =
    (F7_BASE, F3_ADD_SUB, add)
    ∷ (F7_SUB_SRA, F3_ADD_SUB, sub)
    ∷ (F7_BASE, F3_SLT, slt)
    ∷ (F7_BASE, F3_SLTU, sltu)
    ∷ (F7_BASE, F3_AND, and_regs)
    ∷ (F7_BASE, F3_OR, or_regs)
    ∷ (F7_BASE, F3_XOR, xor_regs)
    ∷ (F7_BASE, F3_SLL, sll)
    ∷ (F7_BASE, F3_SRL_SRA, srl)
    ∷ (F7_SUB_SRA, F3_SRL_SRA, sra)
    ∷ (F7_MULDIV, F3_ADD_SUB, mul)
    ∷ (F7_MULDIV, F3_SLL, mulh)
    ∷ (F7_MULDIV, F3_SLT, mulhsu)
    ∷ (F7_MULDIV, F3_SLTU, mulhu)
    ∷ (F7_MULDIV, F3_XOR, div)
    ∷ (F7_MULDIV, F3_SRL_SRA, divu)
    ∷ (F7_MULDIV, F3_OR, rem)
    ∷ (F7_MULDIV, F3_AND, remu)
    ∷ []

unfoldable pub op_arm : ℕ → ℕ → Emission
op_arm funct7 funct3 = arm ops funct7 funct3

unfoldable pub op : Decoded32 → Emission
op d = calls_first (load 9 d.rs1 ∷ load 10 d.rs2 ∷ []) (then_store_rd d.rd (op_arm d.funct7 d.funct3))

-- ---- OPCODE_MISC_MEM

unfoldable pub misc_mem : Decoded32 → Emission
misc_mem d = cond (d.funct3 == F3_FENCE || d.funct3 == F3_FENCE_I) (continue []) (none [])

-- `match d.opcode`
unfoldable pub emit_native_instr : ℕ → ℕ → Decoded32 → Emission
emit_native_instr pc instr d =
    cond (d.opcode == OPCODE_LUI) (lui instr d)
    (cond (d.opcode == OPCODE_AUIPC) (auipc pc instr d)
    (cond (d.opcode == OPCODE_JAL) (jal pc instr d)
    (cond (d.opcode == OPCODE_JALR) (jalr pc instr d)
    (cond (d.opcode == OPCODE_BRANCH) (branch pc instr d d.funct3)
    (cond (d.opcode == OPCODE_OP_IMM) (op_imm instr d)
    (cond (d.opcode == OPCODE_OP_IMM_32) (op_imm_32 instr d)
    (cond (d.opcode == OPCODE_OP_32) (op_32 d)
    (cond (d.opcode == OPCODE_OP) (op d)
    (cond (d.opcode == OPCODE_MISC_MEM) (misc_mem d)
    (none []))))))))))
