-- `emit_native_term_helper16` and `emit_native_term_helper32`: `true` is Terminate, `false` None.
use Rattle.std.specs.Prelude.{ℕ, Bool, false, cond, ◌||◌, List, [], ◌∷◌, ◌++◌, eqb, Option, Some, None}
use Rattle.isa.specs.declared.decode.Decoded32.{Decoded32}
use Rattle.emit_native.specs.declared.Host.{Host}
use Rattle.isa.specs.Isa.{OPCODE_LOAD, OPCODE_STORE, OPCODE_LOAD_FP, OPCODE_STORE_FP, OPCODE_SYSTEM, OPCODE_AMO, F3_LB, F3_LH, F3_LW, F3_LD, F3_LBU, F3_LHU, F3_LWU, F3_SB, F3_SH, F3_SW, F3_SD}
use Rattle.emit_native.specs.Hart.{MEM_OP_LB, MEM_OP_LH, MEM_OP_LW, MEM_OP_LD, MEM_OP_LBU, MEM_OP_LHU, MEM_OP_LWU, MEM_OP_SB, MEM_OP_SH, MEM_OP_SW, MEM_OP_SD}
use Rattle.isa.specs.Decode.{imm_i, imm_s, c_funct3, c_op}
use Rattle.a64_emitter.specs.Writers.{add_x, ldr_x, str_x, mov_x, sub_sp_imm, add_sp_imm, blr, ret}
use Rattle.emit_native.specs.Calls.{Call, emit, mov_imm64, load, if_not_0, Emission, terminate}
use Rattle.emit_native.specs.Calls as Calls

-- from the helper's address in X16 on, the same in all three
abbrev pub call_helper : ℕ → ℕ → List Call
call_helper helper prefix_count =
    mov_imm64 16 helper
    ∷ emit (sub_sp_imm 16)
    ∷ emit (str_x 30 31 0)
    ∷ emit (blr 16)
    ∷ emit (ldr_x 30 31 0)
    ∷ emit (add_sp_imm 16)
    ∷ (if_not_0 prefix_count (mov_imm64 12 prefix_count ∷ emit (add_x 1 1 12) ∷ [])
    ++ (emit ret ∷ []))

-- X1 to X5 into X0 to X4, the instruction and the PC
abbrev pub call_exec : ℕ → ℕ → ℕ → ℕ → List Call
call_exec helper pc instr prefix_count =
    emit (mov_x 0 1)
    ∷ emit (mov_x 1 2)
    ∷ emit (mov_x 2 3)
    ∷ emit (mov_x 3 4)
    ∷ emit (mov_x 4 5)
    ∷ mov_imm64 5 instr
    ∷ mov_imm64 6 pc
    ∷ call_helper helper prefix_count

-- the memory helper's operation, or none
abbrev pub Operation : Type 0
Operation = Option ℕ

unfoldable pub load_op : ℕ → Operation
load_op funct3 =
    cond (eqb funct3 F3_LB) (Some MEM_OP_LB)
    (cond (eqb funct3 F3_LH) (Some MEM_OP_LH)
    (cond (eqb funct3 F3_LW) (Some MEM_OP_LW)
    (cond (eqb funct3 F3_LD) (Some MEM_OP_LD)
    (cond (eqb funct3 F3_LBU) (Some MEM_OP_LBU)
    (cond (eqb funct3 F3_LHU) (Some MEM_OP_LHU)
    (cond (eqb funct3 F3_LWU) (Some MEM_OP_LWU)
    None))))))

unfoldable pub store_op : ℕ → Operation
store_op funct3 =
    cond (eqb funct3 F3_SB) (Some MEM_OP_SB)
    (cond (eqb funct3 F3_SH) (Some MEM_OP_SH)
    (cond (eqb funct3 F3_SW) (Some MEM_OP_SW)
    (cond (eqb funct3 F3_SD) (Some MEM_OP_SD)
    None)))

-- the calls of a load and of a store: `is_store` is false and true
abbrev pub load_calls : ℕ → ℕ → ℕ → ℕ → Decoded32 → ℕ → List Call
load_calls helper mem_op pc instr d prefix_count =
    load 9 d.rs1
    ∷ mov_imm64 10 (imm_i instr)
    ∷ emit (add_x 11 9 10)
    ∷ emit (mov_x 0 1)
    ∷ emit (mov_x 1 2)
    ∷ emit (mov_x 2 3)
    ∷ mov_imm64 3 mem_op
    ∷ mov_imm64 4 d.rd
    ∷ mov_imm64 5 0
    ∷ emit (mov_x 6 11)
    ∷ mov_imm64 7 pc
    ∷ call_helper helper prefix_count

abbrev pub store_calls : ℕ → ℕ → ℕ → ℕ → Decoded32 → ℕ → List Call
store_calls helper mem_op pc instr d prefix_count =
    load 9 d.rs1
    ∷ mov_imm64 10 (imm_s instr)
    ∷ emit (add_x 11 9 10)
    ∷ load 12 d.rs2
    ∷ emit (mov_x 0 1)
    ∷ emit (mov_x 1 2)
    ∷ emit (mov_x 2 3)
    ∷ mov_imm64 3 mem_op
    ∷ mov_imm64 4 d.rd
    ∷ emit (mov_x 5 12)
    ∷ emit (mov_x 6 11)
    ∷ mov_imm64 7 pc
    ∷ call_helper helper prefix_count

abbrev pub with_load : Host → ℕ → ℕ → Decoded32 → ℕ → Operation → Emission
with_load h pc instr d prefix_count None = Calls.none []
with_load h pc instr d prefix_count (Some mem_op) = terminate (load_calls h.memory_helper mem_op pc instr d prefix_count)

abbrev pub with_store : Host → ℕ → ℕ → Decoded32 → ℕ → Operation → Emission
with_store h pc instr d prefix_count None = Calls.none []
with_store h pc instr d prefix_count (Some mem_op) = terminate (store_calls h.memory_helper mem_op pc instr d prefix_count)

unfoldable pub load_helper : Host → ℕ → ℕ → Decoded32 → ℕ → ℕ → Emission
load_helper h pc instr d prefix_count funct3 = with_load h pc instr d prefix_count (load_op funct3)

unfoldable pub store_helper : Host → ℕ → ℕ → Decoded32 → ℕ → ℕ → Emission
store_helper h pc instr d prefix_count funct3 = with_store h pc instr d prefix_count (store_op funct3)

unfoldable pub opcode_helper : Host → ℕ → ℕ → Decoded32 → ℕ → ℕ → Emission
opcode_helper h pc instr d prefix_count opcode =
    cond (eqb opcode OPCODE_SYSTEM) (Calls.none [])
    (cond (eqb opcode OPCODE_LOAD) (load_helper h pc instr d prefix_count d.funct3)
    (cond (eqb opcode OPCODE_STORE) (store_helper h pc instr d prefix_count d.funct3)
    (cond (eqb opcode OPCODE_LOAD_FP) (terminate (call_exec h.helper32 pc instr prefix_count))
    (cond (eqb opcode OPCODE_STORE_FP) (terminate (call_exec h.helper32 pc instr prefix_count))
    (cond (eqb opcode OPCODE_AMO) (terminate (call_exec h.helper32 pc instr prefix_count))
    (Calls.none []))))))

unfoldable pub emit_native_term_helper32 : Host → ℕ → ℕ → Decoded32 → ℕ → Emission
emit_native_term_helper32 h pc instr d prefix_count = opcode_helper h pc instr d prefix_count d.opcode

-- `matches!(funct3, 0b010 | 0b011 | 0b110 | 0b111)`
abbrev pub memory_funct3 : ℕ → Bool
memory_funct3 funct3 = eqb funct3 0b010 || (eqb funct3 0b011 || (eqb funct3 0b110 || eqb funct3 0b111))

unfoldable pub supports : ℕ → ℕ → Bool
supports op funct3 = cond (eqb op 0b00) (memory_funct3 funct3) (cond (eqb op 0b10) (memory_funct3 funct3) false)

unfoldable pub emit_native_term_helper16 : Host → ℕ → ℕ → ℕ → Emission
emit_native_term_helper16 h pc instr prefix_count =
    cond (supports (c_op instr) (c_funct3 instr)) (terminate (call_exec h.helper16 pc instr prefix_count)) (Calls.none [])
