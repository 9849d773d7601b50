-- Numbers of isa.rs, carried over.
use Rattle.std.specs.Prelude.{ℕ}

abbrev pub OPCODE_LUI : ℕ
OPCODE_LUI = 0b0110111

abbrev pub OPCODE_AUIPC : ℕ
OPCODE_AUIPC = 0b0010111

abbrev pub OPCODE_JAL : ℕ
OPCODE_JAL = 0b1101111

abbrev pub OPCODE_JALR : ℕ
OPCODE_JALR = 0b1100111

abbrev pub OPCODE_BRANCH : ℕ
OPCODE_BRANCH = 0b1100011

abbrev pub OPCODE_LOAD : ℕ
OPCODE_LOAD = 0b0000011

abbrev pub OPCODE_LOAD_FP : ℕ
OPCODE_LOAD_FP = 0b0000111

abbrev pub OPCODE_STORE : ℕ
OPCODE_STORE = 0b0100011

abbrev pub OPCODE_STORE_FP : ℕ
OPCODE_STORE_FP = 0b0100111

abbrev pub OPCODE_OP_IMM : ℕ
OPCODE_OP_IMM = 0b0010011

abbrev pub OPCODE_OP : ℕ
OPCODE_OP = 0b0110011

abbrev pub OPCODE_OP_IMM_32 : ℕ
OPCODE_OP_IMM_32 = 0b0011011

abbrev pub OPCODE_OP_32 : ℕ
OPCODE_OP_32 = 0b0111011

abbrev pub OPCODE_SYSTEM : ℕ
OPCODE_SYSTEM = 0b1110011

abbrev pub OPCODE_AMO : ℕ
OPCODE_AMO = 0b0101111

abbrev pub OPCODE_MISC_MEM : ℕ
OPCODE_MISC_MEM = 0b0001111

abbrev pub F3_ADD_SUB : ℕ
F3_ADD_SUB = 0b000

abbrev pub F3_SLL : ℕ
F3_SLL = 0b001

abbrev pub F3_SLT : ℕ
F3_SLT = 0b010

abbrev pub F3_SLTU : ℕ
F3_SLTU = 0b011

abbrev pub F3_XOR : ℕ
F3_XOR = 0b100

abbrev pub F3_SRL_SRA : ℕ
F3_SRL_SRA = 0b101

abbrev pub F3_OR : ℕ
F3_OR = 0b110

abbrev pub F3_AND : ℕ
F3_AND = 0b111

abbrev pub F3_BEQ : ℕ
F3_BEQ = 0b000

abbrev pub F3_BNE : ℕ
F3_BNE = 0b001

abbrev pub F3_BLT : ℕ
F3_BLT = 0b100

abbrev pub F3_BGE : ℕ
F3_BGE = 0b101

abbrev pub F3_BLTU : ℕ
F3_BLTU = 0b110

abbrev pub F3_BGEU : ℕ
F3_BGEU = 0b111

abbrev pub F3_LB : ℕ
F3_LB = 0b000

abbrev pub F3_LH : ℕ
F3_LH = 0b001

abbrev pub F3_LW : ℕ
F3_LW = 0b010

abbrev pub F3_LD : ℕ
F3_LD = 0b011

abbrev pub F3_LBU : ℕ
F3_LBU = 0b100

abbrev pub F3_LHU : ℕ
F3_LHU = 0b101

abbrev pub F3_LWU : ℕ
F3_LWU = 0b110

abbrev pub F3_SB : ℕ
F3_SB = 0b000

abbrev pub F3_SH : ℕ
F3_SH = 0b001

abbrev pub F3_SW : ℕ
F3_SW = 0b010

abbrev pub F3_SD : ℕ
F3_SD = 0b011

abbrev pub F3_FENCE : ℕ
F3_FENCE = 0b000

abbrev pub F3_FENCE_I : ℕ
F3_FENCE_I = 0b001

abbrev pub F7_BASE : ℕ
F7_BASE = 0b0000000

abbrev pub F7_SUB_SRA : ℕ
F7_SUB_SRA = 0b0100000

abbrev pub F7_MULDIV : ℕ
F7_MULDIV = 0b0000001
