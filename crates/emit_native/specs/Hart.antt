-- Numbers of hart.rs and jit_arm64.rs, carried over.
use Rattle.std.specs.Prelude.{ℕ}

-- the memory helper's operations
abbrev pub MEM_OP_LB : ℕ
MEM_OP_LB = 0

abbrev pub MEM_OP_LH : ℕ
MEM_OP_LH = 1

abbrev pub MEM_OP_LW : ℕ
MEM_OP_LW = 2

abbrev pub MEM_OP_LD : ℕ
MEM_OP_LD = 3

abbrev pub MEM_OP_LBU : ℕ
MEM_OP_LBU = 4

abbrev pub MEM_OP_LHU : ℕ
MEM_OP_LHU = 5

abbrev pub MEM_OP_LWU : ℕ
MEM_OP_LWU = 6

abbrev pub MEM_OP_SB : ℕ
MEM_OP_SB = 16

abbrev pub MEM_OP_SH : ℕ
MEM_OP_SH = 17

abbrev pub MEM_OP_SW : ℕ
MEM_OP_SW = 18

abbrev pub MEM_OP_SD : ℕ
MEM_OP_SD = 19

-- conditions of CSEL
abbrev pub C_EQ : ℕ
C_EQ = 0x0

abbrev pub C_NE : ℕ
C_NE = 0x1

abbrev pub C_CS : ℕ
C_CS = 0x2

abbrev pub C_CC : ℕ
C_CC = 0x3

abbrev pub C_MI : ℕ
C_MI = 0x4

abbrev pub C_GE : ℕ
C_GE = 0xA

abbrev pub C_LT : ℕ
C_LT = 0xB

-- `u64::MAX`, `i64::MIN as u64`, `!1u64`
abbrev pub u64_MAX : ℕ
u64_MAX = 0xFFFFFFFFFFFFFFFF

abbrev pub i64_MIN : ℕ
i64_MIN = 0x8000000000000000

abbrev pub not_1 : ℕ
not_1 = 0xFFFFFFFFFFFFFFFE
