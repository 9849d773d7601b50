-- Document 01's marked blocks, three about FENCE.I, three about register 0 and three about Zbb, as one list over
-- which one fact is shown. Assumes nothing.
use Prim.Native.Nat.{ℕ, zero, suc, ◌*◌, ◌-◌}
use mathlib.Core.Path.{◌≡◌, refl}
use mathlib.Core.Bool.{false}
use mathlib.Core.List.{List, [], ◌∷◌, ◌++◌, map, flatten}
use lib.ListN.{length, replicate}
use Rattle.a64_emitter.specs.Emitter.{bytes}
use Rattle.a64_emitter.specs.Writers as Writers
use Rattle.le.specs.Le as Le
use Rattle.word.specs.Word as W
use Rattle.emit_native.specs.declared.Host.{Host}
use Rattle.translator.specs.Translate as T
use Rattle.jit_arm64.specs.Block as B
use Rattle.jit_arm64.specs.Fence as F
use Rattle.emit_native.specs.Calls as Calls
use Rattle.isa.specs.Decode as Rust
use Rattle.isa.specs.Zbb as Z
use Rattle.instr16.specs.Instr16 as I16
use Rattle.instr32.specs.Instr32 as I32
use Rattle.term_helper.specs.TermHelper as Th
use Rattle.zbb.specs.Words as ZW
use Rattle.zbb.specs.Emission as ZE

host : Host
host = record { slot_offset = 0; memory_helper = 0x10000; helper32 = 0x20000; helper16 = 0x30000; ignore_ebreak = false }

-- the guest bytes, the limit, the PC; the words, the refusal, the count and the end kind's number found
record Row : Type 0 where
  guest : List ℕ
  limit : ℕ
  pc : ℕ
  words : List ℕ
  refusal : ℕ
  count : ℕ
  end : ℕ

ending : ℕ → List ℕ → ℕ → ℕ → List ℕ → ℕ → Row
ending k g l pc ws n = record { guest = g; limit = l; pc = pc; words = ws; refusal = 0; count = n; end = k }

row : List ℕ → ℕ → ℕ → List ℕ → ℕ → Row
row = ending 1

refusing : List ℕ → ℕ → ℕ → Row
refusing g l n = record { guest = g; limit = l; pc = 0x1000; words = []; refusal = n; count = 0; end = 0 }

nops : ℕ → List ℕ
nops zero = []
nops (suc n) = 1 ∷ 0 ∷ nops n

rows : List Row
rows =
    row (0x01 ∷ 0x00 ∷ []) 1 0x1000 (0xD2820040 ∷ 0xD2800021 ∷ 0xD65F03C0 ∷ []) 1
    ∷ row (0x01 ∷ 0x00 ∷ []) 1 0xFFFFFFFFFFFFFFFE (0xD2800000 ∷ 0xD2800021 ∷ 0xD65F03C0 ∷ []) 1
    ∷ row (0x7D ∷ 0x55 ∷ []) 1 0x1000
    (0xD29FFFEB ∷ 0xF2BFFFEB ∷ 0xF2DFFFEB ∷ 0xF2FFFFEB ∷ 0xF900280B ∷ 0xD2820040 ∷ 0xD2800021 ∷ 0xD65F03C0 ∷ []) 1
    ∷ row (0x82 ∷ 0x80 ∷ []) 1 0x1000
    (0xF9400409 ∷ 0xD29FFFCA ∷ 0xF2BFFFEA ∷ 0xF2DFFFEA ∷ 0xF2FFFFEA ∷ 0x8A0A0120 ∷ 0xD2800021 ∷ 0xD65F03C0 ∷ []) 1
    ∷ row (0x01 ∷ 0x00 ∷ 0x41 ∷ 0x9C ∷ []) 2 0x1000 (0xF9402009 ∷ 0xF940200A ∷ 0xD2820040 ∷ 0xD2800021 ∷ 0xD65F03C0 ∷ []) 1
    ∷ refusing (0x41 ∷ 0x9C ∷ []) 1 5
    ∷ refusing (0x00 ∷ 0x00 ∷ []) 1 5
    ∷ refusing (0x03 ∷ 0x00 ∷ []) 1 4
    ∷ refusing [] 0 2
    ∷ row (nops 65) 65 0x1000 (0xD2821000 ∷ 0xD2800801 ∷ 0xD65F03C0 ∷ []) 64
    ∷ ending 3 (0x0F ∷ 0x10 ∷ 0x00 ∷ 0x00 ∷ 0x7D ∷ 0x55 ∷ []) 64 0x1000 (0xD2820080 ∷ 0xD2800021 ∷ 0xD65F03C0 ∷ []) 1
    ∷ ending 3 (0x01 ∷ 0x00 ∷ 0x8F ∷ 0x9F ∷ 0xFF ∷ 0xFF ∷ []) 2 0x1000 (0xD28200C0 ∷ 0xD2800041 ∷ 0xD65F03C0 ∷ []) 2
    ∷ row (0x0F ∷ 0x00 ∷ 0xF0 ∷ 0x0F ∷ 0x01 ∷ 0x00 ∷ []) 64 0x1000 (0xD28200C0 ∷ 0xD2800041 ∷ 0xD65F03C0 ∷ []) 2
    ∷ row (0x93 ∷ 0x02 ∷ 0x10 ∷ 0x00 ∷ []) 1 0x1000
    (0xD2800009 ∷ 0xD280002A ∷ 0x8B0A012B ∷ 0xF900140B ∷ 0xD2820080 ∷ 0xD2800021 ∷ 0xD65F03C0 ∷ []) 1
    ∷ row (0x01 ∷ 0x00 ∷ 0xB3 ∷ 0x02 ∷ 0x00 ∷ 0x0C ∷ []) 2 0x1000 (0xD2800009 ∷ 0xD280000A ∷ 0xD2820040 ∷ 0xD2800021 ∷ 0xD65F03C0 ∷ []) 1
    ∷ ending 2 (0x23 ∷ 0x34 ∷ 0x00 ∷ 0x00 ∷ []) 1 0x1000
    (0xD2800009 ∷ 0xD280010A ∷ 0x8B0A012B ∷ 0xD280000C ∷ 0xAA1F0020 ∷ 0xAA1F0041 ∷ 0xAA1F0062 ∷ 0xD2800263 ∷ 0xD2800104 ∷ 0xAA1F0185
    ∷ 0xAA1F0166 ∷ 0xD2820007 ∷ 0xD2800010 ∷ 0xF2A00030 ∷ 0xD10043FF ∷ 0xF90003FE ∷ 0xD63F0200 ∷ 0xF94003FE ∷ 0x910043FF ∷ 0xD65F03C0 ∷ []) 1
    ∷ row (0x13 ∷ 0x95 ∷ 0x15 ∷ 0x60 ∷ []) 1 0x1000
    (0xF9402C09 ∷ 0xD280002C ∷ 0xCB0C012B ∷ 0x8A29016B ∷ 0xDAC0116B ∷ 0xD280080C ∷ 0xCB0B018B ∷ 0xF900280B ∷ 0xD2820080 ∷ 0xD2800021 ∷ 0xD65F03C0 ∷ []) 1
    ∷ row (0xB3 ∷ 0x72 ∷ 0x70 ∷ 0x40 ∷ 0x3B ∷ 0xC5 ∷ 0x15 ∷ 0x08 ∷ []) 2 0x1000
    (0xD2800009 ∷ 0xF9401C0A ∷ 0x8A2A012B ∷ 0xF900140B ∷ 0xF9402C09 ∷ 0xF940040A ∷ 0xD2820080 ∷ 0xD2800021 ∷ 0xD65F03C0 ∷ []) 1
    ∷ refusing (0x3B ∷ 0xC5 ∷ 0x15 ∷ 0x08 ∷ []) 1 5
    ∷ []

-- with room for 20 words
room : List ℕ
room = replicate 80 0xEE

found : Row → T.Result
found r = T.translate host r.guest r.pc r.limit room

-- what the paper says
said : Row → T.Result
said r =
    T.result (record { refusal = r.refusal; length = 4 * length r.words; count = r.count; end = r.end })
    (bytes r.words ++ replicate (80 - 4 * length r.words) 0xEE)

all_rows : map found rows ≡ map said rows
unfolding rows ending row refusing nops room found said host B.is_missing F.fence_or F.to_fence F.fence F.limit_at T.end_kind T.end_number T.no_block T.of_block T.translate B.fetch_upper B.fetch B.emit_native B.emit_term_helper B.zbb_of B.zbb_first B.emit_inline Z.registers Z.word_shifts Z.unaries Z.shifts Z.shift_of Z.unary_of Z.word_shift_of Z.find ZW.zbb_body ZE.emission I32.op_32_arm I32.op_32 B.helped B.step B.instr_walk B.walk B.end_calls B.whole_walk B.compile_native_block Calls.words_in Calls.store_rd Rust.sign_extend Rust.imm_i Rust.imm_s Rust.imm_ci Rust.shamt Rust.imm_addi4spn Rust.imm_addi16sp Rust.imm_cj Rust.imm_cb I16.addi4spn I16.quadrant_0 I16.c_addi I16.c_addiw I16.c_li I16.c_addi16sp I16.c_lui I16.c_srli I16.c_srai I16.c_andi I16.c_alu I16.c_group I16.c_j I16.c_branch_on I16.c_branch I16.c_addi16sp_lui I16.quadrant_1 I16.c_slli I16.c_jr I16.c_mv I16.c_ebreak I16.c_jalr I16.c_add I16.c_jump_move_add I16.quadrant_2 I16.emit_native_instr16 I32.op_imm_arm I32.op_imm I32.op_arm I32.op I32.misc_mem I32.emit_native_instr Th.store_op Th.store_helper Th.opcode_helper Th.emit_native_term_helper32 Th.supports Th.emit_native_term_helper16 Writers.movk Writers.mov_imm64 Le.number Le.load Le.bytes Le.all_bytes W.asr flatten
all_rows = refl
