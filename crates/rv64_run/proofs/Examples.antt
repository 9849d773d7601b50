-- Document 01's marked blocks and refusals by the RV64 definition, by computation.
use mathlib.Core.Bool.{false}
use mathlib.Core.Path.{◌≡◌, refl}
use mathlib.Core.List.{List, [], ◌∷◌}
use Prim.Native.Nat.{ℕ, zero, suc, ◌-◌, ◌^◌}
use lib.ListN.{replicate, set}
use Rattle.isa.specs.Classes.{class_of}
use Rattle.isa.specs.Zbb as Z
use Rattle.le.specs.Le.{load}
use Rattle.rv64.specs.Alu as N
use Rattle.rv64.specs.Decode as D
use Rattle.rv64.specs.Zbb.{zbb_value}
use Rattle.rvc.specs.Compressed as C
use Rattle.rv64.specs.Execute as X
use Rattle.std.proofs.Common.{None}
use Rattle.rv64_run.specs.Run as Rv64

zeros : List ℕ
zeros = replicate 32 0

ran : List ℕ → ℕ → ℕ → Rv64.Answer
ran x pc n = record { refusal = None; hart = Rv64.hart x pc; count = n }

-- with x1 as given
at1 : List ℕ → ℕ → ℕ → Rv64.Answer
at1 guest v limit = Rv64.answer guest (Rv64.hart (set zeros 1 v) 0x1000) limit false

marked : (at1 (0x01 ∷ 0x00 ∷ []) 0 1 ≡ ran zeros 0x1002 1)
    × (Rv64.answer (0x01 ∷ 0x00 ∷ []) (Rv64.hart zeros (2 ^ 64 - 2)) 1 false ≡ ran zeros 0 1)
    × (at1 (0x7D ∷ 0x55 ∷ []) 0 1 ≡ ran (set zeros 10 (2 ^ 64 - 1)) 0x1002 1)
    × (at1 (0x82 ∷ 0x80 ∷ []) 0x2001 1 ≡ ran (set zeros 1 0x2001) 0x2000 1)
    × (at1 (0x82 ∷ 0x90 ∷ []) 0x3000 1 ≡ ran (set zeros 1 0x1002) 0x3000 1)
    × (at1 (0x01 ∷ 0x00 ∷ 0x41 ∷ 0x9C ∷ []) 0 2 ≡ ran zeros 0x1002 1)
    × (at1 (0x01 ∷ 0x00 ∷ 0x03 ∷ 0x20 ∷ 0x00 ∷ 0x00 ∷ []) 0 2 ≡ ran zeros 0x1002 1)
unfolding zeros ran at1 Rv64.answer Rv64.answer_of Rv64.refusal_of Rv64.refusal_first Rv64.number Rv64.run Rv64.step Rv64.onward Rv64.fetch load X.exec X.covered X.read X.write N.value D.decode32 D.zbb_or Z.find Z.registers Z.word_shift_of Z.word_shifts Z.unary_of Z.unaries Z.shift_of Z.shifts D.base32 D.by_class class_of D.below C.decode16 C.quadrants C.quadrant1 C.table1 C.quadrant2 C.table2 C.unless0 C.misc_alu C.misc_alus C.arith C.ariths C.cr C.crs C.jr_mv C.ebreak_jalr_add
marked = (refl, refl, refl, refl, refl, refl, refl)

-- register 0's entry, whatever it is, is read as 0 and comes back as 0: c.li x10, -1, which adds to register 0, and c.nop
from_entry : List ℕ → Rv64.Answer
from_entry guest = Rv64.answer guest (Rv64.hart (set zeros 0 0xDEADBEEF) 0x1000) 1 false

register_0 : (from_entry (0x7D ∷ 0x55 ∷ []) ≡ ran (set zeros 10 (2 ^ 64 - 1)) 0x1002 1) × (from_entry (0x01 ∷ 0x00 ∷ []) ≡ ran zeros 0x1002 1)
unfolding zeros ran from_entry Rv64.answer Rv64.answer_of Rv64.refusal_of Rv64.refusal_first Rv64.number Rv64.run Rv64.step Rv64.onward Rv64.fetch load X.exec X.covered X.read X.write N.value C.decode16 C.quadrants C.quadrant1 C.table1
register_0 = (refl, refl)

-- refusals, lowest first
refused : List ℕ → ℕ → ℕ → ℕ
refused guest pc limit = Rv64.number (Rv64.answer guest (Rv64.hart zeros pc) limit false).refusal

refusals : (refused [] 0x1001 0 ≡ 2)
    × (refused [] 0x1001 1 ≡ 3)
    × (refused (0x03 ∷ 0x00 ∷ []) 0x1000 1 ≡ 4)
    × (refused (0x01 ∷ []) 0x1000 1 ≡ 4)
    × (refused (0x41 ∷ 0x9C ∷ []) 0x1000 1 ≡ 5)
    × (refused (0x00 ∷ 0x00 ∷ []) 0x1000 1 ≡ 5)
    × (refused (0x73 ∷ 0x00 ∷ 0x00 ∷ 0x00 ∷ []) 0x1000 1 ≡ 5)
    × (refused (0x03 ∷ 0x20 ∷ 0x00 ∷ 0x00 ∷ []) 0x1000 1 ≡ 5)
unfolding zeros refused Rv64.answer Rv64.answer_of Rv64.refusal_of Rv64.refusal_first Rv64.number Rv64.fetch load X.covered D.decode32 D.zbb_or Z.find Z.registers Z.word_shift_of Z.word_shifts Z.unary_of Z.unaries Z.shift_of Z.shifts D.base32 D.by_class class_of D.below C.decode16 C.quadrants C.quadrant0 C.table0 C.quadrant1 C.table1 C.unless0 C.misc_alu C.misc_alus C.arith C.ariths
refusals = (refl, refl, refl, refl, refl, refl, refl, refl)

-- ZEXT.H of x1 to x10; the same word with rs2 1 is refused
zbb : (at1 (0x3B ∷ 0xC5 ∷ 0x00 ∷ 0x08 ∷ []) 0x12345 1 ≡ ran (set (set zeros 1 0x12345) 10 0x2345) 0x1004 1) × (refused (0x3B ∷ 0xC5 ∷ 0x10 ∷ 0x08 ∷ []) 0x1000 1 ≡ 5)
unfolding zeros ran at1 refused Rv64.answer Rv64.answer_of Rv64.refusal_of Rv64.refusal_first Rv64.number Rv64.run Rv64.step Rv64.onward Rv64.fetch load X.exec X.covered X.read X.write zbb_value D.decode32 D.zbb_or Z.find Z.registers Z.word_shift_of Z.word_shifts Z.unary_of Z.unaries Z.shift_of Z.shifts D.base32 D.by_class class_of D.op32 D.ops32
zbb = (refl, refl)

-- 65 no-ops under the limit 65
nops : ℕ → List ℕ
nops zero = []
nops (suc n) = 0x01 ∷ 0x00 ∷ nops n

clamped : Rv64.answer (nops 65) (Rv64.hart zeros 0x1000) 65 false ≡ ran zeros 0x1080 64
unfolding zeros nops ran Rv64.answer Rv64.answer_of Rv64.refusal_of Rv64.refusal_first Rv64.number Rv64.run Rv64.step Rv64.onward Rv64.fetch load X.exec X.covered X.read X.write N.value C.decode16 C.quadrants C.quadrant1 C.table1
clamped = refl
