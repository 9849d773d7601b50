-- Worked examples of the ISA manual's RVC listings, by computation.
use Rattle.std.proofs.Common.{◌≡◌, ◌-◌, ◌^◌, true, false, refl}
use Rattle.rv64.specs.declared.alu.Alu.{Alu}
use Rattle.rv64.specs.declared.decode.Instr.{Instr}
use Rattle.rvc.specs.Compressed as C

-- C.NOP, C.LI -1, C.JR, C.JALR, C.EBREAK with and without the flag, C.LWSP with rd 0, the reserved C.ADDW-group, all zero
decoded16 : (C.decode16 false 0x0001 ≡ Instr.OpImm Alu.Add 0 0 0)
    × (C.decode16 false 0x557D ≡ Instr.OpImm Alu.Add 10 0 (2 ^ 64 - 1))
    × (C.decode16 false 0x8082 ≡ Instr.Jalr 0 1 0)
    × (C.decode16 false 0x9082 ≡ Instr.Jalr 1 1 0)
    × (C.decode16 true 0x9002 ≡ Instr.Nop)
    × (C.decode16 false 0x9002 ≡ Instr.Uncovered)
    × (C.decode16 false 0x4002 ≡ Instr.Helper)
    × (C.decode16 false 0x9C41 ≡ Instr.Uncovered)
    × (C.decode16 false 0x0000 ≡ Instr.Uncovered)
unfolding C.decode16 C.quadrants C.quadrant0 C.table0 C.quadrant1 C.table1 C.quadrant2 C.table2 C.unless0 C.misc_alu C.misc_alus C.arith C.ariths C.cr C.crs C.jr_mv C.ebreak_jalr_add
decoded16 = (refl, refl, refl, refl, refl, refl, refl, refl, refl)
