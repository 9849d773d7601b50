-- The class of an opcode, from the ISA's 'RISC-V base opcode map, inst[1:0]=11'.
use Rattle.std.specs.Prelude.{ℕ, cond, eqb}
use Rattle.isa.specs.declared.classes.Class.{Class}
use Rattle.isa.specs.declared.classes.Class.TheVariants.{Load, LoadFp, MiscMem, OpImm, Auipc, OpImm32, Store, StoreFp, Amo, Op, Lui, Op32, Branch, Jalr, Jal, System, Other}

unfoldable pub class_of : ℕ → Class
class_of n =
    cond (eqb n 0b0000011) Load
    (cond (eqb n 0b0000111) LoadFp
    (cond (eqb n 0b0001111) MiscMem
    (cond (eqb n 0b0010011) OpImm
    (cond (eqb n 0b0010111) Auipc
    (cond (eqb n 0b0011011) OpImm32
    (cond (eqb n 0b0100011) Store
    (cond (eqb n 0b0100111) StoreFp
    (cond (eqb n 0b0101111) Amo
    (cond (eqb n 0b0110011) Op
    (cond (eqb n 0b0110111) Lui
    (cond (eqb n 0b0111011) Op32
    (cond (eqb n 0b1100011) Branch
    (cond (eqb n 0b1100111) Jalr
    (cond (eqb n 0b1101111) Jal
    (cond (eqb n 0b1110011) System
    Other)))))))))))))))
