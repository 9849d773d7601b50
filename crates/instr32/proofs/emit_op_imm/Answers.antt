use Rattle.std.proofs.Common.{[], ◌∷◌}
use Rattle.isa.specs.Decode.{imm_i}
use Rattle.isa.proofs.Decoding.{imm_i_is}
use Rattle.instr32.specs.Instr32.{op_imm, op_imm_arm}
use Rattle.emit_native.specs.Calls.{load}
use Rattle.emit_native.specs.Parts.{held}
use Rattle.emit_native.proofs.Chains.{then}
use Rattle.instr32.proofs.emit_op_imm.Goals as goal

pub returns : goal.returns
unfolding op_imm
returns c =
    let a = c.args in
    rw (c.store_rd.ensures, c.emit_op_imm_arm.ensures, c.load-em.ensures, c.imm_i-imm.ensures, ← imm_i_is a.instr c.ranges.instr.fits)
    (then (held a.em) (load 9 a.d.rs1 ∷ []) (op_imm_arm (imm_i a.instr) a.d.imm12 a.d.funct3) a.d.rd)
