use Rattle.std.proofs.Common.{[], ◌∷◌}
use Rattle.instr32.specs.Instr32.{op, op_arm}
use Rattle.emit_native.specs.Calls.{load}
use Rattle.emit_native.specs.Parts.{held}
use Rattle.emit_native.proofs.Chains.{then}
use Rattle.instr32.proofs.emit_op.Goals as goal

pub returns : goal.returns
unfolding op
returns c =
    let a = c.args in
    rw (c.store_rd.ensures, c.emit_op_arm.ensures, c.load_both-em.ensures)
    (then (held a.em) (load 9 a.d.rs1 ∷ load 10 a.d.rs2 ∷ []) (op_arm a.d.funct7 a.d.funct3) a.d.rd)
