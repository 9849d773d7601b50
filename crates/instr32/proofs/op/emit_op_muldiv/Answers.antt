use Rattle.instr32.specs.Instr32.{op_arm}
use Rattle.instr32.proofs.op.emit_op_muldiv.Goals as goal

pub returns-in-4 : goal.returns-in-4
unfolding op_arm
returns-in-4 c = rw (c.in-4.is, c.go_on-in-4.ensures.answers, c.emit-in-4.ensures, c.csel_x.ensures, c.emit_overflow-em.ensures, c.emit_zero_divisor.ensures, c.emit-em.ensures, c.sdiv_x.ensures)

pub returns-in-6 : goal.returns-in-6
unfolding op_arm
returns-in-6 c = rw (c.in-6.is, c.go_on-in-6.ensures.answers, c.emit-in-6.ensures, c.csel_x-in-6.ensures, c.mov_imm64.ensures, c.emit_overflow-em-in-6.ensures, c.emit_remainder-em.ensures, c.sdiv_x-in-6.ensures)
