use Rattle.std.proofs.Common.{ne_eqb}
use Rattle.isa.proofs.Decoding.{imm_ci_is}
use Rattle.instr16.specs.Instr16.{c_addi}
use Rattle.instr16.proofs.emit_c_addi.Goals as goal

pub returns : goal.returns
unfolding c_addi
returns c = rw (← c.rd_of-rd.ensures.0, imm_ci_is c.args.instr, ne_eqb _ _ c.if-rd-eq0.false, c.go_on-2.ensures.answers, c.with_imm.ensures, c.add_x-w.ensures, c.imm_ci.ensures)
