use Rattle.isa.proofs.Decoding.{imm_ci_is}
use Rattle.instr16.specs.Instr16.{c_li}
use Rattle.instr16.proofs.emit_c_li.Goals as goal

pub returns : goal.returns
unfolding c_li
returns c = rw (imm_ci_is c.args.instr, c.go_on.ensures.answers, c.mov_reg.ensures, c.imm_ci.ensures, c.rd_of.ensures.0)
