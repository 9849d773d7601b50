use Rattle.isa.proofs.Decoding.{imm_u_is}
use Rattle.instr32.specs.Instr32.{lui}
use Rattle.instr32.proofs.emit_lui.Goals as goal

pub returns : goal.returns
unfolding lui
returns c = rw (imm_u_is c.args.instr c.ranges.instr.fits, c.go_on.ensures.answers, c.mov_reg.ensures, c.imm_u.ensures)
