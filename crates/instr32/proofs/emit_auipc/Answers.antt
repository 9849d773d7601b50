use Rattle.isa.proofs.Decoding.{imm_u_is}
use Rattle.instr32.specs.Instr32.{auipc}
use Rattle.instr32.proofs.emit_auipc.Goals as goal

pub returns : goal.returns
unfolding auipc
returns c = rw (imm_u_is c.args.instr c.ranges.instr.fits, c.go_on.ensures.answers, c.mov_reg.ensures, c.imm_u.ensures)
