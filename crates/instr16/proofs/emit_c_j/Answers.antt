use Rattle.isa.proofs.Decoding.{imm_cj_is}
use Rattle.instr16.specs.Instr16.{c_j}
use Rattle.instr16.proofs.emit_c_j.Goals as goal

pub returns : goal.returns
unfolding c_j
returns c = rw (imm_cj_is c.args.instr, c.terminate.ensures.answers, c.mov_imm64.ensures, c.imm_cj.ensures)
