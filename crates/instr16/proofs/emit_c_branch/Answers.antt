use Rattle.isa.proofs.Decoding.{imm_cb_is}
use Rattle.instr16.specs.Instr16.{c_branch, c_branch_on}
use Rattle.instr16.proofs.emit_c_branch.Goals as goal

pub returns : goal.returns
unfolding c_branch c_branch_on
returns c = rw (imm_cb_is c.args.instr, c.terminate.ensures.answers, c.emit.ensures, c.csel_x.ensures, c.c_condition.ensures.0, c.mov_imm64-3.ensures, c.mov_imm64-2.ensures, c.imm_cb.ensures, c.emit-em.ensures, c.cmp_x.ensures, c.mov_imm64.ensures, c.load.ensures, c.high_prime.ensures.0)
