use Rattle.isa.proofs.Decoding.{imm_b_is}
use Rattle.instr32.specs.Instr32.{branch_on}
use Rattle.instr32.proofs.emit_branch_on.Goals as goal

pub returns : goal.returns
unfolding branch_on
returns c =
    let a = c.args in
    rw (imm_b_is a.instr c.ranges.instr.fits, c.terminate.ensures.answers, c.emit.ensures, c.csel_x.ensures, c.mov_imm64-2.ensures, c.mov_imm64.ensures, c.imm_b.ensures, c.emit-em.ensures, c.cmp_x.ensures, c.load_both.ensures)
