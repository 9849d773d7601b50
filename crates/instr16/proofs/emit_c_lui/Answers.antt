use Rattle.std.proofs.Common.{eq-eqb, ne_eqb}
use Rattle.isa.proofs.Decoding.{imm_ci_is}
use Rattle.instr16.specs.Instr16.{c_lui}
use Rattle.instr16.proofs.emit_c_lui.Goals as goal

pub returns-then-imm-eq0 : goal.returns-then-imm-eq0
unfolding c_lui
returns-then-imm-eq0 c = rw (← c.rd_of-rd.ensures.0, imm_ci_is c.args.instr, ← c.imm_ci-imm.ensures, ne_eqb _ _ c.if-rd-eq0.false, eq-eqb _ _ c.if-imm-eq0.true, c.none-then-imm-eq0.ensures.answers)

pub returns : goal.returns
unfolding c_lui
returns c = rw (← c.rd_of-rd.ensures.0, imm_ci_is c.args.instr, ← c.imm_ci-imm.ensures, ne_eqb _ _ c.if-rd-eq0.false, ne_eqb _ _ c.if-imm-eq0.false, c.go_on.ensures.answers, c.store.ensures, c.mov_imm64.ensures)
