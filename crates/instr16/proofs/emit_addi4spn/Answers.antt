use Rattle.std.proofs.Common.{eq-eqb, ne_eqb}
use Rattle.isa.proofs.Decoding.{imm_addi4spn_is}
use Rattle.instr16.specs.Instr16.{addi4spn}
use Rattle.instr16.proofs.emit_addi4spn.Goals as goal

pub returns-then-imm-eq0 : goal.returns-then-imm-eq0
unfolding addi4spn
returns-then-imm-eq0 c = rw (imm_addi4spn_is c.args.instr, ← c.imm_ciw-imm.ensures, eq-eqb _ _ c.if-imm-eq0.true, c.none.ensures.answers)

pub returns : goal.returns
unfolding addi4spn
returns c = rw (imm_addi4spn_is c.args.instr, ← c.imm_ciw-imm.ensures, ne_eqb _ _ c.if-imm-eq0.false, c.go_on.ensures.answers, c.with_imm.ensures, c.add_x-w.ensures, c.low_prime.ensures.0)
