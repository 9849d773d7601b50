use Rattle.std.proofs.Common.{eq-eqb, ne_eqb}
use Rattle.isa.proofs.Decoding.{imm_addi16sp_is}
use Rattle.instr16.specs.Instr16.{c_addi16sp}
use Rattle.instr16.proofs.emit_c_addi16sp.Goals as goal

pub returns-then-imm-eq0 : goal.returns-then-imm-eq0
unfolding c_addi16sp
returns-then-imm-eq0 c = rw (imm_addi16sp_is c.args.instr, ← c.imm_ci16-imm.ensures, eq-eqb _ _ c.if-imm-eq0.true, c.none.ensures.answers)

pub returns : goal.returns
unfolding c_addi16sp
returns c = rw (imm_addi16sp_is c.args.instr, ← c.imm_ci16-imm.ensures, ne_eqb _ _ c.if-imm-eq0.false, c.go_on.ensures.answers, c.with_imm.ensures, c.add_x-w.ensures)
