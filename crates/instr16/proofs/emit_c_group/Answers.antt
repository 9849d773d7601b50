use Rattle.isa.proofs.Decoding.{imm_ci_is, shamt_is}
use Rattle.instr16.specs.Instr16.{c_srli, c_srai, c_andi, c_group}
use Rattle.instr16.proofs.emit_c_group.Goals as goal

pub returns-in-0 : goal.returns-in-0
unfolding c_group c_srli
returns-in-0 c = rw (c.in-0.is, shamt_is c.args.instr, c.go_on.ensures.answers, c.with_imm.ensures, c.lsrv_x-w.ensures, c.shamt_c.ensures, c.high_prime-rs1.ensures.0)

pub returns-in-1 : goal.returns-in-1
unfolding c_group c_srai
returns-in-1 c = rw (c.in-1.is, shamt_is c.args.instr, c.go_on-in-1.ensures.answers, c.with_imm-in-1.ensures, c.asrv_x-w.ensures, c.shamt_c-in-1.ensures, c.high_prime-rs1.ensures.0)

pub returns-in-2 : goal.returns-in-2
unfolding c_group c_andi
returns-in-2 c = rw (c.in-2.is, imm_ci_is c.args.instr, c.go_on-in-2.ensures.answers, c.with_imm-in-2.ensures, c.and_x-w.ensures, c.imm_ci.ensures, c.high_prime-rs1.ensures.0)
