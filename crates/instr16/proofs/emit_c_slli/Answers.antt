use Rattle.std.proofs.Common.{ne_eqb}
use Rattle.isa.proofs.Decoding.{shamt_is}
use Rattle.instr16.specs.Instr16.{c_slli}
use Rattle.instr16.proofs.emit_c_slli.Goals as goal

pub returns : goal.returns
unfolding c_slli
returns c = rw (← c.rd_of-rd.ensures.0, shamt_is c.args.instr, ne_eqb _ _ c.if-rd-eq0.false, c.go_on.ensures.answers, c.with_imm.ensures, c.lslv_x-w.ensures, c.shamt_c.ensures)
