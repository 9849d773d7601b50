use Rattle.std.proofs.Common.{ne_eqb}
use Rattle.isa.proofs.Decoding.{imm_ci_is}
use Rattle.instr16.specs.Instr16.{c_addiw}
use Rattle.instr16.proofs.emit_c_addiw.Goals as goal

pub returns : goal.returns
unfolding c_addiw
returns c = rw (← c.rd_of-rd.ensures.0, imm_ci_is c.args.instr, ne_eqb _ _ c.if-rd-eq0.false, c.go_on.ensures.answers, c.store.ensures, c.emit-2.ensures, c.sxtw_x.ensures, c.emit.ensures, c.add_x.ensures, c.mov_imm64.ensures, c.load.ensures, c.imm_ci.ensures)
