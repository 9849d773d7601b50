use Rattle.isa.proofs.Decoding.{imm_i_is}
use Rattle.term_helper.proofs.emit_load.Goals as goal

pub returns : goal.returns
returns c = rw (imm_i_is c.args.instr c.ranges.instr.fits, c.emit_memory_call.ensures, c.mov_imm64-em.ensures, c.mov_imm64-2.ensures, c.mov_imm64.ensures, c.emit_pointers.ensures, c.emit_address-em.ensures, c.imm_i.ensures)
