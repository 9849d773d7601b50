use Rattle.isa.proofs.Decoding.{imm_s_is}
use Rattle.term_helper.proofs.emit_store.Goals as goal

pub returns : goal.returns
returns c = rw (imm_s_is c.args.instr c.ranges.instr.fits, c.emit_memory_call.ensures, c.emit-em.ensures, c.mov_x.ensures, c.mov_imm64-2.ensures, c.mov_imm64.ensures, c.emit_pointers.ensures, c.load-em.ensures, c.emit_address.ensures, c.imm_s.ensures)
