use Rattle.std.proofs.Common.{[], ◌∷◌}
use Rattle.word.specs.Word.{add}
use Rattle.isa.specs.Decode.{imm_j}
use Rattle.isa.proofs.Decoding.{imm_j_is}
use Rattle.instr32.specs.Instr32.{jal}
use Rattle.emit_native.specs.Calls.{store, mov_imm64, if_not_0, terminate}
use Rattle.emit_native.specs.Parts.{held}
use Rattle.emit_native.proofs.Chains.{first}
use Rattle.instr32.proofs.emit_jal.Goals as goal

pub returns : goal.returns
unfolding jal
returns c =
    let a = c.args in
    rw (c.terminate.ensures.answers, c.mov_imm64.ensures, c.mov_reg-em.ensures, c.imm_j.ensures, ← imm_j_is a.instr c.ranges.instr.fits)
    (first (held a.em) (if_not_0 a.d.rd (mov_imm64 11 (add a.pc 4) ∷ store 11 a.d.rd ∷ [])) (terminate (mov_imm64 0 (add a.pc (imm_j a.instr)) ∷ [])))
