use Rattle.std.proofs.Common.{[], ◌∷◌}
use Rattle.word.specs.Word.{add}
use Rattle.isa.specs.Decode.{imm_i}
use Rattle.a64_emitter.specs.Writers.{add_x, and_x}
use Rattle.emit_native.specs.Hart.{not_1}
use Rattle.isa.proofs.Decoding.{imm_i_is}
use Rattle.instr32.specs.Instr32.{jalr}
use Rattle.emit_native.specs.Calls.{load, store, emit, mov_imm64, if_not_0, terminate}
use Rattle.emit_native.specs.Parts.{held}
use Rattle.emit_native.proofs.Chains.{first}
use Rattle.instr32.proofs.emit_jalr.Goals as goal

pub returns : goal.returns
unfolding jalr
returns c =
    let a = c.args in
    let before = load 9 a.d.rs1 ∷ if_not_0 a.d.rd (mov_imm64 11 (add a.pc 4) ∷ store 11 a.d.rd ∷ []) in
    rw (c.terminate.ensures.answers, c.emit-2.ensures, c.and_x.ensures, c.mov_imm64-2.ensures, c.emit.ensures, c.add_x.ensures, c.mov_imm64.ensures, c.mov_reg.ensures, c.load.ensures, c.imm_i.ensures, ← imm_i_is a.instr c.ranges.instr.fits)
    (first (held a.em) before (terminate (mov_imm64 10 (imm_i a.instr) ∷ emit (add_x 11 9 10) ∷ mov_imm64 12 not_1 ∷ emit (and_x 0 11 12) ∷ [])))
