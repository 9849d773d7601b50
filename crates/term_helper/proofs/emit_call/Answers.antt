use Rattle.std.proofs.Common.{List, [], ◌∷◌, sym}
use Rattle.a64_emitter.specs.Writers.{add_x, ldr_x, str_x, sub_sp_imm, add_sp_imm, blr, ret}
use Rattle.emit_native.specs.Calls.{Call, emit, mov_imm64, if_not_0}
use Rattle.emit_native.specs.Parts.{held, after}
use Rattle.emit_native.proofs.Chains.{after_append}
use Rattle.term_helper.proofs.emit_call.Goals as goal

pub returns : goal.returns
returns c =
    let a = c.args in
    let before : List Call = mov_imm64 16 a.helper ∷ emit (sub_sp_imm 16) ∷ emit (str_x 30 31 0) ∷ emit (blr 16) ∷ emit (ldr_x 30 31 0) ∷ emit (add_sp_imm 16) ∷ [] in
    let counted : List Call = if_not_0 a.prefix (mov_imm64 12 a.prefix ∷ emit (add_x 1 1 12) ∷ []) in
    rw (c.emit-5.ensures, c.ret.ensures, c.emit_prefix.ensures, c.emit-em.ensures, c.add_sp_imm.ensures, c.emit-4.ensures, c.ldr_x.ensures, c.emit-3.ensures, c.blr.ensures, c.emit-2.ensures, c.str_x.ensures, c.emit.ensures, c.sub_sp_imm.ensures, c.mov_imm64.ensures) (sym (after_append (after (held a.em) before) counted (emit ret ∷ [])))
