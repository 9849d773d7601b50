use Rattle.std.proofs.Common.{inl, inr}
use Rattle.term_helper.specs.TermHelper.{opcode_helper}
use Rattle.term_helper.proofs.emit_opcode_helper.Goals as goal

pub returns-in-7 : goal.returns-in-7
unfolding opcode_helper
returns-in-7 c = elim c.in-7.is [
  | inl e ↦ rw e c.emit_exec.ensures
  | inr (inl e) ↦ rw e c.emit_exec.ensures
  | inr (inr e) ↦ rw e c.emit_exec.ensures
]
