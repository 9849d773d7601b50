use Rattle.std.proofs.Common.{◌≡◌, sym, refl, ap, ◌∙◌}
use Rattle.isa.specs.Zbb.{find}
use Rattle.emit_native.specs.Parts.{Answer, held, answer}
use Rattle.zbb.specs.Emission.{emission}
use Rattle.jit_arm64.proofs.Emitting.{zbb_flow, zbb_refuses, flow_is, zbb_taken}
use Rattle.jit_arm64.proofs.block.emit_zbb.Goals as goal

pub returns-in-Some : goal.returns-in-Some
unfolding held
returns-in-Some c =
    let z = c.emit_native_zbb-found.ensures.emits in
    record {
      other = λ f. zbb_taken _ (sym (flow_is _ _ z ∙ zbb_refuses (find c.args.instr) c.args.instr f) ∙ c.in-Some.is);
      zbb = λ f. z;
    }

-- no Zbb instruction: the array is as it was
pub returns-in-None : goal.returns-in-None
unfolding held answer emission
returns-in-None c =
    let z = c.emit_native_zbb-found.ensures in
    record {
      other = λ f.
          let e : c.emit_native_zbb-found.result.em.slot_offset ≡ c.args.em.slot_offset = ap (λ (x : Answer). x.held.slot_offset) (rw f at z.emits) in
          let lent : c.emit_native_zbb-found.result.em.words.ghost_name ≡ c.args.em.words.ghost_name = ap (λ (x : Answer). x.held.lent) (rw f at z.emits) in
          c.none.ensures.answers ∙ rw (z.words_unchanged c.in-None.is, e, lent) refl;
      zbb = λ f. absurd (f (zbb_flow (find c.args.instr) c.args.instr (sym (flow_is c.emit_native_zbb-found.result _ z.emits) ∙ c.in-None.is)));
    }
