use Rattle.std.specs.Prelude.{None}
use Rattle.std.proofs.Common.{◌≡◌, ◌∙◌, arith}
use Rattle.isa.specs.Zbb.{find}
use Rattle.isa.proofs.ZbbRows.{is_nothing}
use Rattle.jit_arm64.proofs.Emitting.{inline16, native32, inline-rust, inline_compiled, zbb_compiled, flow_is}
use Rattle.jit_arm64.proofs.Flows.{is_refused, is_taken}
use Rattle.jit_arm64.proofs.Refused.{rust_refuses}
use Rattle.jit_arm64.proofs.block.emit_native.Goals.{else-is_none-via-then-is_none+else-may_be_zbb, else-is_none-via-else-is_none}
use Rattle.jit_arm64.proofs.block.emit_native.Goals as goal

pub returns-then-instr-ne3 : goal.returns-then-instr-ne3
returns-then-instr-ne3 c = let a = c.args in
    let w = c.if-instr-ne3.true in
    let n = c.requires.1 w in
    inline_compiled a.host.slot_offset a.host a.pc a.instr _ (inline16 a.host a.pc a.instr _ (omega arith) w) (rw (c.with_slots-em.ensures.held, c.new.ensures.held) at c.emit_native_instr16.ensures)

pub returns-then-may_be_zbb : goal.returns-then-may_be_zbb
returns-then-may_be_zbb c = let a = c.args in
    let w = c.if-instr-ne3.false in
    let refused = is_refused _ c.is_none.ensures c.if-is_none.true in
    zbb_compiled a.host.slot_offset a.host a.pc a.instr c.emit_native_instr-out.result _ c.decode32-d.ensures (omega arith) (rw (c.with_slots-em.ensures.held, c.new.ensures.held) at c.emit_native_instr-out.ensures) refused c.emit_zbb.ensures.other c.emit_zbb.ensures.zbb

-- the Rust refused, by an opcode that is none of Zbb's, or it did not refuse, so that this is no Zbb instruction
pub returns : goal.returns
returns c = let a = c.args in
    let w = c.if-instr-ne3.false in
    let e = c.emit_native_instr-out.ensures in
    let d = c.decode32-d.ensures in
    let n : find a.instr ≡ None = elim c.else-is_none.branch [
      | else-is_none-via-then-is_none+else-may_be_zbb s ↦ s.may_be_zbb.ensures s.if-may_be_zbb.false
      | else-is_none-via-else-is_none s ↦
          is_nothing (find a.instr) (λ f. is_taken _ c.is_none.ensures s.if-is_none.false (flow_is _ _ e ∙ rw d (rust_refuses a.pc a.instr (omega arith) f)))
    ] in
    inline_compiled a.host.slot_offset a.host a.pc a.instr _ (inline-rust a.host a.pc a.instr (omega arith) n ∙ native32 a.host a.pc a.instr _ d (omega arith)) (rw (c.with_slots-em.ensures.held, c.new.ensures.held) at e)
