use Rattle.std.proofs.Common.{arith}
use Rattle.jit_arm64.proofs.Emitting.{helper16, helper32, compiled_helper}
use Rattle.jit_arm64.proofs.block.emit_term_helper.Goals as goal

pub returns-then-instr-ne3 : goal.returns-then-instr-ne3
returns-then-instr-ne3 c = let a = c.args in
    let w = c.if-instr-ne3.true in
    let n = c.requires.0 w in
    compiled_helper a.host.slot_offset a.host a.pc a.instr a.emitted _ (omega (arith, c.requires.1)) (helper16 a.host a.pc a.instr a.emitted _ (omega arith) w) (rw c.requires.2 at c.emit_native_term_helper16.ensures)

pub returns : goal.returns
returns c = let a = c.args in
    let w = c.if-instr-ne3.false in
    compiled_helper a.host.slot_offset a.host a.pc a.instr a.emitted _ (omega (arith, c.requires.1)) (helper32 a.host a.pc a.instr a.emitted _ c.decode32-d.ensures (omega arith)) (rw c.requires.2 at c.emit_native_term_helper32.ensures)
