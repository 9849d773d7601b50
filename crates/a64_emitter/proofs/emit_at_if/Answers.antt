use mathlib.Core.Path.{sym}
use Rattle.a64_emitter.specs.Parts.{emitted_if}
use Rattle.a64_emitter.proofs.Emission.{emitted-none}
use Rattle.a64_emitter.proofs.emit_at_if.Goals as goal

pub returns-then-test : goal.returns-then-test
unfolding emitted_if
returns-then-test c = rw c.if-test.true c.emit_at.ensures

pub returns : goal.returns
unfolding emitted_if
returns c = record { holds = rw c.if-test.false (sym (emitted-none _ _)); room = λ h. h }
