use mathlib.Core.Path.{sym}
use Rattle.a64_emitter.specs.Parts.{constant_if}
use Rattle.a64_emitter.proofs.Emission.{emitted-none}
use Rattle.a64_emitter.proofs.mov_imm64_at_if.Goals as goal

pub returns-then-test : goal.returns-then-test
unfolding constant_if
returns-then-test c = rw c.if-test.true c.mov_imm64_at.ensures

pub returns : goal.returns
unfolding constant_if
returns c = record { holds = rw c.if-test.false (sym (emitted-none _ _)); room = λ h. h }
