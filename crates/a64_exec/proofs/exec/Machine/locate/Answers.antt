use Rattle.std.proofs.Common.{refl, rules}
use Rattle.a64_exec.specs.Parts.{held}
use Rattle.a64_exec.proofs.Reach.{through_sp, through_register, misaligned_sp}
use Rattle.a64_exec.proofs.exec.Machine.locate.Goals as goal

pub returns-then-self-ne0 : goal.returns-then-self-ne0
returns-then-self-ne0 c = let a = c.args in
    misaligned_sp (held a.self.now) a.n a.imm c.if-n-eq31.true c.if-self-ne0.true

pub returns-then-n-eq31 : goal.returns-then-n-eq31
returns-then-n-eq31 c = let a = c.args in
    through_sp (held a.self.now) a.n a.imm _ c.within.result c.if-n-eq31.true (search rules) (rw c.from-offset.ensures refl) c.within.ensures

pub returns : goal.returns
returns c = let a = c.args in
    through_register (held a.self.now) a.n a.imm _ c.within-2.result c.if-n-eq31.false (rw (c.from-offset.ensures, c.register.ensures) refl) c.within-2.ensures
