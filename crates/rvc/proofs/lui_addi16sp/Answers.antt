use Rattle.std.proofs.Common.{refl, arith, eq-eqb, ne_eqb}
use Rattle.rvc.proofs.Steps as Steps
use Rattle.rv64.specs.Alu as N
use Rattle.rv64.specs.Parts as S
use Rattle.rv64.specs.Execute as X
use Rattle.rvc.specs.Compressed as C
use Rattle.rvc.proofs.lui_addi16sp.Goals as goal

pub returns-then-d-eq2 : goal.returns-then-d-eq2
unfolding C.lui_addi16sp S.applied X.exec N.value
returns-then-d-eq2 c = rw (c.unless.ensures, c.read.ensures, c.imm_ci16-imm.ensures, eq-eqb _ _ c.if-d-eq2.true) (Steps.unless c.args.w c.args.pc c.args.x.now _ _ _ (omega arith, refl))

pub returns : goal.returns
unfolding C.lui_addi16sp S.applied X.exec N.value
returns c = rw (c.unless-3.ensures, c.unless-2.ensures, c.imm_ci-imm.ensures, ne_eqb _ _ c.if-d-eq2.false) (Steps.unless c.args.w c.args.pc c.args.x.now _ _ _ (Steps.unless c.args.w c.args.pc c.args.x.now _ _ _ (omega arith, refl)))
