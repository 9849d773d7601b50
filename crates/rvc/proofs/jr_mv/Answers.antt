use Rattle.std.proofs.Common.{arith, eq-eqb, ne_eqb}
use Rattle.rv64.proofs.Steps.{read-zero, write-zero}
use Rattle.rvc.proofs.Steps as Steps
use Rattle.rv64.specs.Parts as S
use Rattle.rv64.specs.Execute as X
use Rattle.rvc.specs.Compressed as C
use Rattle.rv64.specs.Alu as N
use Rattle.rvc.proofs.jr_mv.Goals as goal

pub returns-then-s-eq0 : goal.returns-then-s-eq0
unfolding C.jr_mv S.applied X.exec N.value
returns-then-s-eq0 c = rw (c.unless.ensures, eq-eqb _ _ c.if-s-eq0.true) (Steps.unless c.args.w c.args.pc c.args.x.now _ _ _ (omega arith, rw (write-zero, ← c.read-to.ensures, Steps.plus_0 _ c.read-to.type_inv)))

pub returns : goal.returns
unfolding C.jr_mv S.applied X.exec N.value
returns c = rw (c.unless-2.ensures, ne_eqb _ _ c.if-s-eq0.false) (Steps.unless c.args.w c.args.pc c.args.x.now _ _ _ (omega arith, rw (read-zero, ← c.read-v.ensures, Steps.plus-0 _ c.read-v.type_inv)))
