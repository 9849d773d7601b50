use Rattle.std.proofs.Common.{refl, arith, eq-eqb, ne_eqb}
use Rattle.rvc.proofs.Steps as Steps
use Rattle.rv64.specs.Parts as S
use Rattle.rv64.specs.Execute as X
use Rattle.rvc.specs.Compressed as C
use Rattle.rv64.specs.Alu as N
use Rattle.rvc.proofs.ebreak_jalr_add.Goals as goal

pub returns-then-s-ne0 : goal.returns-then-s-ne0
unfolding C.ebreak_jalr_add S.applied X.exec N.value
returns-then-s-ne0 c = rw (c.unless.ensures, c.read.ensures, ne_eqb _ _ c.if-s-ne0.true, c.read-a.ensures) (Steps.unless c.args.w c.args.pc c.args.x.now _ _ _ (omega arith, refl))

pub returns-then-d-ne0 : goal.returns-then-d-ne0
unfolding C.ebreak_jalr_add S.applied X.exec N.value
returns-then-d-ne0 c = (omega arith, rw (ne_eqb _ _ c.if-d-ne0.true, eq-eqb _ _ c.if-s-ne0.false, ← c.read-a.ensures, Steps.plus_0 _ c.read-a.type_inv))

pub returns-then-ignore_ebreak : goal.returns-then-ignore_ebreak
unfolding C.ebreak_jalr_add S.applied X.exec N.value
returns-then-ignore_ebreak c = (omega arith, rw (c.if-ignore_ebreak.true, eq-eqb _ _ c.if-d-ne0.false, eq-eqb _ _ c.if-s-ne0.false))

pub returns-else-ignore_ebreak : goal.returns-else-ignore_ebreak
unfolding C.ebreak_jalr_add S.applied X.exec N.value
returns-else-ignore_ebreak c = (omega arith, rw (c.if-ignore_ebreak.false, eq-eqb _ _ c.if-d-ne0.false, eq-eqb _ _ c.if-s-ne0.false))
