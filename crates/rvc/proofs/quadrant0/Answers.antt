use Rattle.std.proofs.Common.{refl, arith}
use Rattle.rv64.proofs.Tables.{missed}
use Rattle.rvc.proofs.Steps as Steps
use Rattle.rv64.specs.Alu as N
use Rattle.rv64.specs.Parts as S
use Rattle.rv64.specs.Execute as X
use Rattle.rvc.specs.Compressed as C
use Rattle.rv64.specs.Decode.{itself}
use Rattle.rvc.proofs.quadrant0.Goals as goal

pub returns-in-0 : goal.returns-in-0
unfolding C.quadrant0 C.table0 S.applied X.exec N.value
returns-in-0 c = rw (c.unless.ensures, c.read.ensures, c.imm_ciw-imm.ensures, c.in-0.is) (Steps.unless c.args.w c.args.pc c.args.x.now _ _ _ (omega arith, refl))

pub returns-in-2 : goal.returns-in-2
unfolding C.quadrant0 C.table0 S.applied X.exec N.value
returns-in-2 c = (omega arith, rw c.in-2.is)

pub returns-in-3 : goal.returns-in-3
unfolding C.quadrant0 C.table0 S.applied X.exec N.value
returns-in-3 c = (omega arith, rw c.in-3.is)

pub returns-in-6 : goal.returns-in-6
unfolding C.quadrant0 C.table0 S.applied X.exec N.value
returns-in-6 c = (omega arith, rw c.in-6.is)

pub returns-in-7 : goal.returns-in-7
unfolding C.quadrant0 C.table0 S.applied X.exec N.value
returns-in-7 c = (omega arith, rw c.in-7.is)

pub returns-in_default : goal.returns-in_default
unfolding C.quadrant0 C.table0 S.applied X.exec N.value
returns-in_default c = (omega arith, rw (← missed _ itself _ _ (C.table0 c.args.w) c.in_default.in_default-own.rest))
