use Rattle.std.proofs.Common.{arith}
use Rattle.rv64.proofs.Tables.{missed}
use Rattle.rv64.specs.Parts as S
use Rattle.rv64.specs.Execute as X
use Rattle.rvc.specs.Compressed as C
use Rattle.rv64.specs.Decode.{itself}
use Rattle.rvc.proofs.effect16.Goals as goal

pub returns-in-0 : goal.returns-in-0
unfolding C.decode16 C.quadrants
returns-in-0 c = rw c.in-0.is c.quadrant0.ensures

pub returns-in-1 : goal.returns-in-1
unfolding C.decode16 C.quadrants
returns-in-1 c = rw c.in-1.is c.quadrant1.ensures

pub returns-in-2 : goal.returns-in-2
unfolding C.decode16 C.quadrants
returns-in-2 c = rw c.in-2.is c.quadrant2.ensures

pub returns-in_default : goal.returns-in_default
unfolding C.decode16 C.quadrants S.applied X.exec
returns-in_default c = (omega arith, rw (← missed _ itself _ _ (C.quadrants c.args.ignore_ebreak c.args.w) c.in_default.in_default-own.rest))
