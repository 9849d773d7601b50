use Rattle.std.proofs.Common.{arith}
use Rattle.rvc.proofs.Steps as Steps
use Rattle.rv64.specs.Alu as N
use Rattle.rv64.specs.Parts as S
use Rattle.rv64.specs.Execute as X
use Rattle.rvc.specs.Compressed as C
use Rattle.rvc.proofs.misc_alu.Goals as goal

pub returns-in-0 : goal.returns-in-0
unfolding C.misc_alu C.misc_alus S.applied X.exec N.value
returns-in-0 c = (omega arith, rw (c.in-0.is, c.shamt_c-shamt.ensures, c.read-a.ensures))

pub returns-in-1 : goal.returns-in-1
unfolding C.misc_alu C.misc_alus S.applied X.exec N.value
returns-in-1 c = (omega arith, rw (c.asr.ensures, c.in-1.is, c.shamt_c-shamt.ensures, c.read-a.ensures))

pub returns-in-2 : goal.returns-in-2
unfolding C.misc_alu C.misc_alus S.applied X.exec N.value
returns-in-2 c = (omega arith, rw (c.imm_ci.ensures, c.in-2.is, c.read-a.ensures))

pub returns-in-3 : goal.returns-in-3
unfolding C.misc_alu C.misc_alus
returns-in-3 c = rw (c.put.ensures, c.arith.ensures, c.in-3.is, c.read-b.ensures, c.read-a.ensures) (Steps.arith c.args.w c.args.pc c.args.x.now)
