use Rattle.std.proofs.Common.{refl, arith}
use Rattle.rv64.proofs.Steps.{read-zero}
use Rattle.rvc.proofs.Steps as Steps
use Rattle.rv64.specs.Alu as N
use Rattle.rv64.specs.Parts as S
use Rattle.rv64.specs.Execute as X
use Rattle.rvc.specs.Compressed as C
use Rattle.rvc.proofs.quadrant1.Goals as goal

pub returns-in-0 : goal.returns-in-0
unfolding C.quadrant1 C.table1 S.applied X.exec X.read X.write N.value N.taken
returns-in-0 c = (omega arith, rw (c.in-0.is, c.imm_ci-imm.ensures, c.read-a.ensures))

pub returns-in-1 : goal.returns-in-1
unfolding C.quadrant1 C.table1 S.applied X.exec N.value
returns-in-1 c = rw (c.unless.ensures, c.sextw.ensures, c.in-1.is, c.imm_ci-imm.ensures, c.read-a.ensures) (Steps.unless c.args.w c.args.pc c.args.x.now _ _ _ (omega arith, refl))

pub returns-in-2 : goal.returns-in-2
unfolding C.quadrant1 C.table1 S.applied X.exec N.value
returns-in-2 c = (omega arith, rw (c.in-2.is, read-zero, ← c.imm_ci-imm.ensures, Steps.plus-0 _ c.imm_ci-imm.type_inv))

pub returns-in-3 : goal.returns-in-3
unfolding C.quadrant1 C.table1
returns-in-3 c = rw c.in-3.is c.lui_addi16sp.ensures

pub returns-in-4 : goal.returns-in-4
unfolding C.quadrant1 C.table1
returns-in-4 c = rw c.in-4.is c.misc_alu.ensures

pub returns-in-5 : goal.returns-in-5
unfolding C.quadrant1 C.table1 S.applied X.exec X.read X.write N.value N.taken
returns-in-5 c = (omega arith, rw (c.imm_cj.ensures, c.in-5.is))

pub returns-in-6 : goal.returns-in-6
unfolding C.quadrant1 C.table1 S.applied X.exec X.read X.write N.value N.taken
returns-in-6 c = rw (c.branch-is_zero.ensures, c.is_zero.ensures, c.in-6.is) (omega arith, refl)

pub returns-in-7 : goal.returns-in-7
unfolding C.quadrant1 C.table1 S.applied X.exec X.read X.write N.value N.taken
returns-in-7 c = rw (c.branch-is_zero-in-7.ensures, c.is_zero-in-7.ensures, c.in-7.is) (omega arith, refl)
