use Rattle.rvc.specs.Compressed as C
use Rattle.rvc.proofs.cr.Goals as goal

pub returns-in-0 : goal.returns-in-0
unfolding C.cr C.crs
returns-in-0 c = rw c.in-0.is c.jr_mv.ensures

pub returns-in-1 : goal.returns-in-1
unfolding C.cr C.crs
returns-in-1 c = rw c.in-1.is c.ebreak_jalr_add.ensures
