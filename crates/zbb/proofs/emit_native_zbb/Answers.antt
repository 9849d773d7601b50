use Rattle.zbb.specs.Words.{zbb_body}
use Rattle.zbb.specs.Emission.{emission}
use Rattle.isa.specs.Zbb.{registers, find}
use Rattle.zbb.proofs.emit_native_zbb.Goals as goal

pub returns-in-49339-clause-emits : goal.returns-in-49339-clause-emits
unfolding zbb_body emission registers find
returns-in-49339-clause-emits c = rw (← c.key.ensures, c.in-49339.is, ← c.lsrv_x-back.ensures, ← c.lslv_x-there.ensures) c.rotated.ensures

pub returns-in-49851-clause-emits : goal.returns-in-49851-clause-emits
unfolding zbb_body emission registers find
returns-in-49851-clause-emits c = rw (← c.key.ensures, c.in-49851.is, ← c.lslv_x-back.ensures, ← c.lsrv_x-there.ensures) c.rotated-in-49851.ensures
