use Rattle.std.proofs.Common.{◌∙◌, arith}
use Rattle.replay.proofs.Filled.{load-filled}
use Rattle.replay.proofs.read_number.Goals as goal

pub returns-clause-number : goal.returns-clause-number
returns-clause-number c h =
    c.number_at.ensures.inside (omega arith) (omega (arith, c.read_full.auto.buf))
    ∙ load-filled 8 0 c.read_full.result _ _ _ (omega (arith, h, c.read_full.ensures.count)) (omega (arith, c.read_full.ensures.count)) c.read_full.ensures.bytes
