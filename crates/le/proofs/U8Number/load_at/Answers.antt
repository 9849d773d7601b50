use Rattle.std.proofs.Common.{arith, sym}
use Rattle.le.proofs.Laws.{load_byte}
use Rattle.le.proofs.U8Number.load_at.Goals as goal

pub returns : goal.returns
returns c = sym (load_byte c.args.s.now c.args.at (omega arith))
