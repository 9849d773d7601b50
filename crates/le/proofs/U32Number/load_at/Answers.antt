use Rattle.std.proofs.Common.{rules, add-zero}
use Rattle.le.proofs.Arrays.{worths}
use Rattle.le.proofs.U32Number.load_at.Goals as goal

pub returns : goal.returns
returns c = let a = c.args in rw (c.from_le_bytes.ensures, worths 3 a.s.now a.at (search rules), add-zero)
