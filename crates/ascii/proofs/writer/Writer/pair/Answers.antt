use Rattle.std.proofs.Common.{arith}
use Rattle.ascii.proofs.Writing.{then}
use Rattle.ascii.proofs.writer.Writer.pair.Goals as goal

pub byte-requires-2 : goal.byte-requires-2
byte-requires-2 c = omega arith

pub returns : goal.returns
returns c = rw (← c.digit.ensures, ← c.digit-2.ensures) (then c.byte.ensures c.byte-2.ensures)
