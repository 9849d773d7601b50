use Rattle.std.proofs.Common.{arith}
use Rattle.ascii.proofs.Numbers.{hex-length}
use Rattle.ascii.proofs.writer.Writer.hex8.Goals as goal

pub number-requires : goal.number-requires
number-requires c = omega (arith, hex-length 8 c.args.v)

pub returns : goal.returns
returns c = rw (← c.hex_digits.ensures) c.number.ensures
