use Rattle.std.proofs.Common.{arith, rules, ap, length}
use Rattle.ascii.proofs.Numbers.{one_digit, two_digits}
use Rattle.ascii.proofs.writer.Writer.short.Goals as goal

pub byte-requires : goal.byte-requires
byte-requires c = omega (arith, ap length (one_digit _ c.if-n-lt10.true))

pub returns-then-n-lt10 : goal.returns-then-n-lt10
returns-then-n-lt10 c = rw (one_digit _ c.if-n-lt10.true, ← c.digit.ensures) c.byte.ensures

pub pair-requires : goal.pair-requires
pair-requires c = (omega (arith, ap length (two_digits c.args.n (omega arith) (omega arith))), search rules)

pub returns-else-n-lt10 : goal.returns-else-n-lt10
returns-else-n-lt10 c = rw (two_digits c.args.n (omega arith) (omega arith)) c.pair.ensures
