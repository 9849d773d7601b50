use Rattle.std.proofs.Common.{arith}
use Rattle.ascii.proofs.Writing.{then}
use Rattle.ascii.proofs.Numbers.{pair_more, pairs_more, pair_more_length, pairs_more_length}
use Rattle.ascii.proofs.writer.Writer.decimal.Goals as goal

pub short-requires-then-n-lt10000 : goal.short-requires-then-n-lt10000
short-requires-then-n-lt10000 c = (omega (arith, pair_more_length c.args.n (omega arith) (omega arith)), omega arith)

pub pair-requires : goal.pair-requires
pair-requires c = (omega (arith, pair_more_length c.args.n (omega arith) (omega arith)), omega arith)

pub returns-then-n-lt10000 : goal.returns-then-n-lt10000
returns-then-n-lt10000 c =
    rw (pair_more c.args.n (omega arith) (omega arith)) (then c.short-then-n-lt10000.ensures c.pair.ensures)

pub short-requires-else-n-lt10000 : goal.short-requires-else-n-lt10000
short-requires-else-n-lt10000 c = (omega (arith, pairs_more_length c.args.n (omega arith) (omega arith)), omega arith)

pub pair-requires-else-n-lt10000 : goal.pair-requires-else-n-lt10000
pair-requires-else-n-lt10000 c = (omega (arith, pairs_more_length c.args.n (omega arith) (omega arith)), omega arith)

pub pair-requires-else-n-lt10000-2 : goal.pair-requires-else-n-lt10000-2
pair-requires-else-n-lt10000-2 c = (omega (arith, pairs_more_length c.args.n (omega arith) (omega arith)), omega arith)

pub returns-else-n-lt10000 : goal.returns-else-n-lt10000
returns-else-n-lt10000 c =
    rw (pairs_more c.args.n (omega arith) (omega arith))
    (then c.short-else-n-lt10000.ensures (then c.pair-else-n-lt10000.ensures c.pair-else-n-lt10000-2.ensures))
