use Rattle.std.proofs.Common.{arith}
use Rattle.block_log.proofs.Emptying.{zeros_before}
use Rattle.block_log.proofs.empty.Goals as goal

pub returns : goal.returns
returns c = zeros_before 4098 c.args.m.now _ (c.fill.ensures.after (λ y h. h)) (omega arith)
