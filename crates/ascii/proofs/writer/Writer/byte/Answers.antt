use Rattle.std.proofs.Common.{arith, refl, length-set}
use Rattle.ascii.proofs.Writing.{put-set}
use Rattle.ascii.proofs.writer.Writer.byte.Goals as goal

pub returns : goal.returns
returns c = record { same = refl; length = length-set _ _ _; put = put-set _ _ _ (omega arith) }
