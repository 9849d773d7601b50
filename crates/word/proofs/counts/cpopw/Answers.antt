-- Assumes nothing.
use Rattle.std.proofs.Common.{◌∙◌}
use Rattle.word.proofs.Counting.{ones_low}
use Rattle.word.proofs.counts.cpopw.Goals as goal

pub returns : goal.returns
returns c = c.from.ensures ∙ ones_low 32 c.args.x
