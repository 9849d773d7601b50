-- Assumes nothing.
use Rattle.std.proofs.Common.{◌∙◌}
use Rattle.word.proofs.Counting.{trailing-low}
use Rattle.word.proofs.counts.ctzw.Goals as goal

pub returns : goal.returns
returns c = c.from.ensures ∙ trailing-low 32 c.args.x
