use Rattle.a64_emitter.proofs.Emission.{movk_count}
use Rattle.a64_emitter.proofs.upper_count.Goals as goal

pub returns : goal.returns
returns c = rw c.from.ensures (movk_count c.args.p)
