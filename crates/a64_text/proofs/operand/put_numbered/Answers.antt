use Rattle.ascii.proofs.Writing.{then}
use Rattle.a64_text.proofs.operand.put_numbered.Goals as goal

pub returns : goal.returns
returns c = then c.byte.ensures c.short.ensures
