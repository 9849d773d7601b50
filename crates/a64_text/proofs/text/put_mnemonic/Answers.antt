use native.Mathlib.Omega.{arith}
use Rattle.ascii.proofs.Writing.{then}
use Rattle.le.specs.Le.{bytes}
use Rattle.a64_text.proofs.Laying.{at_least_four, four, five, six}
use Rattle.a64_text.proofs.text.put_mnemonic.Goals as goal

pub number-requires : goal.number-requires
number-requires c = omega (arith, at_least_four c.args.m)

pub returns-else-rest-ne0 : goal.returns-else-rest-ne0
returns-else-rest-ne0 c = rw (four c.args.m (omega arith)) c.number.ensures

pub byte-requires : goal.byte-requires
unfolding bytes
byte-requires c = let h = rw (five c.args.m (omega arith) (omega arith)) at c.requires.0 in omega arith

pub returns-then-rest-ne0 : goal.returns-then-rest-ne0
returns-then-rest-ne0 c = rw (five c.args.m (omega arith) (omega arith)) (then c.number.ensures c.byte.ensures)

pub number-requires-then-rest-ge256 : goal.number-requires-then-rest-ge256
unfolding bytes
number-requires-then-rest-ge256 c = let h = rw (six c.args.m (omega arith)) at c.requires.0 in omega arith

pub returns-then-rest-ge256 : goal.returns-then-rest-ge256
returns-then-rest-ge256 c = rw (six c.args.m (omega arith)) (then c.number.ensures c.number-then-rest-ge256.ensures)
