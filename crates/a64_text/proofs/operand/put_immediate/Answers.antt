use borrow.Author.Rules.{rules}
use native.Mathlib.Omega.{arith}
use lib.ListN.{length-append}
use Rattle.ascii.proofs.Writing.{then}
use Rattle.le.specs.Le.{bytes}
use Rattle.a64_text.proofs.operand.put_immediate.Goals as goal

pub byte-requires : goal.byte-requires
unfolding bytes
byte-requires c = omega (arith, simp length-append at c.requires.0)

pub decimal-requires : goal.decimal-requires
unfolding bytes
decimal-requires c = (omega (arith, simp length-append at c.requires.0), search rules)

pub returns : goal.returns
unfolding bytes
returns c = then c.number.ensures (then c.byte.ensures c.decimal.ensures)
