use borrow.Author.Rules.{rules}
use native.Mathlib.Omega.{arith}
use lib.ListN.{length-append}
use Rattle.ascii.proofs.Writing.{then}
use Rattle.le.specs.Le.{bytes}
use Rattle.a64_text.proofs.operand.put_shifted.Goals as goal

pub number-requires-2 : goal.number-requires-2
unfolding bytes
number-requires-2 c = omega (arith, simp length-append at c.requires.0)

pub byte-requires : goal.byte-requires
unfolding bytes
byte-requires c = omega (arith, simp length-append at c.requires.0)

pub short-requires : goal.short-requires
unfolding bytes
short-requires c = (omega (arith, simp length-append at c.requires.0), search rules)

pub returns : goal.returns
unfolding bytes
returns c = then c.put_immediate.ensures (then c.number.ensures (then c.number-2.ensures (then c.byte.ensures c.short.ensures)))
