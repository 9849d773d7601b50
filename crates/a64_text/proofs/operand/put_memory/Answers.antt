use borrow.Author.Rules.{rules}
use native.Mathlib.Omega.{arith}
use lib.ListN.{length-append}
use Rattle.ascii.proofs.Writing.{then}
use Rattle.le.specs.Le.{bytes}
use Rattle.a64_text.proofs.operand.put_memory.Goals as goal

pub byte-requires : goal.byte-requires
unfolding bytes
byte-requires c = omega (arith, simp length-append at c.requires.0)

pub put_x_sp-requires : goal.put_x_sp-requires
unfolding bytes
put_x_sp-requires c = (omega (arith, simp length-append at c.requires.0), search rules)

pub put_immediate-requires : goal.put_immediate-requires
unfolding bytes
put_immediate-requires c = (omega (arith, simp length-append at c.requires.0), search rules)

pub byte-requires-2 : goal.byte-requires-2
unfolding bytes
byte-requires-2 c = omega (arith, simp length-append at c.requires.0)

pub returns : goal.returns
unfolding bytes
returns c = then c.number.ensures (then c.byte.ensures (then c.put_x_sp.ensures (then c.put_immediate.ensures c.byte-2.ensures)))
