use borrow.Author.Rules.{rules}
use native.Mathlib.Omega.{arith}
use Rattle.ascii.proofs.Writing.{then}
use Rattle.le.specs.Le.{bytes}
use mathlib.Core.Path.{◌≡◌}
use Rattle.a64_text.specs.Operands.{register, operand}
use Rattle.a64_text.proofs.Texts.{numbered}
use Rattle.a64_text.proofs.operand.put_register.Goals as goal

pub put_numbered-requires : goal.put_numbered-requires
put_numbered-requires c = (rw (numbered _ c.if-n-lt31.true) at c.requires.0, search rules)

pub returns-then-n-lt31 : goal.returns-then-n-lt31
returns-then-n-lt31 c = rw (numbered _ c.if-n-lt31.true) c.put_numbered.ensures

pub number-requires : goal.number-requires
unfolding operand register
number-requires c = let h = rw c.if-n-eq31.true at c.requires.0 in omega arith

pub byte-requires : goal.byte-requires
unfolding operand register bytes
byte-requires c = let h = rw c.if-n-eq31.true at c.requires.0 in omega arith

pub returns-then-n-eq31 : goal.returns-then-n-eq31
unfolding operand register bytes
returns-then-n-eq31 c = rw c.if-n-eq31.true (then c.number.ensures c.byte.ensures)

pub number-requires-else-n-eq31 : goal.number-requires-else-n-eq31
unfolding operand register
number-requires-else-n-eq31 c = let s : c.args.n ≡ 32 = omega arith in let h = rw s at c.requires.0 in omega arith

pub returns-else-n-eq31 : goal.returns-else-n-eq31
unfolding operand register bytes
returns-else-n-eq31 c = let s : c.args.n ≡ 32 = omega arith in rw s c.number-else-n-eq31.ensures
