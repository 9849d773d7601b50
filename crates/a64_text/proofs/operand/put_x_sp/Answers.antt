use borrow.Author.Rules.{rules}
use Rattle.le.specs.Le.{bytes}
use Rattle.a64_text.specs.Operands.{register}
use Rattle.a64_text.proofs.Texts.{numbered_or_sp}
use Rattle.a64_text.proofs.operand.put_x_sp.Goals as goal

pub put_numbered-requires : goal.put_numbered-requires
put_numbered-requires c = (rw (numbered_or_sp _ c.if-n-ne31.true) at c.requires.0, search rules)

pub returns-then-n-ne31 : goal.returns-then-n-ne31
returns-then-n-ne31 c = rw (numbered_or_sp _ c.if-n-ne31.true) c.put_numbered.ensures

pub number-requires : goal.number-requires
unfolding register
number-requires c = rw c.if-n-ne31.false at c.requires.0

pub returns-else-n-ne31 : goal.returns-else-n-ne31
unfolding register bytes
returns-else-n-ne31 c = rw c.if-n-ne31.false c.number.ensures
