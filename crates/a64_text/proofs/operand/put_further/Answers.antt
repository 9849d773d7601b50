use Rattle.std.proofs.Common.{arith}
use Rattle.ascii.proofs.Writing.{then, wrote_nothing}
use Rattle.le.specs.Le.{bytes}
use Rattle.a64_text.proofs.Texts.{further-none, further-some}
use Rattle.a64_text.proofs.operand.put_further.Goals as goal

pub returns-in_default : goal.returns-in_default
returns-in_default c = let h = rw c.in_default.is at c.requires in rw (c.in_default.is, further-none) (wrote_nothing _ (omega arith))

pub number-requires : goal.number-requires
number-requires c = let h = rw c.in-Some.is at c.requires in let k = rw (further-some _) at h.0 in omega arith

pub put_register-requires : goal.put_register-requires
unfolding bytes
put_register-requires c = let h = rw c.in-Some.is at c.requires in let k = rw (further-some _) at h.0 in (omega arith, h.1)

pub returns-in-Some : goal.returns-in-Some
unfolding bytes
returns-in-Some c = rw (c.in-Some.is, further-some _) (then c.number.ensures c.put_register.ensures)
