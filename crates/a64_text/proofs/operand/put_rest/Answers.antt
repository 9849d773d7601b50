use native.Mathlib.Omega.{arith}
use lib.ListN.{length-append}
use Rattle.ascii.proofs.Writing.{then, wrote_nothing}
use Rattle.le.specs.Le.{bytes}
use Rattle.ascii.specs.Ascii.{decimal_in}
use Rattle.a64_text.specs.Operands.{register, operand}
use Rattle.a64_text.specs.Text.{further}
use Rattle.a64_text.proofs.Texts.{shifted, memory, condition-text, condition-length, fields}
use Rattle.a64_text.proofs.operand.put_rest.Goals as goal

pub number-requires : goal.number-requires
unfolding further operand register decimal_in bytes
number-requires c = let h = rw c.in-Lsl0.is at c.requires in omega arith

pub number-requires-in-Xzr : goal.number-requires-in-Xzr
unfolding further operand register decimal_in bytes
number-requires-in-Xzr c = let h = rw c.in-Xzr.is at c.requires in omega arith

pub byte-requires : goal.byte-requires
unfolding further operand register decimal_in bytes
byte-requires c = let h = rw c.in-Xzr.is at c.requires in omega arith

pub put_shifted-requires : goal.put_shifted-requires
put_shifted-requires c = let h = rw c.in-Shifted.is at c.requires in (rw (shifted _ _) at h.0, h.1.0, h.1.1)

pub put_memory-requires : goal.put_memory-requires
put_memory-requires c = let h = rw c.in-Memory.is at c.requires in (rw (memory _ _) at h.0, h.1.0, h.1.1)

pub number-requires-in-Condition : goal.number-requires-in-Condition
number-requires-in-Condition c = let h = rw c.in-Condition.is at c.requires in let k = rw (condition-text _) at h.0 in omega arith

pub number-requires-in-Condition-2 : goal.number-requires-in-Condition-2
unfolding bytes
number-requires-in-Condition-2 c = let h = rw c.in-Condition.is at c.requires in let k = rw condition-length at (rw (condition-text _) at h.0) in omega arith

pub put_immediate-requires : goal.put_immediate-requires
put_immediate-requires c = let h = rw c.in-Fields.is at c.requires in (omega (arith, simp length-append at (rw (fields _ _) at h.0)), omega arith)

pub put_immediate-requires-in-Fields : goal.put_immediate-requires-in-Fields
put_immediate-requires-in-Fields c = let h = rw c.in-Fields.is at c.requires in (omega (arith, simp length-append at (rw (fields _ _) at h.0)), omega arith)

pub returns-in-None : goal.returns-in-None
unfolding further
returns-in-None c = rw c.in-None.is (wrote_nothing _ (omega arith))

pub returns-in-Lsl0 : goal.returns-in-Lsl0
unfolding further operand register decimal_in bytes
returns-in-Lsl0 c = rw c.in-Lsl0.is c.number.ensures

pub returns-in-Xzr : goal.returns-in-Xzr
unfolding further operand register decimal_in bytes
returns-in-Xzr c = rw c.in-Xzr.is (then c.number-in-Xzr.ensures c.byte.ensures)

pub returns-in-Shifted : goal.returns-in-Shifted
returns-in-Shifted c = rw (c.in-Shifted.is, shifted _ _) c.put_shifted.ensures

pub returns-in-Memory : goal.returns-in-Memory
returns-in-Memory c = rw (c.in-Memory.is, memory _ _) c.put_memory.ensures

pub returns-in-Condition : goal.returns-in-Condition
unfolding bytes
returns-in-Condition c = rw (c.in-Condition.is, condition-text _, ← c.condition.ensures) (then c.number-in-Condition.ensures c.number-in-Condition-2.ensures)

pub returns-in-Fields : goal.returns-in-Fields
returns-in-Fields c = rw (c.in-Fields.is, fields _ _) (then c.put_immediate.ensures c.put_immediate-in-Fields.ensures)
