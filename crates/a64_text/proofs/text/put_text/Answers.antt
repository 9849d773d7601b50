use native.Mathlib.Omega.{arith}
use lib.ListN.{length-append}
use Rattle.ascii.proofs.Writing.{then}
use Rattle.a64_text.proofs.Laying.{laid_out}
use Rattle.a64_text.proofs.text.put_text.Goals as goal

pub put_mnemonic-requires : goal.put_mnemonic-requires
put_mnemonic-requires c = (omega (arith, simp length-append at (rw (laid_out _ _ c.assembly-a.ensures) at c.requires.0)), c.assembly-a.ensures.short)

pub put_register-requires : goal.put_register-requires
put_register-requires c = (omega (arith, simp length-append at (rw (laid_out _ _ c.assembly-a.ensures) at c.requires.0)), c.assembly-a.ensures.registers.0)

pub put_further-requires : goal.put_further-requires
put_further-requires c = (omega (arith, simp length-append at (rw (laid_out _ _ c.assembly-a.ensures) at c.requires.0)), c.assembly-a.ensures.registers.1)

pub put_further-requires-2 : goal.put_further-requires-2
put_further-requires-2 c = (omega (arith, simp length-append at (rw (laid_out _ _ c.assembly-a.ensures) at c.requires.0)), c.assembly-a.ensures.registers.2)

pub put_rest-requires : goal.put_rest-requires
put_rest-requires c = (omega (arith, simp length-append at (rw (laid_out _ _ c.assembly-a.ensures) at c.requires.0)), c.assembly-a.ensures.small)

pub returns : goal.returns
returns c = rw (laid_out _ _ c.assembly-a.ensures) (then c.put_mnemonic.ensures (then c.put_register.ensures (then c.put_further.ensures (then c.put_further-2.ensures c.put_rest.ensures))))
