use Rattle.a64_text.proofs.Rows.{two}
use lib.Dec.{lit<}
use mathlib.Core.Path.{refl}
use Rattle.a64_text.specs.Parts.{mnemonic_bytes}
use Rattle.le.specs.Le.{bytes}
use Rattle.a64_text.proofs.assembly.op1_assembly.Goals as goal

pub returns-in-Rev : goal.returns-in-Rev
unfolding mnemonic_bytes bytes
returns-in-Rev c = rw (c.in-Rev.is, c.row.ensures) (two _ _ "rev" refl (lit< tt) tt _ _ c.requires.0 c.requires.1)

pub returns-in-Clz : goal.returns-in-Clz
unfolding mnemonic_bytes bytes
returns-in-Clz c = rw (c.in-Clz.is, c.row-in-Clz.ensures) (two _ _ "clz" refl (lit< tt) tt _ _ c.requires.0 c.requires.1)
