use Rattle.a64_text.proofs.Rows.{three}
use lib.Dec.{lit<}
use mathlib.Core.Path.{refl}
use Rattle.a64_text.specs.Parts.{mnemonic_bytes}
use Rattle.le.specs.Le.{bytes}
use Rattle.a64_text.proofs.assembly.op_assembly.Goals as goal

pub returns-in-Add : goal.returns-in-Add
unfolding mnemonic_bytes bytes
returns-in-Add c = rw (c.in-Add.is, c.row.ensures) (three _ _ "add" refl (lit< tt) tt _ _ _ c.requires.0 c.requires.1 c.requires.2)

pub returns-in-Sub : goal.returns-in-Sub
unfolding mnemonic_bytes bytes
returns-in-Sub c = rw (c.in-Sub.is, c.row-in-Sub.ensures) (three _ _ "sub" refl (lit< tt) tt _ _ _ c.requires.0 c.requires.1 c.requires.2)

pub returns-in-And : goal.returns-in-And
unfolding mnemonic_bytes bytes
returns-in-And c = rw (c.in-And.is, c.row-in-And.ensures) (three _ _ "and" refl (lit< tt) tt _ _ _ c.requires.0 c.requires.1 c.requires.2)

pub returns-in-Orr : goal.returns-in-Orr
unfolding mnemonic_bytes bytes
returns-in-Orr c = rw (c.in-Orr.is, c.row-in-Orr.ensures) (three _ _ "orr" refl (lit< tt) tt _ _ _ c.requires.0 c.requires.1 c.requires.2)

pub returns-in-Eor : goal.returns-in-Eor
unfolding mnemonic_bytes bytes
returns-in-Eor c = rw (c.in-Eor.is, c.row-in-Eor.ensures) (three _ _ "eor" refl (lit< tt) tt _ _ _ c.requires.0 c.requires.1 c.requires.2)

pub returns-in-Lslv : goal.returns-in-Lslv
unfolding mnemonic_bytes bytes
returns-in-Lslv c = rw (c.in-Lslv.is, c.row-in-Lslv.ensures) (three _ _ "lslv" refl (lit< tt) tt _ _ _ c.requires.0 c.requires.1 c.requires.2)

pub returns-in-Lsrv : goal.returns-in-Lsrv
unfolding mnemonic_bytes bytes
returns-in-Lsrv c = rw (c.in-Lsrv.is, c.row-in-Lsrv.ensures) (three _ _ "lsrv" refl (lit< tt) tt _ _ _ c.requires.0 c.requires.1 c.requires.2)

pub returns-in-Asrv : goal.returns-in-Asrv
unfolding mnemonic_bytes bytes
returns-in-Asrv c = rw (c.in-Asrv.is, c.row-in-Asrv.ensures) (three _ _ "asrv" refl (lit< tt) tt _ _ _ c.requires.0 c.requires.1 c.requires.2)

pub returns-in-Mul : goal.returns-in-Mul
unfolding mnemonic_bytes bytes
returns-in-Mul c = rw (c.in-Mul.is, c.row-in-Mul.ensures) (three _ _ "madd" refl (lit< tt) tt _ _ _ c.requires.0 c.requires.1 c.requires.2)

pub returns-in-Smulh : goal.returns-in-Smulh
unfolding mnemonic_bytes bytes
returns-in-Smulh c = rw (c.in-Smulh.is, c.row-in-Smulh.ensures) (three _ _ "smulh" refl (lit< tt) tt _ _ _ c.requires.0 c.requires.1 c.requires.2)

pub returns-in-Umulh : goal.returns-in-Umulh
unfolding mnemonic_bytes bytes
returns-in-Umulh c = rw (c.in-Umulh.is, c.row-in-Umulh.ensures) (three _ _ "umulh" refl (lit< tt) tt _ _ _ c.requires.0 c.requires.1 c.requires.2)

pub returns-in-Udiv : goal.returns-in-Udiv
unfolding mnemonic_bytes bytes
returns-in-Udiv c = rw (c.in-Udiv.is, c.row-in-Udiv.ensures) (three _ _ "udiv" refl (lit< tt) tt _ _ _ c.requires.0 c.requires.1 c.requires.2)

pub returns-in-Sdiv : goal.returns-in-Sdiv
unfolding mnemonic_bytes bytes
returns-in-Sdiv c = rw (c.in-Sdiv.is, c.row-in-Sdiv.ensures) (three _ _ "sdiv" refl (lit< tt) tt _ _ _ c.requires.0 c.requires.1 c.requires.2)

pub returns-in-Bic : goal.returns-in-Bic
unfolding mnemonic_bytes bytes
returns-in-Bic c = rw (c.in-Bic.is, c.row-in-Bic.ensures) (three _ _ "bic" refl (lit< tt) tt _ _ _ c.requires.0 c.requires.1 c.requires.2)

pub returns-in-Orn : goal.returns-in-Orn
unfolding mnemonic_bytes bytes
returns-in-Orn c = rw (c.in-Orn.is, c.row-in-Orn.ensures) (three _ _ "orn" refl (lit< tt) tt _ _ _ c.requires.0 c.requires.1 c.requires.2)

pub returns-in-Eon : goal.returns-in-Eon
unfolding mnemonic_bytes bytes
returns-in-Eon c = rw (c.in-Eon.is, c.row-in-Eon.ensures) (three _ _ "eon" refl (lit< tt) tt _ _ _ c.requires.0 c.requires.1 c.requires.2)

pub returns-in-Rorv : goal.returns-in-Rorv
unfolding mnemonic_bytes bytes
returns-in-Rorv c = rw (c.in-Rorv.is, c.row-in-Rorv.ensures) (three _ _ "rorv" refl (lit< tt) tt _ _ _ c.requires.0 c.requires.1 c.requires.2)
