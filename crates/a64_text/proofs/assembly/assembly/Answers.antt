use native.Mathlib.Omega.{arith}
use Rattle.a64_text.proofs.Rows.{one, two, three, both_sp}
use lib.Dec.{lit<}
use mathlib.Core.Path.{refl}
use Rattle.a64_text.specs.Parts.{mnemonic_bytes}
use Rattle.le.specs.Le.{bytes}
use Rattle.a64_text.proofs.assembly.assembly.Goals as goal

pub returns-in-Ldr : goal.returns-in-Ldr
unfolding mnemonic_bytes bytes
returns-in-Ldr c = let h = rw c.in-Ldr.is at c.requires.fits in rw (c.in-Ldr.is, c.row.ensures) (one _ _ "ldr" refl (lit< tt) (omega arith, omega arith) _ h.0)

pub returns-in-Str : goal.returns-in-Str
unfolding mnemonic_bytes bytes
returns-in-Str c = let h = rw c.in-Str.is at c.requires.fits in rw (c.in-Str.is, c.row-in-Str.ensures) (one _ _ "str" refl (lit< tt) (omega arith, omega arith) _ h.0)

pub returns-in-Movz : goal.returns-in-Movz
unfolding mnemonic_bytes bytes
returns-in-Movz c = let h = rw c.in-Movz.is at c.requires.fits in rw (c.in-Movz.is, c.row-in-Movz.ensures) (one _ _ "movz" refl (lit< tt) (omega arith, omega arith) _ h.0)

pub returns-in-Movk : goal.returns-in-Movk
unfolding mnemonic_bytes bytes
returns-in-Movk c = let h = rw c.in-Movk.is at c.requires.fits in rw (c.in-Movk.is, c.row-in-Movk.ensures) (one _ _ "movk" refl (lit< tt) (omega arith, omega arith) _ h.0)

pub returns-in-Cmp : goal.returns-in-Cmp
unfolding mnemonic_bytes bytes
returns-in-Cmp c = let h = rw c.in-Cmp.is at c.requires.fits in rw (c.in-Cmp.is, c.row-in-Cmp.ensures) (three _ _ "subs" refl (lit< tt) tt _ _ _ (lit< tt) h.0 h.1)

pub returns-in-Csel : goal.returns-in-Csel
unfolding mnemonic_bytes bytes
returns-in-Csel c = let h = rw c.in-Csel.is at c.requires.fits in rw (c.in-Csel.is, c.row-in-Csel.ensures) (three _ _ "csel" refl (lit< tt) tt _ _ _ h.0 h.1 h.2)

pub returns-in-Sxtw : goal.returns-in-Sxtw
unfolding mnemonic_bytes bytes
returns-in-Sxtw c = let h = rw c.in-Sxtw.is at c.requires.fits in rw (c.in-Sxtw.is, c.row-in-Sxtw.ensures) (two _ _ "sbfm" refl (lit< tt) (lit< tt, lit< tt) _ _ h.0 h.1)

pub returns-in-AddSp : goal.returns-in-AddSp
unfolding mnemonic_bytes bytes
returns-in-AddSp c = let h = rw c.in-AddSp.is at c.requires.fits in rw (c.in-AddSp.is, c.row-in-AddSp.ensures) (both_sp _ _ "add" refl (lit< tt) (omega arith, omega arith))

pub returns-in-SubSp : goal.returns-in-SubSp
unfolding mnemonic_bytes bytes
returns-in-SubSp c = let h = rw c.in-SubSp.is at c.requires.fits in rw (c.in-SubSp.is, c.row-in-SubSp.ensures) (both_sp _ _ "sub" refl (lit< tt) (omega arith, omega arith))

pub returns-in-Blr : goal.returns-in-Blr
unfolding mnemonic_bytes bytes
returns-in-Blr c = let h = rw c.in-Blr.is at c.requires.fits in rw (c.in-Blr.is, c.row-in-Blr.ensures) (one _ _ "blr" refl (lit< tt) tt _ h)

pub returns-in-Ret : goal.returns-in-Ret
unfolding mnemonic_bytes bytes
returns-in-Ret c = rw (c.in-Ret.is, c.row-in-Ret.ensures) (one _ _ "ret" refl (lit< tt) tt _ (lit< tt))
