use Rattle.std.proofs.Common.{◌∙◌, sym}
use mir.Syntax.{w64}
use native.Mathlib.Nat.{div-zero}
use mathlib.Core.Bool.{xor}
use Rattle.word.proofs.Signs.{signed-zero}
use Rattle.std.proofs.lemmas.Int.{of_z-to_z}
use Rattle.word.proofs.Casts.{sdiv-cast, nonzero}
use Rattle.word.specs.Word.{sign, magnitude, sdiv}
use Rattle.word.proofs.sdiv.Goals as goal

pub wrapping_div-quotient-requires : goal.wrapping_div-quotient-requires
wrapping_div-quotient-requires c = nonzero c.args.y _ c.cast_signed-2.ensures c.ranges.y.fits c.if-y-eq0.false

pub returns-then-y-eq0 : goal.returns-then-y-eq0
unfolding sdiv magnitude
returns-then-y-eq0 c = rw (c.if-y-eq0.true, div-zero) (sym (signed-zero (xor (sign c.args.x) (sign 0))))

pub returns : goal.returns
returns c = let a = c.args in
    let h = c.ranges.x.fits in
    let l = c.ranges.y.fits in
    c.cast_unsigned.ensures ∙ rw (c.wrapping_div-quotient.ensures, c.cast_signed.ensures, c.cast_signed-2.ensures, of_z-to_z w64 a.x h, of_z-to_z w64 a.y l) (sdiv-cast a.x a.y h l)
