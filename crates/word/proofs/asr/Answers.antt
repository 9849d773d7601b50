use Rattle.std.proofs.Common.{◌∙◌}
use mir.Syntax.{w64}
use Rattle.std.proofs.lemmas.Int.{of_z-to_z}
use Rattle.word.proofs.Casts.{asr-cast}
use Rattle.word.proofs.asr.Goals as goal

pub returns : goal.returns
returns c = let a = c.args in
    let h = c.ranges.x.fits in
    c.cast_unsigned.ensures ∙ rw (c.cast_signed.ensures, of_z-to_z w64 a.x h) (asr-cast a.x a.s h)
