use mir.Syntax.{w64}
use Rattle.std.proofs.lemmas.Int.{of_z-to_z}
use Rattle.word.proofs.Casts.{slt-cast}
use Rattle.word.proofs.slt.Goals as goal

pub returns : goal.returns
returns c = let a = c.args in
    let h = c.ranges.x.fits in
    let l = c.ranges.y.fits in
    rw (c.cast_signed.ensures, c.cast_signed-2.ensures, of_z-to_z w64 a.x h, of_z-to_z w64 a.y l) (slt-cast a.x a.y h l)
