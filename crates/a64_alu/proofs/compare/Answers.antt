use mathlib.Core.Bool.{xor}
use Rattle.a64_alu.specs.Alu.{compared}
use Rattle.a64_alu.proofs.Comparing.{difference-sub, z_law, c_law, v_law}
use Rattle.a64_alu.proofs.compare.Goals as goal

pub returns : goal.returns
unfolding xor compared
returns c = let a = c.args in
    let hx = c.ranges.x.fits in
    let hy = c.ranges.y.fits in
    rw (z_law a.x a.y hx hy, c_law a.x a.y hx hy, v_law a.x a.y hx hy, difference-sub a.x a.y hy, ← c.slt.ensures)
