use Rattle.std.proofs.Common.{arith, ◌*◌}
use Rattle.le.specs.Le.{load}
use Rattle.a64.specs.Forms.{decode}
use Rattle.listing.proofs.Lines.{next-count, ended-count, outside_at_most}
use Rattle.listing.proofs.count_outside.Goals as goal

pub loop-i-preserved : goal.loop-i-preserved
loop-i-preserved c = let b = c.args.block.now in
    let l = c.loop-i in
    let q = rw c.load.ensures at c.is_outside-n.ensures in
    let w = decode (load 4 b (4 * l.i)) in
    (omega (arith, q, outside_at_most w), omega (arith, q, next-count b l.i (omega arith)))

pub returns : goal.returns
returns c = omega (arith, ended-count c.args.block.now c.loop-i.i (omega arith))
