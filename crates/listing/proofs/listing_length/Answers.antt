use Rattle.std.proofs.Common.{arith, ◌*◌, ap, length}
use Rattle.le.specs.Le.{load}
use Rattle.listing.proofs.Bound.{line_bound}
use Rattle.listing.proofs.Lines.{inside, next-length, ended-listing}
use Rattle.listing.proofs.listing_length.Goals as goal

pub put_line-requires : goal.put_line-requires
put_line-requires c = let b = c.args.block.now in
    let l = c.loop-i in
    let o = inside b l.i (omega arith) l.invariant.0 in
    let n = c.new-out.ensures in
    rw c.load.ensures (omega (arith, line_bound (4 * l.i) (load 4 b (4 * l.i)) o.0, n.at, ap length n.bytes), o.0)

pub loop-i-preserved : goal.loop-i-preserved
loop-i-preserved c = let b = c.args.block.now in
    let l = c.loop-i in
    let o = inside b l.i (omega arith) l.invariant.0 in
    let p = rw c.load.ensures at c.put_line.ensures in
    let n = next-length b l.i (omega arith) in
    let z = c.new-out.ensures.at in (
      o.1,
      omega (arith, p.put.next, z),
      omega (arith, p.put.next, z, line_bound (4 * l.i) (load 4 b (4 * l.i)) o.0),
    )

pub returns : goal.returns
returns c = omega (arith, ap length (ended-listing c.args.block.now c.loop-i.i (omega arith)))
