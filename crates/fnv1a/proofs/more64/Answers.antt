use Rattle.std.proofs.Common.{◌≡◌, ◌-◌, ◌+◌, suc, arith}
use Rattle.le.specs.Le.{bytes}
use Rattle.fnv1a.specs.Fnv1a as F
use Rattle.fnv1a.proofs.more64.Goals as goal

pub loop-preserved : goal.loop-preserved
unfolding F.more bytes
loop-preserved c = let l = c.loop in
    let e : 8 - l.counter ≡ suc (8 - (l.counter + 1)) = omega arith in
    rw c.step-h.ensures (rw e at l.invariant)

pub returns : goal.returns
unfolding F.more bytes
returns c = let e : 8 - c.loop.counter ≡ 0 = omega arith in rw e at c.loop.invariant
