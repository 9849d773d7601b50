use Rattle.std.proofs.Common.{◌≡◌, ◌-◌, ◌≤◌, false}
use Rattle.jit_arm64.specs.Parts.{Walking}
use Rattle.jit_arm64.proofs.block.walk.Given as goal

abbrev pub invariant-loop-host : goal.invariant-loop-host
invariant-loop-host l = Walking l.host l.guest l.start l.most l.words l.len l.i l.n × (l.fence ≡ false) × (l.initial.n ≤ l.n)

abbrev pub decreases-loop-host : goal.decreases-loop-host
decreases-loop-host l = l.most - l.n
