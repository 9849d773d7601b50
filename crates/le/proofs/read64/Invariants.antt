use Rattle.std.proofs.Common.{◌≡◌, take}
use Rattle.le.specs.Le.{numbers}
use Rattle.le.proofs.read64.Given as goal

abbrev pub invariant-loop-i : goal.invariant-loop-i
invariant-loop-i l = take l.i l.x ≡ numbers 8 l.i l.b
