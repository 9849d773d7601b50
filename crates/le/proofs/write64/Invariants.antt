use Rattle.std.proofs.Common.{◌≡◌, take}
use Rattle.le.specs.Parts.{over}
use Rattle.le.proofs.write64.Given as goal

abbrev pub invariant-loop-i : goal.invariant-loop-i
invariant-loop-i l = l.b ≡ over 8 (take l.i l.x) l.initial.b
