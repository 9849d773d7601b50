use Rattle.std.proofs.Common.{◌≡◌, ◌-◌}
use Rattle.le.specs.Le.{bytes}
use Rattle.fnv1a.specs.Fnv1a as F
use Rattle.fnv1a.proofs.more64.Given as goal

abbrev pub invariant-loop : goal.invariant-loop
invariant-loop l = F.more l.h (bytes (8 - l.counter) l.rest) ≡ F.more l.initial.h (bytes 8 l.initial.rest)
