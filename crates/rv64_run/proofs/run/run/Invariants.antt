use Prim.Native.Nat.{◌-◌}
use Rattle.rv64_run.proofs.Running.{Running}
use Rattle.rv64_run.proofs.run.run.Given as goal

abbrev pub invariant-loop-n : goal.invariant-loop-n
invariant-loop-n l = Running l.ignore_ebreak l.guest l.limit l.initial.h l.h l.at l.n

abbrev pub decreases-loop-n : goal.decreases-loop-n
decreases-loop-n l = l.limit - l.n
