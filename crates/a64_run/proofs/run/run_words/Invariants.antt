use Rattle.std.proofs.Common.{◌≡◌, length}
use Rattle.a64_exec.specs.Parts.{held}
use Rattle.a64_run.specs.Run.{from}
use Rattle.a64_run.proofs.RunLaws.{Running}
use Rattle.a64_run.proofs.run.run_words.Given as goal

-- what is left of the run ends as the whole does, in the memory and registers that were lent
abbrev pub invariant-loop-k : goal.invariant-loop-k
invariant-loop-k l = record {
  running : Running (from l.block l.address l.first l.budget (held l.initial.machine)) l.block l.address l.first l.budget l.left (length l.initial.machine.memory.now) (held l.machine) l.k;
  x_lent : l.machine.x.ghost_name ≡ l.initial.machine.x.ghost_name;
  memory_lent : l.machine.memory.ghost_name ≡ l.initial.machine.memory.ghost_name;
}
