use Rattle.std.proofs.Common.{◌≡◌, ◌+◌, ◌-◌}
use Rattle.block_index.specs.Index.{reinserted}
use Rattle.block_index.proofs.compact.Given as goal

-- the reinserting from here ends as the whole does
abbrev pub invariant-loop-p : goal.invariant-loop-p
invariant-loop-p l = reinserted l.m (l.n + 1 - l.p) l.p ≡ reinserted l.initial.m l.n 1
