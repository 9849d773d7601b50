use Rattle.std.proofs.Common.{◌≡◌}
use Rattle.block_log.specs.Log as L
use Rattle.block_index.specs.Index.{block_at, slot_of}
use Rattle.block_index.proofs.slot_of.Given as goal

-- the walk from here ends as the whole does
abbrev pub invariant-loop-p : goal.invariant-loop-p
invariant-loop-p l =
    L.walk l.m (block_at l.m l.space l.pc) l.p.number l.p.number ≡ slot_of l.m l.space l.pc

abbrev pub decreases-loop-p : goal.decreases-loop-p
decreases-loop-p l = l.p.number
