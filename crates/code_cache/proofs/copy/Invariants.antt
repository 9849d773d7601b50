use mathlib.Core.Path.{◌≡◌}
use lib.Seq.{paste}
use lib.ListN.{length}
use Rattle.code_cache.proofs.copy.Given as goal

abbrev pub invariant-loop-i : goal.invariant-loop-i
invariant-loop-i l = (l.store ≡ paste l.initial.store l.at l.code l.i) × (length l.store ≡ length l.initial.store)
