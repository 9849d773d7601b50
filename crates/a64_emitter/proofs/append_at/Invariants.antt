use mathlib.Core.Path.{◌≡◌}
use lib.Seq.{paste}
use lib.ListN.{length}
use Rattle.a64_emitter.proofs.append_at.Given as goal

abbrev pub invariant-loop-i : goal.invariant-loop-i
invariant-loop-i l = (l.words ≡ paste l.initial.words l.at l.part-2 l.i) × (length l.words ≡ length l.initial.words)
