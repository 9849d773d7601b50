use mathlib.Core.Path.{◌≡◌}
use lib.ListN.{take, length}
use Rattle.a64_emitter.proofs.copy_front.Given as goal

abbrev pub invariant-loop-i : goal.invariant-loop-i
invariant-loop-i l = (take l.i l.words ≡ take l.i l.from) × (length l.words ≡ length l.initial.words)
