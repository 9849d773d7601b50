use mathlib.Core.Path.{◌≡◌}
use lib.ListN.{length, take}
use Rattle.le.specs.Parts.{over}
use Rattle.a64_emitter.proofs.write_words.Given as goal

abbrev pub invariant-loop-i : goal.invariant-loop-i
invariant-loop-i l = (length l.out ≡ length l.initial.out) × (l.out ≡ over 4 (take l.i l.words) l.initial.out)
