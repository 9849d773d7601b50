use native.Mathlib.Omega.{arith}
use mathlib.Core.Path.{refl, sym}
use mathlib.Core.List.{[], ◌∷◌}
use Rattle.a64_emitter.proofs.Emission.{stored, kept}
use Rattle.a64_emitter.proofs.emit_at.Goals as goal

pub returns-then-at-words : goal.returns-then-at-words
returns-then-at-words c = let a = c.args in
    record { holds = stored _ a.words.now a.at a.w refl c.if-at-words.true; room = λ h. omega arith }

pub returns : goal.returns
returns c = let a = c.args in
    record { holds = sym (kept _ a.words.now a.at (a.w ∷ []) refl (omega arith)); room = λ h. h }
