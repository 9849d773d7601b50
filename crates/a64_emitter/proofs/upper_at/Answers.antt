use mathlib.Core.Path.{sym}
use Rattle.a64_emitter.proofs.Emission.{movk-none, movk-some, emitted-none}
use Rattle.a64_emitter.proofs.upper_at.Goals as goal

pub returns-then-p-eq0 : goal.returns-then-p-eq0
returns-then-p-eq0 c = record { holds = rw (movk-none _ _ _ c.if-p-eq0.true) (sym (emitted-none _ _)); room = λ h. h }

pub returns : goal.returns
returns c = rw (movk-some _ _ _ c.if-p-eq0.false) c.emit_at.ensures
