use Rattle.term_helper.specs.TermHelper.{emit_native_term_helper16}
use Rattle.term_helper.proofs.emit_native_term_helper16.Goals as goal

pub returns-then-supports : goal.returns-then-supports
unfolding emit_native_term_helper16
returns-then-supports c = rw (← c.supports.ensures, c.if-supports.true) c.emit_exec.ensures
