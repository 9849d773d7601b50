use Rattle.term_helper.specs.TermHelper.{load_helper}
use Rattle.term_helper.proofs.emit_load_helper.Goals as goal

pub returns-in-Some : goal.returns-in-Some
unfolding load_helper
returns-in-Some c = rw (← c.load_op.ensures, c.in-Some.is) c.emit_load.ensures
