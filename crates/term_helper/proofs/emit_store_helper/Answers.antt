use Rattle.term_helper.specs.TermHelper.{store_helper}
use Rattle.term_helper.proofs.emit_store_helper.Goals as goal

pub returns-in-Some : goal.returns-in-Some
unfolding store_helper
returns-in-Some c = rw (← c.store_op.ensures, c.in-Some.is) c.emit_store.ensures
