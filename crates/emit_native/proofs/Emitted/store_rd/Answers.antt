use Rattle.emit_native.specs.Parts.{answer}
use Rattle.emit_native.proofs.Chains.{asked_store}
use Rattle.emit_native.proofs.Emitted.store_rd.Goals as goal

pub returns : goal.returns
unfolding answer
returns c = rw (c.emit_if-em.ensures, c.str_x-w.ensures, c.reg_off.ensures.0, c.stores.ensures) (rw asked_store)
