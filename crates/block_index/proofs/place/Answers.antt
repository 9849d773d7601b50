use Rattle.std.proofs.Common.{sym, ◌∙◌, arith}
use Rattle.block_index.proofs.Steps.{place-refused, place-accepted}
use Rattle.block_index.proofs.Histories.{places}
use Rattle.block_index.proofs.place.Goals as goal

pub returns-then-refused : goal.returns-then-refused
returns-then-refused c = let a = c.args in
    places a.m.now a.store.now a.space a.pc a.count a.code.now _ _ _ (omega arith) (omega arith) (omega arith)
    (place-refused a.m.now a.store.now a.space a.pc a.count a.code.now (sym c.refused.ensures ∙ c.if-refused.true))

pub returns : goal.returns
returns c = let a = c.args in
    places a.m.now a.store.now a.space a.pc a.count a.code.now _ _ _ (omega arith) (omega arith) (omega arith)
    (rw (c.copy.ensures, c.insert.ensures)
    (place-accepted a.m.now a.store.now a.space a.pc a.count a.code.now c.start_for-start.result
    (sym c.refused.ensures ∙ c.if-refused.false) c.start_for-start.ensures.0))
