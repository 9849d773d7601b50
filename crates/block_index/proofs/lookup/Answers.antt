use Rattle.std.proofs.Common.{sym, refl}
use Rattle.block_index.proofs.Steps.{found_none, found_some}
use Rattle.block_index.proofs.Histories.{looks}
use Rattle.block_index.proofs.lookup.Goals as goal

pub returns-in-Some : goal.returns-in-Some
returns-in-Some c = let a = c.args in
    let h = c.in-Some.ensures in
    looks a.m.now a.space a.pc _ (rw c.entry_at.ensures (found_some a.m.now a.space a.pc c.in-Some.p.number h.0 h.1))

pub returns-in-None : goal.returns-in-None
returns-in-None c = let a = c.args in
    looks a.m.now a.space a.pc _ (found_none a.m.now a.space a.pc 0 (sym c.in-None.ensures) refl)
