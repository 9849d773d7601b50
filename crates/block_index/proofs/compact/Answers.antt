use Rattle.std.proofs.Common.{◌≡◌, ◌+◌, ◌-◌, sym, ◌∙◌, arith}
use Rattle.block_index.proofs.Steps.{reinserted_step}
use Rattle.block_index.specs.Index.{reinserted}
use Rattle.block_index.proofs.compact.Goals as goal

pub loop-p-preserved : goal.loop-p-preserved
loop-p-preserved c = let l = c.loop-p in
    rw c.reinsert_at.ensures (sym (reinserted_step l.m c.used-n.result.number l.p (omega arith)) ∙ l.invariant)

pub returns : goal.returns
unfolding reinserted
returns c = let l = c.loop-p in
    let z : c.used-n.result.number + 1 - l.p ≡ 0 = omega arith in
    rw z at l.invariant ∙ rw (c.empty.ensures, c.used-n.ensures)

pub returns-2 : goal.returns-2
unfolding reinserted
returns-2 c = let l = c.loop-p in
    let z : c.used-n.result.number + 1 - (l.p + 1) ≡ 0 = omega arith in
    let e = rw z at (reinserted_step l.m c.used-n.result.number l.p (omega arith)) in
    rw c.reinsert_at.ensures (sym e ∙ l.invariant ∙ rw (c.empty.ensures, c.used-n.ensures))
