use Rattle.std.proofs.Common.{sym, ◌∙◌, arith}
use Rattle.block_log.proofs.Walks.{walk_start, walk_none, walk_hit, walk-on, walk_end}
use Rattle.block_index.specs.Index.{block_at}
use Rattle.block_index.proofs.slot_of.Goals as goal

pub loop-p-init : goal.loop-p-init
loop-p-init c = let a = c.args in
    let p = c.cell-p.result in
    rw (← c.bucket.ensures.0, ← c.cell-p.ensures)
    (walk_start a.m.now (block_at a.m.now a.space a.pc) p.number p.in_log)

pub returns-then-block_at : goal.returns-then-block_at
returns-then-block_at c = let a = c.args in
    let q = c.loop-p.p.number in (
      sym (walk_hit a.m.now (block_at a.m.now a.space a.pc) q c.loop-p-test.true
          (sym c.block_at.ensures ∙ c.if-block_at.true)) ∙ c.loop-p.invariant,
      c.loop-p-test.true,
    )

pub returns-then-p-next : goal.returns-then-p-next
returns-then-p-next c = let a = c.args in
    sym c.loop-p.invariant
    ∙ walk_end a.m.now (block_at a.m.now a.space a.pc) c.loop-p.p.number c.loop-p-test.true (sym c.block_at.ensures ∙ c.if-block_at.false)
    (omega (arith, c.next_at-next.ensures))

pub loop-p-preserved : goal.loop-p-preserved
loop-p-preserved c = let a = c.args in
    rw c.next_at-next.ensures
    (sym
    (walk-on a.m.now (block_at a.m.now a.space a.pc) c.loop-p.p.number c.loop-p-test.true
    (sym c.block_at.ensures ∙ c.if-block_at.false) (omega (arith, c.next_at-next.ensures)))
    ∙ c.loop-p.invariant)

pub returns : goal.returns
returns c = let a = c.args in
    sym (walk_none a.m.now (block_at a.m.now a.space a.pc) c.loop-p.p.number _ (omega arith) c.loop-p.invariant)
