use Rattle.std.proofs.Common.{sym, ◌∙◌}
use Rattle.block_log.proofs.Laws.{unlinked_head, unlinked_later}
use Rattle.block_log.proofs.unlink.Goals as goal

pub returns-then-head-p : goal.returns-then-head-p
returns-then-head-p c = let a = c.args in
    rw (c.store.ensures, c.next_at-next.ensures)
    (sym (unlinked_head a.m.now a.b a.p.number (sym c.cell-head.ensures ∙ c.if-head-p.true)))

pub returns : goal.returns
returns c = let a = c.args in
    let h = c.cell-head.ensures in
    rw (c.store-2.ensures, c.at.ensures, c.previous-q.ensures, h, c.next_at-next.ensures)
    (sym (unlinked_later a.m.now a.b a.p.number (λ e. c.if-head-p.false (h ∙ e))))
