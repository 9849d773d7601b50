use Rattle.std.proofs.Common.{◌≡◌, sym, ◌∙◌, arith}
use borrow.Author.Tests.{eq-eqb, ne_eqb}
use Rattle.block_log.specs.Log as L
use Rattle.block_log.proofs.Walks.{walk_start, walk_none, walk_hit, walk-on, walk_end}
use Rattle.block_log.proofs.previous.Invariants.{before_p}
use Rattle.block_log.proofs.previous.Goals as goal

pub loop-q-init : goal.loop-q-init
loop-q-init c = let a = c.args in
    walk_start a.m.now (before_p a.m.now a.p.number) a.head.number a.head.in_log

pub returns-then-next-p : goal.returns-then-next-p
returns-then-next-p c = let a = c.args in
    let q = c.loop-q.q.number in
    let e = eq-eqb (L.next_at a.m.now q) a.p.number (sym c.next_at-next.ensures ∙ c.if-next-p.true) in
    sym (walk_hit a.m.now (before_p a.m.now a.p.number) q c.loop-q-test.true e) ∙ c.loop-q.invariant

pub returns-then-q-next : goal.returns-then-q-next
returns-then-q-next c = let a = c.args in
    let q = c.loop-q.q.number in
    let n = c.next_at-next.ensures in
    let e = ne_eqb (L.next_at a.m.now q) a.p.number (λ o. c.if-next-p.false (n ∙ o)) in
    c.new.ensures ∙ sym (walk_end a.m.now (before_p a.m.now a.p.number) q c.loop-q-test.true e (omega arith)) ∙ c.loop-q.invariant

pub loop-q-preserved : goal.loop-q-preserved
loop-q-preserved c = let a = c.args in
    let q = c.loop-q.q.number in
    let n = c.next_at-next.ensures in
    let e = ne_eqb (L.next_at a.m.now q) a.p.number (λ o. c.if-next-p.false (n ∙ o)) in
    rw n (sym (walk-on a.m.now (before_p a.m.now a.p.number) q c.loop-q-test.true e (omega (arith, n))) ∙ c.loop-q.invariant)

pub returns : goal.returns
returns c = let a = c.args in
    let q = c.loop-q.q.number in
    let z : q ≡ 0 = omega arith in
    z ∙ walk_none a.m.now (before_p a.m.now a.p.number) q _ z c.loop-q.invariant
