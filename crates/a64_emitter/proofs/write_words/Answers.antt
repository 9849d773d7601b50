use native.Mathlib.Omega.{arith}
use borrow.Author.Rules.{rules}
use mathlib.Core.Path.{◌≡◌, refl, ◌∙◌}
use Rattle.le.specs.Le.{all_bytes}
use Rattle.le.proofs.Lists.{write_more}
use Rattle.a64_emitter.proofs.Emission.{all-written, none_written}
use Rattle.a64_emitter.proofs.write_words.Goals as goal

pub returns-then-out-n : goal.returns-then-out-n
returns-then-out-n c = let a = c.args in
    rw c.min-n.ensures (none_written _ a.words.now a.out.now a.len refl (rw c.min-n.ensures at c.if-out-n.true))

pub loop-i-init : goal.loop-i-init
unfolding all_bytes
loop-i-init c = search rules

pub loop-i-preserved : goal.loop-i-preserved
loop-i-preserved c = let a = c.args in
    let l = c.loop-i in
    let k = c.min-n.ensures in
    let s = c.store in
    let t = c.loop-i-test.true in
    (s.auto.s ∙ l.invariant.0, write_more 4 a.words.now a.out.now _ _ l.i (omega arith) l.invariant.1 s.ensures)

pub returns : goal.returns
returns c = let a = c.args in
    let l = c.loop-i in
    let k = c.min-n in
    let e : l.i ≡ k.result = omega (arith, c.loop-i-test.false, l.auto.i-end) in
    rw k.ensures (all-written _ a.words.now a.out.now a.len refl (rw k.ensures at c.if-out-n.false) _ (rw (e, k.ensures) at l.invariant.1))
