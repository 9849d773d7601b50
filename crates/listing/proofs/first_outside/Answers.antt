use Rattle.std.proofs.Common.{arith, ◌*◌, ◌≡◌, true, false, sym, ◌∙◌}
use Rattle.le.specs.Le.{load}
use Rattle.a64.specs.Forms.{decode}
use Rattle.listing.specs.Listing.{is_outside}
use Rattle.listing.proofs.Lines.{none, outside_one, outside-zero, next-outside, ended-outside}
use Rattle.listing.proofs.first_outside.Goals as goal

pub returns-then-count_outside-eq0-clause-none : goal.returns-then-count_outside-eq0-clause-none
returns-then-count_outside-eq0-clause-none c = none _ (sym c.count_outside.ensures ∙ c.if-count_outside-eq0.true)

pub returns-then-is_outside-eq1-clause-none : goal.returns-then-is_outside-eq1-clause-none
returns-then-is_outside-eq1-clause-none c = let b = c.args.block.now in
    let l = c.loop-i in
    let f = decode (load 4 b (4 * l.i)) in
    let q = rw c.load.ensures at c.is_outside.ensures in
    let k : is_outside f ≡ true = outside_one f (sym q ∙ c.if-is_outside-eq1.true) in
    sym l.invariant ∙ rw k at (next-outside b l.i (omega arith))

pub loop-i-preserved : goal.loop-i-preserved
loop-i-preserved c = let b = c.args.block.now in
    let l = c.loop-i in
    let f = decode (load 4 b (4 * l.i)) in
    let q = rw c.load.ensures at c.is_outside.ensures in
    let k : is_outside f ≡ false = outside-zero f (λ h. c.if-is_outside-eq1.false (q ∙ h)) in
    sym (rw k at (next-outside b l.i (omega arith))) ∙ l.invariant

pub returns-clause-none : goal.returns-clause-none
returns-clause-none c = sym c.loop-i.invariant ∙ ended-outside c.args.block.now c.loop-i.i (omega arith)
