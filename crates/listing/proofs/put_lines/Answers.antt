use Rattle.std.proofs.Common.{arith, rules, ◌≡◌, List, ℕ, sym, ap, ◌∙◌, length}
use Rattle.le.proofs.Splices.{splice_nothing}
use Rattle.listing.proofs.Lines.{inside, next-length, ended-listing, splice-next}
use Rattle.listing.proofs.put_lines.Goals as goal

pub put_line-requires : goal.put_line-requires
put_line-requires c = let b = c.args.block.now in
    let l = c.loop-i in
    let n = c.new-lines.ensures in
    rw c.load.ensures (omega (arith, next-length b l.i (omega arith), ap length n.bytes), (inside b l.i (omega arith) l.invariant.0).0)

pub loop-i-preserved : goal.loop-i-preserved
loop-i-preserved c = let b = c.args.block.now in
    let l = c.loop-i in
    let p = rw c.load.ensures at c.put_line.ensures in
    let n = next-length b l.i (omega arith) in (
      (inside b l.i (omega arith) l.invariant.0).1,
      omega (arith, p.put.next),
      splice-next b l.i (omega arith) p.put ∙ l.invariant.2,
      p.length ∙ l.invariant.3,
      p.same ∙ l.invariant.4,
    )

by_way : {m m' : List ℕ} (x : List ℕ) → m ≡ x → x ≡ m' → m ≡ m'
by_way x p q = p ∙ q

pub returns : goal.returns
returns c = let l = c.loop-i in
    let n = c.new-lines.ensures in
    let e = ended-listing c.args.block.now l.i (omega arith) in
    let same : l.lines.out.ghost_name ≡ c.new-lines.result.out.ghost_name = l.invariant.4 in
    record {
      written = by_way l.lines.out.now (search rules) (sym (splice_nothing l.lines.out.now l.lines.at) ∙ rw e at l.invariant.2 ∙ rw n.bytes);
      next = omega (arith, ap length e);
      room = omega arith;
    }
