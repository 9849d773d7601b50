use lib.ListN.{length, take, drop, length-set}
use native.Mathlib.Omega.{arith}
use Prim.Native.Nat.{ℕ, ◌+◌}
use mathlib.Core.Path.{◌≡◌}
use mathlib.Core.List.{List, append_assoc}
use native.Mathlib.Numerals.{add-one}
use lib.Seq.{paste, paste-suc, take-length}
use Rattle.le.specs.Le.{splice}
use Rattle.code_cache.proofs.copy.Goals as goal

-- all of the code
whole : (m : List ℕ) (at : ℕ) (s : List ℕ) → paste m at s (length s) ≡ splice m at s
unfolding splice
whole m at s = rw (take-length s) (append_assoc (take at m) s (drop (at + length s) m))

pub loop-i-preserved : goal.loop-i-preserved
loop-i-preserved c = let a = c.args in
    let l = c.loop-i in
    let r = c.requires in
    let t = c.loop-i-test.true in
    let e = paste-suc a.store.now a.at a.code.now l.i 0 (omega (arith, l.auto.i-end)) (omega (arith, l.auto.i-end)) in
    (rw (l.invariant.0, e, add-one), rw length-set l.invariant.1)

pub returns : goal.returns
returns c = let a = c.args in
    let l = c.loop-i in
    let e : l.i ≡ length a.code.now = omega (arith, c.loop-i-test.false, l.auto.i-end) in
    rw (l.invariant.0, e) (whole a.store.now a.at a.code.now)
