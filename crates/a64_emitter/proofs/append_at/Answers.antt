use native.Mathlib.Omega.{arith}
use native.Mathlib.Numerals.{add-one}
use mathlib.Core.Path.{◌≡◌, sym, refl}
use lib.ListN.{take, length, length-set}
use lib.Seq.{paste-suc}
use Rattle.rules.specs.Limits.{instr_words}
use Rattle.a64_emitter.proofs.Emission.{emitted-none, pasted}
use Rattle.a64_emitter.proofs.append_at.Goals as goal

pub returns-then-len-eq0 : goal.returns-then-len-eq0
returns-then-len-eq0 c = let a = c.args in
    record { holds = rw c.if-len-eq0.true (sym (emitted-none _ (take a.at a.words.now))); room = λ h. h }

pub loop-i-preserved : goal.loop-i-preserved
loop-i-preserved c = let a = c.args in
    let l = c.loop-i in
    let lp = c.told-part in
    let lw = c.requires in
    let t = c.loop-i-test.true in
    let e = paste-suc a.words.now a.at a.part.now l.i 0 (omega arith) (omega arith) in
    (rw (l.invariant.0, e, add-one), rw length-set l.invariant.1)

pub returns : goal.returns
returns c = let a = c.args in
    let l = c.loop-i in
    let lp : length a.part.now ≡ instr_words = c.told-part in
    let lw = c.requires in
    let e : l.i ≡ instr_words = omega (arith, c.loop-i-test.false, l.auto.i-end) in
    record {
      holds = rw (l.invariant.0, e, c.min.ensures) (pasted _ instr_words a.words.now a.at a.part.now a.len refl lp c.requires);
      room = λ h. omega (arith, c.min.ensures);
    }
