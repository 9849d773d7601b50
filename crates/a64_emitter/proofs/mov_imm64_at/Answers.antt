use native.Mathlib.Omega.{arith}
use Prim.Native.Nat.{◌+◌, ◌≤◌, ◌<◌}
use mathlib.Core.Path.{refl, sym, ◌∙◌}
use lib.ListN.{length, take, length-take}
use Rattle.a64_emitter.specs.Writers.{mov_imm64}
use Rattle.a64_emitter.proofs.Emission.{kept, constant_one, constant_length}
use Rattle.a64_emitter.proofs.mov_imm64_at.Goals.{then-words-n-via-then-words-n, then-words-n-via-else-words-n+then-words-n-2}
use Rattle.a64_emitter.proofs.mov_imm64_at.Goals as goal

pub returns-then-words-n : goal.returns-then-words-n
returns-then-words-n c = let s = c.args in
    let u1 = c.upper_count.ensures.1 s.rd 1 in
    let u2 = c.upper_count-2.ensures.1 s.rd 2 in
    let u3 = c.upper_count-3.ensures.1 s.rd 3 in
    let l = constant_length s.rd s.val _ _ _ u1 u2 u3 in
    let ws = mov_imm64 s.rd s.val in
    let few : length s.words.now < s.at + length ws = elim c.then-words-n.branch [
      | then-words-n-via-then-words-n w ↦ omega (arith, w.if-words-n.true)
      | then-words-n-via-else-words-n+then-words-n-2 w ↦ omega (arith, w.if-words-n-2.true)
    ] in
    record { holds = sym (kept _ s.words.now s.at ws refl few); room = λ h. h }

pub returns : goal.returns
returns c = let s = c.args in
    let u1 = c.upper_count.ensures.1 s.rd 1 in
    let u2 = c.upper_count-2.ensures.1 s.rd 2 in
    let u3 = c.upper_count-3.ensures.1 s.rd 3 in
    let l = constant_length s.rd s.val _ _ _ u1 u2 u3 in
    let h = take s.at s.words.now in
    let k = length-take s.at s.words.now in
    let q = c.if-words-n-2.false in
    let f : length h + length (mov_imm64 s.rd s.val) ≤ length s.words.now = omega (arith, c.if-words-n.false) in
    let e1 = c.emit_at-a.ensures in
    let e2 = c.upper_at-b.ensures in
    let e3 = c.upper_at-c.ensures in
    let e4 = c.upper_at.ensures in
    let l1 = c.emit_at-a.auto.words in
    let l2 = c.upper_at-b.auto.words ∙ l1 in
    let l3 = c.upper_at-c.auto.words ∙ l2 in
    let h2 = rw l1 at e2.holds in
    let h3 = rw l2 at e3.holds in
    let h4 = rw l3 at e4.holds in
    let r2 = rw l1 at e2.room in
    let r3 = rw l2 at e3.room in
    let r4 = rw l3 at e4.room in
    record {
      holds = rw (h4, h3, h2, e1.holds, c.movz.ensures) (constant_one (length s.words.now) h s.rd s.val f);
      room = λ h. r4 (r3 (r2 (e1.room h)));
    }
