use Rattle.std.proofs.Common.{◌≡◌, ◌≤◌, length, take, sym, refl, ap, ◌∙◌, arith, rules}
use lib.Seq.{take-take}
use Rattle.word.specs.Word.{add}
use Rattle.rules.specs.Limits.{max_words, short_words}
use Rattle.a64_emitter.specs.Parts.{block_words, in_turn}
use Rattle.jit_arm64.proofs.Walking.{moved}
use Rattle.jit_arm64.proofs.Ending.{ends, closed}
use Rattle.jit_arm64.proofs.block.continue_native_block.Goals as goal

-- the words so far are in front of all that the short emitter can hold but for an end
pub walk_array-done-requires : goal.walk_array-done-requires
walk_array-done-requires c = let p = c.requires in
    let v = p.2.here in
    let n = c.args.from.len in
    let short : length c.args.before.now ≡ short_words = search rules in
    let long : length c.copy_front.new.words ≡ max_words = search rules in
    let g : n ≤ 240 = omega (arith, short, v.room) in
    let e : take n c.copy_front.new.words ≡ take n c.args.before.now = sym (take-take n 240 _ g) ∙ ap (take n) c.copy_front.ensures ∙ take-take n 240 _ g in
    (omega arith, (omega (arith, long), p.0, p.1, moved v _ e (omega (arith, long, g))))

pub returns : goal.returns
unfolding block_words
returns c = let a = c.args in
    let p = c.requires in
    let o = c.walk_array-done.ensures.onward in
    let r = c.walk_array-done.result in
    let l = c.walk_array-done.new.words in
    let long : length l ≡ max_words = c.walk_array-done.ensures.long in
    let em = c.emit_if-em.result in
    let gs = ends a.host.slot_offset r.stop (add a.start r.i) r.n in
    let e : take em.len em.words ≡ in_turn max_words (take r.len l) gs =
    rw (c.emit_if-em.ensures, c.mov_imm64_if-long-2.ensures, c.mov_imm64_if-long.ensures, c.sets_next.ensures, c.has_return.ensures, c.has_return-2.ensures, c.ret.ensures) refl in
    record {
      whole = closed long (o.whole (o.never (omega (arith, long)))) refl e;
      some = omega (arith, o.more, p.2.some);
    }
