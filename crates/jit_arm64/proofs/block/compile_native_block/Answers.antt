use Rattle.std.proofs.Common.{◌≡◌, length, take, refl, arith, rules}
use Rattle.word.specs.Word.{add}
use Rattle.rules.specs.Limits.{short_words}
use Rattle.a64_emitter.specs.Parts.{block_words, in_turn}
use Rattle.jit_arm64.proofs.Walking.{begin}
use Rattle.jit_arm64.proofs.Ending.{ends, closed, kept}
use Rattle.jit_arm64.proofs.block.compile_native_block.Goals as goal

pub walk_array-done-requires : goal.walk_array-done-requires
walk_array-done-requires c =
    let long : length c.new-em.result.words ≡ short_words = search rules in
    (omega arith, (omega (arith, long), c.requires.0, c.requires.1, begin _ _ _ _ _ (omega (arith, long)) c.ranges.start.fits refl refl refl))

pub returns : goal.returns
unfolding block_words
returns c = let a = c.args in
    let o = c.walk_array-done.ensures.onward in
    let r = c.walk_array-done.result in
    let l = c.walk_array-done.new.words in
    let long : length l ≡ short_words = c.walk_array-done.ensures.long in
    let em = c.emit_if-em.result in
    let gs = ends a.host.slot_offset r.stop (add a.start r.i) r.n in
    let e : take em.len em.words ≡ in_turn short_words (take r.len l) gs =
    rw (c.emit_if-em.ensures, c.mov_imm64_if-em-2.ensures, c.mov_imm64_if-em.ensures, c.sets_next.ensures, c.has_return.ensures, c.has_return-2.ensures, c.ret.ensures) refl in
    record {
      whole = λ f. closed long (o.whole f) refl e;
      part = λ f. kept em.len gs long (search rules) (o.part f) e;
    }
