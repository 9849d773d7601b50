use borrow.Author.Rules.{rules}
use native.Mathlib.Omega.{arith}
use Rattle.rules.specs.Limits.{max_words}
use Rattle.a64_emitter.specs.Parts.{block_words}
use Rattle.translator.proofs.Translating.{answered, clamped-block, few_bytes}
use Rattle.translator.proofs.go_on_long.Goals as goal

pub answer_for-requires : goal.answer_for-requires
unfolding block_words
answer_for-requires c = let em = c.continue_native_block-found.result.em in
    few_bytes max_words em.words em.len _ _ _ (search rules) c.finish-length.ensures

pub returns : goal.returns
returns c = let p = c.requires in
    let o = c.continue_native_block-found.ensures in
    let some = o.some in
    let kept = c.finish-length.auto.out in
    λ limit e. answered p.0 (clamped-block e o.whole) (λ z. omega arith) c.finish-length.ensures (rw kept at c.answer_for.ensures)
