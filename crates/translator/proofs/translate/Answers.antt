use borrow.Author.Rules.{rules}
use native.Mathlib.Omega.{arith}
use mathlib.Core.Path.{◌≡◌, sym, ap, ◌∙◌}
use lib.ListN.{length}
use Rattle.rules.specs.Limits.{short_words}
use Rattle.a64_emitter.specs.Parts.{block_words}
use Rattle.translator.proofs.Translating.{no_slots, no_limit, odd, not_fetched, not_covered, answered, clamped-block, few_bytes, no_halfword, other-stop, untouched, all_lent}
use Rattle.translator.proofs.translate.Goals as goal

pub returns-then-bad_slot_offset : goal.returns-then-bad_slot_offset
returns-then-bad_slot_offset c = let a = c.args in
    (no_slots a.host a.guest.now a.pc a.limit a.output.now (sym c.bad_slot_offset.ensures ∙ c.if-bad_slot_offset.true))

pub returns-then-limit-eq0 : goal.returns-then-limit-eq0
returns-then-limit-eq0 c = let a = c.args in
    (no_limit a.host a.guest.now a.pc a.limit c.ranges.pc.fits (sym c.bad_slot_offset.ensures ∙ c.if-bad_slot_offset.false) a.output.now c.if-limit-eq0.true)

pub returns-then-pc-eq1 : goal.returns-then-pc-eq1
returns-then-pc-eq1 c = let a = c.args in
    (odd a.host a.guest.now a.pc a.limit c.ranges.pc.fits (sym c.bad_slot_offset.ensures ∙ c.if-bad_slot_offset.false) c.if-limit-eq0.false a.output.now c.if-pc-eq1.true)

-- nothing was counted: no byte was written
pub returns-in-NotFetched : goal.returns-in-NotFetched
returns-in-NotFetched c = let a = c.args in
    let o = a.output.now in
    let k = c.room_of-room in
    let u = untouched k.result o c.finish-length.new.out (k.ensures.none c.if-done-eq0.true) c.finish-length.auto.out in
    rw u
    (not_fetched a.host a.guest.now a.pc a.limit c.ranges.pc.fits (sym c.bad_slot_offset.ensures ∙ c.if-bad_slot_offset.false) c.if-limit-eq0.false c.if-pc-eq1.false
    (clamped-block c.min-most.ensures (c.compile_native_block-found.ensures.whole c.if-done.false)) c.if-done-eq0.true o (no_halfword c.in-NotFetched.is))

pub returns-then-done-eq0 : goal.returns-then-done-eq0
returns-then-done-eq0 c = let a = c.args in
    let o = a.output.now in
    let k = c.room_of-room in
    let u = untouched k.result o c.finish-length.new.out (k.ensures.none c.if-done-eq0.true) c.finish-length.auto.out in
    rw u
    (not_covered a.host a.guest.now a.pc a.limit c.ranges.pc.fits (sym c.bad_slot_offset.ensures ∙ c.if-bad_slot_offset.false) c.if-limit-eq0.false c.if-pc-eq1.false
    (clamped-block c.min-most.ensures (c.compile_native_block-found.ensures.whole c.if-done.false)) c.if-done-eq0.true o (other-stop _ c.in_default.not-NotFetched))

pub answer_for-requires : goal.answer_for-requires
unfolding block_words
answer_for-requires c = let em = c.compile_native_block-found.result.em in
    let few = few_bytes short_words em.words em.len _ _ _ (search rules) c.finish-length.ensures in
    omega (arith, few)

pub returns : goal.returns
returns c = let a = c.args in
    let o = a.output.now in
    let k = c.room_of-room in
    let d = c.finish-length.new.out in
    let u = all_lent k.result o (k.ensures.all c.if-done.false c.if-done-eq0.false) in
    let n : length d ≡ length o = c.finish-length.auto.out ∙ ap length u.0 in
    rw (u.1 d)
    (answered (sym c.bad_slot_offset.ensures ∙ c.if-bad_slot_offset.false) (clamped-block c.min-most.ensures (c.compile_native_block-found.ensures.whole c.if-done.false)) c.if-done-eq0.false
    (rw u.0 at c.finish-length.ensures) (rw (u.1 d, n) at c.answer_for.ensures))
