use Rattle.std.proofs.Common.{◌+◌, ◌≤◌, length, eqb, sym, refl, ap, ◌∙◌, arith, eq-eqb, eqb-true}
use borrow.Author.Tests.{eqb-false}
use Rattle.std.specs.Prelude.{Some}
use Rattle.emit_native.proofs.Size.{by}
use Rattle.rules.specs.Limits.{inline_words, end_words}
use Rattle.jit_arm64.specs.Parts.{is_full}
use Rattle.jit_arm64.proofs.Flows.{continues, no_flow, taken_most, taken-not-full}
use Rattle.jit_arm64.proofs.Fetching.{is_none, is_some, no_read}
use Rattle.jit_arm64.proofs.Walking.{at_limit, filled, not_fetched, size_4, on, by_end, by_fence, helped-on}
use Rattle.jit_arm64.proofs.block.walk.Goals.{then-lacks_room, then-lacks_room-via-then-lacks_room, then-lacks_room-via-else-lacks_room+then-n-most, else-lacks_room+else-n-most+in_default, else-lacks_room+else-n-most+in-Some+in_default-flow, else-lacks_room+else-n-most+in-Some+in-Some-flow+in-Terminate, else-lacks_room+else-n-most+in-Some+in-Some-flow+in_default-flow-2+then-is_fence_i}
use Rattle.jit_arm64.proofs.block.walk.Goals as goal

pub overflow_add-n : goal.overflow_add-n
overflow_add-n c = omega (arith, c.helped-n.ensures, taken_most c.emit_term_helper-helper.result.flow, c.requires.2, c.loop-host.invariant.0.upto)

pub overflow_add-i : goal.overflow_add-i
overflow_add-i c =
    let v = c.loop-host.invariant in
    let k = c.requires.2 in
    let room = c.lacks_room.ensures.1 c.if-lacks_room.false in
    let found = is_some _ c.fetch.ensures.found c.in-Some.is in
    let s = size_4 k v.0 v.2 c.if-n-most.false room refl found.0 found.1 in
    omega (arith, k, v.0.upto, v.0.near, s)

pub loop-host-preserved : goal.loop-host-preserved
loop-host-preserved c =
    let v = c.loop-host.invariant in
    let k = c.requires.2 in
    let room = c.lacks_room.ensures.1 c.if-lacks_room.false in
    let found = is_some _ c.fetch.ensures.found c.in-Some.is in (
      on k v.0 v.2 c.if-n-most.false room refl found.0 found.1 c.emit_native-out.ensures c.append_to-len-in-loop-host.auto.words c.append_to-len-in-loop-host.ensures (c.in-Some-flow.is ∙ ap Some (continues _ c.in_default-flow-2.not-Terminate)) (sym c.is_fence_i.ensures ∙ c.if-is_fence_i.false),
      v.1,
      omega (arith, v.2),
    )

pub returns : goal.returns
unfolding is_full
returns c =
    let v = c.loop-host.invariant in
    let k = c.requires.2 in
    let z : inline_words + end_words ≤ length c.loop-host.words = rw c.loop-host.auto.words c.requires.0 in
    let full = c.lacks_room.ensures in
    let at = c.loop-host.n in
    let last = c.args.most in
    rw c.is_full-full.ensures
    (elim c.if-lacks_room.branch [
      | then-lacks_room w ↦ rw (w.words-is, w.len-is, w.i-is, w.n-is, w.fence-is, w.stop-is, v.1)
          (elim w.then-lacks_room.branch [
            | then-lacks_room-via-then-lacks_room s ↦ by (eqb at last)
                (λ q. rw q (at_limit k v.0 v.2 (eqb-true at last q)))
                (λ q. let r = full.0 s.if-lacks_room.true in rw q (filled k v.0 v.2 z (eqb-false at last q) r _ _))
            | then-lacks_room-via-else-lacks_room+then-n-most s ↦
                let q = s.if-n-most.true in rw (eq-eqb at last q) (at_limit k v.0 v.2 q)
          ])
      | else-lacks_room+else-n-most+in_default w ↦
          let r = full.1 w.if-lacks_room.false in
          rw (w.words-is, w.len-is, w.i-is, w.n-is, w.fence-is, w.stop-is, v.1) (not_fetched k v.0 v.2 w.if-n-most.false r refl (is_none _ w.fetch.ensures.found (no_read _ w.in_default.not-Some)))
      | else-lacks_room+else-n-most+in-Some+in_default-flow w ↦
          let r = full.1 w.if-lacks_room.false in
          let found = is_some _ w.fetch.ensures.found w.in-Some.is in
          rw (w.words-is, w.len-is, w.i-is, w.n-is, w.fence-is, w.stop-is, w.helped-n.ensures, w.helper_stop-stop.ensures, taken-not-full w.emit_term_helper-helper.result.flow, v.1)
          (helped-on k v.0 v.2 w.if-n-most.false r refl found.0 found.1 w.emit_native-out.ensures (no_flow _ w.in_default-flow.not-Some) w.emit_term_helper-helper.ensures w.append_to-len.auto.words w.append_to-len.ensures _ refl)
      | else-lacks_room+else-n-most+in-Some+in-Some-flow+in-Terminate w ↦
          let r = full.1 w.if-lacks_room.false in
          let found = is_some _ w.fetch.ensures.found w.in-Some.is in
          rw (w.words-is, w.len-is, w.i-is, w.n-is, w.fence-is, w.stop-is, v.1)
          (by_end k v.0 v.2 w.if-n-most.false r refl found.0 found.1 w.emit_native-out.ensures w.append_to-len-in-loop-host.auto.words w.append_to-len-in-loop-host.ensures (w.in-Some-flow.is ∙ ap Some w.in-Terminate.is))
      | else-lacks_room+else-n-most+in-Some+in-Some-flow+in_default-flow-2+then-is_fence_i w ↦
          let r = full.1 w.if-lacks_room.false in
          let found = is_some _ w.fetch.ensures.found w.in-Some.is in
          rw (w.words-is, w.len-is, w.i-is, w.n-is, w.fence-is, w.stop-is)
          (by_fence k v.0 v.2 w.if-n-most.false r refl found.0 found.1 w.emit_native-out.ensures w.append_to-len-in-loop-host.auto.words w.append_to-len-in-loop-host.ensures (w.in-Some-flow.is ∙ ap Some (continues _ w.in_default-flow-2.not-Terminate)) (sym w.is_fence_i.ensures ∙ w.if-is_fence_i.true))
    ])
