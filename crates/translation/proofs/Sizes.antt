-- How long a block may be. Assumes nothing.
use mathlib.Core.Path.{◌≡◌, refl}
use mathlib.Core.List.{List, ◌++◌, flatten}
use mathlib.Core.Option.{Option, none, some}
use Prim.Native.Nat.{ℕ, zero, suc, ◌+◌, ◌*◌, ◌≤◌, ◌<◌, min}
use native.Mathlib.Omega.{arith}
use lib.ListN.{length}
use Rattle.rules.specs.Limits.{max_instrs, inline_words, end_words, instr_words, longest}
use Rattle.word.specs.Word.{add}
use Rattle.emit_native.specs.declared.EmitFlow.{EmitFlow}
use Rattle.std.specs.Prelude.{Some, None}
use Rattle.emit_native.specs.Calls as Calls
use Rattle.emit_native.specs.declared.Host.{Host}
use Rattle.emit_native.specs.Calls.{Call, product, words, Emission}
use Rattle.emit_native.proofs.Size.{size, size-append, by}
use Rattle.a64_emitter.proofs.Emission.{length-bytes}
use Rattle.jit_arm64.specs.declared.block.Stop.{Stop}
use Rattle.jit_arm64.specs.Block.{Walk, fetch, size_of, emit_inline, emit_term_helper, helped, step, instr_walk, walk, end_calls, block_calls, block_of}
use Rattle.jit_arm64.specs.Fence.{is_fence_i}
use Rattle.jit_arm64.specs.Parts.{fence_walk, end_room}
use Rattle.jit_arm64.proofs.Emitting.{words_size, inline-size, inline-apart, helped-size}
use Rattle.jit_arm64.proofs.Ending.{end-size}
use Rattle.translation.proofs.Fences.{behind, cut, whole_cut}
use Rattle.translation.proofs.Whole.{walk_most}

module _ (h : Host) where
  abbrev o : ℕ
  o = h.slot_offset

  -- ---- an instruction

  pub inline-few : (pc instr : ℕ) → length (words o (emit_inline product h pc instr).calls) ≤ inline_words
  inline-few pc instr = omega (arith, words_size o (emit_inline product h pc instr).calls, inline-size o h pc instr)

  both_size : (pc instr n : ℕ) → n < max_instrs → size o ((emit_inline product h pc instr).calls ++ (emit_term_helper h pc instr n).calls) ≤ instr_words
  both_size pc instr n l = helped-size o _ _ (inline-size o h pc instr) (inline-apart o h pc instr n (omega arith))

  pub helper-few : (pc instr n : ℕ) → n < max_instrs → length (words o ((emit_inline product h pc instr).calls ++ (emit_term_helper h pc instr n).calls)) ≤ instr_words
  helper-few pc instr n l = omega (arith, words_size o ((emit_inline product h pc instr).calls ++ (emit_term_helper h pc instr n).calls), both_size pc instr n l)

  -- ---- a walk

  module _ (guest : List ℕ) (start : ℕ) where
    helped-few : (f : Calls.Flow) (cs : List Call) (n pc : ℕ) → size o (helped f cs n pc).calls ≡ size o cs
    unfolding helped
    helped-few (Some EmitFlow.Continue) cs n pc = refl
    helped-few (Some EmitFlow.Terminate) cs n pc = refl
    helped-few None cs n pc = refl

    step_few : (f : Calls.Flow) (e helper : Emission) (m n i k : ℕ) (rest : ℕ → ℕ → Walk) → ((j : ℕ) → size o (rest (suc n) j).calls ≤ inline_words * k)
        → size o e.calls ≤ inline_words → size o (e.calls ++ helper.calls) ≤ instr_words → size o (step f e helper m start n i rest).calls ≤ inline_words * suc k
    unfolding step
    step_few (Some EmitFlow.Continue) e helper m n i k rest few a b = omega (arith, size-append o e.calls (rest (suc n) (i + m)).calls, few (i + m))
    step_few (Some EmitFlow.Terminate) e helper m n i k rest few a b = omega arith
    step_few None e helper m n i k rest few a b = omega (arith, helped-few helper.flow (e.calls ++ helper.calls) n (add start i))

    instr_few : (f : Option ℕ) (n i k : ℕ) (rest : ℕ → ℕ → Walk) → n < max_instrs → ((j : ℕ) → size o (rest (suc n) j).calls ≤ inline_words * k)
        → size o (instr_walk product h f start n i rest).calls ≤ inline_words * suc k
    unfolding instr_walk flatten
    instr_few none n i k rest l few = omega arith
    instr_few (some instr) n i k rest l few =
        step_few _ _ _ (size_of instr) n i k rest few (inline-size o h (add start i) instr) (both_size (add start i) instr n l)

    walk-few : (k n i : ℕ) → n + k ≤ max_instrs → size o (walk product h guest start k n i).calls ≤ inline_words * k
    unfolding walk flatten
    walk-few zero n i l = omega arith
    walk-few (suc k) n i l = instr_few _ n i k (walk product h guest start k) (omega arith) (λ j. walk-few k (suc n) j (omega arith))

  -- FENCE.I leaves no more instructions than the limit

  behind_le : (f : Option ℕ) (rest : ℕ → ℕ) (k : ℕ) → ((size : ℕ) → rest size ≤ k) → behind f rest ≤ k
  unfolding behind
  behind_le none rest k l = omega arith
  behind_le (some instr) rest k l = by (is_fence_i instr) (λ t. rw t (omega arith)) (λ t. rw t (l (size_of instr)))

  cut_le : (guest : List ℕ) (start k i : ℕ) → cut guest start k i ≤ k
  unfolding cut
  cut_le guest start zero i = omega arith
  cut_le guest start (suc k) i = let e = behind_le (fetch (add start i) guest i) _ k (λ size. cut_le guest start k (i + size)) in omega arith

  -- ---- a block

  room-le : (why : Stop) → end_room why ≤ end_words
  unfolding end_room
  room-le Stop.Helper = omega arith
  room-le Stop.Ended = omega arith
  room-le Stop.Limit = omega arith
  room-le Stop.Uncovered = omega arith
  room-le Stop.NotFetched = omega arith

  module _ (guest : List ℕ) (pc limit : ℕ) where
    abbrev W : Walk
    W = fence_walk product max_instrs h guest pc limit

    pub block-few : length (block_of product h W).code ≤ 4 * longest (min limit max_instrs)
    block-few =
        let k = cut guest pc (min limit max_instrs) 0 in
        let c : W ≡ walk product h guest pc k 0 0 = whole_cut h guest pc limit max_instrs in
        let l = cut_le guest pc (min limit max_instrs) 0 in
        let n : W.count ≤ max_instrs = rw c (omega (arith, walk_most h guest pc k 0 0)) in
        let s : size o W.calls ≤ inline_words * k = rw c (walk-few guest pc k 0 0 (omega arith)) in
        let e = end-size o W.stop W.pc W.count n in
        let r = room-le W.stop in
        omega (
          arith,
          length-bytes (words o (block_calls W)),
          words_size o (block_calls W),
          size-append o W.calls (end_calls W.stop W.pc W.count),
          s,
          e,
          r,
        )
