-- The end of a block after the words of its instructions: they all fit. Assumes nothing.
use Rattle.std.proofs.Common.{◌≡◌, ℕ, ◌+◌, ◌≤◌, List, [], ◌∷◌, length, take, refl, ap, ◌∙◌, arith, length-take}
use mathlib.Core.List.{flatten}
use Rattle.rules.specs.Limits.{end_words, max_instrs}
use Rattle.word.specs.Word.{add}
use Rattle.a64_emitter.specs.Parts.{emitted_if, constant_if, in_turn}
use Rattle.a64_emitter.proofs.Emission.{in_turn-fits, still_held}
use Rattle.a64_emitter.specs.Writers.{ret}
use Rattle.emit_native.specs.declared.Host.{Host}
use Rattle.emit_native.specs.Calls.{Call, emit, mov_imm64, product, words_in, words}
use Rattle.emit_native.proofs.Size.{size, size-append, size-le}
use Rattle.jit_arm64.specs.declared.block.Stop.{Stop}
use Rattle.jit_arm64.specs.declared.block.Stop.TheVariants.{Limit, Ended, Helper, Uncovered, NotFetched}
use Rattle.jit_arm64.specs.declared.block.Walked.{Walked}
use Rattle.jit_arm64.specs.Fence.{fence}
use Rattle.jit_arm64.specs.Block.{return_calls, next_calls, end_calls}
use Rattle.jit_arm64.specs.Parts.{end_room, sets_next, has_return, fence_walk, Walks, Partly, BlockOf}
use Rattle.jit_arm64.proofs.Emitting.{small, words_append, words_size}
use Rattle.jit_arm64.proofs.Walking.{moved}

module _ (slot_offset : ℕ) where
  -- the count is one word, a PC at most four
  return_size : (count : ℕ) → count ≤ max_instrs → size slot_offset (return_calls count) ≤ 2
  return_size count few =
      let es : List Call = emit ret ∷ [] in
      omega (arith, size-append slot_offset (mov_imm64 1 count ∷ []) es, small slot_offset 1 count (omega arith), size-le slot_offset es)

  next-size : (pc count : ℕ) → count ≤ max_instrs → size slot_offset (next_calls pc count) ≤ end_words
  next-size pc count few =
      let cs : List Call = mov_imm64 0 pc ∷ [] in
      omega (arith, size-append slot_offset cs (return_calls count), size-le slot_offset cs, return_size count few)

  pub end-size : (why : Stop) (pc count : ℕ) → count ≤ max_instrs → size slot_offset (end_calls why pc count) ≤ end_room why
  unfolding end_calls end_room flatten
  end-size Helper pc count few = omega arith
  end-size Ended pc count few = return_size count few
  end-size Limit pc count few = next-size pc count few
  end-size Uncovered pc count few = next-size pc count few
  end-size NotFetched pc count few = next-size pc count few

  -- the end by its parts
  abbrev pub ends : Stop → ℕ → ℕ → List (List ℕ)
  ends why pc count = constant_if (sets_next why) 0 pc ∷ constant_if (has_return why) 1 count ∷ emitted_if (has_return why) ret ∷ []

  end_words_are : (why : Stop) (pc count : ℕ) → flatten (ends why pc count) ≡ words slot_offset (end_calls why pc count)
  unfolding words_in end_calls sets_next has_return constant_if emitted_if flatten
  end_words_are Helper pc count = refl
  end_words_are Ended pc count = refl
  end_words_are Limit pc count = refl
  end_words_are Uncovered pc count = refl
  end_words_are NotFetched pc count = refl

-- and after the words of the instructions
pub closed : {h : Host} {guest : List ℕ} {start limit : ℕ} {l : List ℕ} {pc m : ℕ} {r : Walked} {ws : List ℕ} → length l ≡ m
    → Walks h.slot_offset start (fence_walk product max_instrs h guest start limit) (fence product max_instrs h guest start limit) l r → pc ≡ add start r.i
    → ws ≡ in_turn m (take r.len l) (ends h.slot_offset r.stop pc r.n) → BlockOf h guest start limit ws r
closed {h} {guest} {start} {limit} {l} {pc} {m} {r} {ws} long v at e =
    let slot_offset = h.slot_offset in
    let w = fence_walk product max_instrs h guest start limit in
    let cs = end_calls r.stop pc r.n in
    let t : cs ≡ end_calls w.stop w.pc w.count = rw (at, v.pc, v.stop, v.count) in
    let room = v.room in
    let is = end_words_are slot_offset r.stop pc r.n in
    let s : length (flatten (ends slot_offset r.stop pc r.n)) ≡ size slot_offset cs = ap length is ∙ words_size slot_offset cs in
    let k : length (take r.len l) + length (flatten (ends slot_offset r.stop pc r.n)) ≤ m =
    omega (arith, length-take r.len l, end-size slot_offset r.stop pc r.n v.few) in
    record {
      holds = e ∙ in_turn-fits m (take r.len l) (ends slot_offset r.stop pc r.n) k ∙ rw (is, v.holds, t, words_append slot_offset w.calls (end_calls w.stop w.pc w.count)) refl;
      count = v.count;
      stop = v.stop;
      fence = v.fence;
    }

-- the words so far stay in front of whatever end was written
pub kept : {h : Host} {guest : List ℕ} {start limit : ℕ} {l l' : List ℕ} {m : ℕ} {r : Walked} (len : ℕ) (gs : List (List ℕ)) → length l ≡ m → length l' ≡ m
    → Partly h guest start limit l r → take len l' ≡ in_turn m (take r.len l) gs → Partly h guest start limit l' r
kept {h} {guest} {start} {limit} {l} {l'} {m} {r} len gs long long' v e =
    let room = v.here.room in
    record { here = moved v.here l' (still_held m r.len l l' len gs (omega arith) e) (omega arith); some = v.some }
