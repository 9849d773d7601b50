-- Demand 3 for the block of a walk, at the limit that FENCE.I leaves. Assumes nothing.
use mathlib.Core.Path.{◌≡◌, refl, sym, ap, ◌∙◌}
use mathlib.Core.Bool.{true, false}
use mathlib.Core.Logic.{inl, inr}
use mathlib.Core.List.{List, [], ◌∷◌, ◌++◌, map, append_assoc, flatten}
use mathlib.Core.Option.{Option, none, some}
use Prim.Native.Nat.{ℕ, zero, suc, ◌+◌, ◌%◌, ◌^◌, ◌≤◌, ◌<◌, min}
use native.Mathlib.Omega.{arith}
use lib.ListN.{length, get_or, length-append}
use borrow.Author.Tests.{ne_eqb, le-leb, lt-leb}
use Rattle.rules.specs.Limits.{max_instrs, max_slot_offset}
use Rattle.word.specs.Word.{add}
use Rattle.le.specs.Le.{Bytes}
use Rattle.a64_emitter.specs.Emitter.{bytes}
use Rattle.a64_emitter.specs.Writers.{ret}
use Rattle.a64_run.specs.declared.run.End.{End}
use Rattle.a64_exec.specs.Exec.{State, reg}
use Rattle.a64_run.specs.Run as A64
use Rattle.a64_run.proofs.Straight.{Straight, straight_append}
use Rattle.rv64_run.specs.declared.run.Ran.{Ran}
use Rattle.rv64_run.specs.Run as Rv64
use Rattle.emit_native.specs.declared.Host.{Host}
use Rattle.emit_native.specs.declared.EmitFlow.{EmitFlow}
use Rattle.std.specs.Prelude.{Some, None}
use Rattle.emit_native.specs.Calls as Calls
use Rattle.emit_native.specs.Calls.{Call, emit, mov_imm64, product, words_in, words, Emission}
use Rattle.jit_arm64.specs.declared.block.Stop.{Stop}
use Rattle.jit_arm64.specs.Block.{Walk, size_of, step, instr_walk, walk, end_calls, block_calls, whole_walk, block_of}
use Rattle.jit_arm64.specs.Fence.{fence, limit_at}
use Rattle.jit_arm64.specs.Parts.{fence_walk}
use Rattle.jit_arm64.proofs.Emitting.{words_append}
use Rattle.translation.specs.Demand3.{Entry, Ends, Demand3}
use Rattle.translation.proofs.Registers.{getD_tab}
use Rattle.translation.proofs.Calls.{Model, calls-run, scratch, all_keep, Kept, calls-kept, real}
use Rattle.translation.proofs.Moves.{Move, constant, move_call, all_moved, with_r, moves_go}
use Rattle.translation.proofs.Fences.{helped_most}
use Rattle.translation.proofs.Blocks.{next_calls, walk-calls, Walks, Follow}
use Rattle.translation.proofs.Entering.{words-bytes, straight_words, to_return, entered, Begun, kept, begins, block_walks}

-- ---- the end of a block

ending_is : (why : Stop) (pc n : ℕ) → (why ≡ Stop.Helper → ⊥) → end_calls why pc n ≡ next_calls why pc ++ (mov_imm64 1 n ∷ emit ret ∷ [])
unfolding end_calls next_calls
ending_is Stop.Helper pc n t = absurd (t refl)
ending_is Stop.Ended pc n t = refl
ending_is Stop.Limit pc n t = refl
ending_is Stop.Uncovered pc n t = refl
ending_is Stop.NotFetched pc n t = refl

-- the count goes into X1, then the return
abbrev counts : Walk → List Move
counts w = constant 1 w.count ∷ []

abbrev counted : ℕ → Walk → List ℕ
counted o w = words o (walk-calls w) ++ words o (map move_call (counts w))

pub block_is : (w : Walk) → (w.stop ≡ Stop.Helper → ⊥) → block_calls w ≡ walk-calls w ++ (mov_imm64 1 w.count ∷ emit ret ∷ [])
block_is w free =
    ap (λ (l : List Call). w.calls ++ l) (ending_is w.stop w.pc w.count free)
    ∙ sym (append_assoc w.calls (next_calls w.stop w.pc) (mov_imm64 1 w.count ∷ emit ret ∷ []))

block_words : (o : ℕ) (w : Walk) → (w.stop ≡ Stop.Helper → ⊥) → words o (block_calls w) ≡ counted o w ++ (ret ∷ [])
unfolding words_in flatten
block_words o w free =
    ap (words o) (block_is w free)
    ∙ words_append o (walk-calls w) (map move_call (counts w) ++ (emit ret ∷ []))
    ∙ ap (λ (l : List ℕ). words o (walk-calls w) ++ l) (words_append o (map move_call (counts w)) (emit ret ∷ []))
    ∙ sym (append_assoc (words o (walk-calls w)) (words o (map move_call (counts w))) (ret ∷ []))

-- ---- the count is at most the limit

step_most : (f : Calls.Flow) (e helper : Emission) (m start n i k : ℕ) (rest : ℕ → ℕ → Walk) → ((j : ℕ) → (rest (suc n) j).count ≤ suc n + k) → (step f e helper m start n i rest).count ≤ n + suc k
unfolding step
step_most (Some EmitFlow.Continue) e helper m start n i k rest h = omega (arith, h (i + m))
step_most (Some EmitFlow.Terminate) e helper m start n i k rest h = omega arith
step_most None e helper m start n i k rest h = omega (arith, helped_most helper.flow (e.calls ++ helper.calls) n (add start i))

instr_most : (h : Host) (f : Option ℕ) (start n i k : ℕ) (rest : ℕ → ℕ → Walk) → ((j : ℕ) → (rest (suc n) j).count ≤ suc n + k) → (instr_walk product h f start n i rest).count ≤ n + suc k
unfolding instr_walk
instr_most h none start n i k rest l = omega arith
instr_most h (some instr) start n i k rest l = step_most _ _ _ (size_of instr) start n i k rest l

pub walk_most : (h : Host) (guest : List ℕ) (start k n i : ℕ) → (walk product h guest start k n i).count ≤ n + k
unfolding walk
walk_most h guest start zero n i = omega arith
walk_most h guest start (suc k) n i = instr_most h _ start n i k (walk product h guest start k) (λ j. walk_most h guest start k (suc n) j)

pub count_small : (h : Host) (guest : List ℕ) (pc limit : ℕ) → (fence_walk product max_instrs h guest pc limit).count < 2 ^ 64
unfolding whole_walk
count_small h guest pc limit = omega (arith, walk_most h guest pc (min (limit_at (fence product max_instrs h guest pc limit) limit) max_instrs) 0 0)

-- ---- the block, from a state at entry

module _ (h : Host) (pc limit : ℕ) (guest : List ℕ) (hb : Bytes guest) (hp : pc < 2 ^ 64) (he : pc % 2 ≡ 0)
    (ho : h.slot_offset ≤ max_slot_offset) (h8 : h.slot_offset % 8 ≡ 0) (free : (fence_walk product max_instrs h guest pc limit).stop ≡ Stop.Helper → ⊥) where
  abbrev W : Walk
  W = fence_walk product max_instrs h guest pc limit

  abbrev ws : List ℕ
  ws = counted h.slot_offset W

  module _ (s : State) (x : List ℕ) (ε : Entry h.slot_offset s x) where
    abbrev g : Ran
    g = Rv64.run h.ignore_ebreak (Rv64.clamped limit) 0 guest (Rv64.start x pc)

    does : Walks W (entered s x) g
    does = by (block_walks h pc limit guest hb hp he (reg s) (entered s x) (kept h.slot_offset s x ε))
      where
        by : Follow (reg s) pc h guest W (entered s x) g → Walks W (entered s x) g
        by (inl y) = y
        by (inr y) = absurd (free y.stop)

    -- the model at the end
    abbrev u : Model
    u = calls-run (walk-calls W) (entered s x)

    goes : Begun h.slot_offset s x (walk-calls W)
    goes = begins h.slot_offset s x ε ho h8 (walk-calls W) does.fit does.range

    -- the state at the end
    abbrev t : State
    t = real s.base s.sp (with_r u (all_moved (counts W) u.r)) goes.0

    straight : Straight ws s t
    straight =
        straight_append (words h.slot_offset (walk-calls W)) (words h.slot_offset (map move_call (counts W))) _ _ _ goes.1
        (moves_go s.base s.sp h.slot_offset goes.0 (counts W) u (omega arith, count_small h guest pc limit, tt))

    at_end : Kept (reg s) (all_keep true (walk-calls W)) u
    at_end = calls-kept (reg s) (walk-calls W) true (entered s x) does.fit does.range (kept h.slot_offset s x ε)

    same : (k : ℕ) → 2 ≤ k → k < 31 → scratch k ≡ false → reg t k ≡ reg s k
    same k h2 hk q = getD_tab 31 _ k hk ∙ rw (ne_eqb k 1 (omega arith)) (at_end.same k q)

    ends : Ends h.slot_offset s (suc (length ws)) W.count (A64.ran End.Returned (suc (length ws)) t) g
    ends =
        record {
          end = refl;
          steps = refl;
          instructions = sym does.count;
          x0 = getD_tab 31 _ 0 (omega arith) ∙ does.next;
          x1 = getD_tab 31 _ 1 (omega arith);
          slots = λ n pn hn. goes.2.holds n pn hn ∙ ap (λ (l : List ℕ). get_or l n 0) does.slots;
          size = goes.2.size;
          memory = λ j o. goes.2.outside j o;
          base = refl;
          sp = refl;
          low = λ k a b. same k a (omega arith) (unfold scratch in (rw (ne_eqb k 0 (omega arith), lt-leb 9 k (omega arith))));
          high = λ k a b. same k (omega arith) (omega arith) (unfold scratch in (rw (ne_eqb k 0 (omega arith), le-leb 9 k (omega arith), lt-leb k 17 (omega arith))));
        }

  -- demand 3 for the block of the walk
  pub demand3 : Demand3 guest pc limit h.ignore_ebreak h.slot_offset (block_of product h W).code W.count
  demand3 address budget s x ε hl =
      let q : words h.slot_offset (block_calls W) ≡ ws ++ (ret ∷ []) = block_words h.slot_offset W free in
      let w : A64.words (bytes (words h.slot_offset (block_calls W))) ≡ ws ++ (ret ∷ []) =
      ap (λ (l : List ℕ). A64.words (bytes l)) q
      ∙ words-bytes (ws ++ (ret ∷ [])) (straight_words ws (ret ∷ []) s (t s x ε) (straight s x ε) (omega arith, tt))
      in
      let n : length (ws ++ (ret ∷ [])) ≡ suc (length ws) = length-append ws (ret ∷ []) ∙ omega arith in
      let l : length ws < budget = omega (arith, hl, ap length w, n) in
      rw (w, n, to_return ws s (t s x ε) (straight s x ε) address budget l) (ends s x ε)
