-- The block of a walk that a helper ends: its words up to the call, and after it. Assumes nothing.
use mathlib.Core.Path.{◌≡◌, refl, sym, ap, ◌∙◌}
use mathlib.Core.Bool.{Bool, true, false, cond}
use mathlib.Core.Logic.{◌⊎◌, inl, inr}
use mathlib.Core.List.{List, [], ◌∷◌, ◌++◌, map, append_assoc, append-nil, flatten}
use mathlib.Core.Option.{none, some}
use Prim.Native.Nat.{ℕ, suc, ◌+◌, ◌-◌, ◌*◌, ◌%◌, ◌^◌, ◌≤◌, ◌<◌}
use native.Mathlib.Omega.{arith}
use lib.Dec.{eqb, leb, T}
use lib.ListN.{length, get_or, drop, length-append, length-set}
use lib.Seq.{get_or-set_same, get_or-set_other}
use borrow.Author.Tests.{ne_eqb, le-leb, lt-leb, leb-true}
use Rattle.rules.specs.Limits.{max_instrs, max_slot_offset}
use Rattle.word.specs.Word.{wrap, sub}
use Rattle.le.specs.Le.{Bytes, load, store}
use Rattle.le.proofs.Laws.{load_lt, load_same, load-other, store_below, store_above, length-store}
use Rattle.le.proofs.Lists.{Fit}
use Rattle.a64.specs.Forms.{decode}
use Rattle.a64_emitter.specs.Emitter.{bytes}
use Rattle.a64_emitter.specs.Writers.{str_x, sub_sp_imm, blr, ret}
use Rattle.a64_run.specs.declared.run.End.{End}
use Rattle.a64_exec.specs.Exec.{State, reg, with_reg, with_sp, with_mem, exec}
use Rattle.a64_run.specs.Run as A64
use Rattle.a64_run.proofs.Straight.{Straight, straight_append, straight_run}
use Rattle.rv64_run.specs.declared.run.Ran.{Ran}
use Rattle.rv64_run.specs.Run as Rv64
use Rattle.emit_native.specs.declared.Host.{Host}
use Rattle.emit_native.specs.Calls.{Call, emit, product, words_in, words}
use Rattle.jit_arm64.specs.declared.block.Stop.{Stop}
use Rattle.jit_arm64.specs.Block.{Walk, fetch, fetch_upper, emit_term_helper, end_calls, block_calls, block_of}
use Rattle.jit_arm64.specs.Parts.{fence_walk}
use Rattle.jit_arm64.proofs.Emitting.{words_append}
use Rattle.isa.specs.Decode as Rust
use Rattle.term_helper.specs.TermHelper as Th
use Rattle.translation.specs.Demand3.{slot, place, Entry, Outside}
use Rattle.translation.specs.HelperBlock as Spec
use Rattle.translation.specs.HelperBlock.{lowered, cell, Stack, Beside, Left, Returns, HelperBlock}
use Rattle.translation.proofs.Registers.{getD_tab, length_tab, tab_below, tab}
use Rattle.translation.proofs.Calls.{Model, calls-run, scratch, all_fit, all_keep, AllIn, Kept, small-set, calls-kept, real}
use Rattle.translation.proofs.Moves.{move_call, all_moved, with_r, moves_go, moves_high, moves_small}
use Rattle.translation.proofs.Instrs.{run-append, fit_append, in_append}
use Rattle.translation.proofs.Arguments.{restoring, calling, at_each, Arranged, takes32, takes16}
use Rattle.translation.proofs.Fences.{never}
use Rattle.translation.proofs.Blocks.{Helps, Follow, word_at, wide}
use Rattle.translation.proofs.Entering.{words-bytes, straight_words, to_return, entered, Begun, kept, begins, block_walks}
use Rattle.translation.proofs.Calling.{Lowered, saves, resumed}
use Rattle.translation.proofs.Whole.{count_small}

-- ---- the instruction

-- the one at an index is in the guest bytes, and of 32 bits or of 16
record Fetched (guest : List ℕ) (index instr : ℕ) : Type 0 where
  inside : index + 2 ≤ length guest
  is : Spec.first_instruction (drop index guest) ≡ instr
  width : ((eqb (instr % 4) 3 ≡ true) × (instr < 2 ^ 32)) ⊎ ((eqb (instr % 4) 3 ≡ false) × (instr < 2 ^ 16))

fetched : (guest : List ℕ) → Bytes guest → (pc index instr : ℕ) → fetch pc guest index ≡ some instr → Fetched guest index instr
unfolding fetch fetch_upper
fetched guest hb pc index instr e = by (eqb (pc % 2) 0) (leb (index + 2) (length guest)) (eqb (load 2 guest index % 4) 3) (leb (index + 4) (length guest)) refl refl e
  where
    by : (a b c d : Bool) → leb (index + 2) (length guest) ≡ b → eqb (load 2 guest index % 4) 3 ≡ c
        → cond a (cond b (cond c (cond d (some (load 2 guest (index + 2) * 2 ^ 16 + load 2 guest index)) none) (some (load 2 guest index))) none) none ≡ some instr
        → Fetched guest index instr
    by true true true true p q e =
        let i : load 4 guest index ≡ instr = sym (word_at guest index) ∙ cc in
        rw (← i) (record {
          inside = leb-true (index + 2) (length guest) p;
          is = unfold load in (rw q);
          width = inl (wide guest index q, load_lt 4 guest index hb);
        })
    by true true false d p q e =
        let i : load 2 guest index ≡ instr = cc in
        rw (← i) (record {
          inside = leb-true (index + 2) (length guest) p;
          is = unfold load in (rw q);
          width = inr (q, load_lt 2 guest index hb);
        })
    by true true true false p q e = never instr e
    by true false c d p q e = never instr e
    by false b c d p q e = never instr e

-- ---- words after others

behind : (ws : List ℕ) (w : ℕ) (vs : List ℕ) → drop (suc (length ws)) (ws ++ (w ∷ vs)) ≡ vs
behind [] w vs = refl
behind (u ∷ ws) w vs = behind ws w vs

module _ (h : Host) (hm : h.memory_helper < 2 ^ 64) (h32 : h.helper32 < 2 ^ 64) (h16 : h.helper16 < 2 ^ 64) (pc limit : ℕ) (guest : List ℕ) (hb : Bytes guest)
    (hl : length guest < 2 ^ 64) (hp : pc < 2 ^ 64) (he : pc % 2 ≡ 0) (ho : h.slot_offset ≤ max_slot_offset) (h8 : h.slot_offset % 8 ≡ 0)
    (helped : (fence_walk product max_instrs h guest pc limit).stop ≡ Stop.Helper) where
  abbrev W : Walk
  W = fence_walk product max_instrs h guest pc limit

  abbrev o : ℕ
  o = h.slot_offset

  -- the helper's calls, after those of the instructions before it, from any model
  module _ (s : State) (v₀ : Model) (κ₀ : Kept (reg s) true v₀) where
    abbrev run-from : Ran
    run-from = Rv64.run h.ignore_ebreak (Rv64.clamped limit) 0 guest (Rv64.hart v₀.slots pc)

    pub helps : Helps h guest pc W v₀ run-from
    helps = by (block_walks h pc limit guest hb hp he (reg s) v₀ κ₀)
      where
        by : Follow (reg s) pc h guest W v₀ run-from → Helps h guest pc W v₀ run-from
        by (inl w) = absurd (w.free helped)
        by (inr w) = w

    abbrev before : Model
    before = calls-run helps.front v₀

    pub kept-before : Kept (reg s) true before
    kept-before = rw helps.stay at (calls-kept (reg s) helps.front true v₀ helps.fit helps.range κ₀)

    pc-small : W.pc < 2 ^ 64
    pc-small = omega (arith, helps.taken.at)

    abbrev instr : ℕ
    instr = helps.taken.instr

    arranged_by : ((eqb (instr % 4) 3 ≡ true) × (instr < 2 ^ 32)) ⊎ ((eqb (instr % 4) 3 ≡ false) × (instr < 2 ^ 16))
        → Arranged helps.helper.calls before run-from.count (Spec.call h s before.slots instr W.pc)
    unfolding emit_term_helper
    arranged_by (inl (e, l)) =
        let i : helps.helper ≡ Th.emit_native_term_helper32 h W.pc instr (Rust.decode32 instr) run-from.count = rw e at helps.taken.is in
        rw i (takes32 s before kept-before run-from.count W.pc pc-small h hm h32 h16 instr l e (rw i at helps.taken.flow))
    arranged_by (inr (e, l)) =
        let i : helps.helper ≡ Th.emit_native_term_helper16 h W.pc instr run-from.count = rw e at helps.taken.is in
        rw i (takes16 s before kept-before run-from.count W.pc pc-small h hm h32 h16 instr l e (rw i at helps.taken.flow))

    pub arranged : Arranged helps.helper.calls before run-from.count (Spec.called h guest pc s run-from)
    arranged =
        let τ = helps.taken in
        let f = fetched guest hb W.pc τ.index τ.instr τ.found in
        let i : sub W.pc pc ≡ τ.index = omega (arith, τ.at, f.inside, hl, hp) in
        rw (← helps.pc, i, f.is, ← helps.slots) (arranged_by f.width)

  module _ (s : State) (x : List ℕ) (ε : Entry h.slot_offset s x) (σ : Stack h.slot_offset s) where
    abbrev g : Ran
    g = Rv64.run h.ignore_ebreak (Rv64.clamped limit) 0 guest (Rv64.start x pc)

    abbrev y : Helps h guest pc W (entered s x) g
    y = helps s (entered s x) (kept o s x ε)

    -- before the helper's calls
    abbrev v : Model
    v = calls-run y.front (entered s x)

    κ : Kept (reg s) true v
    κ = kept-before s (entered s x) (kept o s x ε)

    few : g.count < 2 ^ 64
    few = omega (arith, count_small h guest pc limit, y.count)

    a : Arranged y.helper.calls v g.count (Spec.called h guest pc s g)
    a = arranged s (entered s x) (kept o s x ε)

    -- ---- the words

    abbrev ahead : List Call
    ahead = y.front ++ a.early

    -- up to the call, and after it
    abbrev ws : List ℕ
    ws = words o ahead ++ (words o (map move_call a.moves) ++ (sub_sp_imm 16 ∷ str_x 30 31 0 ∷ []))

    abbrev bs : List ℕ
    bs = words o (restoring g.count)

    all_words : words o (block_calls W) ≡ ws ++ (blr 16 ∷ (bs ++ (ret ∷ [])))
    unfolding end_calls words_in flatten
    all_words =
        let e : block_calls W ≡ ahead ++ (map move_call a.moves ++ calling g.count) =
        rw helped (append-nil W.calls) ∙ y.calls ∙ ap (λ (l : List Call). y.front ++ l) a.is
        ∙ sym (append_assoc y.front a.early (map move_call a.moves ++ calling g.count))
        in
        ap (words o) e
        ∙ words_append o ahead (map move_call a.moves ++ calling g.count)
        ∙ ap (λ (l : List ℕ). words o ahead ++ l)
        (words_append o (map move_call a.moves) (calling g.count)
        ∙ ap (λ (l : List ℕ). words o (map move_call a.moves) ++ (sub_sp_imm 16 ∷ str_x 30 31 0 ∷ blr 16 ∷ l)) (words_append o (restoring g.count) (emit ret ∷ []))
        ∙ sym (append_assoc (words o (map move_call a.moves)) (sub_sp_imm 16 ∷ str_x 30 31 0 ∷ []) (blr 16 ∷ (bs ++ (ret ∷ [])))))
        ∙ sym (append_assoc (words o ahead) (words o (map move_call a.moves) ++ (sub_sp_imm 16 ∷ str_x 30 31 0 ∷ [])) (blr 16 ∷ (bs ++ (ret ∷ []))))

    -- ---- up to the call

    fit : T (all_fit true ahead)
    fit = fit_append true y.front a.early y.fit (rw y.stay a.fine.fit)

    range : AllIn ahead
    range = in_append y.front a.early y.range a.fine.range

    goes : Begun o s x ahead
    goes = begins o s x ε ho h8 ahead fit range

    -- the model before the arguments, and its registers after them
    abbrev u : Model
    u = calls-run ahead (entered s x)

    u_is : u ≡ calls-run a.early v
    u_is = run-append y.front a.early (entered s x)

    abbrev rs : ℕ → ℕ
    rs = all_moved a.moves u.r

    abbrev passed : State
    passed = real s.base s.sp (with_r u rs) goes.0

    abbrev saved : State
    saved = with_mem (with_sp passed (lowered s)) (store 8 goes.0 (cell s) (reg passed 30))

    straight : Straight ws s saved
    straight =
        straight_append (words o ahead) _ _ _ _ goes.1
        (straight_append (words o (map move_call a.moves)) (sub_sp_imm 16 ∷ str_x 30 31 0 ∷ []) _ passed saved
        (moves_go s.base s.sp o goes.0 a.moves u a.range) (saves o s σ passed refl refl goes.2.size))

    κ_u : Kept (reg s) (all_keep true ahead) u
    κ_u = calls-kept (reg s) ahead true (entered s x) fit range (kept o s x ε)

    -- X18 to X30 are as at entry
    same : (k : ℕ) → 18 ≤ k → k ≤ 30 → reg passed k ≡ reg s k
    same k lo hi =
        getD_tab 31 rs k (omega arith)
        ∙ moves_high a.moves u.r k a.range lo
        ∙ κ_u.same k (unfold scratch in (rw (ne_eqb k 0 (omega arith), le-leb 9 k (omega arith), lt-leb k 17 (omega arith))))

    -- the cell is in memory, and apart from every slot
    at_cell : cell s + 16 ≤ length goes.0
    at_cell = rw goes.2.size (omega (arith, σ.inside))

    holds : load 8 saved.mem (cell s) ≡ reg s 30
    holds = load_same 8 goes.0 (cell s) (reg passed 30) (omega (arith, at_cell)) (rw (same 30 (omega arith) (omega arith)) (ε.small 30)) ∙ same 30 (omega arith) (omega arith)

    slot_apart : (n : ℕ) → n < 32 → (slot s o n + 8 ≤ lowered s) ⊎ (lowered s + 16 ≤ slot s o n) → (place s o n + 8 ≤ cell s) ⊎ (cell s + 8 ≤ place s o n)
    slot_apart n hn (inl e) = inl (omega (arith, e, ε.inside n hn, σ.inside))
    slot_apart n hn (inr e) = inr (omega (arith, e, ε.inside n hn, σ.inside))

    slot-holds : (n : ℕ) → 1 ≤ n → n < 32 → load 8 saved.mem (place s o n) ≡ get_or g.hart.x n 0
    slot-holds n pn hn =
        load-other 8 goes.0 (cell s) (reg passed 30) (place s o n) (omega (arith, at_cell))
        (rw goes.2.size (omega (arith, ε.inside n hn))) (slot_apart n hn (σ.apart n hn))
        ∙ goes.2.holds n pn hn
        ∙ ap (λ (l : List ℕ). get_or l n 0) (ap (λ (z : Model). z.slots) u_is ∙ a.fine.slots v ∙ y.slots)

    elsewhere : (j : ℕ) → Outside s o j → Beside s j → get_or saved.mem j 0 ≡ get_or s.mem j 0
    elsewhere j q (inl e) = store_below 8 goes.0 (cell s) (reg passed 30) j (omega (arith, at_cell)) e ∙ goes.2.outside j q
    elsewhere j q (inr e) =
        let i : cell s + 8 + (j - (cell s + 8)) ≡ j = omega (arith, e) in
        rw i at (store_above 8 goes.0 (cell s) (reg passed 30) (j - (cell s + 8)) (omega (arith, at_cell))) ∙ goes.2.outside j q

    -- the state at the call
    abbrev at_call : ℕ → State
    at_call address = with_reg saved 30 (wrap (address + 4 * length ws + 4))

    other : (address k : ℕ) → k < 30 → reg (at_call address) k ≡ rs k
    other address k hk = get_or-set_other (tab 31 rs) 30 k _ 0 (λ e. omega arith) ∙ getD_tab 31 rs k (omega arith)

    calls-helper : (rest : List ℕ) (address budget : ℕ) → length ws < budget
        → A64.run (ws ++ (blr 16 ∷ rest)) address budget 0 s ≡ A64.ran End.Called (suc (length ws)) (at_call address)
    unfolding A64.run A64.onward exec decode
    calls-helper rest address budget hw =
        let e : budget ≡ length ws + suc (budget - suc (length ws)) = omega arith in
        let z : length ws + 0 ≡ length ws = omega arith in
        rw e (straight_run ws (blr 16 ∷ rest) address (suc (budget - suc (length ws))) 0 s saved straight ∙ rw z)

    argument : (k : ℕ) → k < length (Spec.called h guest pc s g).arguments → rs k ≡ get_or (Spec.called h guest pc s g).arguments k 0
    argument = rw u_is (at_each _ (Spec.called h guest pc s g).arguments a.arguments)

    -- ---- after the call

    as_saved : Lowered o s σ saved
    as_saved = record { sp = refl; base = refl; size = length-store 8 goes.0 (cell s) (reg passed 30) (omega (arith, at_cell)) ∙ goes.2.size }

    small : (k : ℕ) → reg passed k < 2 ^ 64
    small k = tab_below (2 ^ 64) 31 rs k (omega arith) (moves_small a.moves u.r a.range κ_u.regs)

    fits-words : Fit 4 (ws ++ (blr 16 ∷ (bs ++ (ret ∷ []))))
    fits-words =
        let r = resumed o s σ saved as_saved (length_tab 31 rs) (small 1) holds g.count few in
        straight_words ws _ s saved straight (omega arith, straight_words bs (ret ∷ []) saved r.0 r.1 (omega arith, tt))

    -- ---- both

    abbrev block : List ℕ
    block = (block_of product h W).code

    block_is : A64.words block ≡ ws ++ (blr 16 ∷ (bs ++ (ret ∷ [])))
    block_is = ap (λ (l : List ℕ). A64.words (bytes l)) all_words ∙ words-bytes _ fits-words

    length_is : length (A64.words block) ≡ suc (length ws) + suc (length bs)
    length_is = ap length block_is ∙ length-append ws (blr 16 ∷ (bs ++ (ret ∷ []))) ∙ omega (arith, length-append bs (ret ∷ []))

    resumes : (address : ℕ) (t : State) (budget : ℕ) → Left (at_call address) t → length (A64.words block) ≤ suc (length ws) + budget
        → Returns s t (length (A64.words block) - suc (length ws)) (W.count - 1) (A64.from block address (suc (length ws)) budget t)
    resumes address t budget left hl =
        let c : t.sp - t.base ≡ cell s = rw (left.sp, left.base) refl in
        let l : Lowered o s σ t = record { sp = left.sp; base = left.base; size = left.size ∙ as_saved.size } in
        let r = resumed o s σ t l left.count (left.small 1) (rw c at left.saved ∙ holds) g.count few in
        let n : length (A64.words block) - suc (length ws) ≡ suc (length bs) = omega (arith, length_is) in
        let p : W.count - 1 ≡ g.count = omega (arith, y.count) in
        let q : A64.from block address (suc (length ws)) budget t ≡ A64.ran End.Returned (suc (length bs)) r.0 =
        rw (block_is, behind ws (blr 16) (bs ++ (ret ∷ []))) (to_return bs t r.0 r.1 (address + 4 * suc (length ws)) budget (omega (arith, hl, length_is)))
        in
        rw (n, p, q) (r.2 (suc (length bs)))

    to_call : (address budget : ℕ) → length (A64.words block) ≤ budget
        → A64.run (A64.words block) address budget 0 s ≡ A64.ran End.Called (suc (length ws)) (at_call address)
    to_call address budget hl =
        rw block_is (calls-helper (bs ++ (ret ∷ [])) address budget (omega (arith, hl, length_is)))

    -- what `returns` asks of a helper can be met: one that changes nothing
    pub idle : (address budget : ℕ) → length (A64.words block) ≤ budget
        → let c = (A64.run (A64.words block) address budget 0 s).state in Left c c
    idle address budget hl =
        rw (to_call address budget hl)
        (record {
          count = length-set (tab 31 rs) 30 _ ∙ length_tab 31 rs;
          small = small-set (tab 31 rs) 30 _ small (omega arith);
          base = refl;
          size = refl;
          sp = refl;
          saved = refl;
        })

    calls : (address budget : ℕ) → length (A64.words block) ≤ budget
        → Spec.Calls h guest pc block address s W.count (A64.run (A64.words block) address budget 0 s) g
    calls address budget hl =
        rw (to_call address budget hl)
        (record {
          end = refl;
          instructions = omega (arith, y.count);
          before = y.why;
          slots = slot-holds;
          arguments = λ k l. other address k (omega (arith, l, a.few)) ∙ argument k l;
          x16 = other address 16 (omega arith) ∙ rw (← u_is) at a.x16;
          sp = refl;
          saved = holds;
          x30 = get_or-set_same (tab 31 rs) 30 _ 0 (rw (length_tab 31 rs) (omega arith)) ∙ omega arith;
          high = λ k lo hi. get_or-set_other (tab 31 rs) 30 k _ 0 (λ e. omega arith) ∙ same k lo (omega arith);
          size = as_saved.size;
          memory = elsewhere;
          base = refl;
          returns = resumes address;
        })

  -- the whole of document 02, No. 5, for the block of the walk
  pub helper-block : HelperBlock h guest pc limit (block_of product h W).code W.count
  helper-block address budget s x ε σ hl = calls s x ε σ address budget hl
