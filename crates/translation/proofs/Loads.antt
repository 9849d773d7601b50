-- Translation's words are the Rust's, but each load from slot 0 is MOVZ with 0. Assumes nothing.
use mathlib.Core.Path.{◌≡◌, refl, ap, ◌∙◌}
use mathlib.Core.Bool.{Bool, true, false, cond}
use mathlib.Core.Logic.{inl, inr}
use mathlib.Core.List.{List, [], ◌∷◌, ◌++◌, map, map-append, append-nil, flatten}
use Prim.Native.Nat.{ℕ, ◌+◌, ◌*◌, ◌/◌, ◌%◌, ◌^◌, ◌≤◌, ◌<◌}
use native.Mathlib.Omega.{arith}
use lib.Dec.{eqb, T, ltb→lt, ltb}
use lib.ListN.{length, replicate}
use borrow.Author.Tests.{eqb-true, eqb-false, eq-eqb, ne_eqb}
use Rattle.rules.specs.Limits.{max_instrs, max_slot_offset}
use Rattle.le.specs.Le.{Bytes}
use Rattle.le.proofs.Lists.{Fit}
use Rattle.a64.specs.declared.Form.TheVariants.{Ldr}
use Rattle.a64_exec.specs.Exec.{State, reg, machine}
use Rattle.a64_run.specs.Run as A64
use Rattle.rv64_run.specs.declared.run.Ran.{Ran}
use Rattle.rv64_run.specs.Run as Rv64
use Rattle.emit_native.specs.declared.Host.{Host}
use Rattle.jit_arm64.specs.declared.block.Stop.{Stop}
use Rattle.jit_arm64.specs.Block.{Walk, end_calls, block_calls, block_of}
use Rattle.jit_arm64.specs.Parts.{fence_walk}
use Rattle.a64.specs.Forms.{decode}
use Rattle.a64.proofs.Coding.{decode-encode, decode-lt}
use Rattle.a64_emitter.specs.Writers.{add_x, ldr_x, ret, part, movz, movk}
use Rattle.a64_emitter.specs.Writers as Writers
use Rattle.emit_native.specs.Calls.{Call, emit, mov_imm64, load, store, reg_off, rust, product, call_words, words_in, if_not_0}
use Rattle.translation.specs.RustBlock.{without_slot_0}
use Rattle.translation.proofs.Registers.{zeros_below}
use Rattle.translation.proofs.Calls.{Model, model, Kept, scratch, form-fits, fits, keeps, all_fit, In, AllIn, and_l, and_r, scratch_lt}
use Rattle.translation.proofs.Moves.{Move, from, constant, move_call, Moves}
use Rattle.translation.proofs.Arguments.{calling}
use Rattle.translation.proofs.Blocks.{walk-calls, Follow}
use Rattle.translation.proofs.Entering.{words-bytes, block_walks}
use Rattle.translation.proofs.Whole.{block_is}
use Rattle.translation.proofs.Called.{helps, arranged}

fit_append : (ws vs : List ℕ) → Fit 4 ws → Fit 4 vs → Fit 4 (ws ++ vs)
fit_append [] vs s t = t
fit_append (w ∷ ws) vs s t = (s.0, fit_append ws vs s.1 t)

module _ (o : ℕ) (ho : o ≤ max_slot_offset) where
  -- vs, of 32 bits each, is ws but for each load from slot 0
  abbrev pub As : List ℕ → List ℕ → Type 0
  As ws vs = Fit 4 vs × (ws ≡ map (without_slot_0 o) vs)

  append_as : (ws vs ws' vs' : List ℕ) → As ws vs → As ws' vs' → As (ws ++ ws') (vs ++ vs')
  append_as ws vs ws' vs' s t = (fit_append vs vs' s.0 t.0, rw (s.1, t.1, map-append))

  -- no such load among them
  abbrev pub Same : List ℕ → Type 0
  Same ws = As ws ws

  same_word : (w : ℕ) → w < 2 ^ 32 → (w / 32 ≡ ldr_x 0 0 o / 32 → ⊥) → Same (w ∷ [])
  same_word w l h = ((l, tt), rw (ne_eqb (w / 32) (ldr_x 0 0 o / 32) h))

  below : (w : ℕ) → w < 0xF9400000 → Same (w ∷ [])
  below w h = same_word w (omega arith) (λ e. omega arith)

  same_append : (ws vs : List ℕ) → Same ws → Same vs → Same (ws ++ vs)
  same_append ws vs s t = append_as ws ws vs vs s t

  movk_same : (d hw p : ℕ) → d < 32 → hw < 4 → p < 65536 → Same (movk d hw p)
  unfolding movk
  movk_same d hw p hd hh hp = by (eqb p 0)
    where
      by : (b : Bool) → Same (cond b [] ((0xF2800000 + hw * 2 ^ 21 + p * 2 ^ 5 + d) ∷ []))
      by true = (tt, refl)
      by false = below _ (omega arith)

  constant_same : (d c : ℕ) → d < 32 → Same (Writers.mov_imm64 d c)
  unfolding Writers.mov_imm64
  constant_same d c hd =
      same_append (movz d (c % 65536) ∷ []) _ (below _ (omega arith))
      (same_append (movk d 1 (part c 1)) _ (movk_same d 1 (part c 1) hd (omega arith) (omega arith))
      (same_append (movk d 2 (part c 2)) _ (movk_same d 2 (part c 2) hd (omega arith) (omega arith))
      (movk_same d 3 (part c 3) hd (omega arith) (omega arith))))

  -- a call that makes such an LDR, if at all, as the load of register 0
  abbrev pub Plain : Call → Type 0
  Plain (emit w) = Same (w ∷ [])
  Plain (mov_imm64 d c) = d < 32
  Plain (load d n) = (d < 32) × (n < 32)
  Plain (store d n) = (d < 32) × (n < 32)

  abbrev pub AllPlain : List Call → Type 0
  AllPlain [] = Unit {0}
  AllPlain (c ∷ cs) = Plain c × AllPlain cs

  load_same : (d n : ℕ) → d < 32 → n < 32 → (b : Bool) → eqb n 0 ≡ b → cond b (movz d 0) (ldr_x d 0 (reg_off o n)) ≡ without_slot_0 o (ldr_x d 0 (reg_off o n))
  load_same d n hd hn true q =
      let z : n ≡ 0 = eqb-true n 0 q in
      let e : ldr_x d 0 (reg_off o n) / 32 ≡ ldr_x 0 0 o / 32 = omega arith in
      let r : ldr_x d 0 (reg_off o n) % 32 ≡ d = omega arith in
      rw (eq-eqb (ldr_x d 0 (reg_off o n) / 32) (ldr_x 0 0 o / 32) e, r)
  load_same d n hd hn false q =
      rw (ne_eqb (ldr_x d 0 (reg_off o n) / 32) (ldr_x 0 0 o / 32) (λ e. omega (arith, eqb-false n 0 q)))

  call_as : (c : Call) → Plain c → As (call_words product o c) (call_words rust o c)
  call_as (emit w) s = s
  call_as (mov_imm64 d c) s = constant_same d c s
  call_as (load d n) s = ((omega arith, tt), ap (λ (w : ℕ). w ∷ []) (load_same d n s.0 s.1 (eqb n 0) refl))
  call_as (store d n) s = below _ (omega arith)

  pub calls_as : (cs : List Call) → AllPlain cs → As (words_in product o cs) (words_in rust o cs)
  unfolding words_in flatten
  calls_as [] s = (tt, refl)
  calls_as (c ∷ cs) s =
      append_as (call_words product o c) (call_words rust o c) _ _ (call_as c s.0) (calls_as cs s.1)

  pub plain_append : (cs ds : List Call) → AllPlain cs → AllPlain ds → AllPlain (cs ++ ds)
  plain_append [] ds s t = t
  plain_append (c ∷ cs) ds s t = (s.0, plain_append cs ds s.1 t)

  -- calls that write scratch registers and slots
  ldr_unfit : (d : ℕ) → d < 32 → T (form-fits (decode (ldr_x d 0 o))) → ⊥
  unfolding form-fits
  ldr_unfit d hd t = rw (decode-encode (Ldr d 0 (o / 8)) (hd, omega arith, omega arith)) at t

  fits_plain : (b : Bool) (c : Call) → T (fits b c) → In c → Plain c
  unfolding fits form-fits
  fits_plain b (emit w) t h =
      same_word w (decode-lt w (λ e. rw e at t))
      (λ e. let i : w ≡ ldr_x (w % 32) 0 o = omega arith in ldr_unfit (w % 32) (omega arith) (rw i at t))
  fits_plain b (mov_imm64 d c) t h = omega (arith, scratch_lt d t)
  fits_plain b (load d n) t h = omega (arith, scratch_lt d (and_l (scratch d) b t))
  fits_plain b (store d n) t h = omega (arith, ltb→lt d 32 (and_l (ltb d 32) b t))

  pub all_fit_plain : (b : Bool) (cs : List Call) → T (all_fit b cs) → AllIn cs → AllPlain cs
  unfolding all_fit
  all_fit_plain b [] t h = tt
  all_fit_plain b (c ∷ cs) t h = (fits_plain b c (and_l (fits b c) _ t) h.0, all_fit_plain (keeps b c) cs (and_r (fits b c) _ t) h.1)

  -- ---- a helper's call

  moves_plain : (ms : List Move) → Moves ms → AllPlain (map move_call ms)
  moves_plain [] h = tt
  moves_plain (from d n ∷ ms) h = (below _ (omega arith), moves_plain ms h.2)
  moves_plain (constant d c ∷ ms) h = (omega arith, moves_plain ms h.2)

  prefix_plain : (n : ℕ) → AllPlain (if_not_0 n (mov_imm64 12 n ∷ emit (add_x 1 1 12) ∷ []))
  prefix_plain n = by (eqb n 0)
    where
      by : (b : Bool) → AllPlain (cond b [] (mov_imm64 12 n ∷ emit (add_x 1 1 12) ∷ []))
      by true = tt
      by false = (omega arith, (below _ (omega arith), tt))

  calling_plain : (n : ℕ) → AllPlain (calling n)
  calling_plain n =
      let prefix = if_not_0 n (mov_imm64 12 n ∷ emit (add_x 1 1 12) ∷ []) in
      let rest = plain_append prefix (emit ret ∷ []) (prefix_plain n) (below _ (omega arith), tt) in
      let back = same_word (ldr_x 30 31 0) (omega arith) (λ e. omega arith) in
      (below _ (omega arith), (below _ (omega arith), (below _ (omega arith), (back, (below _ (omega arith), rest)))))

-- ---- the block, from a model with zeros

abbrev blank : State
blank = machine (replicate 31 0) 0 (record { n = false; z = false; c = false; v = false }) 0 []

abbrev zeros : Model
zeros = model (reg blank) blank.flags (replicate 32 0)

kept_zeros : Kept (reg blank) true zeros
kept_zeros =
    record {
      base = λ t. refl;
      same = λ k q. refl;
      count = refl;
      small = λ i. zeros_below (2 ^ 64) 32 i (omega arith);
      regs = λ k. zeros_below (2 ^ 64) 31 k (omega arith);
    }

module _ (h : Host) (hm : h.memory_helper < 2 ^ 64) (h32 : h.helper32 < 2 ^ 64) (h16 : h.helper16 < 2 ^ 64) (pc limit : ℕ) (guest : List ℕ) (hb : Bytes guest)
    (hl : length guest < 2 ^ 64) (hp : pc < 2 ^ 64) (he : pc % 2 ≡ 0) (ho : h.slot_offset ≤ max_slot_offset) (h8 : h.slot_offset % 8 ≡ 0) where
  abbrev W : Walk
  W = fence_walk product max_instrs h guest pc limit

  abbrev o : ℕ
  o = h.slot_offset

  abbrev g : Ran
  g = Rv64.run h.ignore_ebreak (Rv64.clamped limit) 0 guest (Rv64.hart zeros.slots pc)

  helper_plain : W.stop ≡ Stop.Helper → AllPlain o ho (block_calls W)
  unfolding end_calls
  helper_plain stop =
      let y = helps h hm h32 h16 pc limit guest hb hl hp he ho h8 stop blank zeros kept_zeros in
      let a = arranged h hm h32 h16 pc limit guest hb hl hp he ho h8 stop blank zeros kept_zeros in
      let e : block_calls W ≡ y.front ++ (a.early ++ (map move_call a.moves ++ calling g.count)) =
      rw stop (append-nil W.calls) ∙ y.calls ∙ ap (λ (l : List Call). y.front ++ l) a.is
      in
      rw e
      (plain_append o ho y.front _ (all_fit_plain o ho true y.front y.fit y.range)
      (plain_append o ho a.early _ (all_fit_plain o ho true a.early a.fine.fit a.fine.range)
      (plain_append o ho (map move_call a.moves) _ (moves_plain o ho a.moves a.range) (calling_plain o ho g.count))))

  block_plain : Follow (reg blank) pc h guest W zeros g → AllPlain o ho (block_calls W)
  block_plain (inl y) =
      rw (block_is W y.free)
      (plain_append o ho (walk-calls W) _ (all_fit_plain o ho true (walk-calls W) y.fit y.range)
      (omega arith, (below o ho _ (omega arith), tt)))
  block_plain (inr y) = helper_plain y.stop

  -- the product's words are those of the Rust's code, each LDR from slot 0 read as MOVZ with 0
  pub as_rust : words_in product o (block_calls W) ≡ map (without_slot_0 o) (A64.words (block_of rust h W).code)
  as_rust =
      let w = block_walks h pc limit guest hb hp he (reg blank) zeros kept_zeros in
      let p = calls_as o ho (block_calls W) (block_plain w) in
      rw (words-bytes _ p.0) p.1
