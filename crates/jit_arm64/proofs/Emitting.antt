-- One instruction's words, and how many there are. Assumes nothing.
use Rattle.std.proofs.Common.{◌≡◌, ℕ, ◌+◌, ◌%◌, ◌<◌, ◌≤◌, min, Bool, true, false, eqb, ◌⊎◌, List, [], ◌∷◌, ◌++◌, length, take, sym, refl, ap, ◌∙◌, inl, inr, append_assoc, append-nil, arith, length-append, length-take, eq-eqb, ne_eqb, eqb-true}
use mathlib.Core.List.{flatten}
use Rattle.rules.specs.Limits.{inline_words, instr_words}
use Rattle.a64_emitter.specs.Writers as Writers
use Rattle.a64_emitter.specs.Parts.{Added}
use Rattle.a64_emitter.proofs.Emission.{constant_length, movk-none, emitted-fits, in_turn-fits}
use Rattle.isa.specs.declared.decode.Decoded32.{Decoded32}
use Rattle.isa.specs.declared.zbb.Found.{Found}
use Rattle.isa.specs.Zbb.{find, MaybeZbb}
use Rattle.emit_native.specs.declared.EmitFlow.{EmitFlow}
use Rattle.emit_native.specs.declared.EmitFlow.TheVariants.{Terminate}
use Rattle.std.specs.Prelude.{Some, None}
use Rattle.emit_native.specs.declared.Emitted.{Emitted}
use Rattle.emit_native.specs.declared.Host.{Host}
use Rattle.isa.specs.Isa.{OPCODE_LOAD, OPCODE_STORE, OPCODE_LOAD_FP, OPCODE_STORE_FP, OPCODE_SYSTEM, OPCODE_AMO, F3_LB, F3_LH, F3_LW, F3_LD, F3_LBU, F3_LHU, F3_LWU, F3_SB, F3_SH, F3_SW, F3_SD}
use Rattle.isa.specs.Decode.{decode32, c_op, c_funct3, imm_i, imm_s}
use Rattle.a64_emitter.specs.Writers.{add_x, ldr_x, str_x, mov_x, sub_sp_imm, add_sp_imm, blr, ret}
use Rattle.emit_native.specs.Calls.{Call, Flow, emit, mov_imm64, load, product, call_words, groups, words_in, words, if_not_0, store_rd, Emission, none}
use Rattle.emit_native.specs.Parts.{Held, Answer, held, nothing, after, answer, emitted}
use Rattle.emit_native.proofs.Chains.{after_is}
use Rattle.instr16.specs.Instr16.{emit_native_instr16, quadrant_0, quadrant_2}
use Rattle.instr32.specs.Instr32.{emit_native_instr}
use Rattle.term_helper.specs.TermHelper.{call_helper, call_exec, load_calls, store_calls, load_helper, store_helper, load_op, store_op, opcode_helper, memory_funct3, supports, emit_native_term_helper16, emit_native_term_helper32}
use Rattle.emit_native.proofs.Size.{size, size-append, size-le, if_size, by}
use Rattle.instr16.proofs.Size.{instr16_size}
use Rattle.instr32.proofs.Size.{instr_size}
use Rattle.zbb.specs.Emission.{emission}
use Rattle.zbb.proofs.Size.{zbb_size}
use Rattle.jit_arm64.specs.Block.{is_32, emit_native, zbb_of, zbb_first, emit_inline, emit_term_helper}
use Rattle.jit_arm64.specs.Parts.{alone, Compiled, unfit}
use Rattle.jit_arm64.proofs.Refused.{rust_helps_none}

-- ---- words after others

pub words_append : (slot_offset : ℕ) (cs ds : List Call) → words slot_offset (cs ++ ds) ≡ words slot_offset cs ++ words slot_offset ds
unfolding words_in flatten
words_append slot_offset [] ds = refl
words_append slot_offset (c ∷ cs) ds =
    ap (λ (l : List ℕ). call_words product slot_offset c ++ l) (words_append slot_offset cs ds)
    ∙ sym (append_assoc (call_words product slot_offset c) (words slot_offset cs) (words slot_offset ds))

-- the words ws after the first n of l: then the first r of l'
pub record Appended (l : List ℕ) (n : ℕ) (l' : List ℕ) (r : ℕ) (ws : List ℕ) : Type 0 where
  pub holds : take r l' ≡ take n l ++ ws
  pub len : r ≡ n + length ws

-- they all fit
pub put : {l l' : List ℕ} {n r : ℕ} {ws : List ℕ} → n + length ws ≤ length l → length l' ≡ length l → Added l n l' r ws → Appended l n l' r ws
put {l} {l'} {n} {r} {ws} room same added =
    let b : length (take n l) ≡ n = length-take n l ∙ (omega arith) in
    let h : take r l' ≡ take n l ++ ws = added.holds ∙ emitted-fits (length l) (take n l) ws (omega arith) in
    let k : min r (length l) ≡ length (take n l) + length ws = sym (rw same at (length-take r l')) ∙ ap length h ∙ length-append (take n l) ws in
    let m : r ≤ length l = added.room (omega arith) in
    record { holds = h; len = omega arith }

-- ---- what an answer says

-- of calls alone in an emitter
abbrev compiled : ℕ → ℕ → List Call → Flow → Answer
compiled lent slot_offset cs f = record { held = alone lent slot_offset cs; flow = f }

is_compiled : (lent slot_offset : ℕ) (cs : List Call) (f : Flow) (r : Emitted) → answer r ≡ compiled lent slot_offset cs f → Compiled lent slot_offset cs f r
unfolding answer
is_compiled lent slot_offset cs f r e = record { holds = ap (λ (a : Answer). a.held) e; flow = ap (λ (a : Answer). a.flow) e }

pub words_are : {lent slot_offset : ℕ} {cs : List Call} {f : Flow} {r : Emitted} → Compiled lent slot_offset cs f r → (held r.em).words ≡ words slot_offset cs
words_are c = ap (λ (h : Held). h.words) c.holds

pub flow_is : (r : Emitted) (a : Answer) → answer r ≡ a → r.flow ≡ a.flow
unfolding answer
flow_is r a e = ap (λ (x : Answer). x.flow) e

-- ---- Zbb's instructions, and the others

pub by_zbb : (P : Emission → Type 0) (f : MaybeZbb) (instr : ℕ) (e : Emission) → ((f ≡ None → ⊥) → P (emission f instr)) → (f ≡ None → P e)
    → P (zbb_first f instr e)
unfolding zbb_first
by_zbb P None instr e is other = other refl
by_zbb P (Some (Found.Register z)) instr e is other = is (λ q. let y : ◌≡◌ {A = ℕ} 0 1 = cc in omega arith)
by_zbb P (Some (Found.Number z n)) instr e is other = is (λ q. let y : ◌≡◌ {A = ℕ} 0 1 = cc in omega arith)
by_zbb P (Some (Found.Unary z)) instr e is other = is (λ q. let y : ◌≡◌ {A = ℕ} 0 1 = cc in omega arith)

-- what Zbb's emitter answers says which
pub zbb_flow : (f : MaybeZbb) (instr : ℕ) → (emission f instr).flow ≡ None → f ≡ None
unfolding emission store_rd
zbb_flow None instr e = refl
zbb_flow (Some (Found.Register z)) instr e = let y : ◌≡◌ {A = ℕ} 0 1 = cc in absurd (omega arith)
zbb_flow (Some (Found.Number z n)) instr e = let y : ◌≡◌ {A = ℕ} 0 1 = cc in absurd (omega arith)
zbb_flow (Some (Found.Unary z)) instr e = let y : ◌≡◌ {A = ℕ} 0 1 = cc in absurd (omega arith)

pub zbb_refuses : (f : MaybeZbb) (instr : ℕ) → f ≡ None → (emission f instr).flow ≡ None
unfolding emission
zbb_refuses f instr e = rw e

pub zbb_taken : {P : Type 0} (f : EmitFlow) → None ≡ Some f → P
zbb_taken f e = let z : ◌≡◌ {A = Flow} None (Some f) = e in absurd (cc)

-- ---- the emitters by the width

module _ (h : Host) (pc instr : ℕ) where
  pub inline16 : (low : ℕ) → low ≡ instr → (instr % 4 ≡ 3 → ⊥) → emit_inline product h pc instr ≡ emit_native_instr16 h.ignore_ebreak pc low
  unfolding emit_inline zbb_of zbb_first emit_native
  inline16 low e n = rw (ne_eqb (instr % 4) 3 n, e) refl

  pub native32 : (d : Decoded32) → d ≡ decode32 instr → instr % 4 ≡ 3 → emit_native h pc instr ≡ emit_native_instr pc instr d
  unfolding emit_native
  native32 d e n = rw (eq-eqb (instr % 4) 3 n, e) refl

  pub inline-rust : instr % 4 ≡ 3 → find instr ≡ None → emit_inline product h pc instr ≡ emit_native h pc instr
  unfolding emit_inline zbb_of zbb_first
  inline-rust n f = rw (eq-eqb (instr % 4) 3 n, f) refl

  pub inline_zbb : instr % 4 ≡ 3 → (find instr ≡ None → ⊥) → emit_inline product h pc instr ≡ emission (find instr) instr
  unfolding emit_inline zbb_of
  inline_zbb n f =
      rw (eq-eqb (instr % 4) 3 n) (by_zbb (λ (e : Emission). e ≡ emission (find instr) instr) (find instr) instr _ (λ g. refl) (λ g. absurd (f g)))

  pub helper16 : (k low : ℕ) → low ≡ instr → (instr % 4 ≡ 3 → ⊥) → emit_term_helper h pc instr k ≡ emit_native_term_helper16 h pc low k
  unfolding emit_term_helper
  helper16 k low e n = rw (ne_eqb (instr % 4) 3 n, e) refl

  pub helper32 : (k : ℕ) (d : Decoded32) → d ≡ decode32 instr → instr % 4 ≡ 3 → emit_term_helper h pc instr k ≡ emit_native_term_helper32 h pc instr d k
  unfolding emit_term_helper
  helper32 k d e n = rw (eq-eqb (instr % 4) 3 n, e) refl

-- ---- a helper's call

-- a constant of 16 bits is one word
constant_small : (rd v : ℕ) → v < 65536 → length (Writers.mov_imm64 rd v) ≡ 1
constant_small rd v h =
    let a : Writers.part v 1 ≡ 0 = omega arith in
    let b : Writers.part v 2 ≡ 0 = omega arith in
    let c : Writers.part v 3 ≡ 0 = omega arith in
    constant_length rd v 0 0 0 (ap length (movk-none rd 1 (Writers.part v 1) a)) (ap length (movk-none rd 2 (Writers.part v 2) b)) (ap length (movk-none rd 3 (Writers.part v 3) c))

module _ (slot_offset : ℕ) where
  -- a constant of 16 bits
  pub small : (rd v : ℕ) → v < 65536 → size slot_offset (mov_imm64 rd v ∷ []) ≡ 1
  unfolding flatten
  small rd v h = rw (append-nil (Writers.mov_imm64 rd v)) (constant_small rd v h)

  call-size : (helper k : ℕ) → k < 65536 → size slot_offset (call_helper helper k) ≤ 12
  call-size helper k h =
      let cs : List Call = mov_imm64 16 helper ∷ emit (sub_sp_imm 16) ∷ emit (str_x 30 31 0) ∷ emit (blr 16) ∷ emit (ldr_x 30 31 0) ∷ emit (add_sp_imm 16) ∷ [] in
      let c : List Call = mov_imm64 12 k ∷ [] in
      let d : List Call = emit (add_x 1 1 12) ∷ [] in
      let es : List Call = emit ret ∷ [] in
      omega (
        arith,
        size-append slot_offset cs (if_not_0 k (c ++ d) ++ es),
        size-append slot_offset (if_not_0 k (c ++ d)) es,
        size-le slot_offset cs,
        size-le slot_offset es,
        if_size slot_offset k (c ++ d) 2 (omega (arith, size-append slot_offset c d, small 12 k h, size-le slot_offset d)),
      )

  exec-size : (helper pc instr k : ℕ) → k < 65536 → size slot_offset (call_exec helper pc instr k) ≤ instr_words
  exec-size helper pc instr k b =
      let cs : List Call = emit (mov_x 0 1) ∷ emit (mov_x 1 2) ∷ emit (mov_x 2 3) ∷ emit (mov_x 3 4) ∷ emit (mov_x 4 5) ∷ mov_imm64 5 instr ∷ mov_imm64 6 pc ∷ [] in
      omega (arith, size-append slot_offset cs (call_helper helper k), size-le slot_offset cs, call-size helper k b)

  -- the memory helper's call: cs, the operation, rd, the value by c5, the address and the PC
  memory-size : (cs c5 : List Call) (helper m pc rd k : ℕ) → size slot_offset cs ≤ 10 → size slot_offset c5 ≤ 1 → k < 65536 → m < 65536 → rd < 65536
      → size slot_offset (cs ++ (mov_imm64 3 m ∷ mov_imm64 4 rd ∷ (c5 ++ (emit (mov_x 6 11) ∷ mov_imm64 7 pc ∷ call_helper helper k)))) ≤ instr_words
  memory-size cs c5 helper m pc rd k s v b h l =
      let c3 : List Call = mov_imm64 3 m ∷ [] in
      let c4 : List Call = mov_imm64 4 rd ∷ [] in
      let es : List Call = emit (mov_x 6 11) ∷ mov_imm64 7 pc ∷ [] in
      let z = call_helper helper k in
      omega (
        arith,
        size-append slot_offset cs (c3 ++ (c4 ++ (c5 ++ (es ++ z)))),
        size-append slot_offset c3 (c4 ++ (c5 ++ (es ++ z))),
        size-append slot_offset c4 (c5 ++ (es ++ z)),
        size-append slot_offset c5 (es ++ z),
        size-append slot_offset es z,
        small 3 m h,
        small 4 rd l,
        size-le slot_offset es,
        call-size helper k b,
      )

  load-size : (helper m pc instr : ℕ) (d : Decoded32) (k : ℕ) → k < 65536 → m < 65536 → d.rd < 65536 → size slot_offset (load_calls helper m pc instr d k) ≤ instr_words
  load-size helper m pc instr d k b h l =
      let cs : List Call = load 9 d.rs1 ∷ mov_imm64 10 (imm_i instr) ∷ emit (add_x 11 9 10) ∷ emit (mov_x 0 1) ∷ emit (mov_x 1 2) ∷ emit (mov_x 2 3) ∷ [] in
      memory-size cs (mov_imm64 5 0 ∷ []) helper m pc d.rd k (omega (arith, size-le slot_offset cs)) (omega (arith, small 5 0 (omega arith))) b h l

  store-size : (helper m pc instr : ℕ) (d : Decoded32) (k : ℕ) → k < 65536 → m < 65536 → d.rd < 65536 → size slot_offset (store_calls helper m pc instr d k) ≤ instr_words
  store-size helper m pc instr d k b h l =
      let cs : List Call = load 9 d.rs1 ∷ mov_imm64 10 (imm_s instr) ∷ emit (add_x 11 9 10) ∷ load 12 d.rs2 ∷ emit (mov_x 0 1) ∷ emit (mov_x 1 2) ∷ emit (mov_x 2 3) ∷ [] in
      memory-size cs (emit (mov_x 5 12) ∷ []) helper m pc d.rd k (omega (arith, size-le slot_offset cs)) (size-le slot_offset (emit (mov_x 5 12) ∷ [])) b h l

  -- ---- an instruction is a helper's only where it is not inline and leaves nothing

  -- the helper's emitter refuses, or the inline one does with nothing left and the helper's takes the instruction
  abbrev pub Apart : Emission → Emission → Type 0
  Apart e helper = (helper ≡ none []) ⊎ ((e ≡ none []) × (helper.flow ≡ Some Terminate) × (size slot_offset helper.calls ≤ instr_words))

  -- taken, or refused
  abbrev Either : Emission → Type 0
  Either helper = (helper ≡ none []) ⊎ ((helper.flow ≡ Some Terminate) × (size slot_offset helper.calls ≤ instr_words))

  not_0 : (f : ℕ) → memory_funct3 f ≡ true → eqb f 0b000 ≡ false
  not_0 f h = by (eqb f 0b000) (λ t. let z : ◌≡◌ false true = rw (eqb-true f 0b000 t) at h in cc) (λ t. t)

  not_4 : (f : ℕ) → memory_funct3 f ≡ true → eqb f 0b100 ≡ false
  not_4 f h = by (eqb f 0b100) (λ t. let z : ◌≡◌ false true = rw (eqb-true f 0b100 t) at h in cc) (λ t. t)

  supported : (e : Bool) (pc instr : ℕ) → supports (c_op instr) (c_funct3 instr) ≡ true → emit_native_instr16 e pc instr ≡ none []
  unfolding supports emit_native_instr16 quadrant_0 quadrant_2
  supported e pc instr h =
      by (eqb (c_op instr) 0b00)
      (λ t. let m : memory_funct3 (c_funct3 instr) ≡ true = rw t at h in rw (t, not_0 (c_funct3 instr) m))
      (λ t. by (eqb (c_op instr) 0b10)
      (λ u. let m : memory_funct3 (c_funct3 instr) ≡ true = rw (t, u) at h in
      let o : eqb (c_op instr) 0b01 ≡ false = rw (eqb-true (c_op instr) 0b10 u) in
      rw (t, o, u, not_0 (c_funct3 instr) m, not_4 (c_funct3 instr) m))
      (λ u. let z : ◌≡◌ false true = rw (t, u) at h in cc))

  pub apart16 : (h : Host) (pc instr k : ℕ) → k < 65536 → Apart (emit_native_instr16 h.ignore_ebreak pc instr) (emit_native_term_helper16 h pc instr k)
  unfolding emit_native_term_helper16
  apart16 h pc instr k b =
      by (supports (c_op instr) (c_funct3 instr))
      (λ t. inr (supported h.ignore_ebreak pc instr t, rw t, rw t (exec-size h.helper16 pc instr k b)))
      (λ t. inl (rw t))

  load_either : (h : Host) (pc instr : ℕ) (d : Decoded32) (k funct3 : ℕ) → k < 65536 → d.rd < 65536 → Either (load_helper h pc instr d k funct3)
  unfolding load_helper load_op
  load_either h pc instr d k funct3 b l =
      by (eqb funct3 F3_LB) (λ t. inr (rw t, rw t (load-size h.memory_helper 0 pc instr d k b (omega arith) l)))
      (λ t. rw t (by (eqb funct3 F3_LH) (λ t. inr (rw t, rw t (load-size h.memory_helper 1 pc instr d k b (omega arith) l)))
      (λ t. rw t (by (eqb funct3 F3_LW) (λ t. inr (rw t, rw t (load-size h.memory_helper 2 pc instr d k b (omega arith) l)))
      (λ t. rw t (by (eqb funct3 F3_LD) (λ t. inr (rw t, rw t (load-size h.memory_helper 3 pc instr d k b (omega arith) l)))
      (λ t. rw t (by (eqb funct3 F3_LBU) (λ t. inr (rw t, rw t (load-size h.memory_helper 4 pc instr d k b (omega arith) l)))
      (λ t. rw t (by (eqb funct3 F3_LHU) (λ t. inr (rw t, rw t (load-size h.memory_helper 5 pc instr d k b (omega arith) l)))
      (λ t. rw t (by (eqb funct3 F3_LWU) (λ t. inr (rw t, rw t (load-size h.memory_helper 6 pc instr d k b (omega arith) l)))
      (λ t. inl (rw t))))))))))))))

  store_either : (h : Host) (pc instr : ℕ) (d : Decoded32) (k funct3 : ℕ) → k < 65536 → d.rd < 65536 → Either (store_helper h pc instr d k funct3)
  unfolding store_helper store_op
  store_either h pc instr d k funct3 b l =
      by (eqb funct3 F3_SB) (λ t. inr (rw t, rw t (store-size h.memory_helper 16 pc instr d k b (omega arith) l)))
      (λ t. rw t (by (eqb funct3 F3_SH) (λ t. inr (rw t, rw t (store-size h.memory_helper 17 pc instr d k b (omega arith) l)))
      (λ t. rw t (by (eqb funct3 F3_SW) (λ t. inr (rw t, rw t (store-size h.memory_helper 18 pc instr d k b (omega arith) l)))
      (λ t. rw t (by (eqb funct3 F3_SD) (λ t. inr (rw t, rw t (store-size h.memory_helper 19 pc instr d k b (omega arith) l)))
      (λ t. inl (rw t))))))))

  both : (e helper : Emission) → e ≡ none [] → Either helper → Apart e helper
  both e helper a (inl b) = inl b
  both e helper a (inr b) = inr (a, b.0, b.1)

  pub apart32 : (h : Host) (pc instr : ℕ) (d : Decoded32) (k : ℕ) → k < 65536 → d.rd < 65536
      → Apart (emit_native_instr pc instr d) (emit_native_term_helper32 h pc instr d k)
  unfolding emit_native_instr emit_native_term_helper32 opcode_helper
  apart32 h pc instr d k b l =
      by (eqb d.opcode OPCODE_SYSTEM) (λ t. inl (rw t))
      (λ s. by (eqb d.opcode OPCODE_LOAD)
      (λ t. both _ _ (rw (eqb-true d.opcode OPCODE_LOAD t)) (rw (s, t) (load_either h pc instr d k d.funct3 b l)))
      (λ u. by (eqb d.opcode OPCODE_STORE)
      (λ t. both _ _ (rw (eqb-true d.opcode OPCODE_STORE t)) (rw (s, u, t) (store_either h pc instr d k d.funct3 b l)))
      (λ v. by (eqb d.opcode OPCODE_LOAD_FP)
      (λ t. both _ _ (rw (eqb-true d.opcode OPCODE_LOAD_FP t)) (rw (s, u, v, t) (inr (refl, exec-size h.helper32 pc instr k b))))
      (λ w. by (eqb d.opcode OPCODE_STORE_FP)
      (λ t. both _ _ (rw (eqb-true d.opcode OPCODE_STORE_FP t)) (rw (s, u, v, w, t) (inr (refl, exec-size h.helper32 pc instr k b))))
      (λ x. by (eqb d.opcode OPCODE_AMO)
      (λ t. both _ _ (rw (eqb-true d.opcode OPCODE_AMO t)) (rw (s, u, v, w, x, t) (inr (refl, exec-size h.helper32 pc instr k b))))
      (λ t. inl (rw (s, u, v, w, x, t))))))))

  -- ---- one instruction, emitted by itself

  pub words_size : (cs : List Call) → length (words slot_offset cs) ≡ size slot_offset cs
  unfolding words_in
  words_size cs = refl

  -- at most `inline_words` inline, and a helper's call apart from them
  native-size : (h : Host) (pc instr : ℕ) → size slot_offset (emit_native h pc instr).calls ≤ inline_words
  unfolding emit_native
  native-size h pc instr =
      by (is_32 instr)
      (λ t. rw t (instr_size slot_offset pc instr (decode32 instr)).within)
      (λ t. rw t (instr16_size slot_offset h.ignore_ebreak pc instr).within)

  native-apart : (h : Host) (pc instr k : ℕ) → k < 65536 → Apart (emit_native h pc instr) (emit_term_helper h pc instr k)
  unfolding emit_native emit_term_helper
  native-apart h pc instr k b =
      by (is_32 instr) (λ t. rw t (apart32 h pc instr (decode32 instr) k b (omega arith))) (λ t. rw t (apart16 h pc instr k b))

  -- the same with Zbb first
  pub inline-size : (h : Host) (pc instr : ℕ) → size slot_offset (emit_inline product h pc instr).calls ≤ inline_words
  unfolding emit_inline zbb_of zbb_first
  inline-size h pc instr =
      by (is_32 instr)
      (λ t. rw t (by_zbb (λ (e : Emission). size slot_offset e.calls ≤ inline_words) (find instr) instr _ (λ f. (zbb_size slot_offset instr).within) (λ f. native-size h pc instr)))
      (λ t. rw t (native-size h pc instr))

  pub inline-apart : (h : Host) (pc instr k : ℕ) → k < 65536 → Apart (emit_inline product h pc instr) (emit_term_helper h pc instr k)
  unfolding emit_inline zbb_of zbb_first
  inline-apart h pc instr k b =
      by (is_32 instr)
      (λ t. rw t (by_zbb (λ (e : Emission). Apart e (emit_term_helper h pc instr k)) (find instr) instr _ (λ f. inl (unfold emit_term_helper in (rw t (rust_helps_none h pc instr k f)))) (λ f. native-apart h pc instr k b)))
      (λ t. rw t (native-apart h pc instr k b))

  -- calls whose words all fit in a new emitter
  fitting : (lent : ℕ) (cs : List Call) → size slot_offset cs ≤ instr_words → after (nothing lent slot_offset) cs ≡ alone lent slot_offset cs
  unfolding words_in
  fitting lent cs few = after_is (nothing lent slot_offset) cs ∙ rw (in_turn-fits instr_words [] (groups slot_offset cs) (omega (arith, few))) refl

  by_new : (lent : ℕ) (e : Emission) → size slot_offset e.calls ≤ instr_words → emitted (nothing lent slot_offset) e ≡ compiled lent slot_offset e.calls e.flow
  by_new lent e few = rw (fitting lent e.calls few) refl

  -- what the code's emitters answer, from a new emitter
  compiled_as : (x : Emission) → size slot_offset x.calls ≤ inline_words → {lent : ℕ} {e : Emission} (r : Emitted) → x ≡ e → answer r ≡ emitted (nothing lent slot_offset) e
      → Compiled lent slot_offset x.calls x.flow r
  compiled_as x few {lent} {e} r q is = let small = rw q at few in rw q (is_compiled lent slot_offset e.calls e.flow r (is ∙ by_new lent e (omega (arith, small))))

  pub inline_compiled : (h : Host) (pc instr : ℕ) {lent : ℕ} {e : Emission} (r : Emitted) → emit_inline product h pc instr ≡ e → answer r ≡ emitted (nothing lent slot_offset) e
      → Compiled lent slot_offset (emit_inline product h pc instr).calls (emit_inline product h pc instr).flow r
  inline_compiled h pc instr = compiled_as (emit_inline product h pc instr) (inline-size h pc instr)

  -- and from what the inline emitter left
  handed_on : (lent : ℕ) (e helper : Emission) → Apart e helper → emitted (alone lent slot_offset e.calls) helper ≡ compiled lent slot_offset (e.calls ++ helper.calls) helper.flow
  unfolding words_in flatten
  handed_on lent e helper (inl a) = rw (a, append-nil e.calls) refl
  handed_on lent e helper (inr a) = rw a.0 (by_new lent helper a.2)

  pub compiled_helper : (h : Host) (pc instr k : ℕ) {lent : ℕ} {helper : Emission} (r : Emitted) → k < 65536 → emit_term_helper h pc instr k ≡ helper
      → answer r ≡ emitted (alone lent slot_offset (emit_inline product h pc instr).calls) helper
      → Compiled lent slot_offset ((emit_inline product h pc instr).calls ++ (emit_term_helper h pc instr k).calls) (emit_term_helper h pc instr k).flow r
  compiled_helper h pc instr k {lent} {helper} r b q is =
      rw q (is_compiled lent slot_offset _ helper.flow r (is ∙ handed_on lent (emit_inline product h pc instr) helper (rw q at (inline-apart h pc instr k b))))

  -- Zbb's emitter after the Rust's, which refused the instruction
  pub zbb_compiled : (h : Host) (pc instr : ℕ) {lent : ℕ} {d : Decoded32} (out r : Emitted) → d ≡ decode32 instr → instr % 4 ≡ 3
      → answer out ≡ emitted (nothing lent slot_offset) (emit_native_instr pc instr d) → out.flow ≡ None
      → (find instr ≡ None → answer r ≡ unfit (held out.em))
      → ((find instr ≡ None → ⊥) → answer r ≡ emitted (nothing (held out.em).lent (held out.em).slot_offset) (emission (find instr) instr))
      → Compiled lent slot_offset (emit_inline product h pc instr).calls (emit_inline product h pc instr).flow r
  unfolding emit_inline zbb_of
  zbb_compiled h pc instr {lent} {d} out r e wide is refused other zbb =
      let rust = compiled_as (emit_native h pc instr) (native-size h pc instr) out (native32 h pc instr d e wide) is in
      let same : (held out.em).slot_offset ≡ slot_offset = ap (λ (x : Held). x.slot_offset) rust.holds in
      let array : (held out.em).lent ≡ lent = ap (λ (x : Held). x.lent) rust.holds in
      let no_flow : (emit_native h pc instr).flow ≡ None = sym rust.flow ∙ refused in
      rw (eq-eqb (instr % 4) 3 wide)
      (by_zbb (λ (x : Emission). Compiled lent slot_offset x.calls x.flow r) (find instr) instr (emit_native h pc instr)
      (λ f. compiled_as (emission (find instr) instr) (zbb_fits instr f) r refl (rw (same, array) at (zbb f)))
      (λ f. is_compiled lent slot_offset (emit_native h pc instr).calls (emit_native h pc instr).flow r (rw no_flow (rw rust.holds at (other f)))))
    where
      zbb_fits : (w : ℕ) → (find w ≡ None → ⊥) → size slot_offset (emission (find w) w).calls ≤ inline_words
      zbb_fits w f = (zbb_size slot_offset w).within

  -- the words of an instruction that a helper takes, and of one that is not covered
  pub helped-size : (e helper : Emission) → size slot_offset e.calls ≤ inline_words → Apart e helper → size slot_offset (e.calls ++ helper.calls) ≤ instr_words
  unfolding flatten
  helped-size e helper few (inl a) = rw (a, append-nil e.calls) (omega arith)
  helped-size e helper few (inr a) = rw a.0 a.2

  pub uncovered_size : (e helper : Emission) → size slot_offset e.calls ≤ inline_words → Apart e helper → (helper.flow ≡ Some Terminate → ⊥) → size slot_offset (e.calls ++ helper.calls) ≤ inline_words
  uncovered_size e helper few (inl a) other = rw (a, append-nil e.calls) few
  uncovered_size e helper few (inr a) other = absurd (other a.1)
