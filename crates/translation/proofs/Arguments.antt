-- The helper's call: its arguments, from the machine before it, are document 01's. Assumes nothing.
use mathlib.Core.Path.{◌≡◌, refl}
use mathlib.Core.Bool.{Bool, true, false, cond}
use mathlib.Core.Logic.{◌⊎◌, inl, inr}
use mathlib.Core.List.{List, [], ◌∷◌, ◌++◌, map}
use Prim.Native.Nat.{ℕ, zero, suc, ◌%◌, ◌^◌, ◌≤◌, ◌<◌}
use native.Mathlib.Nat.{not-suc-le-zero, le_of_suc-le-suc}
use native.Mathlib.Omega.{arith}
use lib.Dec.{eqb}
use lib.ListN.{length, get_or}
use Rattle.word.specs.Word.{add}
use Rattle.isa.specs.Formats.{rd, funct3, rs1, rs2, i_imm, s_imm}
use Rattle.isa.specs.Decode as Rust
use Rattle.isa.proofs.Decoding.{imm_i_is, imm_s_is}
use Rattle.a64.specs.Forms.{decode}
use Rattle.a64_alu.specs.Alu.{op_value}
use Rattle.a64_exec.specs.Exec.{State, reg}
use Rattle.a64_emitter.specs.Writers.{add_x, ldr_x, str_x, sub_sp_imm, add_sp_imm, blr, ret}
use Rattle.rv64.specs.Decode.{lookup, itself}
use Rattle.rv64.specs.Execute.{read}
use Rattle.emit_native.specs.declared.EmitFlow.{EmitFlow}
use Rattle.std.specs.Prelude.{Some, None}
use Rattle.emit_native.specs.declared.Host.{Host}
use Rattle.emit_native.specs.Calls.{Call, emit, mov_imm64, load, if_not_0, Emission}
use Rattle.emit_native.specs.Calls as Emitting
use Rattle.term_helper.specs.TermHelper as Th
use Rattle.translation.specs.HelperBlock as Spec
use Rattle.translation.proofs.Calls.{Model, form_step, call_step, calls-run, scratch, form-fits, written, fits, keeps, all_fit, all_keep, Kept}
use Rattle.translation.proofs.Moves.{Move, from, constant, move_call, all_moved, Moves}
use Rattle.translation.proofs.Instrs.{Fine, nothing}
use Rattle.translation.proofs.Agree32.{digit}

-- after the call: X30 and SP back, the prefix added to X1
abbrev pub restoring : ℕ → List Call
restoring n = emit (ldr_x 30 31 0) ∷ emit (add_sp_imm 16) ∷ if_not_0 n (mov_imm64 12 n ∷ emit (add_x 1 1 12) ∷ [])

-- from the lowering of SP on
abbrev pub calling : ℕ → List Call
calling n = emit (sub_sp_imm 16) ∷ emit (str_x 30 31 0) ∷ emit (blr 16) ∷ (restoring n ++ (emit ret ∷ []))

-- the numbers at 0, 1, .. are those of a list
abbrev pub Are : (ℕ → ℕ) → List ℕ → Type 0
Are f [] = Unit {0}
Are f (a ∷ l) = (f 0 ≡ a) × Are (λ k. f (suc k)) l

pub at_each : (f : ℕ → ℕ) (l : List ℕ) → Are f l → (k : ℕ) → k < length l → f k ≡ get_or l k 0
at_each f [] e k h = absurd (not-suc-le-zero h)
at_each f (a ∷ l) e zero h = e.0
at_each f (a ∷ l) e (suc k) h = at_each (λ k. f (suc k)) l e.1 k (le_of_suc-le-suc h)

-- the calls hs of a helper's emitter, on the model v, after n instructions: what is called is c
pub record Arranged (hs : List Call) (v : Model) (n : ℕ) (c : Spec.Call) : Type 0 where
  -- scratch registers, then the arguments and X16
  pub early : List Call
  pub moves : List Move
  pub is : hs ≡ early ++ (map move_call moves ++ calling n)
  pub fine : Fine early
  pub range : Moves moves
  pub few : length c.arguments ≤ 8
  pub arguments : Are (all_moved moves (calls-run early v).r) c.arguments
  pub x16 : all_moved moves (calls-run early v).r 16 ≡ c.helper

module _ (s : State) (v : Model) (κ : Kept (reg s) true v) (n pc : ℕ) (hp : pc < 2 ^ 64) where
  general-call : (helper w : ℕ) → helper < 2 ^ 64 → w < 2 ^ 64 → Arranged (Th.call_exec helper pc w n) v n (Spec.general helper s w pc)
  unfolding scratch calls-run
  general-call helper w hh hw =
      record {
        early = [];
        moves = from 0 1 ∷ from 1 2 ∷ from 2 3 ∷ from 3 4 ∷ from 4 5 ∷ constant 5 w ∷ constant 6 pc ∷ constant 16 helper ∷ [];
        is = refl;
        fine = nothing;
        range = omega (arith, hh, hw, hp);
        few = omega arith;
        arguments = (κ.same 1 refl, (κ.same 2 refl, (κ.same 3 refl, (κ.same 4 refl, (κ.same 5 refl, (refl, (refl, tt)))))));
        x16 = refl;
      }

  load-call : (helper op w : ℕ) → helper < 2 ^ 64 → op < 2 ^ 64 → w < 2 ^ 32
      → Arranged (Th.load_calls helper op pc w (Rust.decode32 w) n) v n (Spec.memory helper s op w 0 (add (read v.slots (rs1 w)) (i_imm w)) pc)
  unfolding all_fit fits form-fits keeps written all_keep scratch calls-run call_step form_step op_value decode
  load-call helper op w hh ho hw =
      let a : add (read v.slots (rs1 w)) (Rust.imm_i w) ≡ add (read v.slots (rs1 w)) (i_imm w) = rw (imm_i_is w hw) in
      record {
        early = load 9 (rs1 w) ∷ mov_imm64 10 (Rust.imm_i w) ∷ emit (add_x 11 9 10) ∷ [];
        moves = from 0 1 ∷ from 1 2 ∷ from 2 3 ∷ constant 3 op ∷ constant 4 (rd w) ∷ constant 5 0 ∷ from 6 11 ∷ constant 7 pc ∷ constant 16 helper ∷ [];
        is = refl;
        fine = record { fit = tt; stay = refl; range = (omega arith, (rw (imm_i_is w hw) (omega arith), (tt, tt))); slots = λ u. refl };
        range = omega (arith, hh, ho, hp);
        few = omega arith;
        arguments = (κ.same 1 refl, (κ.same 2 refl, (κ.same 3 refl, (refl, (refl, (refl, (a, (refl, tt))))))));
        x16 = refl;
      }

  store-call : (helper op w : ℕ) → helper < 2 ^ 64 → op < 2 ^ 64 → w < 2 ^ 32
      → Arranged (Th.store_calls helper op pc w (Rust.decode32 w) n) v n (Spec.memory helper s op w (read v.slots (rs2 w)) (add (read v.slots (rs1 w)) (s_imm w)) pc)
  unfolding all_fit fits form-fits keeps written all_keep scratch calls-run call_step form_step op_value decode
  store-call helper op w hh ho hw =
      let a : add (read v.slots (rs1 w)) (Rust.imm_s w) ≡ add (read v.slots (rs1 w)) (s_imm w) = rw (imm_s_is w hw) in
      record {
        early = load 9 (rs1 w) ∷ mov_imm64 10 (Rust.imm_s w) ∷ emit (add_x 11 9 10) ∷ load 12 (rs2 w) ∷ [];
        moves = from 0 1 ∷ from 1 2 ∷ from 2 3 ∷ constant 3 op ∷ constant 4 (rd w) ∷ from 5 12 ∷ from 6 11 ∷ constant 7 pc ∷ constant 16 helper ∷ [];
        is = refl;
        fine = record { fit = tt; stay = refl; range = (omega arith, (rw (imm_s_is w hw) (omega arith), (tt, (omega arith, tt)))); slots = λ u. refl };
        range = omega (arith, hh, ho, hp);
        few = omega arith;
        arguments = (κ.same 1 refl, (κ.same 2 refl, (κ.same 3 refl, (refl, (refl, (refl, (a, (refl, tt))))))));
        x16 = refl;
      }

  -- ---- the encodings

  -- an emission that ends the block is arranged as c
  abbrev Takes : Emission → Spec.Call → Type 0
  Takes e c = e.flow ≡ (Some EmitFlow.Terminate) → Arranged e.calls v n c

  not_taken : {A : Type 0} → None ≡ (Some EmitFlow.Terminate) → A
  not_taken e = let y : ◌≡◌ {A = ℕ} 0 1 = cc in absurd (omega arith)

  -- the operation that the Rust finds, if any, is k
  abbrev Finds : Th.Operation → ℕ → Type 0
  Finds o k = (o ≡ None) ⊎ ((o ≡ Some k) × (k < 2 ^ 64))

  loads_are : (t : ℕ) → t < 8 → Finds (Th.load_op t) (lookup Spec.loads t itself 0)
  unfolding Th.load_op
  loads_are =
      digit (λ t. Finds (Th.load_op t) (lookup Spec.loads t itself 0))
      (inr (refl, omega arith)) (inr (refl, omega arith)) (inr (refl, omega arith)) (inr (refl, omega arith))
      (inr (refl, omega arith)) (inr (refl, omega arith)) (inr (refl, omega arith)) (inl refl)

  stores_are : (t : ℕ) → t < 8 → Finds (Th.store_op t) (lookup Spec.stores t itself 0)
  unfolding Th.store_op
  stores_are =
      digit (λ t. Finds (Th.store_op t) (lookup Spec.stores t itself 0))
      (inr (refl, omega arith)) (inr (refl, omega arith)) (inr (refl, omega arith)) (inr (refl, omega arith)) (inl refl) (inl refl) (inl refl) (inl refl)

  found_takes : (make : Th.Operation → Emission) (o : Th.Operation) (k : ℕ) (c : Spec.Call) → (make None).flow ≡ None
      → (k < 2 ^ 64 → Takes (make (Some k)) c) → Finds o k → Takes (make o) c
  found_takes make o k c e f (inl p) = rw (p, e) (λ t. not_taken t)
  found_takes make o k c e f (inr (p, l)) = rw p (f l)

  module _ (h : Host) (hm : h.memory_helper < 2 ^ 64) (h32 : h.helper32 < 2 ^ 64) (h16 : h.helper16 < 2 ^ 64) (w : ℕ) where
    -- the opcode is k, or not
    is : (P : Type 0) (k : ℕ) → (eqb (w % 128) k ≡ true → P) → (eqb (w % 128) k ≡ false → P) → P
    is P k f g = by (eqb (w % 128) k) refl
      where
        by : (b : Bool) → eqb (w % 128) k ≡ b → P
        by true q = f q
        by false q = g q

    abbrev Takes32 : Type 0
    Takes32 = Takes (Th.emit_native_term_helper32 h pc w (Rust.decode32 w) n) (Spec.call h s v.slots w pc)

    pub takes32 : w < 2 ^ 32 → eqb (w % 4) 3 ≡ true → Takes32
    unfolding Th.emit_native_term_helper32 Th.opcode_helper Th.load_helper Th.store_helper
    takes32 hw e =
        let general : (Some EmitFlow.Terminate) ≡ (Some EmitFlow.Terminate) → Arranged (Th.call_exec h.helper32 pc w n) v n (Spec.general h.helper32 s w pc) =
        λ t. general-call h.helper32 w h32 (omega arith) in
        is Takes32 0x73 (λ q. rw (e, q) (λ t. not_taken t)) (λ a.
        is Takes32 0x03 (λ q. rw (e, a, q) (found_takes (Th.with_load h pc w (Rust.decode32 w) n) _ _ _ refl (λ l t. load-call h.memory_helper _ w hm l hw) (loads_are (funct3 w) (omega arith)))) (λ b.
        is Takes32 0x23 (λ q. rw (e, a, b, q) (found_takes (Th.with_store h pc w (Rust.decode32 w) n) _ _ _ refl (λ l t. store-call h.memory_helper _ w hm l hw) (stores_are (funct3 w) (omega arith)))) (λ c.
        is Takes32 0x07 (λ q. rw (e, a, b, c, q) general) (λ d.
        is Takes32 0x27 (λ q. rw (e, a, b, c, d, q) general) (λ f.
        is Takes32 0x2F (λ q. rw (e, a, b, c, d, f, q) general) (λ g.
        rw (e, a, b, c, d, f, g) (λ t. not_taken t)))))))

    pub takes16 : w < 2 ^ 16 → eqb (w % 4) 3 ≡ false → Takes (Th.emit_native_term_helper16 h pc w n) (Spec.call h s v.slots w pc)
    unfolding Th.emit_native_term_helper16
    takes16 hw e = rw e (by (Th.supports (Rust.c_op w) (Rust.c_funct3 w)))
      where
        by : (b : Bool) → Takes (cond b (Emitting.terminate (Th.call_exec h.helper16 pc w n)) (Emitting.none [])) (Spec.general h.helper16 s w pc)
        by true t = general-call h.helper16 w h16 (omega arith)
        by false t = not_taken t
