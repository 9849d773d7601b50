-- Every 16-bit encoding: the Rust's emission agrees with the ISA's instruction. Assumes nothing.
use mathlib.Core.Path.{◌≡◌, refl}
use mathlib.Core.Bool.{Bool, true, false, cond}
use mathlib.Core.List.{List, [], ◌∷◌, ◌++◌}
use Prim.Native.Nat.{ℕ, zero, suc, ◌%◌, ◌^◌, ◌<◌}
use native.Mathlib.Omega.{arith}
use lib.Bits.{or_zero_r}
use lib.Dec.{eqb}
use borrow.Author.Tests.{eqb-true, eqb-false, ne_eqb}
use Rattle.word.specs.Word.{add, shl}
use Rattle.isa.specs.Formats.{inst, rd, low_reg, high_reg, ciw_imm, ci_imm, shamt_c, ci16_imm, cj_imm, cb_imm}
use Rattle.a64.specs.Forms.{decode}
use Rattle.a64_alu.specs.Alu.{op_value}
use Rattle.rv64.specs.declared.alu.Alu.{Alu}
use Rattle.rv64.specs.declared.alu.Cond.{Cond}
use Rattle.rv64.specs.declared.decode.Instr.{Instr}
use Rattle.rv64.specs.Alu.{value}
use Rattle.rv64.specs.Execute.{read, write, exec}
use Rattle.rvc.specs.Compressed as C
use Rattle.emit_native.specs.declared.EmitFlow.{EmitFlow}
use Rattle.std.specs.Prelude.{Some}
use Rattle.emit_native.specs.Hart.{not_1}
use Rattle.a64_emitter.specs.Writers.{and_x, orr_x}
use Rattle.emit_native.specs.Calls.{emit, mov_imm64, load, store, Emission, continue, terminate, none, calls_first, store_rd}
use Rattle.isa.specs.Decode as Rust
use Rattle.instr16.specs.Instr16 as I16
use Rattle.isa.proofs.Decoding.{imm_ci_is, shamt_is, imm_addi4spn_is, imm_addi16sp_is, imm_cj_is, imm_cb_is}
use Rattle.translation.proofs.Calls.{Model, form_step, call_step, calls-run, scratch, form-fits, written, fits, keeps, all_fit, all_keep, Kept, read-lt}
use Rattle.translation.proofs.Alus.{body, body_law}
use Rattle.translation.proofs.Instrs.{Agrees, nothing, two, body_fine, condition, fork, calls_first_does, with_constant, fork_does, fork_next, even, op_agrees, imm_agrees, lui_agrees, jal_agrees, nop_agrees, uncovered_agrees, helper_agrees}
use Rattle.translation.proofs.Agree32.{digit}

-- the store of a register that is not 0
stored : (d : ℕ) → (d ≡ 0 → ⊥) → store_rd (Some EmitFlow.Continue) d ≡ store 11 d ∷ []
unfolding store_rd
stored d h = rw (ne_eqb d 0 h)

plus_zero : (x : ℕ) → x < 2 ^ 64 → add x 0 ≡ x
plus_zero x h = omega arith

read-zero : (rs : List ℕ) → read rs 0 ≡ 0
unfolding read
read-zero rs = refl

zero_plus : (x : ℕ) → x < 2 ^ 64 → add 0 x ≡ x
zero_plus x h = omega arith

module _ (r₀ : ℕ → ℕ) (pc : ℕ) (v : Model) (κ : Kept r₀ true v) where
  -- an operation with a constant, and the store that is always there
  imm_stored : (k : Alu) (d a c : ℕ) → d < 32 → (d ≡ 0 → ⊥) → a < 32 → c < 2 ^ 64
      → Agrees 2 pc v (Instr.OpImm k d a c) (continue (load 9 a ∷ mov_imm64 10 c ∷ (body k ++ (store 11 d ∷ []))))
  imm_stored k d a c hd nd ha hc =
      rw (stored d nd) at
      (imm_agrees r₀ 2 pc v κ (body k) k d a c (body_fine k) (λ u x y. body_law k u x (rw y hc)) hd ha hc)

  op_stored : (k : Alu) (d a b : ℕ) → d < 32 → (d ≡ 0 → ⊥) → a < 32 → b < 32
      → Agrees 2 pc v (Instr.Op k d a b) (continue (load 9 a ∷ load 10 b ∷ (body k ++ (store 11 d ∷ []))))
  op_stored k d a b hd nd ha hb = rw (stored d nd) at (op_agrees r₀ 2 pc v κ k d a b hd ha hb)

  -- a result for register 0 is lost
  zero_agrees : (k : Alu) (a c : ℕ) → Agrees 2 pc v (Instr.OpImm k 0 a c) (continue [])
  unfolding exec write all_fit all_keep calls-run
  zero_agrees k a c = record { flow = refl; does = record { fit = tt; range = tt; slots = refl }; stay = tt; next = refl }

  li_agrees : (d c : ℕ) → d < 32 → (d ≡ 0 → ⊥) → c < 2 ^ 64
      → Agrees 2 pc v (Instr.OpImm Alu.Add d 0 c) (continue (mov_imm64 11 c ∷ store 11 d ∷ []))
  unfolding exec write read value all_fit all_keep fits keeps scratch calls-run call_step
  li_agrees d c hd nd hc =
      record {
        flow = refl;
        does = record { fit = tt; range = omega (arith, hc, nd); slots = rw (ne_eqb d 0 nd, zero_plus c hc) };
        stay = tt;
        next = refl;
      }

  mv_agrees : (d b : ℕ) → d < 32 → (d ≡ 0 → ⊥) → b < 32
      → Agrees 2 pc v (Instr.Op Alu.Add d 0 b) (continue (load 11 b ∷ store 11 d ∷ []))
  unfolding exec write value all_fit all_keep fits keeps scratch calls-run call_step
  mv_agrees d b hd nd hb =
      record {
        flow = refl;
        does = record {
          fit = tt;
          range = omega (arith, nd);
          slots = rw (ne_eqb d 0 nd, read-zero v.slots, zero_plus (read v.slots b) (read-lt κ b));
        };
        stay = tt;
        next = refl;
      }

  lui_stored : (d c : ℕ) → d < 32 → (d ≡ 0 → ⊥) → c < 2 ^ 64 → Agrees 2 pc v (Instr.Lui d c) (continue (mov_imm64 11 c ∷ store 11 d ∷ []))
  lui_stored d c hd nd hc = rw (ne_eqb d 0 nd) at (lui_agrees r₀ 2 pc v κ d c hd hc)

  -- a branch on zero
  bz_agrees : (k : Cond) (a c : ℕ) → a < 32
      → Agrees 2 pc v (Instr.Branch k a 0 c) (terminate (load 9 a ∷ mov_imm64 10 0 ∷ fork (condition k) (add pc c) (add pc 2)))
  unfolding exec
  bz_agrees k a c ha =
      record {
        flow = refl;
        does = calls_first_does (load 9 a ∷ mov_imm64 10 0 ∷ []) _ v _ (with_constant a 0 ha (omega arith))
            (unfold calls-run call_step in (fork_does k (add pc c) (add pc 2) (calls-run (load 9 a ∷ mov_imm64 10 0 ∷ []) v) (omega arith) (omega arith)));
        next = rw (read-zero v.slots)
            (unfold calls-run call_step in (fork_next k (add pc c) (add pc 2) (calls-run (load 9 a ∷ mov_imm64 10 0 ∷ []) v) (read-lt κ a) (omega arith)));
      }

  jr_agrees : (a : ℕ) → a < 32 → Agrees 2 pc v (Instr.Jalr 0 a 0) (terminate (load 9 a ∷ mov_imm64 10 not_1 ∷ emit (and_x 0 9 10) ∷ []))
  unfolding exec write all_fit fits form-fits keeps written scratch calls-run call_step form_step op_value decode
  jr_agrees a ha =
      record {
        flow = refl;
        does = record { fit = tt; range = omega arith; slots = refl };
        next = rw (plus_zero (read v.slots a) (read-lt κ a)) (even (read v.slots a) (read-lt κ a));
      }

  jalr1_agrees : (a : ℕ) → a < 32
      → Agrees 2 pc v (Instr.Jalr 1 a 0)
      (terminate (load 9 a ∷ mov_imm64 10 not_1 ∷ emit (and_x 11 9 10) ∷ mov_imm64 12 (add pc 2) ∷ store 12 1 ∷ emit (orr_x 0 11 31) ∷ []))
  unfolding exec write all_fit fits form-fits keeps written scratch calls-run call_step form_step op_value decode
  jalr1_agrees a ha =
      record {
        flow = refl;
        does = record { fit = tt; range = omega arith; slots = refl };
        next = rw (plus_zero (read v.slots a) (read-lt κ a), or_zero_r) (even (read v.slots a) (read-lt κ a));
      }

  no_words : Agrees 2 pc v Instr.Uncovered (none [])
  no_words = uncovered_agrees r₀ 2 pc v κ [] nothing

  helped : Agrees 2 pc v Instr.Helper (none [])
  helped = helper_agrees r₀ 2 pc v κ

  -- an instruction that is reserved where n is 0
  unless : (n : ℕ) (i : Instr) (e : Emission) → ((n ≡ 0 → ⊥) → Agrees 2 pc v i e) → Agrees 2 pc v (C.unless0 n i) (cond (eqb n 0) (none []) e)
  unfolding C.unless0
  unless n i e f = by (eqb n 0) refl
    where
      by : (b : Bool) → eqb n 0 ≡ b → Agrees 2 pc v (cond b Instr.Uncovered i) (cond b (none []) e)
      by true q = no_words
      by false q = f (eqb-false n 0 q)

  -- ---- the encodings

  module _ (w : ℕ) (hw : w < 2 ^ 16) where
    -- a register of 8 to 15
    high_lt : high_reg w < 32
    high_lt = omega arith

    high_is : high_reg w ≡ 0 → ⊥
    high_is e = omega arith

    addi4spn_is : Agrees 2 pc v (C.unless0 (ciw_imm w) (Instr.OpImm Alu.Add (low_reg w) 2 (ciw_imm w))) (I16.addi4spn w)
    unfolding I16.addi4spn body
    addi4spn_is =
        rw (imm_addi4spn_is w)
        (unless (ciw_imm w) _ _ (λ n. imm_stored Alu.Add (low_reg w) 2 (ciw_imm w) (omega arith) (λ e. omega arith) (omega arith) (omega arith)))

    quadrant0_by : (t : ℕ) → t < 8 → inst 15 13 w ≡ t → Agrees 2 pc v (C.quadrant0 w) (I16.quadrant_0 w)
    unfolding C.quadrant0 C.table0 I16.quadrant_0
    quadrant0_by =
        digit (λ t. inst 15 13 w ≡ t → Agrees 2 pc v (C.quadrant0 w) (I16.quadrant_0 w))
        (λ e. rw e addi4spn_is) (λ e. rw e no_words) (λ e. rw e helped) (λ e. rw e helped)
        (λ e. rw e no_words) (λ e. rw e no_words) (λ e. rw e helped) (λ e. rw e helped)

    -- C.SUB, C.XOR, C.OR, C.AND, C.SUBW, C.ADDW
    alu_is : (k : Alu) → Agrees 2 pc v (C.reg w k) (continue (load 9 (high_reg w) ∷ load 10 (low_reg w) ∷ (body k ++ (store 11 (high_reg w) ∷ []))))
    alu_is k = op_stored k (high_reg w) (high_reg w) (low_reg w) high_lt high_is high_lt (omega arith)

    leftover : Agrees 2 pc v Instr.Uncovered (none (load 9 (high_reg w) ∷ load 10 (low_reg w) ∷ []))
    leftover = uncovered_agrees r₀ 2 pc v κ (load 9 (high_reg w) ∷ load 10 (low_reg w) ∷ []) (two (high_reg w) (low_reg w) high_lt (omega arith))

    alu_by : (s a : ℕ) → s < 2 → a < 4 → inst 12 12 w ≡ s → inst 6 5 w ≡ a
        → Agrees 2 pc v (C.arith w) (calls_first (load 9 (high_reg w) ∷ load 10 (low_reg w) ∷ []) (I16.c_alu (inst 12 12 w) (inst 6 5 w) (high_reg w)))
    unfolding C.arith C.ariths I16.c_alu body
    alu_by zero zero hs ha p q = rw (p, q) (alu_is Alu.Sub)
    alu_by zero (suc zero) hs ha p q = rw (p, q) (alu_is Alu.Xor)
    alu_by zero (suc (suc zero)) hs ha p q = rw (p, q) (alu_is Alu.Or)
    alu_by zero (suc (suc (suc zero))) hs ha p q = rw (p, q) (alu_is Alu.And)
    alu_by zero (suc (suc (suc (suc a)))) hs ha p q = absurd (omega arith)
    alu_by (suc zero) zero hs ha p q = rw (p, q) (alu_is Alu.Subw)
    alu_by (suc zero) (suc zero) hs ha p q = rw (p, q) (alu_is Alu.Addw)
    alu_by (suc zero) (suc (suc zero)) hs ha p q = rw (p, q) leftover
    alu_by (suc zero) (suc (suc (suc zero))) hs ha p q = rw (p, q) leftover
    alu_by (suc zero) (suc (suc (suc (suc a)))) hs ha p q = absurd (omega arith)
    alu_by (suc (suc s)) a hs ha p q = absurd (omega arith)

    shift_is : (k : Alu) → Agrees 2 pc v (Instr.OpImm k (high_reg w) (high_reg w) (shamt_c w))
        (continue (load 9 (high_reg w) ∷ mov_imm64 10 (Rust.shamt w) ∷ (body k ++ (store 11 (high_reg w) ∷ []))))
    shift_is k = rw (shamt_is w) (imm_stored k (high_reg w) (high_reg w) (shamt_c w) high_lt high_is high_lt (omega arith))

    andi_is : Agrees 2 pc v (Instr.OpImm Alu.And (high_reg w) (high_reg w) (ci_imm w)) (I16.c_andi w)
    unfolding I16.c_andi body
    andi_is = rw (imm_ci_is w) (imm_stored Alu.And (high_reg w) (high_reg w) (ci_imm w) high_lt high_is high_lt (omega arith))

    -- by inst[11:10]
    group_by : (t : ℕ) → t < 4 → inst 11 10 w ≡ t → Agrees 2 pc v (C.misc_alu w) (I16.c_group w)
    unfolding C.misc_alu C.misc_alus I16.c_group I16.c_srli I16.c_srai body
    group_by zero h e = rw e (shift_is Alu.Srl)
    group_by (suc zero) h e = rw e (shift_is Alu.Sra)
    group_by (suc (suc zero)) h e = rw e andi_is
    group_by (suc (suc (suc zero))) h e = rw e (alu_by (inst 12 12 w) (inst 6 5 w) (omega arith) (omega arith) refl refl)
    group_by (suc (suc (suc (suc t)))) h e = absurd (omega arith)

    -- C.ADDI and C.NOP, C.LI: nothing is emitted for register 0
    addi_by : (b : Bool) → eqb (rd w) 0 ≡ b → Agrees 2 pc v (Instr.OpImm Alu.Add (rd w) (rd w) (ci_imm w)) (I16.c_addi w)
    unfolding I16.c_addi body
    addi_by true q = rw (imm_ci_is w, eqb-true (rd w) 0 q) (zero_agrees Alu.Add 0 (ci_imm w))
    addi_by false q =
        rw (imm_ci_is w, q) (imm_stored Alu.Add (rd w) (rd w) (ci_imm w) (omega arith) (eqb-false (rd w) 0 q) (omega arith) (omega arith))

    li_by : (b : Bool) → eqb (rd w) 0 ≡ b → Agrees 2 pc v (Instr.OpImm Alu.Add (rd w) 0 (ci_imm w)) (I16.c_li w)
    unfolding I16.c_li
    li_by true q = rw (imm_ci_is w, eqb-true (rd w) 0 q) (zero_agrees Alu.Add 0 (ci_imm w))
    li_by false q = rw (imm_ci_is w, q) (li_agrees (rd w) (ci_imm w) (omega arith) (eqb-false (rd w) 0 q) (omega arith))

    addiw_is : Agrees 2 pc v (C.unless0 (rd w) (Instr.OpImm Alu.Addw (rd w) (rd w) (ci_imm w))) (I16.c_addiw w)
    unfolding I16.c_addiw body
    addiw_is =
        rw (imm_ci_is w) (unless (rd w) _ _ (λ n. imm_stored Alu.Addw (rd w) (rd w) (ci_imm w) (omega arith) n (omega arith) (omega arith)))

    addi16sp_is : Agrees 2 pc v (C.unless0 (ci16_imm w) (Instr.OpImm Alu.Add 2 2 (ci16_imm w))) (I16.c_addi16sp w)
    unfolding I16.c_addi16sp body
    addi16sp_is =
        rw (imm_addi16sp_is w)
        (unless (ci16_imm w) _ _ (λ n. imm_stored Alu.Add 2 2 (ci16_imm w) (omega arith) (λ e. omega arith) (omega arith) (omega arith)))

    c_lui_is : Agrees 2 pc v (C.unless0 (rd w) (C.unless0 (ci_imm w) (Instr.Lui (rd w) (shl (ci_imm w) 12)))) (I16.c_lui w)
    unfolding I16.c_lui
    c_lui_is =
        rw (imm_ci_is w)
        (unless (rd w) _ _ (λ n. unless (ci_imm w) _ _ (λ m. lui_stored (rd w) (shl (ci_imm w) 12) (omega arith) n (omega arith))))

    lui_by : (b : Bool) → eqb (rd w) 2 ≡ b → Agrees 2 pc v (C.lui_addi16sp w) (I16.c_addi16sp_lui w)
    unfolding C.lui_addi16sp I16.c_addi16sp_lui
    lui_by true q = rw q addi16sp_is
    lui_by false q = rw q c_lui_is

    c_j_is : Agrees 2 pc v (Instr.Jal 0 (cj_imm w)) (I16.c_j pc w)
    unfolding I16.c_j
    c_j_is = rw (imm_cj_is w) (jal_agrees r₀ 2 pc v κ 0 (cj_imm w) (omega arith))

    bz_is : (k : Cond) → Agrees 2 pc v (Instr.Branch k (high_reg w) 0 (cb_imm w)) (I16.c_branch_on pc w (condition k))
    unfolding I16.c_branch_on
    bz_is k = rw (imm_cb_is w) (bz_agrees k (high_reg w) (cb_imm w) high_lt)

    quadrant1_by : (t : ℕ) → t < 8 → inst 15 13 w ≡ t → Agrees 2 pc v (C.quadrant1 w) (I16.quadrant_1 pc w)
    unfolding C.quadrant1 C.table1 I16.quadrant_1 I16.c_branch condition
    quadrant1_by =
        digit (λ t. inst 15 13 w ≡ t → Agrees 2 pc v (C.quadrant1 w) (I16.quadrant_1 pc w))
        (λ e. rw e (addi_by (eqb (rd w) 0) refl)) (λ e. rw e addiw_is) (λ e. rw e (li_by (eqb (rd w) 0) refl)) (λ e. rw e (lui_by (eqb (rd w) 2) refl))
        (λ e. rw e (group_by (inst 11 10 w) (omega arith) refl)) (λ e. rw e c_j_is) (λ e. rw e (bz_is Cond.Eq)) (λ e. rw e (bz_is Cond.Ne))

    slli_is : Agrees 2 pc v (C.unless0 (rd w) (Instr.OpImm Alu.Sll (rd w) (rd w) (shamt_c w))) (I16.c_slli w)
    unfolding I16.c_slli body
    slli_is =
        rw (shamt_is w) (unless (rd w) _ _ (λ n. imm_stored Alu.Sll (rd w) (rd w) (shamt_c w) (omega arith) n (omega arith) (omega arith)))

    jr_mv_by : (b : Bool) → eqb (C.rs2 w) 0 ≡ b → Agrees 2 pc v (C.jr_mv w) (cond (eqb (C.rs2 w) 0) (I16.c_jr (rd w)) (I16.c_mv (rd w) (C.rs2 w)))
    unfolding C.jr_mv I16.c_jr I16.c_mv
    jr_mv_by true q = rw q (unless (rd w) _ _ (λ n. jr_agrees (rd w) (omega arith)))
    jr_mv_by false q = rw q (unless (rd w) _ _ (λ n. mv_agrees (rd w) (C.rs2 w) (omega arith) n (omega arith)))

    module _ (flag : Bool) where
      ebreak_by : (f : Bool) → Agrees 2 pc v (cond f Instr.Nop Instr.Uncovered) (cond f (continue []) (none []))
      ebreak_by true = nop_agrees r₀ 2 pc v κ
      ebreak_by false = no_words

      jalr_by : (b : Bool) → Agrees 2 pc v (cond b (cond flag Instr.Nop Instr.Uncovered) (Instr.Jalr 1 (rd w) 0)) (cond b (I16.c_ebreak flag) (I16.c_jalr pc (rd w)))
      unfolding I16.c_ebreak I16.c_jalr
      jalr_by true = ebreak_by flag
      jalr_by false = jalr1_agrees (rd w) (omega arith)

      add_is : Agrees 2 pc v (C.unless0 (rd w) (Instr.Op Alu.Add (rd w) (rd w) (C.rs2 w))) (I16.c_add (rd w) (C.rs2 w))
      unfolding I16.c_add body store_rd
      add_is = unless (rd w) _ _ (λ n. op_agrees r₀ 2 pc v κ Alu.Add (rd w) (rd w) (C.rs2 w) (omega arith) (omega arith) (omega arith))

      ebreak_jalr_add_by : (b : Bool) → eqb (C.rs2 w) 0 ≡ b
          → Agrees 2 pc v (C.ebreak_jalr_add flag w)
          (cond (eqb (C.rs2 w) 0) (cond (eqb (rd w) 0) (I16.c_ebreak flag) (I16.c_jalr pc (rd w))) (I16.c_add (rd w) (C.rs2 w)))
      unfolding C.ebreak_jalr_add
      ebreak_jalr_add_by true q = rw q (jalr_by (eqb (rd w) 0))
      ebreak_jalr_add_by false q = rw q add_is

      cr_by : (t : ℕ) → t < 2 → inst 12 12 w ≡ t → Agrees 2 pc v (C.cr flag w) (I16.c_jump_move_add flag pc w)
      unfolding C.cr C.crs I16.c_jump_move_add
      cr_by zero h e = rw e (jr_mv_by (eqb (C.rs2 w) 0) refl)
      cr_by (suc zero) h e = rw e (ebreak_jalr_add_by (eqb (C.rs2 w) 0) refl)
      cr_by (suc (suc t)) h e = absurd (omega arith)

      quadrant2_by : (t : ℕ) → t < 8 → inst 15 13 w ≡ t → Agrees 2 pc v (C.quadrant2 flag w) (I16.quadrant_2 flag pc w)
      unfolding C.quadrant2 C.table2 I16.quadrant_2
      quadrant2_by =
          digit (λ t. inst 15 13 w ≡ t → Agrees 2 pc v (C.quadrant2 flag w) (I16.quadrant_2 flag pc w))
          (λ e. rw e slli_is) (λ e. rw e no_words) (λ e. rw e helped) (λ e. rw e helped)
          (λ e. rw e (cr_by (inst 12 12 w) (omega arith) refl)) (λ e. rw e no_words) (λ e. rw e helped) (λ e. rw e helped)

      by_quadrant : (q : ℕ) → q < 4 → w % 4 ≡ q → Agrees 2 pc v (C.decode16 flag w) (I16.emit_native_instr16 flag pc w)
      unfolding C.decode16 C.quadrants I16.emit_native_instr16
      by_quadrant zero h e = rw e (quadrant0_by (inst 15 13 w) (omega arith) refl)
      by_quadrant (suc zero) h e = rw e (quadrant1_by (inst 15 13 w) (omega arith) refl)
      by_quadrant (suc (suc zero)) h e = rw e (quadrant2_by (inst 15 13 w) (omega arith) refl)
      by_quadrant (suc (suc (suc zero))) h e = rw e no_words
      by_quadrant (suc (suc (suc (suc q)))) h e = absurd (omega arith)

      pub agrees16 : Agrees 2 pc v (C.decode16 flag w) (I16.emit_native_instr16 flag pc w)
      agrees16 = by_quadrant (w % 4) (omega arith) refl
