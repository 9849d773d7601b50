-- Every encoding: the Rust has a helper for it exactly where the ISA's definition says that it is a helper's, and translation ends a block by it exactly
-- where that definition has FENCE.I. Assumes nothing.
use mathlib.Core.Path.{◌≡◌, refl}
use mathlib.Core.Bool.{Bool, true, false, cond}
use mathlib.Core.List.{[], ◌∷◌}
use Prim.Native.Nat.{ℕ, zero, suc, ◌+◌, ◌*◌, ◌%◌, ◌^◌, ◌<◌}
use native.Mathlib.Omega.{arith}
use lib.Dec.{eqb}
use borrow.Author.Tests.{eqb-true}
use Rattle.isa.specs.Classes.{class_of}
use Rattle.isa.specs.Formats.{inst, funct3, rd, ciw_imm, ci_imm, ci16_imm}
use Rattle.isa.specs.declared.decode.Decoded32.{Decoded32}
use Rattle.rv64.specs.declared.decode.Instr.{Instr}
use Rattle.rv64.specs.Decode.{Table, lookup}
use Rattle.rv64.specs.Decode as D
use Rattle.rvc.specs.Compressed as C
use Rattle.emit_native.specs.declared.Host.{Host}
use Rattle.isa.specs.declared.zbb.Found.{Found}
use Rattle.isa.specs.Zbb.{find, MaybeZbb}
use Rattle.isa.specs.Decode as Rust
use Rattle.isa.proofs.ZbbRows.{opcode_of}
use Rattle.jit_arm64.specs.Fence.{is_fence_i}
use Rattle.term_helper.specs.TermHelper as Th
use Rattle.emit_native.specs.declared.EmitFlow.{EmitFlow}
use Rattle.std.specs.Prelude.{Some, None}
use Rattle.emit_native.specs.Calls as Calls
use Rattle.translation.proofs.Agree32.{digit}

-- 1 for what is a helper's, 2 for FENCE.I, else 0
unfoldable pub sort : Instr → ℕ
sort (Instr.Op k d a b) = 0
sort (Instr.OpImm k d a c) = 0
sort (Instr.Zbb k d a b) = 0
sort (Instr.ZbbImm k d a c) = 0
sort (Instr.Lui d c) = 0
sort (Instr.Auipc d c) = 0
sort (Instr.Jal d c) = 0
sort (Instr.Jalr d a c) = 0
sort (Instr.Branch k a b c) = 0
sort Instr.Nop = 0
sort Instr.FenceI = 2
sort Instr.Helper = 1
sort Instr.Uncovered = 0

-- the helper's emitter answered `true`
abbrev pub took : Calls.Flow → ℕ
took (Some EmitFlow.Continue) = 0
took (Some EmitFlow.Terminate) = 1
took None = 0

-- ---- instructions that are neither

any : (b : Bool) (x y : Instr) → 0 ≡ sort x → 0 ≡ sort y → 0 ≡ sort (cond b x y)
any true x y p q = p
any false x y p q = q

in_table : {A : Type 0} (t : Table A) (n : ℕ) (make : A → Instr) (other : Instr) → ((a : A) → 0 ≡ sort (make a)) → 0 ≡ sort other
    → 0 ≡ sort (lookup t n make other)
in_table [] n make other p q = q
in_table ((k, a) ∷ t) n make other p q = any (eqb n k) (make a) (lookup t n make other) (p a) (in_table t n make other p q)

unless : (n : ℕ) (i : Instr) → 0 ≡ sort i → 0 ≡ sort (C.unless0 n i)
unfolding C.unless0 sort
unless n i p = any (eqb n 0) Instr.Uncovered i refl p

-- ---- 32 bits

module _ (h : Host) (pc w n : ℕ) where
  abbrev Same : Type 0
  Same = cond (is_fence_i w) 2 (took (Th.emit_native_term_helper32 h pc w (Rust.decode32 w) n).flow) ≡ sort (D.base32 w)

  load_by : (d : Decoded32) (t : ℕ) → t < 8 → funct3 w ≡ t → took (Th.load_helper h pc w d n t).flow ≡ sort (D.below w 7 Instr.Helper)
  unfolding Th.load_helper Th.load_op D.below sort
  load_by d =
      digit (λ t. funct3 w ≡ t → took (Th.load_helper h pc w d n t).flow ≡ sort (D.below w 7 Instr.Helper))
      (λ e. rw e) (λ e. rw e) (λ e. rw e) (λ e. rw e) (λ e. rw e) (λ e. rw e) (λ e. rw e) (λ e. rw e)

  store_by : (d : Decoded32) (t : ℕ) → t < 8 → funct3 w ≡ t → took (Th.store_helper h pc w d n t).flow ≡ sort (D.below w 4 Instr.Helper)
  unfolding Th.store_helper Th.store_op D.below sort
  store_by d =
      digit (λ t. funct3 w ≡ t → took (Th.store_helper h pc w d n t).flow ≡ sort (D.below w 4 Instr.Helper))
      (λ e. rw e) (λ e. rw e) (λ e. rw e) (λ e. rw e) (λ e. rw e) (λ e. rw e) (λ e. rw e) (λ e. rw e)

  fence_by : (t : ℕ) → t < 8 → funct3 w ≡ t → cond (eqb (funct3 w) 1) 2 0 ≡ sort (D.misc_mem w)
  unfolding D.misc_mem D.fences sort
  fence_by =
      digit (λ t. funct3 w ≡ t → cond (eqb (funct3 w) 1) 2 0 ≡ sort (D.misc_mem w))
      (λ e. rw e) (λ e. rw e) (λ e. rw e) (λ e. rw e) (λ e. rw e) (λ e. rw e) (λ e. rw e) (λ e. rw e)

  -- the opcode is k, or not
  is : (k : ℕ) → (w % 128 ≡ k → Same) → (eqb (w % 128) k ≡ false → Same) → Same
  is k f g = by (eqb (w % 128) k) refl
    where
      by : (b : Bool) → eqb (w % 128) k ≡ b → Same
      by true q = f (eqb-true (w % 128) k q)
      by false q = g q

  base_sorts : Same
  unfolding Th.emit_native_term_helper32 Th.opcode_helper D.base32 D.by_class class_of D.op D.op32 D.op_imm D.shift_imm D.op_imm_32 D.shift_imm_32 D.branch D.below sort
  base_sorts =
      is 0x03 (λ e. rw e (load_by _ (funct3 w) (omega arith) refl)) (λ a.
      is 0x23 (λ e. rw e (store_by _ (funct3 w) (omega arith) refl)) (λ b.
      is 0x07 (λ e. rw e) (λ c.
      is 0x27 (λ e. rw e) (λ d.
      is 0x2F (λ e. rw e) (λ f.
      is 0x73 (λ e. rw e) (λ g.
      is 0x33 (λ e. rw e (in_table D.ops (D.funct10 w) (D.reg w) Instr.Uncovered (λ k. refl) refl)) (λ i.
      is 0x3B (λ e. rw e (in_table D.ops32 (D.funct10 w) (D.reg w) Instr.Uncovered (λ k. refl) refl)) (λ j.
      is 0x13 (λ e. rw e (in_table D.imms (funct3 w) (D.imm w) _ (λ k. refl) (in_table D.shifts (inst 31 26 w * 8 + funct3 w) (D.shift w) Instr.Uncovered (λ k. refl) refl))) (λ l.
      is 0x1B (λ e. rw e (in_table D.imms32 (funct3 w) (D.imm w) _ (λ k. refl) (in_table D.shifts32 (D.funct10 w) (D.shiftw w) Instr.Uncovered (λ k. refl) refl))) (λ m.
      is 0x63 (λ e. rw e (in_table D.branches (funct3 w) (D.on w) Instr.Uncovered (λ k. refl) refl)) (λ o.
      is 0x0F (λ e. rw e (fence_by (funct3 w) (omega arith) refl)) (λ p.
      is 0x37 (λ e. rw e) (λ q. is 0x17 (λ e. rw e) (λ r. is 0x6F (λ e. rw e) (λ s. is 0x67 (λ e. rw e) (λ t.
      rw (a, b, c, d, f, g, i, j, l, m, o, p, q, r, s, t)))))))))))))))))

  neither : (find w ≡ None → ⊥) → cond (is_fence_i w) 2 (took (Th.emit_native_term_helper32 h pc w (Rust.decode32 w) n).flow) ≡ 0
  unfolding Th.emit_native_term_helper32 Th.opcode_helper
  neither = opcode_of w _ (λ e. rw e) (λ e. rw e) (λ e. rw e) (λ e. rw e)

  -- with Zbb first, none of which is a helper's
  zbb_sorts : (f : MaybeZbb) → find w ≡ f
      → cond (is_fence_i w) 2 (took (Th.emit_native_term_helper32 h pc w (Rust.decode32 w) n).flow) ≡ sort (D.zbb_or f w (D.base32 w))
  unfolding D.zbb_or sort
  zbb_sorts None e = base_sorts
  zbb_sorts (Some (Found.Register z)) e = neither (λ q. let y : ◌≡◌ {A = ℕ} 0 1 = cc in omega arith)
  zbb_sorts (Some (Found.Number z k)) e = neither (λ q. let y : ◌≡◌ {A = ℕ} 0 1 = cc in omega arith)
  zbb_sorts (Some (Found.Unary z)) e = neither (λ q. let y : ◌≡◌ {A = ℕ} 0 1 = cc in omega arith)

  pub sorts32 : cond (is_fence_i w) 2 (took (Th.emit_native_term_helper32 h pc w (Rust.decode32 w) n).flow) ≡ sort (D.decode32 w)
  unfolding D.decode32
  sorts32 = zbb_sorts (find w) refl

-- ---- 16 bits

module _ (h : Host) (pc w n : ℕ) (e : Bool) where
  abbrev Same16 : Type 0
  Same16 = took (Th.emit_native_term_helper16 h pc w n).flow ≡ sort (C.decode16 e w)

  quadrant0_by : (t : ℕ) → t < 8 → w % 4 ≡ 0 → inst 15 13 w ≡ t → Same16
  unfolding Th.emit_native_term_helper16 Th.supports C.decode16 C.quadrants C.quadrant0 C.table0 sort
  quadrant0_by =
      digit (λ t. w % 4 ≡ 0 → inst 15 13 w ≡ t → Same16)
      (λ q e. rw (q, e) (unless (ciw_imm w) _ refl)) (λ q e. rw (q, e)) (λ q e. rw (q, e)) (λ q e. rw (q, e))
      (λ q e. rw (q, e)) (λ q e. rw (q, e)) (λ q e. rw (q, e)) (λ q e. rw (q, e))

  lui_no : 0 ≡ sort (C.lui_addi16sp w)
  unfolding C.lui_addi16sp sort
  lui_no = any (eqb (rd w) 2) _ _ (unless (ci16_imm w) _ refl) (unless (rd w) _ (unless (ci_imm w) _ refl))

  misc_no : (t : ℕ) → t < 8 → inst 11 10 w ≡ t → 0 ≡ sort (C.misc_alu w)
  unfolding C.misc_alu C.misc_alus C.arith sort
  misc_no =
      digit (λ t. inst 11 10 w ≡ t → 0 ≡ sort (C.misc_alu w))
      (λ e. rw e) (λ e. rw e) (λ e. rw e) (λ e. rw e (in_table C.ariths _ (C.reg w) Instr.Uncovered (λ k. refl) refl))
      (λ e. rw e) (λ e. rw e) (λ e. rw e) (λ e. rw e)

  quadrant1_by : (t : ℕ) → t < 8 → w % 4 ≡ 1 → inst 15 13 w ≡ t → Same16
  unfolding Th.emit_native_term_helper16 Th.supports C.decode16 C.quadrants C.quadrant1 C.table1 sort
  quadrant1_by =
      digit (λ t. w % 4 ≡ 1 → inst 15 13 w ≡ t → Same16)
      (λ q e. rw (q, e)) (λ q e. rw (q, e) (unless (rd w) _ refl)) (λ q e. rw (q, e)) (λ q e. rw (q, e) lui_no)
      (λ q e. rw (q, e) (misc_no (inst 11 10 w) (omega arith) refl)) (λ q e. rw (q, e)) (λ q e. rw (q, e)) (λ q e. rw (q, e))

  jr_no : 0 ≡ sort (C.jr_mv w)
  unfolding C.jr_mv sort
  jr_no = any (eqb (C.rs2 w) 0) _ _ (unless (rd w) _ refl) (unless (rd w) _ refl)

  ebreak_no : 0 ≡ sort (C.ebreak_jalr_add e w)
  unfolding C.ebreak_jalr_add sort
  ebreak_no = any (eqb (C.rs2 w) 0) _ _ (any (eqb (rd w) 0) _ _ (any e Instr.Nop Instr.Uncovered refl refl) refl) (unless (rd w) _ refl)

  cr_no : 0 ≡ sort (C.cr e w)
  unfolding C.cr C.crs sort
  cr_no = any (eqb (inst 12 12 w) 0) _ _ jr_no (any (eqb (inst 12 12 w) 1) _ _ ebreak_no refl)

  quadrant2_by : (t : ℕ) → t < 8 → w % 4 ≡ 2 → inst 15 13 w ≡ t → Same16
  unfolding Th.emit_native_term_helper16 Th.supports C.decode16 C.quadrants C.quadrant2 C.table2 sort
  quadrant2_by =
      digit (λ t. w % 4 ≡ 2 → inst 15 13 w ≡ t → Same16)
      (λ q e. rw (q, e) (unless (rd w) _ refl)) (λ q e. rw (q, e)) (λ q e. rw (q, e)) (λ q e. rw (q, e))
      (λ q e. rw (q, e) cr_no) (λ q e. rw (q, e)) (λ q e. rw (q, e)) (λ q e. rw (q, e))

  by_quadrant : (q : ℕ) → q < 4 → w < 2 ^ 16 → w % 4 ≡ q → Same16
  unfolding Th.emit_native_term_helper16 Th.supports C.decode16 C.quadrants sort
  by_quadrant zero l hw q = quadrant0_by (inst 15 13 w) (omega arith) q refl
  by_quadrant (suc zero) l hw q = quadrant1_by (inst 15 13 w) (omega arith) q refl
  by_quadrant (suc (suc zero)) l hw q = quadrant2_by (inst 15 13 w) (omega arith) q refl
  by_quadrant (suc (suc (suc zero))) l hw q = rw q
  by_quadrant (suc (suc (suc (suc k)))) l hw q = absurd (omega arith)

  pub sorts16 : w < 2 ^ 16 → Same16
  sorts16 hw = by_quadrant (w % 4) (omega arith) hw refl
