-- Every 32-bit encoding: it is FENCE.I, or what is emitted agrees with the ISA's instruction: the Rust's emission
-- with the base ISA and M, and with Zbb first on both sides. Assumes nothing.
use mathlib.Core.Path.{◌≡◌, refl}
use mathlib.Core.Bool.{Bool, true, false, cond, ◌&&◌, ◌||◌, true≢false}
use mathlib.Core.List.{List, [], ◌∷◌}
use mathlib.Core.Option.{Option}
use Prim.Native.Nat.{ℕ, zero, suc, ◌+◌, ◌*◌, ◌/◌, ◌%◌, ◌^◌, ◌<◌}
use native.Mathlib.Omega.{arith}
use lib.Dec.{eqb, ltb, T}
use borrow.Author.Tests.{eqb-true, ne_eqb}
use Rattle.isa.specs.declared.classes.Class.{Class}
use Rattle.isa.specs.Classes.{class_of}
use Rattle.isa.specs.Formats.{inst, rd, rs1, rs2, funct3, funct7, i_imm, b_imm, u_imm, j_imm}
use Rattle.rv64.specs.declared.alu.Alu.{Alu}
use Rattle.rv64.specs.declared.alu.Cond.{Cond}
use Rattle.rv64.specs.declared.decode.Instr.{Instr}
use Rattle.rv64.specs.Alu.{value}
use Rattle.rv64.specs.Decode as D
use Rattle.rv64.specs.Decode.{Table, lookup}
use Rattle.emit_native.specs.Calls.{Call, mov_imm64, load, Emission, continue, none, calls_first, store_rd, then_store_rd}
use Rattle.isa.specs.Decode as Rust
use Rattle.instr32.specs.Instr32 as I32
use Rattle.jit_arm64.specs.Fence.{is_fence_i}
use Rattle.isa.specs.Zbb as Z
use Rattle.jit_arm64.specs.Block.{zbb_first}
use Rattle.jit_arm64.proofs.Fences.{fence-fields, fence_no_zbb}
use Rattle.isa.proofs.Decoding.{imm_i_is, imm_b_is, imm_u_is, imm_j_is}
use Rattle.translation.proofs.Calls.{Model, Kept, calls-run}
use Rattle.translation.proofs.Alus.{body, slliw, srliw, sraiw, body_law, slliw_law, srliw_law, sraiw_law}
use Rattle.translation.proofs.Zbbs.{zbb_agrees}
use Rattle.translation.proofs.Instrs.{Agrees, Fences, Fine, nothing, one, two, with_constant, body_fine, slliw_fine, srliw_fine, sraiw_fine, condition, op_agrees, imm_agrees, lui_agrees, auipc_agrees, jal_agrees, jalr_agrees, branch_agrees, nop_agrees, uncovered_agrees, helper_agrees}

-- what holds at 0 to 7 holds below 8
pub digit : (P : ℕ → Type 0) → P 0 → P 1 → P 2 → P 3 → P 4 → P 5 → P 6 → P 7 → (n : ℕ) → n < 8 → P n
digit P a b c d e f g h zero l = a
digit P a b c d e f g h (suc zero) l = b
digit P a b c d e f g h (suc (suc zero)) l = c
digit P a b c d e f g h (suc (suc (suc zero))) l = d
digit P a b c d e f g h (suc (suc (suc (suc zero)))) l = e
digit P a b c d e f g h (suc (suc (suc (suc (suc zero))))) l = f
digit P a b c d e f g h (suc (suc (suc (suc (suc (suc zero)))))) l = g
digit P a b c d e f g h (suc (suc (suc (suc (suc (suc (suc zero))))))) l = h
digit P a b c d e f g h (suc (suc (suc (suc (suc (suc (suc (suc n)))))))) l = absurd (omega arith)

-- ---- OP and OP-32: by funct7 and funct3

-- the entry of a table at n
find : {A : Type 0} → Table A → ℕ → Option A
find [] n = Option.none
find ((k, a) ∷ t) n = cond (eqb n k) (Option.some a) (find t n)

-- what an entry makes, or what stands where there is none
abbrev made : {A B : Type 0} → Option A → (A → B) → B → B
made Option.none make other = other
made (Option.some a) make other = make a

found : {A B : Type 0} (t : Table A) (n : ℕ) (make : A → B) (other : B) → lookup t n make other ≡ made (find t n) make other
unfolding find
found [] n make other = refl
found ((k, a) ∷ t) n make other = by (eqb n k) (found t n make other)
  where
    by : (b : Bool) → lookup t n make other ≡ made (find t n) make other
        → cond b (make a) (lookup t n make other) ≡ made (cond b (Option.some a) (find t n)) make other
    by true q = refl
    by false q = q

-- the funct7 of the entries of OP and OP-32; the funct6 of the shifts by an immediate, and the funct7 of those of a word
functs : List ℕ
functs = 0 ∷ 32 ∷ 1 ∷ []

functs6 : List ℕ
functs6 = 0 ∷ 16 ∷ []

functs7 : List ℕ
functs7 = 0 ∷ 32 ∷ []

-- n is one of a list
member : List ℕ → ℕ → Bool
member [] n = false
member (a ∷ l) n = eqb n a || member l n

-- what holds at each of a list, and at a number that is none of them, holds
data All (P : ℕ → Type 0) : List ℕ → Type 0 where
  done : All P []
  and : {a : ℕ} {l : List ℕ} → P a → All P l → All P (a ∷ l)

None : List ℕ → ℕ → Type 0
None [] n = Unit {0}
None (a ∷ l) n = (eqb n a ≡ false) × None l n

each : (P : ℕ → Type 0) (l : List ℕ) (n : ℕ) → All P l → (None l n → P n) → P n
unfolding None
each P [] n done other = other tt
each P (a ∷ l) n (and p ps) other = by (eqb n a) refl (λ q. each P l n ps (λ r. other (q, r)))
  where
    by : (b : Bool) → eqb n a ≡ b → (eqb n a ≡ false → P n) → P n
    by true q rest = rw (eqb-true n a q) p
    by false q rest = rest q

no_member : (l : List ℕ) (n : ℕ) → None l n → member l n ≡ false
unfolding member None
no_member [] n r = refl
no_member (a ∷ l) n r = rw r.0 (no_member l n r.1)

-- every key, over 8, is of the list; so none of the others has an entry
heads : {A : Type 0} → List ℕ → Table A → Bool
heads l [] = true
heads l ((k, x) ∷ t) = member l (k / 8) && heads l t

both : (p s : Bool) → T (p && s) → (p ≡ true) × T s
both true s t = (refl, t)
both false s t = absurd t

absent : {A : Type 0} (l : List ℕ) (t : Table A) (n : ℕ) → T (heads l t) → member l (n / 8) ≡ false → find t n ≡ Option.none
unfolding heads find
absent l [] n h r = refl
absent l ((k, v) ∷ t) n h r =
    let q = both (member l (k / 8)) (heads l t) h in
    rw (ne_eqb n k (λ e. let z : ◌≡◌ {A = ℕ} 0 1 = cc (e, q.0, r) in omega arith)) (absent l t n q.1 r)

no_entry : {A : Type 0} (l : List ℕ) (t : Table A) (f f3 : ℕ) → f3 < 8 → T (heads l t) → None l f → find t (f * 8 + f3) ≡ Option.none
no_entry l t f f3 h q r =
    let e : (f * 8 + f3) / 8 ≡ f = omega arith in
    absent l t (f * 8 + f3) q (rw e (no_member l f r))

unlisted : {A B : Type 0} (l : List ℕ) (t : Table A) (f f3 : ℕ) → f3 < 8 → T (heads l t) → None l f → (make : A → B) (other : B)
    → lookup t (f * 8 + f3) make other ≡ other
unlisted l t f f3 h q r make other = rw (found t (f * 8 + f3) make other, no_entry l t f f3 h q r)

-- the Rust's words for an entry
abbrev emission : Option Alu → Emission
emission o = made o (λ (k : Alu). continue (body k)) (none [])

-- the Rust's arms of a funct7 are the table's entries
abbrev At : Table Alu → (ℕ → ℕ → Emission) → ℕ → ℕ → Type 0
At t arm f7 f3 = arm f7 f3 ≡ emission (find t (f7 * 8 + f3))

abbrev Row : Table Alu → (ℕ → ℕ → Emission) → ℕ → Type 0
Row t arm f7 = (f3 : ℕ) → f3 < 8 → At t arm f7 f3

rows_are : (t : Table Alu) (arm : ℕ → ℕ → Emission) → T (heads functs t) → All (Row t arm) functs → ((f7 f3 : ℕ) → None functs f7 → arm f7 f3 ≡ none [])
    → (f7 : ℕ) → Row t arm f7
rows_are t arm h rows rest f7 =
    each (Row t arm) functs f7 rows (λ r f3 l. rw (rest f7 f3 r, no_entry functs t f7 f3 l h r))

op_rows : (f7 : ℕ) → Row D.ops I32.op_arm f7
unfolding D.ops I32.op_arm body find heads member functs None
op_rows =
    rows_are D.ops I32.op_arm tt
    (and (digit (At D.ops I32.op_arm 0) refl refl refl refl refl refl refl refl)
    (and (digit (At D.ops I32.op_arm 32) refl refl refl refl refl refl refl refl)
    (and (digit (At D.ops I32.op_arm 1) refl refl refl refl refl refl refl refl)
    done)))
    (λ f7 f3 r. rw (r.0, r.1.0, r.1.1.0))

op_32_rows : (f7 : ℕ) → Row D.ops32 I32.op_32_arm f7
unfolding D.ops32 I32.op_32_arm body find heads member functs None
op_32_rows =
    rows_are D.ops32 I32.op_32_arm tt
    (and (digit (At D.ops32 I32.op_32_arm 0) refl refl refl refl refl refl refl refl)
    (and (digit (At D.ops32 I32.op_32_arm 32) refl refl refl refl refl refl refl refl)
    (and (digit (At D.ops32 I32.op_32_arm 1) refl refl refl refl refl refl refl refl)
    done)))
    (λ f7 f3 r. rw (r.0, r.1.0, r.1.1.0))

-- ---- the opcodes that the Rust names, and any other

data Opcode : ℕ → Type 0 where
  lui : Opcode 0x37
  auipc : Opcode 0x17
  jal : Opcode 0x6F
  jalr : Opcode 0x67
  branch : Opcode 0x63
  op_imm : Opcode 0x13
  op_imm_32 : Opcode 0x1B
  op_32 : Opcode 0x3B
  op : Opcode 0x33
  misc_mem : Opcode 0x0F
  other : (n : ℕ) → (eqb n 0x37 ≡ false) × (eqb n 0x17 ≡ false) × (eqb n 0x6F ≡ false) × (eqb n 0x67 ≡ false) × (eqb n 0x63 ≡ false)
      × (eqb n 0x13 ≡ false) × (eqb n 0x1B ≡ false) × (eqb n 0x3B ≡ false) × (eqb n 0x33 ≡ false) × (eqb n 0x0F ≡ false) → Opcode n

is : (n k : ℕ) → Opcode k → (eqb n k ≡ false → Opcode n) → Opcode n
is n k y no_k = by (eqb n k) refl
  where
    by : (b : Bool) → eqb n k ≡ b → Opcode n
    by true q = rw (eqb-true n k q) y
    by false q = no_k q

opcode_of : (n : ℕ) → Opcode n
opcode_of n =
    is n 0x37 lui (λ a. is n 0x17 auipc (λ b. is n 0x6F jal (λ c. is n 0x67 jalr (λ d. is n 0x63 branch (λ e. is n 0x13 op_imm (λ f.
    is n 0x1B op_imm_32 (λ g. is n 0x3B op_32 (λ h. is n 0x33 op (λ i. is n 0x0F misc_mem (λ j. other n (a, b, c, d, e, f, g, h, i, j)))))))))))

-- ---- FENCE.I

pub fences32 : (pc w : ℕ) → is_fence_i w ≡ true → Fences (D.decode32 w) (I32.emit_native_instr pc w (Rust.decode32 w))
unfolding D.decode32 D.zbb_or D.base32 D.by_class class_of D.misc_mem D.fences I32.emit_native_instr I32.misc_mem
fences32 pc w h =
    let q = fence-fields w h in
    record { instr = rw (fence_no_zbb w h, q.0, q.1) refl; emission = rw (q.0, q.1) refl }

-- ---- the other encodings

module _ (r₀ : ℕ → ℕ) (pc : ℕ) (v : Model) (κ : Kept r₀ true v) (w : ℕ) (hw : w < 2 ^ 32) (hf : is_fence_i w ≡ false) where
  f3_lt : funct3 w < 8
  f3_lt = omega arith

  -- an entry of the tables of OP and OP-32, or none
  op_by : (o : Option Alu) → Agrees 4 pc v (made o (D.reg w) Instr.Uncovered) (calls_first (load 9 (rs1 w) ∷ load 10 (rs2 w) ∷ []) (then_store_rd (rd w) (emission o)))
  unfolding store_rd
  op_by (Option.some k) = op_agrees r₀ 4 pc v κ k (rd w) (rs1 w) (rs2 w) (omega arith) (omega arith) (omega arith)
  op_by Option.none = uncovered_agrees r₀ 4 pc v κ (load 9 (rs1 w) ∷ load 10 (rs2 w) ∷ []) (two (rs1 w) (rs2 w) (omega arith) (omega arith))

  by_table : (t : Table Alu) (arm : ℕ → ℕ → Emission) → ((f7 : ℕ) → Row t arm f7)
      → Agrees 4 pc v (lookup t (D.funct10 w) (D.reg w) Instr.Uncovered) (calls_first (load 9 (rs1 w) ∷ load 10 (rs2 w) ∷ []) (then_store_rd (rd w) (arm (funct7 w) (funct3 w))))
  by_table t arm rows =
      rw (found t (D.funct10 w) (D.reg w) Instr.Uncovered, rows (funct7 w) (funct3 w) f3_lt) (op_by (find t (D.funct10 w)))

  -- with the immediate of type I
  imm_is : (k : Alu) → Agrees 4 pc v (D.imm w k) (calls_first (load 9 (rs1 w) ∷ []) (then_store_rd (rd w) (continue (mov_imm64 10 (Rust.imm_i w) ∷ body k))))
  imm_is k =
      rw (imm_i_is w hw)
      (imm_agrees r₀ 4 pc v κ (body k) k (rd w) (rs1 w) (i_imm w) (body_fine k) (λ u a b. body_law k u a (rw b (omega arith))) (omega arith) (omega arith) (omega arith))

  -- shifts by an immediate
  shift_is : (k : Alu) → Agrees 4 pc v (D.shift w k) (calls_first (load 9 (rs1 w) ∷ mov_imm64 10 (w / 2 ^ 20 % 4096 % 64) ∷ []) (then_store_rd (rd w) (continue (body k))))
  shift_is k =
      let e : w / 2 ^ 20 % 4096 % 64 ≡ inst 25 20 w = omega arith in
      rw e
      (imm_agrees r₀ 4 pc v κ (body k) k (rd w) (rs1 w) (inst 25 20 w) (body_fine k) (λ u a b. body_law k u a (rw b (omega arith))) (omega arith) (omega arith) (omega arith))

  only_load : Agrees 4 pc v Instr.Uncovered (none (load 9 (rs1 w) ∷ []))
  only_load = uncovered_agrees r₀ 4 pc v κ (load 9 (rs1 w) ∷ []) (one (rs1 w) (omega arith))

  -- imm[11:6] of a shift
  hi_is : w / 2 ^ 20 % 4096 / 2 ^ 6 % 64 ≡ w / 2 ^ 26 % 64
  hi_is = omega arith

  -- by funct6, with the funct3 t
  abbrev Shifted : ℕ → ℕ → Type 0
  Shifted t n =
      w / 2 ^ 26 % 64 ≡ n → Agrees 4 pc v (lookup D.shifts (n * 8 + t) (D.shift w) Instr.Uncovered)
      (calls_first (load 9 (rs1 w) ∷ []) (then_store_rd (rd w) (I32.op_imm_arm (Rust.imm_i w) (w / 2 ^ 20 % 4096) t)))

  slli_by : (n : ℕ) → Shifted 1 n
  unfolding D.shifts I32.op_imm_arm store_rd heads member functs6 None
  slli_by n =
      each (Shifted 1) functs6 n
      (and (λ e. rw (hi_is, e) (unfold body in (shift_is Alu.Sll)))
      (and (λ e. rw (hi_is, e) only_load)
      done))
      (λ r e. rw (hi_is, e, r.0, unlisted functs6 D.shifts n 1 (omega arith) tt r (D.shift w) Instr.Uncovered) only_load)

  srli_by : (n : ℕ) → Shifted 5 n
  unfolding D.shifts I32.op_imm_arm store_rd heads member functs6 None
  srli_by n =
      each (Shifted 5) functs6 n
      (and (λ e. rw (hi_is, e) (unfold body in (shift_is Alu.Srl)))
      (and (λ e. rw (hi_is, e) (unfold body in (shift_is Alu.Sra)))
      done))
      (λ r e.
      rw (hi_is, e, r.0, r.1.0, unlisted functs6 D.shifts n 5 (omega arith) tt r (D.shift w) Instr.Uncovered)
      (uncovered_agrees r₀ 4 pc v κ (load 9 (rs1 w) ∷ mov_imm64 10 (w / 2 ^ 20 % 4096 % 64) ∷ [])
      (with_constant (rs1 w) (w / 2 ^ 20 % 4096 % 64) (omega arith) (omega arith))))

  op_imm_by : (t : ℕ) → t < 8 → Agrees 4 pc v (lookup D.imms t (D.imm w) (lookup D.shifts (w / 2 ^ 26 % 64 * 8 + t) (D.shift w) Instr.Uncovered))
      (calls_first (load 9 (rs1 w) ∷ []) (then_store_rd (rd w) (I32.op_imm_arm (Rust.imm_i w) (w / 2 ^ 20 % 4096) t)))
  unfolding D.imms I32.op_imm_arm store_rd
  op_imm_by =
      digit
      (λ t. Agrees 4 pc v (lookup D.imms t (D.imm w) (lookup D.shifts (w / 2 ^ 26 % 64 * 8 + t) (D.shift w) Instr.Uncovered))
      (calls_first (load 9 (rs1 w) ∷ []) (then_store_rd (rd w) (I32.op_imm_arm (Rust.imm_i w) (w / 2 ^ 20 % 4096) t))))
      (unfold body in (imm_is Alu.Add)) (slli_by (w / 2 ^ 26 % 64) refl) (unfold body in (imm_is Alu.Slt)) (unfold body in (imm_is Alu.Sltu))
      (unfold body in (imm_is Alu.Xor)) (srli_by (w / 2 ^ 26 % 64) refl) (unfold body in (imm_is Alu.Or)) (unfold body in (imm_is Alu.And))

  -- OP-IMM-32: the shifts of a word
  word_shift_is : (cs : List Call) (k : Alu) → Fine cs → ((u : Model) → u.r 10 < 32 → (calls-run cs u).r 11 ≡ value k (u.r 9) (u.r 10))
      → Agrees 4 pc v (D.shiftw w k) (calls_first (load 9 (rs1 w) ∷ mov_imm64 10 (w / 2 ^ 20 % 4096 % 32) ∷ []) (then_store_rd (rd w) (continue cs)))
  word_shift_is cs k φ l =
      let e : w / 2 ^ 20 % 4096 % 32 ≡ inst 24 20 w = omega arith in
      rw e
      (imm_agrees r₀ 4 pc v κ cs k (rd w) (rs1 w) (inst 24 20 w) φ (λ u a b. l u (rw b (omega arith))) (omega arith) (omega arith) (omega arith))

  -- by funct7, with the funct3 t
  abbrev Shifted_32 : ℕ → ℕ → Type 0
  Shifted_32 t n =
      Agrees 4 pc v (lookup D.shifts32 (n * 8 + t) (D.shiftw w) Instr.Uncovered)
      (calls_first (load 9 (rs1 w) ∷ []) (then_store_rd (rd w) (I32.op_imm_32_arm (Rust.imm_i w) (w / 2 ^ 20 % 4096) n t)))

  slliw_by : (n : ℕ) → Shifted_32 1 n
  unfolding D.shifts32 I32.op_imm_32_arm store_rd heads member functs7 None slliw
  slliw_by n =
      each (Shifted_32 1) functs7 n
      (and (word_shift_is slliw Alu.Sllw slliw_fine slliw_law)
      (and only_load
      done))
      (λ r. rw (r.0, unlisted functs7 D.shifts32 n 1 (omega arith) tt r (D.shiftw w) Instr.Uncovered) only_load)

  srliw_by : (n : ℕ) → Shifted_32 5 n
  unfolding D.shifts32 I32.op_imm_32_arm store_rd heads member functs7 None srliw sraiw
  srliw_by n =
      each (Shifted_32 5) functs7 n
      (and (word_shift_is srliw Alu.Srlw srliw_fine srliw_law)
      (and (word_shift_is sraiw Alu.Sraw sraiw_fine sraiw_law)
      done))
      (λ r.
      rw (r.0, r.1.0, unlisted functs7 D.shifts32 n 5 (omega arith) tt r (D.shiftw w) Instr.Uncovered)
      (uncovered_agrees r₀ 4 pc v κ (load 9 (rs1 w) ∷ mov_imm64 10 (w / 2 ^ 20 % 4096 % 32) ∷ [])
      (with_constant (rs1 w) (w / 2 ^ 20 % 4096 % 32) (omega arith) (omega arith))))

  -- no shift has another funct3
  no_shift : (t : ℕ) → t < 8 → (t ≡ 1 → ⊥) → (t ≡ 5 → ⊥) → lookup D.shifts32 (funct7 w * 8 + t) (D.shiftw w) Instr.Uncovered ≡ Instr.Uncovered
  unfolding D.shifts32
  no_shift t h n m =
      let k = funct7 w * 8 + t in
      rw (ne_eqb k 1 (λ e. n (omega arith)), ne_eqb k 5 (λ e. m (omega arith)), ne_eqb k 261 (λ e. m (omega arith)))

  op_imm_32_by : (t : ℕ) → t < 8 → Agrees 4 pc v (lookup D.imms32 t (D.imm w) (lookup D.shifts32 (funct7 w * 8 + t) (D.shiftw w) Instr.Uncovered))
      (calls_first (load 9 (rs1 w) ∷ []) (then_store_rd (rd w) (I32.op_imm_32_arm (Rust.imm_i w) (w / 2 ^ 20 % 4096) (funct7 w) t)))
  unfolding D.imms32 I32.op_imm_32_arm store_rd
  op_imm_32_by =
      digit
      (λ t. Agrees 4 pc v (lookup D.imms32 t (D.imm w) (lookup D.shifts32 (funct7 w * 8 + t) (D.shiftw w) Instr.Uncovered))
      (calls_first (load 9 (rs1 w) ∷ []) (then_store_rd (rd w) (I32.op_imm_32_arm (Rust.imm_i w) (w / 2 ^ 20 % 4096) (funct7 w) t))))
      (unfold body in (imm_is Alu.Addw))
      (slliw_by (funct7 w))
      (rw (no_shift 2 (omega arith) (omega arith) (omega arith)) only_load)
      (rw (no_shift 3 (omega arith) (omega arith) (omega arith)) only_load)
      (rw (no_shift 4 (omega arith) (omega arith) (omega arith)) only_load)
      (srliw_by (funct7 w))
      (rw (no_shift 6 (omega arith) (omega arith) (omega arith)) only_load)
      (rw (no_shift 7 (omega arith) (omega arith) (omega arith)) only_load)

  branch_on_is : (k : Cond) → Agrees 4 pc v (D.on w k) (I32.branch_on pc w (Rust.decode32 w) (condition k))
  unfolding I32.branch_on
  branch_on_is k = rw (imm_b_is w hw) (branch_agrees r₀ 4 pc v κ k (rs1 w) (rs2 w) (b_imm w) (omega arith) (omega arith))

  no_words : Agrees 4 pc v Instr.Uncovered (none [])
  no_words = uncovered_agrees r₀ 4 pc v κ [] nothing

  branch_by : (t : ℕ) → t < 8 → Agrees 4 pc v (lookup D.branches t (D.on w) Instr.Uncovered) (I32.branch pc w (Rust.decode32 w) t)
  unfolding D.branches I32.branch I32.branch_on condition
  branch_by =
      digit (λ t. Agrees 4 pc v (lookup D.branches t (D.on w) Instr.Uncovered) (I32.branch pc w (Rust.decode32 w) t))
      (branch_on_is Cond.Eq) (branch_on_is Cond.Ne) no_words no_words (branch_on_is Cond.Lt) (branch_on_is Cond.Ge) (branch_on_is Cond.Ltu) (branch_on_is Cond.Geu)

  misc_mem_by : w % 128 ≡ 0x0F → (t : ℕ) → t < 8 → funct3 w ≡ t → Agrees 4 pc v (D.misc_mem w) (I32.misc_mem (Rust.decode32 w))
  unfolding D.misc_mem D.fences I32.misc_mem
  misc_mem_by q =
      digit (λ t. funct3 w ≡ t → Agrees 4 pc v (D.misc_mem w) (I32.misc_mem (Rust.decode32 w)))
      (λ e. rw e (nop_agrees r₀ 4 pc v κ)) (λ e. absurd (true≢false (rw (q, e) at hf))) (λ e. rw e no_words) (λ e. rw e no_words)
      (λ e. rw e no_words) (λ e. rw e no_words) (λ e. rw e no_words) (λ e. rw e no_words)

  -- helpers and what is never inline
  either : (b : Bool) → Agrees 4 pc v (cond b Instr.Helper Instr.Uncovered) (none [])
  either true = helper_agrees r₀ 4 pc v κ
  either false = no_words

  others : (c : Class) → Type 0
  others c = Agrees 4 pc v (D.by_class c w) (none [])

  any : (b : Bool) (x y : Class) → others x → others y → others (cond b x y)
  any true x y p q = p
  any false x y p q = q

  by_opcode : (n : ℕ) → Opcode n → w % 128 ≡ n → Agrees 4 pc v (D.by_class (class_of (w % 128)) w) (I32.emit_native_instr pc w (Rust.decode32 w))
  unfolding D.by_class class_of D.op D.op32 D.op_imm D.shift_imm D.op_imm_32 D.shift_imm_32 D.branch I32.emit_native_instr I32.lui I32.auipc I32.jal I32.jalr I32.branch I32.branch_on I32.op_imm I32.op_imm_32 I32.op_32 I32.op I32.misc_mem others D.below
  by_opcode _ lui e = rw (e, imm_u_is w hw) (lui_agrees r₀ 4 pc v κ (rd w) (u_imm w) (omega arith) (omega arith))
  by_opcode _ auipc e = rw (e, imm_u_is w hw) (auipc_agrees r₀ 4 pc v κ (rd w) (u_imm w) (omega arith))
  by_opcode _ jal e = rw (e, imm_j_is w hw) (jal_agrees r₀ 4 pc v κ (rd w) (j_imm w) (omega arith))
  by_opcode _ jalr e = rw (e, imm_i_is w hw) (jalr_agrees r₀ 4 pc v κ (rd w) (rs1 w) (i_imm w) (omega arith) (omega arith) (omega arith))
  by_opcode _ branch e = rw e (branch_by (funct3 w) f3_lt)
  by_opcode _ op_imm e = rw e (op_imm_by (funct3 w) f3_lt)
  by_opcode _ op_imm_32 e = rw e (op_imm_32_by (funct3 w) f3_lt)
  by_opcode _ op_32 e = rw e (by_table D.ops32 I32.op_32_arm op_32_rows)
  by_opcode _ op e = rw e (by_table D.ops I32.op_arm op_rows)
  by_opcode _ misc_mem e = rw e (misc_mem_by e (funct3 w) f3_lt refl)
  by_opcode n (other _ q) e =
      rw (e, q.0, q.1, q.2, q.3, q.4, q.5, q.6, q.7, q.8, q.9)
      (any (eqb n 0b0000011) Class.Load _ (either (ltb (funct3 w) 7))
      (any (eqb n 0b0000111) Class.LoadFp _ (either true)
      (any (eqb n 0b0100011) Class.Store _ (either (ltb (funct3 w) 4))
      (any (eqb n 0b0100111) Class.StoreFp _ (either true)
      (any (eqb n 0b0101111) Class.Amo _ (either true)
      (any (eqb n 0b1110011) Class.System Class.Other no_words no_words))))))

  pub agrees32 : Agrees 4 pc v (D.decode32 w) (zbb_first (Z.find w) w (I32.emit_native_instr pc w (Rust.decode32 w)))
  unfolding D.decode32 D.base32
  agrees32 = zbb_agrees r₀ pc v κ w _ _ (by_opcode (w % 128) (opcode_of (w % 128)) refl)
