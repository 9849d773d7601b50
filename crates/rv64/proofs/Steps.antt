-- What the stepper's parts do is what the decoded instruction does.
use Rattle.std.proofs.Common.{Option, Some, None, ◌≡◌, ℕ, ◌+◌, ◌*◌, ◌%◌, ◌<◌, Bool, true, false, cond, eqb, ltb, List, [], ◌∷◌, set, refl, ap, eq-eqb, ne_eqb}
use native.Mathlib.Omega as N
use Rattle.isa.specs.declared.classes.Class.{Class}
use Rattle.isa.specs.Classes.{class_of}
use Rattle.word.specs.Word.{add}
use Rattle.isa.specs.Formats.{inst, rd, rs1, rs2, funct3, b_imm}
use Rattle.rv64.specs.declared.alu.Alu.{Alu}
use Rattle.rv64.specs.declared.alu.Cond.{Cond}
use Rattle.rv64.specs.declared.decode.Instr.{Instr}
use Rattle.rv64.specs.declared.execute.Effect.{Effect}
use Rattle.rv64.specs.Alu.{value, taken}
use Rattle.rv64.specs.Decode as D
use Rattle.rv64.specs.Execute.{Step, exec, read, write}
use Rattle.rv64.specs.Parts as S
use Rattle.rv64.proofs.Tables.{Missed, both, either}

-- a step by its parts
pub parts : {s t : Step} → s ≡ t → S.Does t s.flow s.x
parts q = (ap (λ (s : Step). s.flow) q, ap (λ (s : Step). s.x) q)

pub read-zero : (x : List ℕ) → read x 0 ≡ 0
unfolding read
read-zero x = refl

pub write-zero : (x : List ℕ) (v : ℕ) → write x 0 v ≡ x
unfolding write
write-zero x v = refl

pub write_0 : (x : List ℕ) (n v : ℕ) → n ≡ 0 → write x n v ≡ x
unfolding write
write_0 x n v e = rw (eq-eqb n 0 e)

pub write-other : (x : List ℕ) (n v : ℕ) → (n ≡ 0 → ⊥) → write x n v ≡ set x n v
unfolding write
write-other x n v h = rw (ne_eqb n 0 h)

-- the opcodes, in the order of the stepper's `match`
abbrev computing : D.Table ℕ
computing = (0x33, 0) ∷ (0x13, 0) ∷ (0x3B, 0) ∷ (0x1B, 0) ∷ (0x37, 0) ∷ (0x17, 0) ∷ (0x6F, 0) ∷ (0x67, 0) ∷ (0x63, 0) ∷ []

-- the registers that are set

put-sets : (c : Option ℕ) (rd : ℕ) → rd < 32 → S.sets (S.put c rd) < 32
unfolding S.put
put-sets (Some v) rd q = q
put-sets None rd q = omega N.arith

pub pick_sets : (b : Bool) (e f : Effect) → S.sets e < 32 → S.sets f < 32 → S.sets (cond b e f) < 32
pick_sets true e f p q = p
pick_sets false e f p q = q

table_sets : {K : Type 0} (make : K → Effect) (other : Effect) (t : D.Table K) (n : ℕ) → ((k : K) → S.sets (make k) < 32) → S.sets other < 32 → S.sets (D.lookup t n make other) < 32
table_sets make other [] n p q = q
table_sets make other ((k, a) ∷ t) n p q = pick_sets (eqb n k) _ _ (p a) (table_sets make other t n p q)

module _ (w pc : ℕ) (x : List ℕ) where
  -- what a table computes of a and b, put in rd, against the instructions that it makes
  module _ (n rd a b : ℕ) (r : rd < 32) (t : D.Table Alu) (k : ℕ) (make : Alu → Instr) (p : (u : Alu) → S.applied (S.put (Some (value u a b)) rd) (add pc n) x ≡ exec (make u) n pc x) where
    pub table : (other : Option ℕ) (rest : Instr) → S.applied (S.put other rd) (add pc n) x ≡ exec rest n pc x → S.Gives (S.put (S.computed t k a b other) rd) (D.lookup t k make rest) n pc x
    table other rest q =
        (put-sets (S.computed t k a b other) rd r, both (λ (c : Option ℕ). S.applied (S.put c rd) (add pc n) x) (λ (i : Instr). exec i n pc x) (λ (u : Alu). Some (value u a b)) make t k p q)

  -- a table of OP or OP-32
  pub op : (t : D.Table Alu) → S.Gives (S.put (S.computed t (D.funct10 w) (read x (rs1 w)) (read x (rs2 w)) None) (rd w)) (D.lookup t (D.funct10 w) (D.reg w) Instr.Uncovered) 4 pc x
  unfolding S.put S.applied exec
  op t = table 4 (rd w) _ _ (omega N.arith) t (D.funct10 w) (D.reg w) (λ k. refl) _ _ refl

  pub op_imm : S.Gives (S.put (S.op_imm w (read x (rs1 w))) (rd w)) (D.op_imm w) 4 pc x
  unfolding S.op_imm S.shift_imm D.op_imm D.shift_imm S.put S.applied exec
  op_imm =
      table 4 (rd w) _ _ (omega N.arith) D.imms (funct3 w) (D.imm w) (λ k. refl) _ _
      (table 4 (rd w) _ _ (omega N.arith) D.shifts (inst 31 26 w * 8 + funct3 w) (D.shift w) (λ k. refl) _ _ refl).1

  pub op_imm_32 : S.Gives (S.put (S.op_imm_32 w (read x (rs1 w))) (rd w)) (D.op_imm_32 w) 4 pc x
  unfolding S.op_imm_32 S.shift_imm_32 D.op_imm_32 D.shift_imm_32 S.put S.applied exec
  op_imm_32 =
      table 4 (rd w) _ _ (omega N.arith) D.imms32 (funct3 w) (D.imm w) (λ k. refl) _ _
      (table 4 (rd w) _ _ (omega N.arith) D.shifts32 (D.funct10 w) (D.shiftw w) (λ k. refl) _ _ refl).1

  pub branch : S.Gives (S.branched (funct3 w) (read x (rs1 w)) (read x (rs2 w)) (add pc (b_imm w)) (add pc 4)) (D.branch w) 4 pc x
  unfolding S.branched D.branch S.applied exec
  branch = (
    table_sets _ _ D.branches (funct3 w) (λ k. omega N.arith) (omega N.arith),
    both (λ (e : Effect). S.applied e (add pc 4) x) (λ (i : Instr). exec i 4 pc x) (λ (k : Cond). S.ended (taken k (read x (rs1 w)) (read x (rs2 w))) (add pc (b_imm w)) (add pc 4)) (D.on w) D.branches (funct3 w)
        (λ k. refl) refl,
  )

  abbrev done_by : Effect → Step
  done_by e = S.applied e (add pc 4) x

  abbrev made_by : Instr → Step
  made_by i = exec i 4 pc x

  pub below : (n : ℕ) (i : Instr) (e : Effect) → S.sets e < 32 → S.applied e (add pc 4) x ≡ exec i 4 pc x → S.Gives (S.below w n e) (D.below w n i) 4 pc x
  unfolding S.below D.below S.applied exec
  below n i e p q =
      (pick_sets (ltb (funct3 w) n) _ _ p (omega N.arith), either done_by made_by (ltb (funct3 w) n) q refl)

  pub fence : S.Gives (S.fenced (funct3 w) (add pc 4)) (D.misc_mem w) 4 pc x
  unfolding S.fenced S.fences D.misc_mem D.fences S.applied exec
  fence = (
    pick_sets (eqb (funct3 w) 0) _ _ (omega N.arith) (pick_sets (eqb (funct3 w) 1) _ _ (omega N.arith) (omega N.arith)),
    either done_by made_by (eqb (funct3 w) 0) refl (either done_by made_by (eqb (funct3 w) 1) refl refl),
  )

  abbrev done : Class → Step
  done k = made_by (D.by_class k w)

  -- where the opcode is none that the stepper's `match` has before it
  pub other : {next : ℕ} → next ≡ add pc 4 → (P : Type 0) → Missed P computing (w % 128) → S.Gives (S.other w next) (D.base32 w) 4 pc x
  unfolding S.other S.others S.applied exec D.base32 D.by_class class_of
  other e P h =
      let load = below 7 Instr.Helper Effect.Helper (omega N.arith) refl in
      let store = below 4 Instr.Helper Effect.Helper (omega N.arith) refl in rw e (
        pick_sets (eqb (w % 128) 0x03) _ _ load.0 (pick_sets (eqb (w % 128) 0x07) _ _ (omega N.arith) (pick_sets (eqb (w % 128) 0x0F) _ _ fence.0 (pick_sets (eqb (w % 128) 0x23) _ _ store.0 (pick_sets (eqb (w % 128) 0x27) _ _ (omega N.arith) (pick_sets (eqb (w % 128) 0x2F) _ _ (omega N.arith) (pick_sets (eqb (w % 128) 0x73) _ _ (omega N.arith) (omega N.arith))))))),
        simp (ne_eqb _ _ h.1, ne_eqb _ _ h.0.1, ne_eqb _ _ h.0.0.1, ne_eqb _ _ h.0.0.0.1, ne_eqb _ _ h.0.0.0.0.1, ne_eqb _ _ h.0.0.0.0.0.1, ne_eqb _ _ h.0.0.0.0.0.0.1, ne_eqb _ _ h.0.0.0.0.0.0.0.1, ne_eqb _ _ h.0.0.0.0.0.0.0.0.1)
            (either done_by done (eqb (w % 128) 0x03) load.1 (either done_by done (eqb (w % 128) 0x07) refl (either done_by done (eqb (w % 128) 0x0F) fence.1 (either done_by done (eqb (w % 128) 0x23) store.1 (either done_by done (eqb (w % 128) 0x27) refl (either done_by done (eqb (w % 128) 0x2F) refl (either done_by done (eqb (w % 128) 0x73) refl refl))))))),
      )
