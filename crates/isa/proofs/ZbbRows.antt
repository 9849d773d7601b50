-- What a word that is a Zbb instruction has in its fields, row by row. Assumes nothing.
use Rattle.std.specs.Prelude.{Some, None}
use mathlib.Core.Path.{◌≡◌, refl, sym, ap, ◌∙◌}
use native.Mathlib.Nat.{mod-eq_of_lt, div-div-eq-div-mul}
use mathlib.Core.Bool.{Bool, true, false, cond}
use mathlib.Core.List.{[], ◌∷◌}
use Prim.Native.Nat.{ℕ, ◌+◌, ◌*◌, ◌/◌, ◌%◌, ◌^◌, ◌<◌}
use native.Mathlib.Omega.{arith}
use lib.Dec.{eqb}
use borrow.Author.Tests.{eqb-true}
use Rattle.isa.specs.declared.zbb.Zbb.{Zbb}
use Rattle.isa.specs.declared.zbb.Found.{Found}
use Rattle.isa.specs.Zbb.{key, Rows, row, registers, word_shifts, unaries, shifts, shift_of, unary_of, word_shift_of, find, MaybeZbb}
use Rattle.isa.specs.Formats.{inst}

-- R, from each row's fields: opcode and funct3, then funct7; or inst[31:26]; or both
abbrev pub By7 : Rows → ℕ → Type 0 → Type 0
By7 [] w R = Unit {0}
By7 ((k, z) ∷ t) w R = (w % 128 ≡ k % 128 → w / 2 ^ 12 % 8 ≡ k / 128 % 8 → w / 2 ^ 25 % 128 ≡ k / 1024 → R) × By7 t w R

abbrev pub By6 : Rows → ℕ → Type 0 → Type 0
By6 [] w R = Unit {0}
By6 ((k, z) ∷ t) w R = (w % 128 ≡ k % 128 → w / 2 ^ 12 % 8 ≡ k / 128 % 8 → w / 2 ^ 26 % 64 ≡ k / 1024 → R) × By6 t w R

abbrev pub By12 : Rows → ℕ → Type 0 → Type 0
By12 [] w R = Unit {0}
By12 ((k, z) ∷ t) w R =
    (w % 128 ≡ k % 128 → w / 2 ^ 12 % 8 ≡ k / 128 % 8 → w / 2 ^ 26 % 64 ≡ k / 1024 / 64 → w / 2 ^ 25 % 128 ≡ k / 1024 / 32 → R) × By12 t w R

-- a row's key
module _ (R : Type 0) (make : Zbb → MaybeZbb) (other : MaybeZbb) (n k : ℕ) (z : Zbb) (t : Rows) where
  at_row : (n ≡ k → R) → ((row t n make other ≡ None → ⊥) → R) → (row ((k, z) ∷ t) n make other ≡ None → ⊥) → R
  at_row here rest h = at (eqb n k) refl h
    where
      at : (b : Bool) → eqb n k ≡ b → (cond b (make z) (row t n make other) ≡ None → ⊥) → R
      at true q g = here (eqb-true n k q)
      at false q g = rest g

digits : (a b c k : ℕ) → b < 8 → c < 128 → a * 2 ^ 10 + b * 2 ^ 7 + c ≡ k → (c ≡ k % 128) × (b ≡ k / 128 % 8) × (a ≡ k / 1024)
digits a b c k hb hc e = (omega arith, omega arith, omega arith)

top : (a k n : ℕ) → a < n → a ≡ k → a % n ≡ k
top a k n h e = mod-eq_of_lt h ∙ e

module _ (w : ℕ) (hw : w < 2 ^ 32) (R : Type 0) where
  by7 : (t : Rows) (make : Zbb → MaybeZbb) (other : MaybeZbb) → By7 t w R → ((other ≡ None → ⊥) → R)
      → (row t (key 25 w) make other ≡ None → ⊥) → R
  by7 [] make other a o h = o h
  by7 ((k, z) ∷ t) make other a o h =
      at_row R make other (key 25 w) k z t (λ e.
      let d = digits (w / 2 ^ 25) (w / 2 ^ 12 % 8) (w % 128) k (omega arith) (omega arith) e in
      a.0 d.0 d.1 (top (w / 2 ^ 25) (k / 1024) 128 (omega arith) d.2)) (λ g. by7 t make other a.1 o g) h

  by6 : (t : Rows) (make : Zbb → MaybeZbb) (other : MaybeZbb) → By6 t w R → ((other ≡ None → ⊥) → R)
      → (row t (key 26 w) make other ≡ None → ⊥) → R
  by6 [] make other a o h = o h
  by6 ((k, z) ∷ t) make other a o h =
      at_row R make other (key 26 w) k z t (λ e.
      let d = digits (w / 2 ^ 26) (w / 2 ^ 12 % 8) (w % 128) k (omega arith) (omega arith) e in
      a.0 d.0 d.1 (top (w / 2 ^ 26) (k / 1024) 64 (omega arith) d.2)) (λ g. by6 t make other a.1 o g) h

  by12 : (t : Rows) (make : Zbb → MaybeZbb) (other : MaybeZbb) → By12 t w R → ((other ≡ None → ⊥) → R)
      → (row t (key 20 w) make other ≡ None → ⊥) → R
  by12 [] make other a o h = o h
  by12 ((k, z) ∷ t) make other a o h =
      at_row R make other (key 20 w) k z t (λ e.
      let d = digits (w / 2 ^ 20) (w / 2 ^ 12 % 8) (w % 128) k (omega arith) (omega arith) e in
      let s : w / 2 ^ 26 ≡ k / 1024 / 64 = sym (div-div-eq-div-mul w (2 ^ 20) 64) ∙ ap (λ (n : ℕ). n / 64) d.2 in
      let v : w / 2 ^ 25 ≡ k / 1024 / 32 = sym (div-div-eq-div-mul w (2 ^ 20) 32) ∙ ap (λ (n : ℕ). n / 32) d.2 in
      a.0 d.0 d.1 (top (w / 2 ^ 26) (k / 1024 / 64) 64 (omega arith) s) (top (w / 2 ^ 25) (k / 1024 / 32) 128 (omega arith) v))
      (λ g. by12 t make other a.1 o g) h

  -- R holds of a Zbb instruction where it holds of each row
  pub each_row : By7 registers w R → By7 word_shifts w R → By12 unaries w R → By6 shifts w R → (find w ≡ None → ⊥) → R
  unfolding find word_shift_of unary_of shift_of
  each_row a b c d h =
      by7 registers (λ (z : Zbb). Some (Found.Register z)) (word_shift_of w) a
      (by7 word_shifts (λ (z : Zbb). Some (Found.Number z (inst 24 20 w))) (unary_of w) b
      (by12 unaries (λ (z : Zbb). Some (Found.Unary z)) (shift_of w) c
      (by6 shifts (λ (z : Zbb). Some (Found.Number z (inst 25 20 w))) None d (λ g. absurd (g refl))))) h

-- ---- a word with another opcode is none, whatever is above its 32 bits

abbrev ByOpcode : Rows → ℕ → Type 0 → Type 0
ByOpcode [] w R = Unit {0}
ByOpcode ((k, z) ∷ t) w R = (w % 128 ≡ k % 128 → R) × ByOpcode t w R

by_opcode : (w : ℕ) (R : Type 0) (s : ℕ) (t : Rows) (make : Zbb → MaybeZbb) (other : MaybeZbb) → ByOpcode t w R → ((other ≡ None → ⊥) → R)
    → (row t (key s w) make other ≡ None → ⊥) → R
by_opcode w R s [] make other a o h = o h
by_opcode w R s ((k, z) ∷ t) make other a o h =
    at_row R make other (key s w) k z t (λ e.
    a.0 (digits (w / 2 ^ s) (w / 2 ^ 12 % 8) (w % 128) k (omega arith) (omega arith) e).0) (λ g. by_opcode w R s t make other a.1 o g) h

-- Zbb's opcodes are OP, OP-IMM, OP-32 and OP-IMM-32
pub opcode_of : (w : ℕ) (R : Type 0) → (w % 128 ≡ 0x33 → R) → (w % 128 ≡ 0x13 → R) → (w % 128 ≡ 0x3B → R) → (w % 128 ≡ 0x1B → R)
    → (find w ≡ None → ⊥) → R
unfolding find word_shift_of unary_of shift_of registers word_shifts unaries shifts
opcode_of w R op imm op_32 imm_32 h =
    by_opcode w R 25 registers (λ (z : Zbb). Some (Found.Register z)) (word_shift_of w)
    (op, (op, (op, (op, (op, (op, (op, (op, (op, (op_32, (op_32, tt)))))))))))
    (by_opcode w R 25 word_shifts (λ (z : Zbb). Some (Found.Number z (inst 24 20 w))) (unary_of w) (imm_32, tt)
    (by_opcode w R 20 unaries (λ (z : Zbb). Some (Found.Unary z)) (shift_of w)
    (imm, (imm, (imm, (imm_32, (imm_32, (imm_32, (imm, (imm, (op_32, (imm, (imm, tt)))))))))))
    (by_opcode w R 26 shifts (λ (z : Zbb). Some (Found.Number z (inst 25 20 w))) None (imm, tt) (λ g. absurd (g refl))))) h

pub is_nothing : (f : MaybeZbb) → ((f ≡ None → ⊥) → ⊥) → f ≡ None
is_nothing None h = refl
is_nothing (Some (Found.Register z)) h = absurd (h (λ e. let y : ◌≡◌ {A = ℕ} 0 1 = cc in omega arith))
is_nothing (Some (Found.Number z n)) h = absurd (h (λ e. let y : ◌≡◌ {A = ℕ} 0 1 = cc in omega arith))
is_nothing (Some (Found.Unary z)) h = absurd (h (λ e. let y : ◌≡◌ {A = ℕ} 0 1 = cc in omega arith))

pub no_zbb : (w : ℕ) → (w % 128 ≡ 0x33 → ⊥) → (w % 128 ≡ 0x13 → ⊥) → (w % 128 ≡ 0x3B → ⊥) → (w % 128 ≡ 0x1B → ⊥) → find w ≡ None
no_zbb w op imm op_32 imm_32 = is_nothing (find w) (opcode_of w ⊥ op imm op_32 imm_32)

-- ---- what holds of every Zbb instruction

abbrev pub Each : Rows → (Zbb → Type 0) → Type 0
Each [] Q = Unit {0}
Each ((k, z) ∷ t) Q = Q z × Each t Q

row_has : (P : MaybeZbb → Type 0) (t : Rows) (n : ℕ) (make : Zbb → MaybeZbb) (other : MaybeZbb) → Each t (λ (z : Zbb). P (make z)) → P other → P (row t n make other)
row_has P [] n make other a o = o
row_has P ((k, z) ∷ t) n make other a o = at (eqb n k) (row_has P t n make other a.1 o)
  where
    at : (b : Bool) → P (row t n make other) → P (cond b (make z) (row t n make other))
    at true rest = a.0
    at false rest = rest

all_rows : (Q : Zbb → Type 0) (t : Rows) → ((z : Zbb) → Q z) → Each t Q
all_rows Q [] f = tt
all_rows Q ((k, z) ∷ t) f = (f z, all_rows Q t f)

pub found_has : (P : MaybeZbb → Type 0) (w : ℕ) → ((z : Zbb) → P (Some (Found.Register z))) → ((z : Zbb) (n : ℕ) → n < 64 → P (Some (Found.Number z n)))
    → Each unaries (λ (z : Zbb). P (Some (Found.Unary z))) → P None → P (find w)
unfolding find word_shift_of unary_of shift_of
found_has P w register number unary nothing =
    row_has P registers (key 25 w) (λ (z : Zbb). Some (Found.Register z)) _ (all_rows _ registers register)
    (row_has P word_shifts (key 25 w) _ _ (all_rows _ word_shifts (λ z. number z (inst 24 20 w) (omega arith)))
    (row_has P unaries (key 20 w) (λ (z : Zbb). Some (Found.Unary z)) _ unary
    (row_has P shifts (key 26 w) _ None (all_rows _ shifts (λ z. number z (inst 25 20 w) (omega arith))) nothing)))
