-- The text of an operand, by cases. Assumes nothing.
use mathlib.Core.Path.{◌≡◌, refl}
use mathlib.Core.List.{List, [], ◌∷◌, ◌++◌, append_assoc, append-nil}
use Prim.Native.Nat.{ℕ, zero, suc, ◌+◌, ◌<◌, ◌≤◌}
use Prim.Native.String.{String}
use Rattle.std.specs.Prelude.{Some, None}
use native.Mathlib.Omega.{arith}
use lib.ListN.{length, get_or}
use borrow.Author.Tests.{ne_eqb}
use Rattle.ascii.specs.Ascii.{ascii, decimal}
use Rattle.a64_text.specs.Operands.{Operand, Imm, LSL, Mem, Cond, register, conditions, condition, operand}
use Rattle.a64_text.specs.Text.{further}
use Rattle.a64_text.specs.Parts.{register_operand, further_register}

pub numbered_or_sp : (n : ℕ) → (n ≡ 31 → ⊥) → register "sp" n ≡ ascii "x" ++ decimal n
unfolding register
numbered_or_sp n h = rw (ne_eqb n 31 h)

pub numbered : (n : ℕ) → n < 31 → operand (register_operand n) ≡ ascii "x" ++ decimal n
unfolding operand register
numbered n h = rw (ne_eqb n 32 (λ e. omega arith), ne_eqb n 31 (λ e. omega arith))

pub further-none : further (further_register None) ≡ []
unfolding further
further-none = refl

pub further-some : (n : ℕ) → further (further_register (Some n)) ≡ ascii ", " ++ operand (register_operand n)
unfolding further
further-some n = rw append-nil

pub shifted : (n k : ℕ) → further (Imm n ∷ LSL k ∷ []) ≡ ascii ", #" ++ (decimal n ++ (ascii ", lsl #" ++ decimal k))
unfolding further operand
shifted n k = simp (append_assoc, append-nil)

pub memory : (n k : ℕ) → further (Mem n k ∷ []) ≡ ascii ", [" ++ (register "sp" n ++ (ascii ", #" ++ (decimal k ++ ascii "]")))
unfolding further operand
memory n k = simp (append_assoc, append-nil)

pub condition-text : (c : ℕ) → further (Cond c ∷ []) ≡ ascii ", " ++ ascii (condition c)
unfolding further operand
condition-text c = simp append-nil

pub fields : (a b : ℕ) → further (Imm a ∷ Imm b ∷ []) ≡ (ascii ", #" ++ decimal a) ++ (ascii ", #" ++ decimal b)
unfolding further operand
fields a b = simp (append_assoc, append-nil)

-- operands in two parts
pub further-append : (os ps : List Operand) → further (os ++ ps) ≡ further os ++ further ps
unfolding further
further-append [] ps = refl
further-append (o ∷ os) ps = rw (further-append os ps) (simp append_assoc)

-- each text of a list has two letters
abbrev Pairs : List String → Type 0
Pairs [] = Unit {0}
Pairs (s ∷ l) = (length (ascii s) ≡ 2) × Pairs l

pair_of : (l : List String) → Pairs l → (c : ℕ) → length (ascii (get_or l c "nv")) ≡ 2
pair_of [] h c = refl
pair_of (s ∷ l) h zero = h.0
pair_of (s ∷ l) h (suc c) = pair_of l h.1 c

pub condition-length : (c : ℕ) → length (ascii (condition c)) ≡ 2
condition-length c = pair_of conditions (refl, (refl, (refl, (refl, (refl, (refl, (refl, (refl, (refl, (refl, (refl, (refl, (refl, (refl, (refl, tt))))))))))))))) c

-- what is none of five numbers in a row and not below them is beyond them
pub past_five : {n : ℕ} (k : ℕ) → k ≤ n → (n ≡ k → ⊥) → (n ≡ k + 1 → ⊥) → (n ≡ k + 2 → ⊥) → (n ≡ k + 3 → ⊥) → (n ≡ k + 4 → ⊥) → k + 5 ≤ n
past_five k h a b c d e = omega arith
