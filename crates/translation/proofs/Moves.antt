-- Arguments: registers and constants into registers below X18, X0 to X8 among them. Assumes nothing.
use mathlib.Core.Path.{◌≡◌, refl, ◌∙◌}
use mathlib.Core.List.{List, [], ◌∷◌, map, flatten}
use Prim.Native.Nat.{ℕ, ◌^◌, ◌≤◌, ◌<◌}
use native.Mathlib.Omega.{arith}
use lib.Bits.{or_zero_r}
use lib.Dec.{eqb}
use borrow.Author.Tests.{ne_eqb}
use Rattle.a64.specs.declared.Op.TheVariants.{Orr}
use Rattle.a64.specs.declared.Form.TheVariants.{DataProcessing}
use Rattle.a64_exec.specs.Exec.{exec}
use Rattle.a64_alu.specs.Alu.{op_value}
use Rattle.a64_emitter.specs.Writers.{mov_x}
use Rattle.a64_run.proofs.Straight.{Straight, straight_append, one_form}
use Rattle.emit_native.specs.Calls.{Call, emit, mov_imm64, product, call_words, words_in, words}
use Rattle.translation.proofs.Registers.{upd, set_tab, operand_tab}
use Rattle.translation.proofs.Calls.{Model, model, cond_lt, real, constant_real}

pub data Move : Type 0 where
  from : ℕ → ℕ → Move
  constant : ℕ → ℕ → Move

abbrev pub move_call : Move → Call
move_call (from d n) = emit (mov_x d n)
move_call (constant d c) = mov_imm64 d c

abbrev pub moved : Move → (ℕ → ℕ) → ℕ → ℕ
moved (from d n) r = upd r d (r n)
moved (constant d c) r = upd r d c

abbrev pub all_moved : List Move → (ℕ → ℕ) → ℕ → ℕ
all_moved [] r = r
all_moved (c ∷ cs) r = all_moved cs (moved c r)

-- the numbers are in range
abbrev pub Moves : List Move → Type 0
Moves [] = Unit {0}
Moves (from d n ∷ cs) = (d < 18) × (n < 31) × Moves cs
Moves (constant d c ∷ cs) = (d < 18) × (c < 2 ^ 64) × Moves cs

abbrev pub with_r : Model → (ℕ → ℕ) → Model
with_r v r = model r v.f v.slots

other : (d k : ℕ) (r : ℕ → ℕ) (c : ℕ) → d < 18 → 18 ≤ k → upd r d c k ≡ r k
other d k r c hd hk = rw (ne_eqb k d (omega arith))

-- X18 and above stay
pub moves_high : (cs : List Move) (r : ℕ → ℕ) (k : ℕ) → Moves cs → 18 ≤ k → all_moved cs r k ≡ r k
moves_high [] r k h hk = refl
moves_high (from d n ∷ cs) r k h hk = moves_high cs (moved (from d n) r) k h.2 hk ∙ other d k r (r n) h.0 hk
moves_high (constant d c ∷ cs) r k h hk = moves_high cs (moved (constant d c) r) k h.2 hk ∙ other d k r c h.0 hk

-- registers of 64 bits
put_small : (d c : ℕ) (r : ℕ → ℕ) → c < 2 ^ 64 → ((k : ℕ) → r k < 2 ^ 64) → (k : ℕ) → upd r d c k < 2 ^ 64
put_small d c r hc h k = cond_lt (eqb k d) hc (h k)

pub moves_small : (cs : List Move) (r : ℕ → ℕ) → Moves cs → ((k : ℕ) → r k < 2 ^ 64) → (k : ℕ) → all_moved cs r k < 2 ^ 64
moves_small [] r i h k = h k
moves_small (from d n ∷ cs) r i h k = moves_small cs (moved (from d n) r) i.2 (put_small d (r n) r (h n) h) k
moves_small (constant d c ∷ cs) r i h k = moves_small cs (moved (constant d c) r) i.2 (put_small d c r i.1 h) k

module _ (base sp o : ℕ) (m : List ℕ) where
  move_goes : (v : Model) (d n : ℕ) → d < 18 → n < 31
      → Straight (mov_x d n ∷ []) (real base sp v m) (real base sp (with_r v (moved (from d n) v.r)) m)
  move_goes v d n hd hn =
      one_form (DataProcessing Orr d n 31) _ _ (omega arith)
      (unfold exec op_value in (rw (operand_tab v.r n (omega arith), operand_tab v.r 31 (omega arith), ne_eqb n 31 (omega arith), or_zero_r, set_tab)))

  pub moves_go : (cs : List Move) (v : Model) → Moves cs
      → Straight (words o (map move_call cs)) (real base sp v m) (real base sp (with_r v (all_moved cs v.r)) m)
  unfolding words_in flatten
  moves_go [] v h = refl
  moves_go (from d n ∷ cs) v h =
      straight_append (mov_x d n ∷ []) (words o (map move_call cs)) _ _ _ (move_goes v d n h.0 h.1) (moves_go cs (with_r v (moved (from d n) v.r)) h.2)
  moves_go (constant d c ∷ cs) v h =
      straight_append (call_words product o (mov_imm64 d c)) (words o (map move_call cs)) _ _ _ (constant_real base sp v m d c (omega arith) h.1)
      (moves_go cs (with_r v (moved (constant d c) v.r)) h.2)
