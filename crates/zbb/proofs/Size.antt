-- How many words: those of each body, and at most `inline_words` for an instruction. Assumes nothing.
use Rattle.std.specs.Prelude.{Some, None}
use Prim.Native.Nat.{ℕ, ◌≤◌, max}
use native.Mathlib.Omega.{arith}
use mathlib.Core.Path.{◌≡◌, refl}
use mathlib.Core.Bool.{Bool, true, false, cond}
use mathlib.Core.List.{[], ◌∷◌, flatten}
use lib.Dec.{eqb}
use Rattle.rules.specs.Limits.{inline_words}
use Rattle.a64_emitter.specs.Writers as Writers
use Rattle.isa.specs.declared.zbb.Zbb.{Zbb}
use Rattle.isa.specs.declared.zbb.Found.{Found}
use Rattle.isa.specs.Formats.{inst, rd, rs1, rs2}
use Rattle.isa.specs.Zbb.{Rows, row, key, registers, word_shifts, unaries, shifts, shift_of, unary_of, word_shift_of, find, MaybeZbb}
use Rattle.emit_native.specs.Calls.{load, mov_imm64, continue}
use Rattle.emit_native.proofs.Size.{size, Within, front, stored}
use Rattle.zbb.specs.Words.{zbb_body}
use Rattle.zbb.specs.Emission.{emission}

-- ---- of a body

unfoldable pub words_of : Zbb → ℕ
words_of Zbb.Andn = 1
words_of Zbb.Orn = 1
words_of Zbb.Xnor = 1
words_of Zbb.Clz = 1
words_of Zbb.Clzw = 6
words_of Zbb.Ctz = 6
words_of Zbb.Ctzw = 9
words_of Zbb.Cpop = 26
words_of Zbb.Cpopw = 28
words_of Zbb.Max = 2
words_of Zbb.Maxu = 2
words_of Zbb.Min = 2
words_of Zbb.Minu = 2
words_of Zbb.SextB = 3
words_of Zbb.SextH = 3
words_of Zbb.ZextH = 2
words_of Zbb.Rol = 2
words_of Zbb.Rolw = 11
words_of Zbb.Ror = 1
words_of Zbb.Rorw = 11
words_of Zbb.OrcB = 14
words_of Zbb.Rev8 = 1

pub counted : (slot_offset : ℕ) (z : Zbb) → size slot_offset (zbb_body z) ≡ words_of z
unfolding words_of zbb_body Writers.mov_imm64 Writers.movk flatten
counted o Zbb.Andn = refl
counted o Zbb.Orn = refl
counted o Zbb.Xnor = refl
counted o Zbb.Clz = refl
counted o Zbb.Clzw = refl
counted o Zbb.Ctz = refl
counted o Zbb.Ctzw = refl
counted o Zbb.Cpop = refl
counted o Zbb.Cpopw = refl
counted o Zbb.Max = refl
counted o Zbb.Maxu = refl
counted o Zbb.Min = refl
counted o Zbb.Minu = refl
counted o Zbb.SextB = refl
counted o Zbb.SextH = refl
counted o Zbb.ZextH = refl
counted o Zbb.Rol = refl
counted o Zbb.Rolw = refl
counted o Zbb.Ror = refl
counted o Zbb.Rorw = refl
counted o Zbb.OrcB = refl
counted o Zbb.Rev8 = refl

-- the most of a table's rows
most : Rows → ℕ
most [] = 0
most ((k, z) ∷ t) = max (words_of z) (most t)

-- ---- of an instruction w

module _ (slot_offset w : ℕ) where
  abbrev Fits : MaybeZbb → Type 0
  Fits f = Within slot_offset inline_words (emission f w)

  body_size : (n : ℕ) (z : Zbb) → words_of z ≤ n → Within slot_offset n (continue (zbb_body z))
  body_size n z h = record { within = omega (arith, counted slot_offset z) }

  -- a table whose bodies are at most n words, where so many fit
  row-size : (n : ℕ) (make : Zbb → MaybeZbb) → ((z : Zbb) → words_of z ≤ n → Fits (make z)) → (t : Rows) (k : ℕ) (other : MaybeZbb) → most t ≤ n
      → Fits other → Fits (row t k make other)
  unfolding most
  row-size n make fits [] k other h o = o
  row-size n make fits ((j, z) ∷ t) k other h o = at (eqb k j) (row-size n make fits t k other (omega arith) o)
    where
      at : (b : Bool) → Fits (row t k make other) → Fits (cond b (make z) (row t k make other))
      at true rest = fits z (omega arith)
      at false rest = rest

  register-size : (z : Zbb) → words_of z ≤ 27 → Fits (Some (Found.Register z))
  unfolding emission
  register-size z h = front slot_offset inline_words (load 9 (rs1 w) ∷ load 10 (rs2 w) ∷ []) _ tt (stored slot_offset (rd w) _ (body_size 27 z h))

  number_size : (n : ℕ) (z : Zbb) → words_of z ≤ 24 → Fits (Some (Found.Number z n))
  unfolding emission
  number_size n z h = front slot_offset inline_words (load 9 (rs1 w) ∷ mov_imm64 10 n ∷ []) _ tt (stored slot_offset (rd w) _ (body_size 24 z h))

  unary_size : (z : Zbb) → words_of z ≤ 28 → Fits (Some (Found.Unary z))
  unfolding emission
  unary_size z h = front slot_offset inline_words (load 9 (rs1 w) ∷ []) _ tt (stored slot_offset (rd w) _ (body_size 28 z h))

  pub zbb_size : Within slot_offset inline_words (emission (find w) w)
  unfolding find word_shift_of unary_of shift_of registers word_shifts unaries shifts most words_of emission flatten
  zbb_size =
      row-size 27 (λ (z : Zbb). Some (Found.Register z)) register-size registers (key 25 w) _ (omega arith)
      (row-size 24 (λ (z : Zbb). Some (Found.Number z (inst 24 20 w))) (number_size (inst 24 20 w)) word_shifts (key 25 w) _ (omega arith)
      (row-size 28 (λ (z : Zbb). Some (Found.Unary z)) unary_size unaries (key 20 w) _ (omega arith)
      (row-size 24 (λ (z : Zbb). Some (Found.Number z (inst 25 20 w))) (number_size (inst 25 20 w)) shifts (key 26 w) None (omega arith)
      (record { within = omega arith }))))
