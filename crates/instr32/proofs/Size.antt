-- How many words: at most `inline_words` for an instruction. Assumes nothing.
use Rattle.std.proofs.Common.{ℕ, ◌%◌, Bool, true, false, ◌&&◌, T, eqb, leb, [], ◌∷◌, arith, leb→le}
use mathlib.Core.List.{flatten}
use Rattle.rules.specs.Limits.{inline_words}
use Rattle.a64_emitter.specs.Writers as Writers
use Rattle.isa.specs.declared.decode.Decoded32.{Decoded32}
use Rattle.isa.specs.Decode.{imm_i}
use Rattle.emit_native.specs.Calls.{mov_imm64, load}
use Rattle.emit_native.proofs.Size.{size, by, Within, cheap, pick, front, stored}
use Rattle.instr32.specs.Instr32 as I32

both : (a b : Bool) → T (a && b) → T a × T b
both true b h = (tt, h)
both false b h = absurd h

module _ (slot_offset : ℕ) where
  -- ---- the arms of a table have constants that are known: their words are counted

  -- whether each arm is at most n words
  short : ℕ → I32.Arms → Bool
  short n [] = true
  short n ((f7, f3, cs) ∷ arms) = leb (size slot_offset cs) n && short n arms

  arm-size : {n : ℕ} (arms : I32.Arms) (funct7 funct3 : ℕ) → T (short n arms) → Within slot_offset n (I32.arm arms funct7 funct3)
  unfolding short flatten
  arm-size {n} [] funct7 funct3 h = record { within = omega arith }
  arm-size {n} ((f7, f3, cs) ∷ arms) funct7 funct3 h =
      let k = both (leb (size slot_offset cs) n) (short n arms) h in
      pick slot_offset (eqb funct7 f7 && eqb funct3 f3) _ _ (record { within = leb→le (size slot_offset cs) n k.0 }) (arm-size arms funct7 funct3 k.1)

  op_32-size : (d : Decoded32) → Within slot_offset inline_words (I32.op_32 d)
  unfolding I32.op_32 I32.op_32_arm Writers.mov_imm64 Writers.movk flatten short
  op_32-size d =
      front slot_offset inline_words (load 9 d.rs1 ∷ load 10 d.rs2 ∷ []) _ tt (stored slot_offset {n = 27} d.rd _ (arm-size I32.ops_32 d.funct7 d.funct3 tt))

  op-size : (d : Decoded32) → Within slot_offset inline_words (I32.op d)
  unfolding I32.op I32.op_arm Writers.mov_imm64 Writers.movk flatten short
  op-size d =
      front slot_offset inline_words (load 9 d.rs1 ∷ load 10 d.rs2 ∷ []) _ tt (stored slot_offset {n = 27} d.rd _ (arm-size I32.ops d.funct7 d.funct3 tt))

  -- ---- the others: at most 4 words for each constant

  op_imm_arm-size : (imm imm12 funct3 : ℕ) → Within slot_offset 28 (I32.op_imm_arm imm imm12 funct3)
  unfolding I32.op_imm_arm
  op_imm_arm-size imm imm12 funct3 = search (pick, front slot_offset 28 (mov_imm64 10 (imm12 % 64) ∷ []), cheap, tt) depth 20

  op_imm-size : (instr : ℕ) (d : Decoded32) → Within slot_offset inline_words (I32.op_imm instr d)
  unfolding I32.op_imm
  op_imm-size instr d = front slot_offset inline_words (load 9 d.rs1 ∷ []) _ tt (stored slot_offset {n = 28} d.rd _ (op_imm_arm-size (imm_i instr) d.imm12 d.funct3))

  op_imm_32_arm-size : (imm imm12 funct7 funct3 : ℕ) → Within slot_offset 28 (I32.op_imm_32_arm imm imm12 funct7 funct3)
  unfolding I32.op_imm_32_arm
  op_imm_32_arm-size imm imm12 funct7 funct3 = search (pick, front slot_offset 28 (mov_imm64 10 (imm12 % 32) ∷ []), cheap, tt) depth 20

  op_imm_32-size : (instr : ℕ) (d : Decoded32) → Within slot_offset inline_words (I32.op_imm_32 instr d)
  unfolding I32.op_imm_32
  op_imm_32-size instr d =
      front slot_offset inline_words (load 9 d.rs1 ∷ []) _ tt (stored slot_offset {n = 28} d.rd _ (op_imm_32_arm-size (imm_i instr) d.imm12 d.funct7 d.funct3))

  pub instr_size : (pc instr : ℕ) (d : Decoded32) → Within slot_offset inline_words (I32.emit_native_instr pc instr d)
  unfolding I32.emit_native_instr I32.lui I32.auipc I32.jal I32.jalr I32.branch I32.branch_on I32.misc_mem
  instr_size pc instr d =
      by (eqb d.rd 0) (λ t. rw t (search (pick, op_imm-size, op_imm_32-size, op_32-size, op-size, cheap, tt) depth 30))
      (λ t. rw t (search (pick, op_imm-size, op_imm_32-size, op_32-size, op-size, cheap, tt) depth 30))
