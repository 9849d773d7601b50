-- How many words: at most `inline_words` for an instruction. Assumes nothing.
use Rattle.std.proofs.Common.{ℕ, Bool, eqb, [], ◌∷◌}
use Rattle.rules.specs.Limits.{inline_words}
use Rattle.isa.specs.Decode.{c_rd, rs1_prime, rs2_prime}
use Rattle.emit_native.specs.Calls.{load}
use Rattle.emit_native.proofs.Size.{by, Within, cheap, pick, front}
use Rattle.instr16.specs.Instr16 as I16

module _ (slot_offset : ℕ) where
  c_group-size : (instr : ℕ) → Within slot_offset inline_words (I16.c_group instr)
  unfolding I16.c_group I16.c_srli I16.c_srai I16.c_andi I16.c_alu
  c_group-size instr = search (pick, front slot_offset inline_words (load 9 (rs1_prime instr) ∷ load 10 (rs2_prime instr) ∷ []), cheap, tt) depth 20

  quadrant_1-size : (pc instr : ℕ) → Within slot_offset inline_words (I16.quadrant_1 pc instr)
  unfolding I16.quadrant_1 I16.c_addi I16.c_addiw I16.c_li I16.c_addi16sp_lui I16.c_addi16sp I16.c_lui I16.c_j I16.c_branch I16.c_branch_on
  quadrant_1-size pc instr =
      by (eqb (c_rd instr) 0) (λ t. rw t (search (pick, c_group-size, cheap, tt) depth 20)) (λ t. rw t (search (pick, c_group-size, cheap, tt) depth 20))

  quadrant_2-size : (e : Bool) (pc instr : ℕ) → Within slot_offset inline_words (I16.quadrant_2 e pc instr)
  unfolding I16.quadrant_2 I16.c_slli I16.c_jump_move_add I16.c_jr I16.c_mv I16.c_ebreak I16.c_jalr I16.c_add
  quadrant_2-size e pc instr =
      by (eqb (c_rd instr) 0) (λ t. rw t (search (pick, cheap, tt) depth 20)) (λ t. rw t (search (pick, cheap, tt) depth 20))

  pub instr16_size : (e : Bool) (pc instr : ℕ) → Within slot_offset inline_words (I16.emit_native_instr16 e pc instr)
  unfolding I16.emit_native_instr16 I16.quadrant_0 I16.addi4spn
  instr16_size e pc instr = search (pick, quadrant_1-size, quadrant_2-size, cheap, tt) depth 20
