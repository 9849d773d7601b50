-- decode.rs agrees with the ISA's formats: every immediate, for every word. Assumes nothing.
use Prim.Native.Nat.{ℕ, ◌+◌, ◌-◌, ◌*◌, ◌/◌, ◌%◌, ◌^◌, ◌≤◌, ◌<◌}
use native.Mathlib.Omega.{arith}
use lib.Pow.{mod-pow-add, shr-shr}
use mathlib.Core.Path.{◌≡◌, refl, ap, ◌∙◌}
use Rattle.word.specs.Word.{sext}
use Rattle.word.proofs.Extend.{by_shifts}
use Rattle.isa.specs.Formats.{i_imm, s_imm, b_imm, u_imm, j_imm, ciw_imm, ci_imm, ci16_imm, cj_imm, cb_imm, shamt_c, inst}
use Rattle.isa.specs.Parts.{decoded}
use Rattle.isa.specs.Decode.{sign_extend, imm_i, imm_s, imm_b, imm_u, imm_j, imm_ci, shamt, imm_addi4spn, imm_addi16sp, imm_cj, imm_cb, decode32, bit}

sign_extends : (val bits : ℕ) → 1 ≤ bits → bits ≤ 64 → sign_extend val bits ≡ sext bits val
unfolding sign_extend
sign_extends val bits h k = by_shifts val bits (64 - bits) h (omega arith)

module _ (w : ℕ) (h : w < 2 ^ 32) where
  pub imm_i_is : imm_i w ≡ i_imm w
  unfolding imm_i
  imm_i_is =
      let e : w / 2 ^ 20 ≡ inst 31 20 w = omega arith in
      sign_extends (w / 2 ^ 20) 12 (omega arith) (omega arith) ∙ ap (sext 12) e

  pub imm_s_is : imm_s w ≡ s_imm w
  unfolding imm_s
  imm_s_is =
      let e : w / 2 ^ 25 * 2 ^ 5 + w / 2 ^ 7 % 32 ≡ inst 31 25 w * 2 ^ 5 + inst 11 7 w = omega arith in
      sign_extends (w / 2 ^ 25 * 2 ^ 5 + w / 2 ^ 7 % 32) 12 (omega arith) (omega arith) ∙ ap (sext 12) e

  pub imm_b_is : imm_b w ≡ b_imm w
  unfolding imm_b
  imm_b_is = sign_extends (w / 2 ^ 31 % 2 * 2 ^ 12 + w / 2 ^ 7 % 2 * 2 ^ 11 + w / 2 ^ 25 % 64 * 2 ^ 5 + w / 2 ^ 8 % 16 * 2 ^ 1) 13 (omega arith) (omega arith)

  pub imm_u_is : imm_u w ≡ u_imm w
  unfolding imm_u
  imm_u_is =
      let e : w / 2 ^ 12 * 2 ^ 12 ≡ inst 31 12 w * 2 ^ 12 = omega arith in
      sign_extends (w / 2 ^ 12 * 2 ^ 12) 32 (omega arith) (omega arith) ∙ ap (sext 32) e

  pub imm_j_is : imm_j w ≡ j_imm w
  unfolding imm_j
  imm_j_is = sign_extends (w / 2 ^ 31 % 2 * 2 ^ 20 + w / 2 ^ 12 % 256 * 2 ^ 12 + w / 2 ^ 20 % 2 * 2 ^ 11 + w / 2 ^ 21 % 1024 * 2 ^ 1) 21 (omega arith) (omega arith)

-- the fields of a 32-bit word
decode32_is : (w : ℕ) → decode32 w ≡ decoded w
decode32_is w = refl

-- a field of n + 1 bits: its lowest, and the others
bits : (w lo n : ℕ) → w / 2 ^ lo % 2 ^ (n + 1) ≡ w / 2 ^ (lo + 1) % 2 ^ n * 2 + w / 2 ^ lo % 2
bits w lo n = mod-pow-add (w / 2 ^ lo) n 1 ∙ rw (shr-shr w lo 1)

-- the bits of three immediates, in the Rust's order and in the manual's fields
ciw : (b12 b11 b10 b9 b8 b7 b6 b5 : ℕ)
    → b12 * 2 ^ 5 + b11 * 2 ^ 4 + b10 * 2 ^ 9 + b9 * 2 ^ 8 + b8 * 2 ^ 7 + b7 * 2 ^ 6 + b6 * 2 ^ 2 + b5 * 2 ^ 3
    ≡ (((b10 * 2 + b9) * 2 + b8) * 2 + b7) * 2 ^ 6 + (b12 * 2 + b11) * 2 ^ 4 + b5 * 2 ^ 3 + b6 * 2 ^ 2
ciw b12 b11 b10 b9 b8 b7 b6 b5 = omega arith

cj : (b12 b11 b10 b9 b8 b7 b6 b5 b4 b3 b2 : ℕ)
    → b12 * 2 ^ 11 + b11 * 2 ^ 4 + b10 * 2 ^ 9 + b9 * 2 ^ 8 + b8 * 2 ^ 10 + b7 * 2 ^ 6 + b6 * 2 ^ 7 + b5 * 2 ^ 3 + b4 * 2 ^ 2 + b3 * 2 ^ 1 + b2 * 2 ^ 5
    ≡ b12 * 2 ^ 11 + b8 * 2 ^ 10 + (b10 * 2 + b9) * 2 ^ 8 + b6 * 2 ^ 7 + b7 * 2 ^ 6 + b2 * 2 ^ 5 + b11 * 2 ^ 4 + ((b5 * 2 + b4) * 2 + b3) * 2 ^ 1
cj b12 b11 b10 b9 b8 b7 b6 b5 b4 b3 b2 = omega arith

cb : (b12 b11 b10 b6 b5 b4 b3 b2 : ℕ)
    → b12 * 2 ^ 8 + b11 * 2 ^ 4 + b10 * 2 ^ 3 + b6 * 2 ^ 7 + b5 * 2 ^ 6 + b4 * 2 ^ 2 + b3 * 2 ^ 1 + b2 * 2 ^ 5
    ≡ b12 * 2 ^ 8 + (b6 * 2 + b5) * 2 ^ 6 + b2 * 2 ^ 5 + (b11 * 2 + b10) * 2 ^ 3 + (b4 * 2 + b3) * 2 ^ 1
cb b12 b11 b10 b6 b5 b4 b3 b2 = omega arith

module _ (w : ℕ) where
  pub imm_ci_is : imm_ci w ≡ ci_imm w
  unfolding imm_ci
  imm_ci_is = sign_extends (bit w 12 5 + w / 2 ^ 2 % 32) 6 (omega arith) (omega arith)

  pub shamt_is : shamt w ≡ shamt_c w
  unfolding shamt
  shamt_is = refl

  pub imm_addi4spn_is : imm_addi4spn w ≡ ciw_imm w
  unfolding imm_addi4spn
  imm_addi4spn_is =
      rw (bits w 7 3, bits w 8 2, bits w 9 1, bits w 11 1)
      (ciw (inst 12 12 w) (inst 11 11 w) (inst 10 10 w) (inst 9 9 w) (inst 8 8 w) (inst 7 7 w) (inst 6 6 w) (inst 5 5 w))

  pub imm_addi16sp_is : imm_addi16sp w ≡ ci16_imm w
  unfolding imm_addi16sp
  imm_addi16sp_is =
      let e : bit w 12 9 + bit w 6 4 + bit w 5 6 + bit w 4 8 + bit w 3 7 + bit w 2 5
      ≡ inst 12 12 w * 2 ^ 9 + inst 4 3 w * 2 ^ 7 + inst 5 5 w * 2 ^ 6 + inst 2 2 w * 2 ^ 5 + inst 6 6 w * 2 ^ 4 = omega arith in
      sign_extends (bit w 12 9 + bit w 6 4 + bit w 5 6 + bit w 4 8 + bit w 3 7 + bit w 2 5) 10 (omega arith) (omega arith) ∙ ap (sext 10) e

  pub imm_cj_is : imm_cj w ≡ cj_imm w
  unfolding imm_cj
  imm_cj_is =
      sign_extends _ 12 (omega arith) (omega arith)
      ∙ rw (bits w 9 1, bits w 3 2, bits w 4 1)
      (ap (sext 12) (cj (inst 12 12 w) (inst 11 11 w) (inst 10 10 w) (inst 9 9 w) (inst 8 8 w) (inst 7 7 w) (inst 6 6 w) (inst 5 5 w) (inst 4 4 w) (inst 3 3 w) (inst 2 2 w)))

  pub imm_cb_is : imm_cb w ≡ cb_imm w
  unfolding imm_cb
  imm_cb_is =
      sign_extends _ 9 (omega arith) (omega arith)
      ∙ rw (bits w 5 1, bits w 10 1, bits w 3 1)
      (ap (sext 9) (cb (inst 12 12 w) (inst 11 11 w) (inst 10 10 w) (inst 6 6 w) (inst 5 5 w) (inst 4 4 w) (inst 3 3 w) (inst 2 2 w)))
