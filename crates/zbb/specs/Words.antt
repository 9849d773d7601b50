-- The calls between the operands in X9 and X10 and the result in X11, for each instruction of Zbb (document 02, No. 7).
-- X12 to X14 are free; only 64-bit forms.
use Rattle.std.specs.Prelude.{ℕ, List, [], ◌∷◌, ◌++◌}
use Rattle.isa.specs.declared.zbb.Zbb.{Zbb}
use Rattle.a64_emitter.specs.Writers.{add_x, sub_x, and_x, orr_x, lslv_x, lsrv_x, asrv_x, mul_x, cmp_x, csel_x, sxtw_x}
use Rattle.a64_emitter.specs.Zbb.{bic_x, orn_x, eon_x, rorv_x, rev_x, clz_x}
use Rattle.emit_native.specs.Hart.{C_CS, C_CC, C_GE, C_LT}
use Rattle.emit_native.specs.Calls.{Call, emit, mov_imm64}

-- ---- parts

-- 0x01 in each byte, and the byte c in each from it
abbrev pub each_byte : ℕ
each_byte = 0x0101010101010101

abbrev pub bytes_of : ℕ → List Call
bytes_of c = mov_imm64 13 c ∷ emit (mul_x 13 12 13) ∷ []

-- X11 is Xn shifted right by s
abbrev pub shifted : ℕ → ℕ → List Call
shifted n s = mov_imm64 14 s ∷ emit (lsrv_x 11 n 14) ∷ []

-- X9 where the comparison with X10 meets the condition, and else X10
abbrev pub picked : ℕ → List Call
picked c = emit (cmp_x 9 10) ∷ emit (csel_x 11 9 10 c) ∷ []

-- the low 64 - s bits of X9, extended by their sign
abbrev pub extended : ℕ → List Call
extended s = mov_imm64 12 s ∷ emit (lslv_x 11 9 12) ∷ emit (asrv_x 11 11 12) ∷ []

-- X9, the low word alone
abbrev pub low_word : List Call
low_word = mov_imm64 12 0xFFFFFFFF ∷ emit (and_x 9 9 12) ∷ []

-- the low word rotated: by the low five bits of X10 one way, and by 32 less those the other
abbrev pub rotated : ℕ → ℕ → List Call
rotated there back =
    low_word ++ mov_imm64 12 31 ∷ emit (and_x 10 10 12) ∷ emit there ∷ mov_imm64 12 32 ∷ emit (sub_x 12 12 10) ∷ emit back
    ∷ emit (orr_x 11 11 12) ∷ emit (sxtw_x 11 11) ∷ []

-- the zeros below the lowest one of X9: the ones of (X9 - 1) AND NOT X9
abbrev pub trailing : List Call
trailing =
    mov_imm64 12 1 ∷ emit (sub_x 11 9 12) ∷ emit (bic_x 11 11 9) ∷ emit (clz_x 11 11) ∷ mov_imm64 12 64 ∷ emit (sub_x 11 12 11) ∷ []

-- the ones of X9, by the mask sequence
abbrev pub ones : List Call
ones =
    mov_imm64 12 each_byte
    ∷ bytes_of 0x55 ++ shifted 9 1 ++ emit (and_x 11 11 13) ∷ emit (sub_x 9 9 11)
    ∷ bytes_of 0x33 ++ shifted 9 2 ++ emit (and_x 11 11 13) ∷ emit (and_x 9 9 13) ∷ emit (add_x 9 9 11)
    ∷ bytes_of 0x0F ++ shifted 9 4 ++ emit (add_x 9 9 11) ∷ emit (and_x 9 9 13)
    ∷ emit (mul_x 9 9 12) ∷ shifted 9 56

-- ---- one row an instruction

unfoldable pub zbb_body : Zbb → List Call
zbb_body Zbb.Andn = emit (bic_x 11 9 10) ∷ []
zbb_body Zbb.Orn = emit (orn_x 11 9 10) ∷ []
zbb_body Zbb.Xnor = emit (eon_x 11 9 10) ∷ []
zbb_body Zbb.Clz = emit (clz_x 11 9) ∷ []
zbb_body Zbb.Clzw = low_word ++ emit (clz_x 11 9) ∷ mov_imm64 12 32 ∷ emit (sub_x 11 11 12) ∷ []
zbb_body Zbb.Ctz = trailing
zbb_body Zbb.Ctzw = mov_imm64 12 0x100000000 ∷ emit (orr_x 9 9 12) ∷ trailing
zbb_body Zbb.Cpop = ones
zbb_body Zbb.Cpopw = mov_imm64 12 32 ∷ emit (lslv_x 9 9 12) ∷ ones
zbb_body Zbb.Max = picked C_GE
zbb_body Zbb.Maxu = picked C_CS
zbb_body Zbb.Min = picked C_LT
zbb_body Zbb.Minu = picked C_CC
zbb_body Zbb.SextB = extended 56
zbb_body Zbb.SextH = extended 48
zbb_body Zbb.ZextH = mov_imm64 12 0xFFFF ∷ emit (and_x 11 9 12) ∷ []
zbb_body Zbb.Rol = emit (sub_x 10 31 10) ∷ emit (rorv_x 11 9 10) ∷ []
zbb_body Zbb.Rolw = rotated (lslv_x 11 9 10) (lsrv_x 12 9 12)
zbb_body Zbb.Ror = emit (rorv_x 11 9 10) ∷ []
zbb_body Zbb.Rorw = rotated (lsrv_x 11 9 10) (lslv_x 12 9 12)
zbb_body Zbb.OrcB =
    mov_imm64 12 each_byte ∷ bytes_of 0x7F ++ emit (and_x 11 9 13) ∷ emit (add_x 11 11 13) ∷ emit (orr_x 11 11 9) ∷ shifted 11 7
    ++ emit (and_x 11 11 12) ∷ mov_imm64 14 255 ∷ emit (mul_x 11 11 14) ∷ []
zbb_body Zbb.Rev8 = emit (rev_x 11 9) ∷ []
