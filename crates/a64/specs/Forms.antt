-- The words of the A64 forms, and the form of a word, from the Arm Architecture Reference Manual for A-profile (DDI 0487), C6.2. The manual's
-- section stands beside each form. A field is a number at its lowest bit, and every other bit of a form is fixed.
use Rattle.std.specs.Prelude.{ℕ, ◌+◌, ◌*◌, ◌/◌, ◌%◌, ◌^◌, Bool, cond, List, [], ◌∷◌, eqb}
use Rattle.a64.specs.declared.Op.{Op}
use Rattle.a64.specs.declared.Op.TheVariants.{Add, Sub, And, Orr, Eor, Bic, Orn, Eon, Lslv, Lsrv, Asrv, Rorv, Mul, Smulh, Umulh, Udiv, Sdiv}
use Rattle.a64.specs.declared.Op1.{Op1}
use Rattle.a64.specs.declared.Op1.TheVariants.{Rev, Clz}
use Rattle.a64.specs.declared.Form.{Form}
use Rattle.a64.specs.declared.Form.TheVariants.{DataProcessing, OneSource, Ldr, Str, Movz, Movk, Cmp, Csel, Sxtw, AddSp, SubSp, Blr, Ret, Unreadable}

-- the word of a three-register form whose registers are all 0
abbrev pub op_word : Op → ℕ
-- ADD (shifted register), LSL #0
op_word Add = 0x8B000000
-- SUB (shifted register), LSL #0
op_word Sub = 0xCB000000
-- AND (shifted register), LSL #0
op_word And = 0x8A000000
-- ORR (shifted register), LSL #0
op_word Orr = 0xAA000000
-- EOR (shifted register), LSL #0
op_word Eor = 0xCA000000
-- BIC (shifted register), LSL #0
op_word Bic = 0x8A200000
-- ORN (shifted register), LSL #0
op_word Orn = 0xAA200000
-- EON (shifted register), LSL #0
op_word Eon = 0xCA200000
-- LSLV
op_word Lslv = 0x9AC02000
-- LSRV
op_word Lsrv = 0x9AC02400
-- ASRV
op_word Asrv = 0x9AC02800
-- RORV
op_word Rorv = 0x9AC02C00
-- MADD with Ra 31, which is MUL
op_word Mul = 0x9B007C00
-- SMULH
op_word Smulh = 0x9B407C00
-- UMULH
op_word Umulh = 0x9BC07C00
-- UDIV
op_word Udiv = 0x9AC00800
-- SDIV
op_word Sdiv = 0x9AC00C00

abbrev pub ops : List Op
ops = Add ∷ Sub ∷ And ∷ Orr ∷ Eor ∷ Bic ∷ Orn ∷ Eon ∷ Lslv ∷ Lsrv ∷ Asrv ∷ Rorv ∷ Mul ∷ Smulh ∷ Umulh ∷ Udiv ∷ Sdiv ∷ []

-- the word of a form with one source, whose registers are 0
abbrev pub op1_word : Op1 → ℕ
-- REV, 64-bit
op1_word Rev = 0xDAC00C00
-- CLZ, 64-bit
op1_word Clz = 0xDAC01000

abbrev pub encode : Form → ℕ
encode (DataProcessing op rd rn rm) = op_word op + rm * 2 ^ 16 + rn * 2 ^ 5 + rd
encode (OneSource op rd rn) = op1_word op + rn * 2 ^ 5 + rd
-- LDR (immediate), 64-bit, unsigned offset
encode (Ldr rt rn imm) = 0xF9400000 + imm * 2 ^ 10 + rn * 2 ^ 5 + rt
-- STR (immediate), 64-bit, unsigned offset
encode (Str rt rn imm) = 0xF9000000 + imm * 2 ^ 10 + rn * 2 ^ 5 + rt
-- MOVZ, 64-bit
encode (Movz rd hw imm) = 0xD2800000 + hw * 2 ^ 21 + imm * 2 ^ 5 + rd
-- MOVK, 64-bit
encode (Movk rd hw imm) = 0xF2800000 + hw * 2 ^ 21 + imm * 2 ^ 5 + rd
-- SUBS (shifted register), LSL #0, with Rd 31, which is CMP
encode (Cmp rn rm) = 0xEB00001F + rm * 2 ^ 16 + rn * 2 ^ 5
-- CSEL, 64-bit
encode (Csel rd rn rm c) = 0x9A800000 + rm * 2 ^ 16 + c * 2 ^ 12 + rn * 2 ^ 5 + rd
-- SBFM, 64-bit, with immr 0 and imms 31, which is SXTW
encode (Sxtw rd rn) = 0x93407C00 + rn * 2 ^ 5 + rd
-- ADD (immediate), 64-bit, LSL #0, with Rn and Rd 31
encode (AddSp imm) = 0x910003FF + imm * 2 ^ 10
-- SUB (immediate), 64-bit, LSL #0, with Rn and Rd 31
encode (SubSp imm) = 0xD10003FF + imm * 2 ^ 10
-- BLR
encode (Blr rn) = 0xD63F0000 + rn * 2 ^ 5
-- RET, with Rn 30
encode Ret = 0xD65F03C0
-- UDF #0, which is no form
encode Unreadable = 0

-- the fields of a word
abbrev pub rd : ℕ → ℕ
rd w = w % 32

abbrev pub rn : ℕ → ℕ
rn w = w / 2 ^ 5 % 32

abbrev pub rm : ℕ → ℕ
rm w = w / 2 ^ 16 % 32

abbrev pub imm12 : ℕ → ℕ
imm12 w = w / 2 ^ 10 % 4096

abbrev pub imm16 : ℕ → ℕ
imm16 w = w / 2 ^ 5 % 65536

-- the bits of w from k up, n bits from k up, and the n lowest are those of b
abbrev pub top_bits : ℕ → ℕ → ℕ → Bool
top_bits k b w = eqb (w / 2 ^ k) (b / 2 ^ k)

abbrev pub mid_bits : ℕ → ℕ → ℕ → ℕ → Bool
mid_bits k n b w = eqb (w / 2 ^ k % 2 ^ n) (b / 2 ^ k % 2 ^ n)

abbrev pub low_bits : ℕ → ℕ → ℕ → Bool
low_bits n b w = eqb (w % 2 ^ n) (b % 2 ^ n)

-- bits 31 to 21 and 15 to 10 side by side: all but the three registers
abbrev pub op_bits : ℕ → ℕ
op_bits w = w / 2 ^ 21 * 64 + w / 2 ^ 10 % 64

-- the three-register form of a word, by the operations one after the other
abbrev pub decode_op : List Op → ℕ → Form
decode_op [] w = Unreadable
decode_op (op ∷ rest) w = cond (eqb (op_bits w) (op_bits (op_word op))) (DataProcessing op (rd w) (rn w) (rm w)) (decode_op rest w)

abbrev pub form_if : Bool → Form → Form
form_if b f = cond b f Unreadable

-- the form with one source, by bits 20 to 10
abbrev pub decode_one : ℕ → Form
decode_one w =
    cond (mid_bits 10 11 0xDAC00C00 w) (OneSource Rev (rd w) (rn w))
    (form_if (mid_bits 10 11 0xDAC01000 w) (OneSource Clz (rd w) (rn w)))

-- the form of a word: its fixed bits are compared with those of the form's word, and its fields are read. The forms without an immediate:
abbrev pub decode_register : ℕ → Form
decode_register w =
    cond (top_bits 21 0xEB00001F w) (form_if (mid_bits 10 6 0xEB00001F w) (form_if (low_bits 5 0xEB00001F w) (Cmp (rn w) (rm w))))
    (cond (top_bits 21 0x9A800000 w) (form_if (mid_bits 10 2 0x9A800000 w) (Csel (rd w) (rn w) (rm w) (w / 2 ^ 12 % 16)))
    (cond (top_bits 21 0x93407C00 w) (form_if (mid_bits 10 11 0x93407C00 w) (Sxtw (rd w) (rn w)))
    (cond (top_bits 21 0xD63F0000 w) (form_if (mid_bits 10 11 0xD63F0000 w) (form_if (low_bits 5 0xD63F0000 w) (Blr (rn w))))
    (cond (top_bits 21 0xD65F03C0 w) (form_if (low_bits 21 0xD65F03C0 w) Ret)
    (cond (top_bits 21 0xDAC00000 w) (decode_one w)
    (decode_op ops w))))))

-- and all forms
unfoldable pub decode : ℕ → Form
decode w =
    cond (top_bits 23 0xD2800000 w) (Movz (rd w) (w / 2 ^ 21 % 4) (imm16 w))
    (cond (top_bits 23 0xF2800000 w) (Movk (rd w) (w / 2 ^ 21 % 4) (imm16 w))
    (cond (top_bits 22 0xF9400000 w) (Ldr (rd w) (rn w) (imm12 w))
    (cond (top_bits 22 0xF9000000 w) (Str (rd w) (rn w) (imm12 w))
    (cond (top_bits 22 0x910003FF w) (form_if (low_bits 10 0x910003FF w) (AddSp (imm12 w)))
    (cond (top_bits 22 0xD10003FF w) (form_if (low_bits 10 0xD10003FF w) (SubSp (imm12 w)))
    (decode_register w))))))
