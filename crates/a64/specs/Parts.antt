-- What the functions of this crate promise one another; no operation's contract reaches it.
use Rattle.std.specs.Prelude.{ℕ, ◌/◌, ◌%◌, ◌^◌, ◌<◌, cond, eqb}
use Rattle.a64.specs.declared.Op.TheVariants.{Add, Sub, And, Orr, Eor, Bic, Orn, Eon, Lslv, Lsrv, Asrv, Rorv, Mul, Smulh, Umulh, Udiv, Sdiv}
use Rattle.a64.specs.declared.Op.{Op}
use Rattle.a64.specs.declared.Op1.TheVariants.{Rev, Clz}
use Rattle.a64.specs.declared.Form.{Form}
use Rattle.a64.specs.declared.Form.TheVariants.{DataProcessing, OneSource, Ldr, Str, Movz, Movk, Cmp, Csel, Sxtw, AddSp, SubSp, Blr, Ret, Unreadable}
use Rattle.a64.specs.Forms.{rd, rn, rm, imm12, imm16}

-- each field fits its bits
abbrev pub InRange : Form → Type 0
InRange (DataProcessing op rd rn rm) = (rd < 32) × (rn < 32) × (rm < 32)
InRange (OneSource op rd rn) = (rd < 32) × (rn < 32)
InRange (Ldr rt rn imm) = (rt < 32) × (rn < 32) × (imm < 4096)
InRange (Str rt rn imm) = (rt < 32) × (rn < 32) × (imm < 4096)
InRange (Movz rd hw imm) = (rd < 32) × (hw < 4) × (imm < 65536)
InRange (Movk rd hw imm) = (rd < 32) × (hw < 4) × (imm < 65536)
InRange (Cmp rn rm) = (rn < 32) × (rm < 32)
InRange (Csel rd rn rm c) = (rd < 32) × (rn < 32) × (rm < 32) × (c < 16)
InRange (Sxtw rd rn) = (rd < 32) × (rn < 32)
InRange (AddSp imm) = imm < 4096
InRange (SubSp imm) = imm < 4096
InRange (Blr rn) = rn < 32
InRange Ret = Unit {0}
InRange Unreadable = Unit {0}

-- ---- the form of a word that is one of the 30, by its upper byte

-- a logical operation, and the same with its second operand inverted
abbrev pub form_logical : ℕ → Op → Op → Form
form_logical w op inverted = cond (eqb (w / 2 ^ 21 % 2) 1) (DataProcessing inverted (rd w) (rn w) (rm w)) (DataProcessing op (rd w) (rn w) (rm w))

abbrev pub form_da : ℕ → Form
form_da w = cond (eqb (w / 2 ^ 10 % 2) 1) (OneSource Rev (rd w) (rn w)) (OneSource Clz (rd w) (rn w))

abbrev pub form_9a : ℕ → Form
form_9a w =
    cond (eqb (w / 2 ^ 21 % 8) 4) (Csel (rd w) (rn w) (rm w) (w / 2 ^ 12 % 16))
    (cond (eqb (w / 2 ^ 10 % 64) 8) (DataProcessing Lslv (rd w) (rn w) (rm w))
    (cond (eqb (w / 2 ^ 10 % 64) 9) (DataProcessing Lsrv (rd w) (rn w) (rm w))
    (cond (eqb (w / 2 ^ 10 % 64) 10) (DataProcessing Asrv (rd w) (rn w) (rm w))
    (cond (eqb (w / 2 ^ 10 % 64) 11) (DataProcessing Rorv (rd w) (rn w) (rm w))
    (cond (eqb (w / 2 ^ 10 % 64) 2) (DataProcessing Udiv (rd w) (rn w) (rm w)) (DataProcessing Sdiv (rd w) (rn w) (rm w)))))))

abbrev pub form_9b : ℕ → Form
form_9b w =
    cond (eqb (w / 2 ^ 21 % 8) 0) (DataProcessing Mul (rd w) (rn w) (rm w))
    (cond (eqb (w / 2 ^ 21 % 8) 2) (DataProcessing Smulh (rd w) (rn w) (rm w)) (DataProcessing Umulh (rd w) (rn w) (rm w)))

unfoldable pub form_of : ℕ → Form
form_of w =
    cond (eqb (w / 2 ^ 24) 0x8A) (form_logical w And Bic)
    (cond (eqb (w / 2 ^ 24) 0x8B) (DataProcessing Add (rd w) (rn w) (rm w))
    (cond (eqb (w / 2 ^ 24) 0x91) (AddSp (imm12 w))
    (cond (eqb (w / 2 ^ 24) 0x93) (Sxtw (rd w) (rn w))
    (cond (eqb (w / 2 ^ 24) 0x9A) (form_9a w)
    (cond (eqb (w / 2 ^ 24) 0x9B) (form_9b w)
    (cond (eqb (w / 2 ^ 24) 0xAA) (form_logical w Orr Orn)
    (cond (eqb (w / 2 ^ 24) 0xCA) (form_logical w Eor Eon)
    (cond (eqb (w / 2 ^ 24) 0xCB) (DataProcessing Sub (rd w) (rn w) (rm w))
    (cond (eqb (w / 2 ^ 24) 0xD1) (SubSp (imm12 w))
    (cond (eqb (w / 2 ^ 24) 0xD2) (Movz (rd w) (w / 2 ^ 21 % 4) (imm16 w))
    (cond (eqb (w / 2 ^ 24) 0xDA) (form_da w)
    (cond (eqb (w / 2 ^ 24) 0xEB) (Cmp (rn w) (rm w))
    (cond (eqb (w / 2 ^ 24) 0xF2) (Movk (rd w) (w / 2 ^ 21 % 4) (imm16 w))
    (cond (eqb (w / 2 ^ 24) 0xF9) (cond (eqb (w / 2 ^ 22 % 2) 1) (Ldr (rd w) (rn w) (imm12 w)) (Str (rd w) (rn w) (imm12 w)))
    (cond (eqb (w / 2 ^ 21 % 2) 1) (Blr (rn w)) Ret)))))))))))))))
