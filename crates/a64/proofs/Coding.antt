-- `decode` and `encode` undo one another. Assumes nothing.
use mathlib.Core.Path.{◌≡◌, refl}
use mathlib.Core.Bool.{Bool, true, false, cond}
use mathlib.Core.List.{List, [], ◌∷◌}
use Prim.Native.Nat.{ℕ, ◌+◌, ◌*◌, ◌/◌, ◌%◌, ◌^◌, ◌<◌}
use native.Mathlib.Nat.{div-div-eq-div-mul}
use native.Mathlib.Omega.{arith}
use lib.Dec.{eqb, lit<}
use borrow.Author.Tests.{eqb-true}
use Rattle.a64.specs.declared.Op.{Op}
use Rattle.a64.specs.declared.Op.TheVariants.{Add, Sub, And, Orr, Eor, Bic, Orn, Eon, Lslv, Lsrv, Asrv, Rorv, Mul, Smulh, Umulh, Udiv, Sdiv}
use Rattle.a64.specs.declared.Op1.TheVariants.{Rev, Clz}
use Rattle.a64.specs.declared.Form.{Form}
use Rattle.a64.specs.declared.Form.TheVariants.{DataProcessing, OneSource, Ldr, Str, Movz, Movk, Cmp, Csel, Sxtw, AddSp, SubSp, Blr, Ret, Unreadable}
use Rattle.a64.specs.Parts.{InRange, form_of}
use Rattle.a64.specs.Forms.{op_word, ops, encode, rd, rn, rm, imm12, imm16, top_bits, mid_bits, low_bits, form_if, op_bits, decode_op, decode}

-- ---- a form's word is read as the form

-- a word of 9 fixed bits, a halfword number, 16 bits and a register
record Split16 (w k h v d : ℕ) : Type 0 where
  byte : w / 2 ^ 24 ≡ k / 2
  top : w / 2 ^ 23 ≡ k
  hw : w / 2 ^ 21 % 4 ≡ h
  value : imm16 w ≡ v
  reg : rd w ≡ d

split16 : (w k h v d : ℕ) → w ≡ k * 2 ^ 23 + h * 2 ^ 21 + v * 2 ^ 5 + d → h < 4 → v < 65536 → d < 32 → Split16 w k h v d
split16 w k h v d e hh hv hd = record { byte = omega arith; top = omega arith; hw = omega arith; value = omega arith; reg = omega arith }

-- a word of 10 fixed bits, 12 bits and two registers
record Split12 (w k i n d : ℕ) : Type 0 where
  byte : w / 2 ^ 24 ≡ k / 4
  bit : w / 2 ^ 22 % 2 ≡ k % 2
  half : w / 2 ^ 23 ≡ k / 2
  top : w / 2 ^ 22 ≡ k
  value : imm12 w ≡ i
  low : w % 2 ^ 10 ≡ n * 32 + d
  base : rn w ≡ n
  reg : rd w ≡ d

split12 : (w k i n d : ℕ) → w ≡ k * 2 ^ 22 + i * 2 ^ 10 + n * 2 ^ 5 + d → i < 4096 → n < 32 → d < 32 → Split12 w k i n d
split12 w k i n d e hi hn hd =
    record { byte = omega arith; bit = omega arith; half = omega arith; top = omega arith; value = omega arith; low = omega arith; base = omega arith; reg = omega arith }

-- a word of 11 fixed bits, a register, six bits and two registers
record Split6 (w t m s n d : ℕ) : Type 0 where
  byte : w / 2 ^ 24 ≡ t / 8
  three_bits : w / 2 ^ 21 % 8 ≡ t % 8
  bit : w / 2 ^ 21 % 2 ≡ t % 2
  quarter : w / 2 ^ 23 ≡ t / 4
  half : w / 2 ^ 22 ≡ t / 2
  top : w / 2 ^ 21 ≡ t
  third : rm w ≡ m
  eleven : w / 2 ^ 10 % 2 ^ 11 ≡ m * 64 + s
  six : w / 2 ^ 10 % 2 ^ 6 ≡ s
  two : w / 2 ^ 10 % 2 ^ 2 ≡ s % 4
  low_bit : w / 2 ^ 10 % 2 ≡ s % 2
  four : w / 2 ^ 12 % 16 ≡ s / 4
  base : rn w ≡ n
  reg : rd w ≡ d

split6 : (w t m s n d : ℕ) → w ≡ t * 2 ^ 21 + m * 2 ^ 16 + s * 2 ^ 10 + n * 2 ^ 5 + d → m < 32 → s < 64 → n < 32 → d < 32
    → Split6 w t m s n d
split6 w t m s n d e hm hs hn hd =
    record {
      byte = omega arith;
      three_bits = omega arith;
      bit = omega arith;
      quarter = omega arith;
      half = omega arith;
      top = omega arith;
      third = omega arith;
      eleven = omega arith;
      six = omega arith;
      two = omega arith;
      low_bit = omega arith;
      four = omega arith;
      base = omega arith;
      reg = omega arith;
    }

-- an operation's word is its fixed bits, and no test finds another form by them
record Row (op : Op) : Type 0 where
  small : op_word op / 2 ^ 21 < 2 ^ 11
  whole : op_word op ≡ op_word op / 2 ^ 21 * 2 ^ 21 + op_word op / 2 ^ 10 % 2 ^ 6 * 2 ^ 10
  found : (w d n m : ℕ) → Split6 w (op_word op / 2 ^ 21) m (op_word op / 2 ^ 10 % 2 ^ 6) n d → decode w ≡ DataProcessing op d n m

op_row : (op : Op) → Row op
unfolding decode
op_row Add = record { small = lit< tt; whole = refl; found = λ w d n m s. simp (s.quarter, s.half, s.top, s.six, s.third, s.base, s.reg) }
op_row Sub = record { small = lit< tt; whole = refl; found = λ w d n m s. simp (s.quarter, s.half, s.top, s.six, s.third, s.base, s.reg) }
op_row And = record { small = lit< tt; whole = refl; found = λ w d n m s. simp (s.quarter, s.half, s.top, s.six, s.third, s.base, s.reg) }
op_row Orr = record { small = lit< tt; whole = refl; found = λ w d n m s. simp (s.quarter, s.half, s.top, s.six, s.third, s.base, s.reg) }
op_row Eor = record { small = lit< tt; whole = refl; found = λ w d n m s. simp (s.quarter, s.half, s.top, s.six, s.third, s.base, s.reg) }
op_row Bic = record { small = lit< tt; whole = refl; found = λ w d n m s. simp (s.quarter, s.half, s.top, s.six, s.third, s.base, s.reg) }
op_row Orn = record { small = lit< tt; whole = refl; found = λ w d n m s. simp (s.quarter, s.half, s.top, s.six, s.third, s.base, s.reg) }
op_row Eon = record { small = lit< tt; whole = refl; found = λ w d n m s. simp (s.quarter, s.half, s.top, s.six, s.third, s.base, s.reg) }
op_row Lslv = record { small = lit< tt; whole = refl; found = λ w d n m s. simp (s.quarter, s.half, s.top, s.six, s.third, s.base, s.reg) }
op_row Lsrv = record { small = lit< tt; whole = refl; found = λ w d n m s. simp (s.quarter, s.half, s.top, s.six, s.third, s.base, s.reg) }
op_row Asrv = record { small = lit< tt; whole = refl; found = λ w d n m s. simp (s.quarter, s.half, s.top, s.six, s.third, s.base, s.reg) }
op_row Rorv = record { small = lit< tt; whole = refl; found = λ w d n m s. simp (s.quarter, s.half, s.top, s.six, s.third, s.base, s.reg) }
op_row Mul = record { small = lit< tt; whole = refl; found = λ w d n m s. simp (s.quarter, s.half, s.top, s.six, s.third, s.base, s.reg) }
op_row Smulh = record { small = lit< tt; whole = refl; found = λ w d n m s. simp (s.quarter, s.half, s.top, s.six, s.third, s.base, s.reg) }
op_row Umulh = record { small = lit< tt; whole = refl; found = λ w d n m s. simp (s.quarter, s.half, s.top, s.six, s.third, s.base, s.reg) }
op_row Udiv = record { small = lit< tt; whole = refl; found = λ w d n m s. simp (s.quarter, s.half, s.top, s.six, s.third, s.base, s.reg) }
op_row Sdiv = record { small = lit< tt; whole = refl; found = λ w d n m s. simp (s.quarter, s.half, s.top, s.six, s.third, s.base, s.reg) }

pub decode-encode : (f : Form) → InRange f → decode (encode f) ≡ f
unfolding decode
decode-encode (DataProcessing op d n m) r =
    let e = (op_row op).whole in
    (op_row op).found _ d n m (split6 (encode (DataProcessing op d n m)) _ m _ n d (omega arith) r.2 (omega arith) r.1 r.0)
decode-encode (OneSource Rev d n) r =
    let s = split6 (encode (OneSource Rev d n)) 0x6D6 0 3 n d (omega arith) (omega arith) (omega arith) r.1 r.0 in
    simp (s.quarter, s.half, s.top, s.eleven, s.base, s.reg)
decode-encode (OneSource Clz d n) r =
    let s = split6 (encode (OneSource Clz d n)) 0x6D6 0 4 n d (omega arith) (omega arith) (omega arith) r.1 r.0 in
    simp (s.quarter, s.half, s.top, s.eleven, s.base, s.reg)
decode-encode (Movz d h v) r = let s = split16 _ 0x1A5 h v d refl r.1 r.2 r.0 in simp (s.top, s.hw, s.value, s.reg)
decode-encode (Movk d h v) r = let s = split16 _ 0x1E5 h v d refl r.1 r.2 r.0 in simp (s.top, s.hw, s.value, s.reg)
decode-encode (Ldr d n i) r = let s = split12 _ 0x3E5 i n d refl r.2 r.1 r.0 in simp (s.half, s.top, s.value, s.base, s.reg)
decode-encode (Str d n i) r = let s = split12 _ 0x3E4 i n d refl r.2 r.1 r.0 in simp (s.half, s.top, s.value, s.base, s.reg)
decode-encode (AddSp i) r =
    let s = split12 (encode (AddSp i)) 0x244 i 31 31 (omega arith) r (omega arith) (omega arith) in simp (s.half, s.top, s.value, s.low)
decode-encode (SubSp i) r =
    let s = split12 (encode (SubSp i)) 0x344 i 31 31 (omega arith) r (omega arith) (omega arith) in simp (s.half, s.top, s.value, s.low)
decode-encode (Cmp n m) r =
    let s = split6 (encode (Cmp n m)) 0x758 m 0 n 31 (omega arith) r.1 (omega arith) r.0 (omega arith) in
    simp (s.quarter, s.half, s.top, s.six, s.base, s.third, s.reg)
decode-encode (Csel d n m c) r =
    let s = split6 (encode (Csel d n m c)) 0x4D4 m (c * 4) n d (omega arith) r.2 (omega arith) r.1 r.0 in
    let e : c * 4 % 4 ≡ 0 = omega arith in
    let f : c * 4 / 4 ≡ c = omega arith in
    simp (s.quarter, s.half, s.top, s.two, s.four, s.base, s.third, s.reg, e, f)
decode-encode (Sxtw d n) r =
    let s = split6 (encode (Sxtw d n)) 0x49A 0 31 n d (omega arith) (omega arith) (omega arith) r.1 r.0 in
    simp (s.quarter, s.half, s.top, s.eleven, s.base, s.reg)
decode-encode (Blr n) r =
    let s = split6 (encode (Blr n)) 0x6B1 31 0 n 0 (omega arith) (omega arith) (omega arith) r (omega arith) in
    simp (s.quarter, s.half, s.top, s.eleven, s.base, s.reg)
decode-encode Ret r = refl
decode-encode Unreadable r = refl

-- ---- a word that is read is the form's word

same_bits : (v w : ℕ) → op_bits v ≡ op_bits w → (v / 2 ^ 21 ≡ w / 2 ^ 21) × (v / 2 ^ 10 % 2 ^ 6 ≡ w / 2 ^ 10 % 2 ^ 6)
same_bits v w e = omega arith

module _ (w : ℕ) where
  -- the fields fit, and where it is a form its word is w
  abbrev Read : Form → Type 0
  Read f = InRange f × ((f ≡ Unreadable → ⊥) → encode f ≡ w)

  read_cond : (b : Bool) {x y : Form} → (b ≡ true → Read x) → Read y → Read (cond b x y)
  read_cond true hx hy = hx refl
  read_cond false hx hy = hy

  read_none : Read Unreadable
  read_none = (tt, λ k. absurd (k refl))

  read-top : (k b : ℕ) {x y : Form} → (w / 2 ^ k ≡ b / 2 ^ k → Read x) → Read y → Read (cond (top_bits k b w) x y)
  read-top k b hx = read_cond (top_bits k b w) (λ e. hx (eqb-true _ _ e))

  read_mid : (k n b : ℕ) {x : Form} → (w / 2 ^ k % 2 ^ n ≡ b / 2 ^ k % 2 ^ n → Read x) → Read (form_if (mid_bits k n b w) x)
  read_mid k n b hx = read_cond (mid_bits k n b w) (λ e. hx (eqb-true _ _ e)) read_none

  read_low : (n b : ℕ) {x : Form} → (w % 2 ^ n ≡ b % 2 ^ n → Read x) → Read (form_if (low_bits n b w) x)
  read_low n b hx = read_cond (low_bits n b w) (λ e. hx (eqb-true _ _ e)) read_none

  quotients : (w / 32 / 32 ≡ w / 2 ^ 10) × (w / 2 ^ 10 / 64 ≡ w / 2 ^ 16) × (w / 2 ^ 16 / 32 ≡ w / 2 ^ 21)
  quotients = (div-div-eq-div-mul w 32 32, div-div-eq-div-mul w 1024 64, div-div-eq-div-mul w 65536 32)

  condition : (w / 2 ^ 10 / 4 ≡ w / 2 ^ 12) × (w / 2 ^ 12 / 16 ≡ w / 2 ^ 16)
  condition = (div-div-eq-div-mul w 1024 4, div-div-eq-div-mul w 4096 16)

  read-op : (os : List Op) → Read (decode_op os w)
  read-op [] = read_none
  read-op (op ∷ os) =
      read_cond (eqb (op_bits w) (op_bits (op_word op)))
      (λ e.
      let s = same_bits w (op_word op) (eqb-true _ _ e) in
      let r = (op_row op).whole in
      (omega arith, λ k. omega (arith, quotients)))
      (read-op os)

  read : Read (decode w)
  unfolding decode
  read =
      read-top 23 0xD2800000 (λ h. (omega arith, λ k. omega arith))
      (read-top 23 0xF2800000 (λ h. (omega arith, λ k. omega arith))
      (read-top 22 0xF9400000 (λ h. (omega arith, λ k. omega arith))
      (read-top 22 0xF9000000 (λ h. (omega arith, λ k. omega arith))
      (read-top 22 0x910003FF (λ h. read_low 10 0x910003FF (λ l. (omega arith, λ k. omega arith)))
      (read-top 22 0xD10003FF (λ h. read_low 10 0xD10003FF (λ l. (omega arith, λ k. omega arith)))
      (read-top 21 0xEB00001F (λ h. read_mid 10 6 0xEB00001F (λ m. read_low 5 0xEB00001F (λ l. (omega arith, λ k. omega (arith, quotients)))))
      (read-top 21 0x9A800000 (λ h. read_mid 10 2 0x9A800000 (λ m. (omega arith, λ k. omega (arith, quotients, condition))))
      (read-top 21 0x93407C00 (λ h. read_mid 10 11 0x93407C00 (λ m. (omega arith, λ k. omega (arith, quotients))))
      (read-top 21 0xD63F0000 (λ h. read_mid 10 11 0xD63F0000 (λ m. read_low 5 0xD63F0000 (λ l. (omega arith, λ k. omega (arith, quotients)))))
      (read-top 21 0xD65F03C0 (λ h. read_low 21 0xD65F03C0 (λ l. (tt, λ k. omega arith)))
      (read-top 21 0xDAC00000 (λ h.
      read_cond (mid_bits 10 11 0xDAC00C00 w) (λ e. let m : w / 2 ^ 10 % 2 ^ 11 ≡ 0xDAC00C00 / 2 ^ 10 % 2 ^ 11 = eqb-true _ _ e in (omega arith, λ k. omega (arith, quotients)))
      (read_mid 10 11 0xDAC01000 (λ m. (omega arith, λ k. omega (arith, quotients)))))
      (read-op ops))))))))))))

-- what is read is in range
pub decode_in_range : (w : ℕ) → InRange (decode w)
decode_in_range w = (read w).0

-- and its word is the one that was read
pub encode-decode : (w : ℕ) → (decode w ≡ Unreadable → ⊥) → encode (decode w) ≡ w
encode-decode w = (read w).1

-- a form's word has 32 bits
encode-lt : (f : Form) → InRange f → encode f < 2 ^ 32
encode-lt (DataProcessing op d n m) r = let s = (op_row op).small in let e = (op_row op).whole in omega arith
encode-lt (OneSource Rev d n) r = omega arith
encode-lt (OneSource Clz d n) r = omega arith
encode-lt (Ldr t n i) r = omega arith
encode-lt (Str t n i) r = omega arith
encode-lt (Movz d h v) r = omega arith
encode-lt (Movk d h v) r = omega arith
encode-lt (Cmp n m) r = omega arith
encode-lt (Csel d n m c) r = omega arith
encode-lt (Sxtw d n) r = omega arith
encode-lt (AddSp i) r = omega arith
encode-lt (SubSp i) r = omega arith
encode-lt (Blr n) r = omega arith
encode-lt Ret r = omega arith
encode-lt Unreadable r = omega arith

pub decode-lt : (w : ℕ) → (decode w ≡ Unreadable → ⊥) → w < 2 ^ 32
decode-lt w k = rw (encode-decode w k) at (encode-lt (decode w) (decode_in_range w))

-- ---- the tests of `decode` by bits 31 to 21

pub quarter : (w : ℕ) → w / 2 ^ 23 ≡ w / 2 ^ 21 / 4
quarter w = omega arith

pub half : (w : ℕ) → w / 2 ^ 22 ≡ w / 2 ^ 21 / 2
half w = omega arith

pub not_quarter : (w k : ℕ) → (w / 2 ^ 21 ≡ k * 4 → ⊥) → (w / 2 ^ 21 ≡ k * 4 + 1 → ⊥) → (w / 2 ^ 21 ≡ k * 4 + 2 → ⊥)
    → (w / 2 ^ 21 ≡ k * 4 + 3 → ⊥) → w / 2 ^ 23 ≡ k → ⊥
not_quarter w k a b c d e = omega arith

pub not-half : (w k : ℕ) → (w / 2 ^ 21 ≡ k * 2 → ⊥) → (w / 2 ^ 21 ≡ k * 2 + 1 → ⊥) → w / 2 ^ 22 ≡ k → ⊥
not-half w k a b e = omega arith

-- ---- by the upper byte

-- an operation's word is found by its byte
op_by_byte : (op : Op) (w d n m : ℕ) → Split6 w (op_word op / 2 ^ 21) m (op_word op / 2 ^ 10 % 2 ^ 6) n d → form_of w ≡ DataProcessing op d n m
unfolding form_of
op_by_byte Add w d n m s = simp (s.byte, s.third, s.base, s.reg)
op_by_byte Sub w d n m s = simp (s.byte, s.third, s.base, s.reg)
op_by_byte And w d n m s = simp (s.byte, s.bit, s.third, s.base, s.reg)
op_by_byte Orr w d n m s = simp (s.byte, s.bit, s.third, s.base, s.reg)
op_by_byte Eor w d n m s = simp (s.byte, s.bit, s.third, s.base, s.reg)
op_by_byte Bic w d n m s = simp (s.byte, s.bit, s.third, s.base, s.reg)
op_by_byte Orn w d n m s = simp (s.byte, s.bit, s.third, s.base, s.reg)
op_by_byte Eon w d n m s = simp (s.byte, s.bit, s.third, s.base, s.reg)
op_by_byte Lslv w d n m s = simp (s.byte, s.three_bits, s.six, s.third, s.base, s.reg)
op_by_byte Lsrv w d n m s = simp (s.byte, s.three_bits, s.six, s.third, s.base, s.reg)
op_by_byte Asrv w d n m s = simp (s.byte, s.three_bits, s.six, s.third, s.base, s.reg)
op_by_byte Rorv w d n m s = simp (s.byte, s.three_bits, s.six, s.third, s.base, s.reg)
op_by_byte Mul w d n m s = simp (s.byte, s.three_bits, s.third, s.base, s.reg)
op_by_byte Smulh w d n m s = simp (s.byte, s.three_bits, s.third, s.base, s.reg)
op_by_byte Umulh w d n m s = simp (s.byte, s.three_bits, s.third, s.base, s.reg)
op_by_byte Udiv w d n m s = simp (s.byte, s.three_bits, s.six, s.third, s.base, s.reg)
op_by_byte Sdiv w d n m s = simp (s.byte, s.three_bits, s.six, s.third, s.base, s.reg)

form-encode : (f : Form) → InRange f → (f ≡ Unreadable → ⊥) → form_of (encode f) ≡ f
unfolding form_of
form-encode (DataProcessing op d n m) r k =
    let e = (op_row op).whole in
    op_by_byte op _ d n m (split6 (encode (DataProcessing op d n m)) _ m _ n d (omega arith) r.2 (omega arith) r.1 r.0)
form-encode (OneSource Rev d n) r k =
    let s = split6 (encode (OneSource Rev d n)) 0x6D6 0 3 n d (omega arith) (omega arith) (omega arith) r.1 r.0 in
    simp (s.byte, s.low_bit, s.base, s.reg)
form-encode (OneSource Clz d n) r k =
    let s = split6 (encode (OneSource Clz d n)) 0x6D6 0 4 n d (omega arith) (omega arith) (omega arith) r.1 r.0 in
    simp (s.byte, s.low_bit, s.base, s.reg)
form-encode (Movz d h v) r k = let s = split16 _ 0x1A5 h v d refl r.1 r.2 r.0 in simp (s.byte, s.hw, s.value, s.reg)
form-encode (Movk d h v) r k = let s = split16 _ 0x1E5 h v d refl r.1 r.2 r.0 in simp (s.byte, s.hw, s.value, s.reg)
form-encode (Ldr d n i) r k = let s = split12 _ 0x3E5 i n d refl r.2 r.1 r.0 in simp (s.byte, s.bit, s.value, s.base, s.reg)
form-encode (Str d n i) r k = let s = split12 _ 0x3E4 i n d refl r.2 r.1 r.0 in simp (s.byte, s.bit, s.value, s.base, s.reg)
form-encode (AddSp i) r k = let s = split12 (encode (AddSp i)) 0x244 i 31 31 (omega arith) r (omega arith) (omega arith) in simp (s.byte, s.value)
form-encode (SubSp i) r k = let s = split12 (encode (SubSp i)) 0x344 i 31 31 (omega arith) r (omega arith) (omega arith) in simp (s.byte, s.value)
form-encode (Cmp n m) r k =
    let s = split6 (encode (Cmp n m)) 0x758 m 0 n 31 (omega arith) r.1 (omega arith) r.0 (omega arith) in simp (s.byte, s.base, s.third)
form-encode (Csel d n m c) r k =
    let s = split6 (encode (Csel d n m c)) 0x4D4 m (c * 4) n d (omega arith) r.2 (omega arith) r.1 r.0 in
    let f : c * 4 / 4 ≡ c = omega arith in
    simp (s.byte, s.three_bits, s.four, s.base, s.third, s.reg, f)
form-encode (Sxtw d n) r k =
    let s = split6 (encode (Sxtw d n)) 0x49A 0 31 n d (omega arith) (omega arith) (omega arith) r.1 r.0 in simp (s.byte, s.base, s.reg)
form-encode (Blr n) r k =
    let s = split6 (encode (Blr n)) 0x6B1 31 0 n 0 (omega arith) (omega arith) (omega arith) r (omega arith) in simp (s.byte, s.bit, s.base)
form-encode Ret r k = refl
form-encode Unreadable r k = absurd (k refl)

pub form-decode : (w : ℕ) → (decode w ≡ Unreadable → ⊥) → form_of w ≡ decode w
form-decode w k = rw (encode-decode w k) at (form-encode (decode w) (decode_in_range w) k)
