-- The longest text: `subs xzr, x30, x30, lsl #0`. Assumes nothing.
use mathlib.Core.List.{List, [], ◌∷◌, ◌++◌}
use mathlib.Core.Bool.{Bool, true, false, cond}
use Prim.Native.Nat.{ℕ, zero, suc, ◌+◌, ◌*◌, ◌/◌, ◌%◌, ◌^◌, ◌≤◌, ◌<◌}
use Prim.Native.String.{String}
use native.Mathlib.Nat.{pow-suc}
use native.Mathlib.Omega.{arith}
use lib.Dec.{eqb, ltb}
use lib.ListN.{length, length-append}
use borrow.Author.Tests.{lt-ltb}
use Rattle.ascii.specs.Ascii.{ascii, digit, decimal_in, decimal}
use Rattle.a64.specs.declared.Op.{Op}
use Rattle.a64.specs.declared.Op.TheVariants.{Add, Sub, And, Orr, Eor, Bic, Orn, Eon, Lslv, Lsrv, Asrv, Rorv, Mul, Smulh, Umulh, Udiv, Sdiv}
use Rattle.a64.specs.declared.Op1.TheVariants.{Rev, Clz}
use Rattle.a64.specs.declared.Form.{Form}
use Rattle.a64.specs.declared.Form.TheVariants.{DataProcessing, OneSource, Ldr, Str, Movz, Movk, Cmp, Csel, Sxtw, AddSp, SubSp, Blr, Ret, Unreadable}
use Rattle.a64_text.specs.Operands.{Operand, X, XSP, Imm, LSL, Mem, Cond, register, operand}
use Rattle.a64_text.specs.Text.{syntax_of, op_syntax, syntax, further, text}
use Rattle.a64_text.specs.Parts.{Readable}
use Rattle.a64_text.proofs.Texts.{shifted, memory, condition-length}

-- whichever of two it is
either : (b : Bool) (x y : List ℕ) (m : ℕ) → length x ≤ m → length y ≤ m → length (cond b x y) ≤ m
either true x y m h k = h
either false x y m h k = k

-- a number below 10 ^ (j + 1) has at most j + 1 digits
digits : (k j n : ℕ) → n < 10 ^ suc j → length (decimal_in k n) ≤ suc j
unfolding decimal_in
digits zero j n h = omega arith
digits (suc k) zero n h = rw (lt-ltb n 10 h) (omega arith)
digits (suc k) (suc j) n h =
    either (ltb n 10) (digit n ∷ []) (decimal_in k (n / 10) ++ (digit (n % 10) ∷ [])) (suc (suc j)) (omega arith)
    (rw length-append (omega (arith, digits k j (n / 10) (omega (arith, pow-suc 10 (suc j))))))

-- a register has at most three letters
letters : (s : String) → length (ascii s) ≤ 3 → (n : ℕ) → n < 32 → length (register s n) ≤ 3
unfolding register
letters s h n k = either (eqb n 31) (ascii s) (ascii "x" ++ decimal n) 3 h (omega (arith, digits 5 1 n (omega arith)))

-- texts that begin with one, two and three registers

one : (s : String) (os : List Operand) → length (ascii s) + length (further os) ≤ 22
    → (d : ℕ) → d < 32 → length (text (syntax_of s (X d) os)) ≤ 26
unfolding text operand
one s os h d hd = simp length-append (omega (arith, letters "xzr" (omega arith) d hd))

-- one register more
next : (os : List Operand) (n : ℕ) → n < 32 → length (further (X n ∷ os)) ≤ 5 + length (further os)
unfolding further operand
next os n hn = simp length-append (omega (arith, letters "xzr" (omega arith) n hn))

two : (s : String) (os : List Operand) → length (ascii s) + length (further os) ≤ 17
    → (d n : ℕ) → (d < 32) × (n < 32) → length (text (syntax_of s (X d) (X n ∷ os))) ≤ 26
two s os h d n r = one s (X n ∷ os) (omega (arith, next os n r.1)) d r.0

three : (s : String) (os : List Operand) → length (ascii s) + length (further os) ≤ 12
    → (d n m : ℕ) → (d < 32) × (n < 32) × (m < 32) → length (text (syntax_of s (X d) (X n ∷ X m ∷ os))) ≤ 26
three s os h d n m r = two s (X m ∷ os) (omega (arith, next os m r.2)) d n (r.0, r.1)

operation : (op : Op) (d n m : ℕ) → (d < 32) × (n < 32) × (m < 32) → length (text (op_syntax op (X d) (X n) (X m))) ≤ 26
unfolding further operand register decimal_in
operation Add = three "add" (LSL 0 ∷ []) (omega arith)
operation Sub = three "sub" (LSL 0 ∷ []) (omega arith)
operation And = three "and" (LSL 0 ∷ []) (omega arith)
operation Orr = three "orr" (LSL 0 ∷ []) (omega arith)
operation Eor = three "eor" (LSL 0 ∷ []) (omega arith)
operation Bic = three "bic" (LSL 0 ∷ []) (omega arith)
operation Orn = three "orn" (LSL 0 ∷ []) (omega arith)
operation Eon = three "eon" (LSL 0 ∷ []) (omega arith)
operation Lslv = three "lslv" [] (omega arith)
operation Lsrv = three "lsrv" [] (omega arith)
operation Asrv = three "asrv" [] (omega arith)
operation Rorv = three "rorv" [] (omega arith)
operation Mul = three "madd" (X 31 ∷ []) (omega arith)
operation Smulh = three "smulh" [] (omega arith)
operation Umulh = three "umulh" [] (omega arith)
operation Udiv = three "udiv" [] (omega arith)
operation Sdiv = three "sdiv" [] (omega arith)

-- the texts of two forms each

access : (s : String) → length (ascii s) ≤ 4 → (d n k : ℕ) → (d < 32) × (n < 32) × (k < 4096)
    → length (text (syntax_of s (X d) (Mem n (8 * k) ∷ []))) ≤ 26
access s h d n k r =
    one s (Mem n (8 * k) ∷ [])
    (rw (memory n (8 * k)) (simp length-append (omega (arith, letters "sp" (omega arith) n r.1, digits 5 4 (8 * k) (omega arith))))) d r.0

wide : (s : String) → length (ascii s) ≤ 4 → (d k n : ℕ) → (d < 32) × (k < 4) × (n < 65536)
    → length (text (syntax_of s (X d) (Imm n ∷ LSL (16 * k) ∷ []))) ≤ 26
wide s h d k n r =
    one s (Imm n ∷ LSL (16 * k) ∷ [])
    (rw (shifted n (16 * k)) (simp length-append (omega (arith, digits 5 4 n (omega arith), digits 5 1 (16 * k) (omega arith))))) d r.0

stack : (s : String) → length (ascii s) ≤ 4 → (n : ℕ) → n < 4096
    → length (text (syntax_of s (XSP 31) (XSP 31 ∷ Imm n ∷ LSL 0 ∷ []))) ≤ 26
unfolding text further operand register
stack s h n k = simp length-append (omega (arith, digits 5 3 n (omega arith), digits 5 0 0 (omega arith)))

pub longest : (f : Form) → Readable f → length (text (syntax f)) ≤ 26
unfolding further operand decimal_in
longest (DataProcessing op d n m) l = operation op d n m l.fits
longest (OneSource Rev d n) l = two "rev" [] (omega arith) d n l.fits
longest (OneSource Clz d n) l = two "clz" [] (omega arith) d n l.fits
longest (Ldr d n k) l = access "ldr" (omega arith) d n k l.fits
longest (Str d n k) l = access "str" (omega arith) d n k l.fits
longest (Movz d k n) l = wide "movz" (omega arith) d k n l.fits
longest (Movk d k n) l = wide "movk" (omega arith) d k n l.fits
longest (Cmp n m) l = three "subs" (LSL 0 ∷ []) (omega arith) 31 n m (omega arith, l.fits.0, l.fits.1)
longest (Csel d n m c) l =
    three "csel" (Cond c ∷ []) (simp length-append (omega (arith, condition-length c))) d n m (l.fits.0, l.fits.1, l.fits.2)
longest (Sxtw d n) l = two "sbfm" (Imm 0 ∷ Imm 31 ∷ []) (omega arith) d n l.fits
longest (AddSp n) l = stack "add" (omega arith) n l.fits
longest (SubSp n) l = stack "sub" (omega arith) n l.fits
longest (Blr n) l = one "blr" [] (omega arith) n l.fits
longest Ret l = one "ret" [] (omega arith) 30 (omega arith)
longest Unreadable l = unfold text in omega arith
