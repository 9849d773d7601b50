-- The calls between the operands in X9 and X10 and the result in X11, for each arithmetic instruction; they compute what
-- the ISA says. Assumes nothing.
use mathlib.Core.Path.{◌≡◌, refl, sym, ap, ap₂, ◌∙◌}
use mathlib.Core.Bool.{Bool, true, false, cond, not, xor, ◌&&◌}
use mathlib.Core.List.{List}
use Prim.Native.Nat.{ℕ, ◌-◌, ◌%◌, ◌^◌, ◌<◌}
use native.Mathlib.Nat.{le_of_lt}
use native.Mathlib.Omega.{arith}
use lib.Bits.{bit_and, and_mask}
use lib.Dec.{eqb, leb, ltb}
use lib.Pow.{pow_pos}
use borrow.Author.Tests.{leb-true, leb-false, eqb-true, lt-ltb, le-ltb}
use Rattle.word.specs.Word.{sext, sdiv, srem, signed, magnitude}
use Rattle.word.proofs.Laws.{product-below}
use Rattle.a64.specs.Forms.{decode}
use Rattle.a64_alu.specs.Alu.{op_value, holds, holds_even, difference}
use Rattle.a64_alu.proofs.Comparing.{difference-sub, z_law, c_law, n_law, lt_law}
use Rattle.rv64.specs.declared.alu.Alu.{Alu}
use Rattle.rv64.specs.Alu.{value, quotient, remainder, quotient_u, remainder_u}
use Rattle.emit_native.specs.Calls.{Call}
use Rattle.emit_native.specs.Sequences as Seq
use Rattle.translation.proofs.Calls.{Model, form_step, call_step, calls-run}
use Rattle.translation.proofs.Remainders.{rem_law, remu_law, mulhsu_law}

unfoldable pub body : Alu → List Call
body Alu.Add = Seq.add
body Alu.Sub = Seq.sub
body Alu.Sll = Seq.sll
body Alu.Slt = Seq.slt
body Alu.Sltu = Seq.sltu
body Alu.Xor = Seq.xor_regs
body Alu.Srl = Seq.srl
body Alu.Sra = Seq.sra
body Alu.Or = Seq.or_regs
body Alu.And = Seq.and_regs
body Alu.Mul = Seq.mul
body Alu.Mulh = Seq.mulh
body Alu.Mulhsu = Seq.mulhsu
body Alu.Mulhu = Seq.mulhu
body Alu.Div = Seq.div
body Alu.Divu = Seq.divu
body Alu.Rem = Seq.rem
body Alu.Remu = Seq.remu
body Alu.Addw = Seq.addw
body Alu.Subw = Seq.subw
body Alu.Sllw = Seq.sllw
body Alu.Srlw = Seq.srlw
body Alu.Sraw = Seq.sraw
body Alu.Mulw = Seq.mulw
body Alu.Divw = Seq.divw
body Alu.Divuw = Seq.divuw
body Alu.Remw = Seq.remw
body Alu.Remuw = Seq.remuw

-- SLLIW, SRLIW, SRAIW: their count is below 32
unfoldable pub slliw : List Call
slliw = Seq.slliw

unfoldable pub srliw : List Call
srliw = Seq.srliw

unfoldable pub sraiw : List Call
sraiw = Seq.sraiw

less_zero : (n : ℕ) → n < 2 ^ 64 → difference n 0 ≡ n
less_zero n h = omega arith

pub not-not : (b : Bool) → not (not b) ≡ b
not-not true = refl
not-not false = refl

pub not_leb : (x y : ℕ) → not (leb y x) ≡ ltb x y
not_leb x y = by (leb y x) refl
  where
    by : (t : Bool) → leb y x ≡ t → not (leb y x) ≡ ltb x y
    by true q = ap not q ∙ sym (le-ltb x y (leb-true y x q))
    by false q = ap not q ∙ sym (lt-ltb x y (leb-false y x q))

pub and31 : (y : ℕ) → bit_and y 31 % 64 ≡ y % 32
and31 y = let e : bit_and y 31 ≡ y % 32 = and_mask y 5 in rw e (omega arith)

and32 : (x : ℕ) → bit_and x 4294967295 ≡ x % 2 ^ 32
and32 x = and_mask x 32

-- the three tests of DIV and REM, once they are on x and y themselves
div_cases : (y u z q : ℕ) (a b c : Bool) → eqb y 0 ≡ a → eqb y (2 ^ 64 - 1) ≡ c
    → cond (eqb (bit_and (cond b 1 0) (cond c 1 0)) 1) u (cond a z q) ≡ cond a z (cond (b && c) u q)
div_cases y u z q true true true p s =
    absurd (omega (arith, eqb-true y 0 p, eqb-true y (2 ^ 64 - 1) s))
div_cases y u z q true true false p s = refl
div_cases y u z q true false true p s = refl
div_cases y u z q true false false p s = refl
div_cases y u z q false true true p s = refl
div_cases y u z q false true false p s = refl
div_cases y u z q false false true p s = refl
div_cases y u z q false false false p s = refl

bit-lt : (b c : Bool) → bit_and (cond b 1 0) (cond c 1 0) < 2 ^ 64
bit-lt true true = omega arith
bit-lt true false = omega arith
bit-lt false true = omega arith
bit-lt false false = omega arith

-- a word's overflow comes out by itself
over : (f : ℕ → ℕ → ℕ) (u x y : ℕ) → (x ≡ 2 ^ 64 - 2 ^ 31 → sext 32 (f (2 ^ 64 - 2 ^ 31) (2 ^ 64 - 1)) ≡ sext 32 u) → (b c : Bool)
    → eqb x (2 ^ 64 - 2 ^ 31) ≡ b → eqb y (2 ^ 64 - 1) ≡ c → sext 32 (f x y) ≡ sext 32 (cond (b && c) u (f x y))
over f u x y e true true p q =
    ap₂ (λ (a b : ℕ). sext 32 (f a b)) (eqb-true x (2 ^ 64 - 2 ^ 31) p) (eqb-true y (2 ^ 64 - 1) q) ∙ e (eqb-true x (2 ^ 64 - 2 ^ 31) p)
over f u x y e true false p q = refl
over f u x y e false c p q = refl

sext_cond : (a : Bool) (x y x' y' : ℕ) → sext 32 x ≡ sext 32 x' → sext 32 y ≡ sext 32 y' → sext 32 (cond a x y) ≡ sext 32 (cond a x' y')
sext_cond true x y x' y' e f = e
sext_cond false x y x' y' e f = f

least_div : sext 32 (sdiv (2 ^ 64 - 2 ^ 31) (2 ^ 64 - 1)) ≡ sext 32 (2 ^ 64 - 2 ^ 31)
unfolding sdiv magnitude signed xor
least_div = refl

least_rem : sext 32 (srem (2 ^ 64 - 2 ^ 31) (2 ^ 64 - 1)) ≡ sext 32 0
unfolding srem magnitude signed
least_rem = refl

sext-lt : (x : ℕ) → sext 32 x < 2 ^ 64
sext-lt x = omega arith

low-lt : (x : ℕ) → x % 2 ^ 32 < 2 ^ 64
low-lt x = omega arith

-- cs leaves the result of k in X11
abbrev pub Computes : List Call → Alu → Model → Type 0
Computes cs k v = (calls-run cs v).r 11 ≡ value k (v.r 9) (v.r 10)

pub body_law : (k : Alu) (v : Model) → v.r 9 < 2 ^ 64 → v.r 10 < 2 ^ 64 → Computes (body k) k v
unfolding body calls-run call_step form_step value quotient remainder quotient_u remainder_u op_value holds holds_even decode
body_law Alu.Add v hx hy = refl
body_law Alu.Sub v hx hy = difference-sub (v.r 9) (v.r 10) hy
body_law Alu.Sll v hx hy = refl
body_law Alu.Slt v hx hy = rw (lt_law (v.r 9) (v.r 10) hx hy, not-not)
body_law Alu.Sltu v hx hy = rw (c_law (v.r 9) (v.r 10) hx hy, not_leb)
body_law Alu.Xor v hx hy = refl
body_law Alu.Srl v hx hy = refl
body_law Alu.Sra v hx hy = refl
body_law Alu.Or v hx hy = refl
body_law Alu.And v hx hy = refl
body_law Alu.Mul v hx hy = refl
body_law Alu.Mulh v hx hy = refl
body_law Alu.Mulhsu v hx hy =
    rw (n_law (v.r 9) 0 hx (omega arith), less_zero (v.r 9) hx)
    (mulhsu_law (v.r 9) (v.r 10) hx hy (product-below (v.r 9) (v.r 10) (2 ^ 64) (le_of_lt hx) hy (pow_pos 64)))
body_law Alu.Mulhu v hx hy = refl
body_law Alu.Div v hx hy =
    rw (z_law (v.r 10) 0 hy (omega arith), z_law (v.r 9) (2 ^ 63) hx (omega arith), z_law (v.r 10) (2 ^ 64 - 1) hy (omega arith), z_law (bit_and (cond (eqb (v.r 9) (2 ^ 63)) 1 0) (cond (eqb (v.r 10) (2 ^ 64 - 1)) 1 0)) 1 (bit-lt (eqb (v.r 9) (2 ^ 63)) (eqb (v.r 10) (2 ^ 64 - 1))) (omega arith))
    (div_cases (v.r 10) _ _ _ (eqb (v.r 10) 0) (eqb (v.r 9) (2 ^ 63)) (eqb (v.r 10) (2 ^ 64 - 1)) refl refl)
body_law Alu.Divu v hx hy = rw (z_law (v.r 10) 0 hy (omega arith))
body_law Alu.Rem v hx hy =
    rw (z_law (v.r 10) 0 hy (omega arith), z_law (v.r 9) (2 ^ 63) hx (omega arith), z_law (v.r 10) (2 ^ 64 - 1) hy (omega arith), z_law (bit_and (cond (eqb (v.r 9) (2 ^ 63)) 1 0) (cond (eqb (v.r 10) (2 ^ 64 - 1)) 1 0)) 1 (bit-lt (eqb (v.r 9) (2 ^ 63)) (eqb (v.r 10) (2 ^ 64 - 1))) (omega arith), rem_law (v.r 9) (v.r 10) hx hy)
    (div_cases (v.r 10) _ _ _ (eqb (v.r 10) 0) (eqb (v.r 9) (2 ^ 63)) (eqb (v.r 10) (2 ^ 64 - 1)) refl refl)
body_law Alu.Remu v hx hy = rw (z_law (v.r 10) 0 hy (omega arith), remu_law (v.r 9) (v.r 10) hx hy)
body_law Alu.Addw v hx hy = refl
body_law Alu.Subw v hx hy = rw (difference-sub (v.r 9) (v.r 10) hy)
body_law Alu.Sllw v hx hy = rw and31
body_law Alu.Srlw v hx hy = rw (and32, and31)
body_law Alu.Sraw v hx hy = rw and31
body_law Alu.Mulw v hx hy = refl
body_law Alu.Divw v hx hy =
    rw (z_law (sext 32 (v.r 10)) 0 (sext-lt (v.r 10)) (omega arith))
    (sext_cond (eqb (sext 32 (v.r 10)) 0) _ _ _ _ refl
    (over sdiv (sext 32 (v.r 9)) (sext 32 (v.r 9)) (sext 32 (v.r 10)) (λ e. rw e least_div) (eqb (sext 32 (v.r 9)) (2 ^ 64 - 2 ^ 31)) (eqb (sext 32 (v.r 10)) (2 ^ 64 - 1)) refl refl))
body_law Alu.Divuw v hx hy =
    rw (and32 (v.r 9), and32 (v.r 10), z_law (v.r 10 % 2 ^ 32) 0 (low-lt (v.r 10)) (omega arith))
    (sext_cond (eqb (v.r 10 % 2 ^ 32) 0) _ _ _ _ refl refl)
body_law Alu.Remw v hx hy =
    rw (z_law (sext 32 (v.r 10)) 0 (sext-lt (v.r 10)) (omega arith), rem_law (sext 32 (v.r 9)) (sext 32 (v.r 10)) (sext-lt (v.r 9)) (sext-lt (v.r 10)))
    (sext_cond (eqb (sext 32 (v.r 10)) 0) _ _ _ _ refl
    (over srem 0 (sext 32 (v.r 9)) (sext 32 (v.r 10)) (λ e. least_rem) (eqb (sext 32 (v.r 9)) (2 ^ 64 - 2 ^ 31)) (eqb (sext 32 (v.r 10)) (2 ^ 64 - 1)) refl refl))
body_law Alu.Remuw v hx hy =
    rw (and32 (v.r 9), and32 (v.r 10), z_law (v.r 10 % 2 ^ 32) 0 (low-lt (v.r 10)) (omega arith), remu_law (v.r 9 % 2 ^ 32) (v.r 10 % 2 ^ 32) (low-lt (v.r 9)) (low-lt (v.r 10)))

below_32 : (y : ℕ) → y < 32 → y % 64 ≡ y % 32
below_32 y h = omega arith

pub slliw_law : (v : Model) → v.r 10 < 32 → Computes slliw Alu.Sllw v
unfolding slliw calls-run call_step form_step value op_value decode
slliw_law v h = rw (below_32 (v.r 10) h)

pub srliw_law : (v : Model) → v.r 10 < 32 → Computes srliw Alu.Srlw v
unfolding srliw calls-run call_step form_step value op_value decode
srliw_law v h = rw (and32, below_32 (v.r 10) h)

pub sraiw_law : (v : Model) → v.r 10 < 32 → Computes sraiw Alu.Sraw v
unfolding sraiw calls-run call_step form_step value op_value decode
sraiw_law v h = rw (below_32 (v.r 10) h)
