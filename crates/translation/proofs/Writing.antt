-- The word writers write the Arm manual's words: each word is `encode` of its form, and so `decode` reads the form.
-- Assumes nothing.
use mathlib.Core.Path.{◌≡◌, refl}
use mathlib.Core.Bool.{Bool, true, false, cond}
use mathlib.Core.List.{List, [], ◌∷◌, ◌++◌, map, map-append}
use Prim.Native.Nat.{ℕ, ◌/◌, ◌%◌, ◌<◌}
use native.Mathlib.Omega.{arith}
use lib.Dec.{eqb}
use Rattle.a64.specs.declared.Op.TheVariants.{Add, Sub, And, Orr, Eor, Bic, Orn, Eon, Lslv, Lsrv, Asrv, Rorv, Mul, Smulh, Umulh, Udiv, Sdiv}
use Rattle.a64.specs.declared.Op1.TheVariants.{Rev, Clz}
use Rattle.a64.specs.declared.Form.{Form}
use Rattle.a64.specs.declared.Form.TheVariants.{DataProcessing, OneSource, Ldr, Str, Movz, Movk, Cmp, Csel, Sxtw, AddSp, SubSp, Blr, Ret}
use Rattle.a64.specs.Forms.{encode}
use Rattle.a64_emitter.specs.Writers.{ldr_x, str_x, add_x, sub_x, and_x, orr_x, eor_x, lslv_x, lsrv_x, asrv_x, mul_x, smulh_x, umulh_x, udiv_x, sdiv_x, mov_x, sub_sp_imm, add_sp_imm, blr, cmp_x, csel_x, sxtw_x, ret, part, movk, mov_imm64}
use Rattle.a64_emitter.specs.Zbb.{bic_x, orn_x, eon_x, rorv_x, rev_x, clz_x}

pub ldr_x_is : (rt rn off : ℕ) → ldr_x rt rn off ≡ encode (Ldr rt rn (off / 8))
ldr_x_is rt rn off = refl

pub str_x_is : (rt rn off : ℕ) → str_x rt rn off ≡ encode (Str rt rn (off / 8))
str_x_is rt rn off = refl

pub add_x_is : (rd rn rm : ℕ) → add_x rd rn rm ≡ encode (DataProcessing Add rd rn rm)
add_x_is rd rn rm = refl

pub sub_x_is : (rd rn rm : ℕ) → sub_x rd rn rm ≡ encode (DataProcessing Sub rd rn rm)
sub_x_is rd rn rm = refl

pub and_x_is : (rd rn rm : ℕ) → and_x rd rn rm ≡ encode (DataProcessing And rd rn rm)
and_x_is rd rn rm = refl

pub orr_x_is : (rd rn rm : ℕ) → orr_x rd rn rm ≡ encode (DataProcessing Orr rd rn rm)
orr_x_is rd rn rm = refl

pub eor_x_is : (rd rn rm : ℕ) → eor_x rd rn rm ≡ encode (DataProcessing Eor rd rn rm)
eor_x_is rd rn rm = refl

pub lslv_x_is : (rd rn rm : ℕ) → lslv_x rd rn rm ≡ encode (DataProcessing Lslv rd rn rm)
lslv_x_is rd rn rm = refl

pub lsrv_x_is : (rd rn rm : ℕ) → lsrv_x rd rn rm ≡ encode (DataProcessing Lsrv rd rn rm)
lsrv_x_is rd rn rm = refl

pub asrv_x_is : (rd rn rm : ℕ) → asrv_x rd rn rm ≡ encode (DataProcessing Asrv rd rn rm)
asrv_x_is rd rn rm = refl

pub mul_x_is : (rd rn rm : ℕ) → mul_x rd rn rm ≡ encode (DataProcessing Mul rd rn rm)
mul_x_is rd rn rm = refl

pub smulh_x_is : (rd rn rm : ℕ) → smulh_x rd rn rm ≡ encode (DataProcessing Smulh rd rn rm)
smulh_x_is rd rn rm = refl

pub umulh_x_is : (rd rn rm : ℕ) → umulh_x rd rn rm ≡ encode (DataProcessing Umulh rd rn rm)
umulh_x_is rd rn rm = refl

pub udiv_x_is : (rd rn rm : ℕ) → udiv_x rd rn rm ≡ encode (DataProcessing Udiv rd rn rm)
udiv_x_is rd rn rm = refl

pub sdiv_x_is : (rd rn rm : ℕ) → sdiv_x rd rn rm ≡ encode (DataProcessing Sdiv rd rn rm)
sdiv_x_is rd rn rm = refl

pub mov_x_is : (rd rn : ℕ) → mov_x rd rn ≡ encode (DataProcessing Orr rd rn 31)
mov_x_is rd rn = refl

pub sub_sp_imm_is : (imm : ℕ) → imm < 4096 → sub_sp_imm imm ≡ encode (SubSp imm)
sub_sp_imm_is imm h = omega arith

pub add_sp_imm_is : (imm : ℕ) → imm < 4096 → add_sp_imm imm ≡ encode (AddSp imm)
add_sp_imm_is imm h = omega arith

pub blr_is : (rn : ℕ) → blr rn ≡ encode (Blr rn)
blr_is rn = refl

pub cmp_x_is : (rn rm : ℕ) → cmp_x rn rm ≡ encode (Cmp rn rm)
cmp_x_is rn rm = refl

pub csel_x_is : (rd rn rm c : ℕ) → c < 16 → csel_x rd rn rm c ≡ encode (Csel rd rn rm c)
csel_x_is rd rn rm c h = omega arith

pub sxtw_x_is : (rd rn : ℕ) → sxtw_x rd rn ≡ encode (Sxtw rd rn)
sxtw_x_is rd rn = refl

pub bic_x_is : (rd rn rm : ℕ) → bic_x rd rn rm ≡ encode (DataProcessing Bic rd rn rm)
bic_x_is rd rn rm = refl

pub orn_x_is : (rd rn rm : ℕ) → orn_x rd rn rm ≡ encode (DataProcessing Orn rd rn rm)
orn_x_is rd rn rm = refl

pub eon_x_is : (rd rn rm : ℕ) → eon_x rd rn rm ≡ encode (DataProcessing Eon rd rn rm)
eon_x_is rd rn rm = refl

pub rorv_x_is : (rd rn rm : ℕ) → rorv_x rd rn rm ≡ encode (DataProcessing Rorv rd rn rm)
rorv_x_is rd rn rm = refl

pub rev_x_is : (rd rn : ℕ) → rev_x rd rn ≡ encode (OneSource Rev rd rn)
rev_x_is rd rn = refl

pub clz_x_is : (rd rn : ℕ) → clz_x rd rn ≡ encode (OneSource Clz rd rn)
clz_x_is rd rn = refl

pub ret_is : ret ≡ encode Ret
ret_is = refl

-- ---- constants

-- MOVK of a part that is not 0, and all of a constant
unfoldable pub movk_forms : ℕ → ℕ → ℕ → List Form
movk_forms rd hw p = cond (eqb p 0) [] (Movk rd hw p ∷ [])

unfoldable pub mov_forms : ℕ → ℕ → List Form
mov_forms rd val = Movz rd 0 (val % 65536) ∷ (movk_forms rd 1 (part val 1) ++ (movk_forms rd 2 (part val 2) ++ movk_forms rd 3 (part val 3)))

map_cond : (b : Bool) (f : Form) → cond b [] (encode f ∷ []) ≡ map encode (cond b [] (f ∷ []))
map_cond true f = refl
map_cond false f = refl

movk_is : (rd hw p : ℕ) → movk rd hw p ≡ map encode (movk_forms rd hw p)
unfolding movk movk_forms
movk_is rd hw p = map_cond (eqb p 0) (Movk rd hw p)

pub mov_imm64_is : (rd val : ℕ) → mov_imm64 rd val ≡ map encode (mov_forms rd val)
unfolding mov_imm64 mov_forms
mov_imm64_is rd val = simp (movk_is, map-append)
