-- The emitter's calls on a model of the machine, whose registers are a function and whose slots are a list, so that a list of calls
-- computes; and that their words do the same to the machine. Assumes nothing.
use mathlib.Core.Path.{◌≡◌, refl, sym, ap, ◌∙◌}
use mathlib.Core.Bool.{Bool, true, false, cond, not, xor, ◌&&◌, ◌||◌, true≢false}
use mathlib.Core.List.{List, [], ◌∷◌, flatten}
use Prim.Native.Nat.{ℕ, zero, suc, ◌+◌, ◌-◌, ◌*◌, ◌/◌, ◌%◌, ◌^◌, ◌≤◌, ◌<◌}
use native.Mathlib.Nat.{div-le_self, lt_of_le_of_lt, mod-lt, le_of_lt, zero-lt-suc}
use native.Mathlib.Omega.{arith}
use lib.Dec.{eqb, leb, ltb, T, ltb→lt}
use lib.Bits.{and_lt, or_lt, xor_lt}
use lib.Pow.{pow_pos}
use lib.ListN.{length, get_or, set, length-set}
use borrow.Author.Tests.{leb-true, le-leb, eq-eqb, ne_eqb, eqb-true, eqb-false}
use Rattle.rules.specs.Limits.{max_slot_offset}
use Rattle.word.specs.Word.{wrap, sext, sign, magnitude, signed, complement, shl, shr, asr, sdiv, mulh, sext128}
use Rattle.word.specs.Bytes.{reversed}
use Rattle.word.proofs.Counting.{clz-le}
use Rattle.word.proofs.Laws.{product-below}
use Rattle.le.specs.Le as Le
use Rattle.a64.specs.declared.Op.{Op}
use Rattle.a64.specs.declared.Op.TheVariants.{Add, Sub, And, Orr, Eor, Bic, Orn, Eon, Lslv, Lsrv, Asrv, Rorv, Mul, Smulh, Umulh, Udiv, Sdiv}
use Rattle.a64.specs.declared.Op1.{Op1}
use Rattle.a64.specs.declared.Op1.TheVariants.{Rev, Clz}
use Rattle.a64.specs.declared.Form.{Form}
use Rattle.a64.specs.declared.Form.TheVariants.{DataProcessing, OneSource, Ldr, Str, Movz, Movk, Cmp, Csel, Sxtw, AddSp, SubSp, Blr, Ret, Unreadable}
use Rattle.a64_alu.specs.declared.Flags.{Flags}
use Rattle.a64.specs.Forms.{decode}
use Rattle.a64_exec.specs.Exec.{State, machine, address, reaches, next, exec}
use Rattle.a64_alu.specs.Alu.{op_value, op1_value, compared, holds}
use Rattle.a64_run.proofs.Straight.{Straight, straight_append, one_form}
use Rattle.a64_exec.proofs.Slots.{Apart, Slots, slot_stored}
use Rattle.a64_emitter.specs.Writers as Writers
use Rattle.rv64.specs.Execute.{read}
use Rattle.emit_native.specs.Calls.{Call, emit, mov_imm64, load, store, reg_off, product, call_words, words_in, words}
use Rattle.translation.proofs.Registers.{upd, tab, length_tab, set_tab, operand_tab}
use Rattle.translation.proofs.Constants.{constant_goes}

-- ---- the model

pub record Model : Type 0 where
  pub r : ℕ → ℕ
  pub f : Flags
  pub slots : List ℕ

abbrev pub model : (ℕ → ℕ) → Flags → List ℕ → Model
model r f s = record { r = r; f = f; slots = s }

-- a register as an operand
abbrev pub operand : Model → ℕ → ℕ
operand v k = cond (eqb k 31) 0 (v.r k)

abbrev pub result : Model → ℕ → ℕ → Model
result v d w = model (upd v.r d w) v.f v.slots

unfoldable pub form_step : Form → Model → Model
form_step (DataProcessing q d n m) v = result v d (op_value q (operand v n) (operand v m))
form_step (OneSource q d n) v = result v d (op1_value q (operand v n))
form_step (Cmp n m) v = model v.r (compared (operand v n) (operand v m)) v.slots
form_step (Csel d n m c) v = result v d (cond (holds c v.f) (operand v n) (operand v m))
form_step (Sxtw d n) v = result v d (sext 32 (operand v n))
form_step (Ldr t n i) v = v
form_step (Str t n i) v = v
form_step (Movz d h i) v = v
form_step (Movk d h i) v = v
form_step (AddSp i) v = v
form_step (SubSp i) v = v
form_step (Blr n) v = v
form_step Ret v = v
form_step Unreadable v = v

unfoldable pub call_step : Call → Model → Model
unfolding form_step
call_step (emit w) v = form_step (decode w) v
call_step (mov_imm64 d c) v = result v d c
call_step (load d n) v = result v d (read v.slots n)
call_step (store d n) v = model v.r v.f (set v.slots n (operand v d))

unfoldable pub calls-run : List Call → Model → Model
unfolding call_step
calls-run [] v = v
calls-run (c ∷ cs) v = calls-run cs (call_step c v)

-- ---- which calls: those that write X0 and X9 to X17 alone. b: X0 still holds the base of the slots

unfoldable pub scratch : ℕ → Bool
scratch d = eqb d 0 || (leb 9 d && leb d 17)

unfoldable pub form-fits : Form → Bool
unfolding scratch
form-fits (DataProcessing q d n m) = scratch d && (ltb n 32 && ltb m 32)
form-fits (OneSource q d n) = scratch d && ltb n 32
form-fits (Cmp n m) = ltb n 32 && ltb m 32
form-fits (Csel d n m c) = scratch d && (ltb n 32 && ltb m 32)
form-fits (Sxtw d n) = scratch d && ltb n 32
form-fits (Ldr t n i) = false
form-fits (Str t n i) = false
form-fits (Movz d h i) = false
form-fits (Movk d h i) = false
form-fits (AddSp i) = false
form-fits (SubSp i) = false
form-fits (Blr n) = false
form-fits Ret = false
form-fits Unreadable = false

-- the register that a form writes, or another
unfoldable pub written : Form → ℕ
written (DataProcessing q d n m) = d
written (OneSource q d n) = d
written (Csel d n m c) = d
written (Sxtw d n) = d
written (Cmp n m) = 31
written (Ldr t n i) = 31
written (Str t n i) = 31
written (Movz d h i) = 31
written (Movk d h i) = 31
written (AddSp i) = 31
written (SubSp i) = 31
written (Blr n) = 31
written Ret = 31
written Unreadable = 31

unfoldable pub fits : Bool → Call → Bool
unfolding form-fits
fits b (emit w) = form-fits (decode w)
fits b (mov_imm64 d c) = scratch d
fits b (load d n) = scratch d && b
fits b (store d n) = ltb d 32 && b

-- X0 still holds the base after the call
unfoldable pub keeps : Bool → Call → Bool
unfolding written
keeps b (emit w) = b && not (eqb (written (decode w)) 0)
keeps b (mov_imm64 d c) = b && not (eqb d 0)
keeps b (load d n) = b && not (eqb d 0)
keeps b (store d n) = b

unfoldable pub all_fit : Bool → List Call → Bool
unfolding fits keeps
all_fit b [] = true
all_fit b (c ∷ cs) = fits b c && all_fit (keeps b c) cs

unfoldable pub all_keep : Bool → List Call → Bool
unfolding keeps
all_keep b [] = b
all_keep b (c ∷ cs) = all_keep (keeps b c) cs

-- the numbers are in range
abbrev pub In : Call → Type 0
In (emit w) = Unit {0}
In (mov_imm64 d c) = c < 2 ^ 64
In (load d n) = n < 32
In (store d n) = (1 ≤ n) × (n < 32)

abbrev pub AllIn : List Call → Type 0
AllIn [] = Unit {0}
AllIn (c ∷ cs) = In c × AllIn cs

-- ---- what the calls keep of the registers r₀ at entry: X0 while b holds, and all but the scratch registers

pub record Kept (r₀ : ℕ → ℕ) (b : Bool) (v : Model) : Type 0 where
  pub base : T b → v.r 0 ≡ r₀ 0
  pub same : (k : ℕ) → scratch k ≡ false → v.r k ≡ r₀ k
  pub count : length v.slots ≡ 32
  pub small : (i : ℕ) → get_or v.slots i 0 < 2 ^ 64
  pub regs : (k : ℕ) → v.r k < 2 ^ 64

pub and_l : (a b : Bool) → T (a && b) → T a
and_l true b t = tt
and_l false b t = t

pub and_r : (a b : Bool) → T (a && b) → T b
and_r true b t = t
and_r false b t = absurd t

pub is_true : (b : Bool) → T b → b ≡ true
is_true true t = refl
is_true false t = absurd t

pub cond_lt : (b : Bool) {x y m : ℕ} → x < m → y < m → cond b x y < m
cond_lt true hx hy = hx
cond_lt false hx hy = hy

div-lt : (x y : ℕ) {m : ℕ} → x < m → x / y < m
div-lt x y h = lt_of_le_of_lt (div-le_self x y) h

magnitude-lt : (x : ℕ) → x < 2 ^ 64 → magnitude x < 2 ^ 64
unfolding magnitude
magnitude-lt x h = by (sign x) refl
  where
    by : (c : Bool) → sign x ≡ c → cond c (2 ^ 64 - x) x < 2 ^ 64
    by true q = omega (arith, leb-true (2 ^ 63) x q)
    by false q = h

-- every result has 64 bits
op-lt : (q : Op) (x y : ℕ) → x < 2 ^ 64 → y < 2 ^ 64 → op_value q x y < 2 ^ 64
unfolding op_value
op-lt Add x y hx hy = omega arith
op-lt Sub x y hx hy = omega arith
op-lt And x y hx hy = and_lt 64 x y hx hy
op-lt Orr x y hx hy = or_lt 64 x y hx hy
op-lt Eor x y hx hy = xor_lt 64 x y hx hy
op-lt Bic x y hx hy = and_lt 64 x (complement y) hx (omega arith)
op-lt Orn x y hx hy = or_lt 64 x (complement y) hx (omega arith)
op-lt Eon x y hx hy = xor_lt 64 x (complement y) hx (omega arith)
op-lt Lslv x y hx hy = omega arith
op-lt Lsrv x y hx hy = div-lt x (2 ^ (y % 64)) hx
op-lt Asrv x y hx hy = unfold asr in (cond_lt (sign x) (omega arith) (div-lt x (2 ^ (y % 64)) hx))
op-lt Rorv x y hx hy = or_lt 64 (shr x (y % 64)) (shl x (64 - y % 64)) (div-lt x (2 ^ (y % 64)) hx) (omega arith)
op-lt Mul x y hx hy = omega arith
op-lt Smulh x y hx hy = unfold mulh sext128 in (mod-lt _ (zero-lt-suc _))
op-lt Umulh x y hx hy = product-below x y (2 ^ 64) (le_of_lt hx) hy (pow_pos 64)
op-lt Udiv x y hx hy = div-lt x y hx
op-lt Sdiv x y hx hy = unfold sdiv signed in (cond_lt (xor (sign x) (sign y)) (omega arith) (div-lt (magnitude x) (magnitude y) (magnitude-lt x hx)))

op1_lt : (q : Op1) (x : ℕ) → op1_value q x < 2 ^ 64
unfolding op1_value reversed
op1_lt Rev x = omega arith
op1_lt Clz x = omega (arith, clz-le 64 x)

operand-lt : (v : Model) → ((k : ℕ) → v.r k < 2 ^ 64) → (k : ℕ) → operand v k < 2 ^ 64
operand-lt v h k = cond_lt (eqb k 31) (omega arith) (h k)

pub read-lt : {r₀ : ℕ → ℕ} {b : Bool} {v : Model} → Kept r₀ b v → (n : ℕ) → read v.slots n < 2 ^ 64
unfolding read
read-lt κ n = cond_lt (eqb n 0) (omega arith) (κ.small n)

pub scratch_lt : (d : ℕ) → T (scratch d) → d < 31
unfolding scratch
scratch_lt d t = by (eqb d 0) (leb 9 d) (leb d 17) refl refl t
  where
    by : (a b c : Bool) → eqb d 0 ≡ a → leb d 17 ≡ c → T (a || (b && c)) → d < 31
    by true b c p q t = omega (arith, eqb-true d 0 p)
    by false true true p q t = omega (arith, leb-true d 17 q)
    by false true false p q t = absurd t
    by false false c p q t = absurd t

-- a write to a register
module _ (r₀ : ℕ → ℕ) (b : Bool) (v : Model) (κ : Kept r₀ b v) (d w : ℕ) (hd : T (scratch d)) (hw : w < 2 ^ 64) where
  other : (k : ℕ) → scratch k ≡ false → eqb k d ≡ false
  other k h = ne_eqb k d (λ e. true≢false (sym (is_true (scratch d) hd) ∙ ap scratch (sym e) ∙ h))

  put-kept : Kept r₀ (b && not (eqb d 0)) (result v d w)
  put-kept =
      record {
        base = λ t. by (eqb d 0) refl (and_r b (not (eqb d 0)) t) ∙ κ.base (and_l b (not (eqb d 0)) t);
        same = λ k h. rw (other k h) (κ.same k h);
        count = κ.count;
        small = κ.small;
        regs = λ k. cond_lt (eqb k d) hw (κ.regs k);
      }
    where
      by : (c : Bool) → eqb d 0 ≡ c → T (not c) → upd v.r d w 0 ≡ v.r 0
      by true q t = absurd t
      by false q t = rw (ne_eqb 0 d (λ e. eqb-false d 0 q (sym e)))

pub small-set : (l : List ℕ) (n w : ℕ) → ((i : ℕ) → get_or l i 0 < 2 ^ 64) → w < 2 ^ 64 → (i : ℕ) → get_or (set l n w) i 0 < 2 ^ 64
small-set [] n w h hw i = h i
small-set (x ∷ xs) zero w h hw zero = hw
small-set (x ∷ xs) zero w h hw (suc i) = h (suc i)
small-set (x ∷ xs) (suc n) w h hw zero = h 0
small-set (x ∷ xs) (suc n) w h hw (suc i) = small-set xs n w (λ j. h (suc j)) hw i

same_base : (b : Bool) → T (b && true) → T b
same_base true t = tt
same_base false t = t

form-kept : (r₀ : ℕ → ℕ) (b : Bool) (f : Form) (v : Model) → T (form-fits f) → Kept r₀ b v → Kept r₀ (b && not (eqb (written f) 0)) (form_step f v)
unfolding form-fits form_step written
form-kept r₀ b (DataProcessing q d n m) v t κ =
    put-kept r₀ b v κ d _ (and_l (scratch d) _ t) (op-lt q _ _ (operand-lt v κ.regs n) (operand-lt v κ.regs m))
form-kept r₀ b (OneSource q d n) v t κ = put-kept r₀ b v κ d _ (and_l (scratch d) _ t) (op1_lt q _)
form-kept r₀ b (Cmp n m) v t κ =
    record { base = λ t. κ.base (same_base b t); same = κ.same; count = κ.count; small = κ.small; regs = κ.regs }
form-kept r₀ b (Csel d n m c) v t κ =
    put-kept r₀ b v κ d _ (and_l (scratch d) _ t) (cond_lt (holds c v.f) (operand-lt v κ.regs n) (operand-lt v κ.regs m))
form-kept r₀ b (Sxtw d n) v t κ = put-kept r₀ b v κ d _ (and_l (scratch d) _ t) (omega arith)
form-kept r₀ b (Ldr u n i) v t κ = absurd t
form-kept r₀ b (Str u n i) v t κ = absurd t
form-kept r₀ b (Movz d h i) v t κ = absurd t
form-kept r₀ b (Movk d h i) v t κ = absurd t
form-kept r₀ b (AddSp i) v t κ = absurd t
form-kept r₀ b (SubSp i) v t κ = absurd t
form-kept r₀ b (Blr n) v t κ = absurd t
form-kept r₀ b Ret v t κ = absurd t
form-kept r₀ b Unreadable v t κ = absurd t

call_kept : (r₀ : ℕ → ℕ) (b : Bool) (c : Call) (v : Model) → T (fits b c) → In c → Kept r₀ b v → Kept r₀ (keeps b c) (call_step c v)
unfolding fits keeps call_step
call_kept r₀ b (emit w) v t h κ = form-kept r₀ b (decode w) v t κ
call_kept r₀ b (mov_imm64 d c) v t h κ = put-kept r₀ b v κ d c t h
call_kept r₀ b (load d n) v t h κ = put-kept r₀ b v κ d _ (and_l (scratch d) _ t) (read-lt κ n)
call_kept r₀ b (store d n) v t h κ =
    record {
      base = κ.base;
      same = κ.same;
      count = length-set v.slots n _ ∙ κ.count;
      small = small-set v.slots n _ κ.small (operand-lt v κ.regs d);
      regs = κ.regs;
    }

pub calls-kept : (r₀ : ℕ → ℕ) (cs : List Call) (b : Bool) (v : Model) → T (all_fit b cs) → AllIn cs → Kept r₀ b v
    → Kept r₀ (all_keep b cs) (calls-run cs v)
unfolding all_fit all_keep calls-run
calls-kept r₀ [] b v t h κ = κ
calls-kept r₀ (c ∷ cs) b v t h κ =
    calls-kept r₀ cs (keeps b c) (call_step c v) (and_r (fits b c) _ t) h.1 (call_kept r₀ b c v (and_l (fits b c) _ t) h.0 κ)

-- ---- the machine: slot n is at place p n of the memory, which is m₀ outside the slots

abbrev pub real : ℕ → ℕ → Model → List ℕ → State
real base sp v m = machine (tab 31 v.r) sp v.f base m

-- a constant, in any register
pub constant_real : (base sp : ℕ) (v : Model) (m : List ℕ) (d c : ℕ) → d < 31 → c < 2 ^ 64
    → Straight (Writers.mov_imm64 d c) (real base sp v m) (real base sp (result v d c) m)
constant_real base sp v m d c hd hc =
    rw (← set_tab 31 v.r d c) (constant_goes (real base sp v m) d hd (rw (length_tab 31 v.r) hd) c hc)

-- from v to u over the words
abbrev pub Goes : (ℕ → ℕ) → List ℕ → ℕ → ℕ → List ℕ → Model → List ℕ → Model → Type 0
Goes p m₀ base sp ws v m u = (m' : List ℕ) × Straight ws (real base sp v m) (real base sp u m') × Slots p m₀ m' u.slots

module _ (p : ℕ → ℕ) (m₀ : List ℕ) (base sp o : ℕ) (r₀ : ℕ → ℕ) (apart : Apart p (length m₀)) (ho : o ≤ max_slot_offset)
    (at : (n : ℕ) → n < 32 → wrap (r₀ 0 + reg_off o n / 8 * 8) ≡ base + p n) (even : (n : ℕ) → n < 32 → (base + p n) % 8 ≡ 0) where
  slot-address : (v : Model) (m : List ℕ) (n : ℕ) → n < 32 → Kept r₀ true v → address (real base sp v m) 0 (reg_off o n / 8) ≡ base + p n
  unfolding tab
  slot-address v m n hn κ = let e : v.r 0 ≡ r₀ 0 = κ.base tt in rw e (at n hn)

  slot-reaches : (v : Model) (m : List ℕ) (n : ℕ) → n < 32 → length m ≡ length m₀ → reaches (real base sp v m) 0 (base + p n) ≡ true
  unfolding reaches
  slot-reaches v m n hn l =
      let i : p n + 8 ≤ length m₀ = apart.inside n hn in
      rw (le-leb base (base + p n) (omega arith), le-leb (base + p n + 8) (base + length m) (omega arith), eq-eqb ((base + p n) % 8) 0 (even n hn))

  back : (n : ℕ) → base + p n - base ≡ p n
  back n = omega arith

  in_offset : (n : ℕ) → n < 32 → reg_off o n / 8 < 4096
  in_offset n h = omega arith

  form-goes : (f : Form) (v : Model) (m : List ℕ) → T (form-fits f) → exec f (real base sp v m) ≡ next (real base sp (form_step f v) m)
  unfolding form-fits form_step
  form-goes (DataProcessing q d n m) v mem t =
      let hd : d < 31 = scratch_lt d (and_l (scratch d) _ t) in
      let hn : n < 32 = ltb→lt n 32 (and_l (ltb n 32) _ (and_r (scratch d) _ t)) in
      let hm : m < 32 = ltb→lt m 32 (and_r (ltb n 32) _ (and_r (scratch d) _ t)) in
      unfold exec in (rw (operand_tab v.r n hn, operand_tab v.r m hm, set_tab))
  form-goes (OneSource q d n) v mem t =
      let hd : d < 31 = scratch_lt d (and_l (scratch d) _ t) in
      let hn : n < 32 = ltb→lt n 32 (and_r (scratch d) _ t) in
      unfold exec in (rw (operand_tab v.r n hn, set_tab))
  form-goes (Cmp n m) v mem t =
      let hn : n < 32 = ltb→lt n 32 (and_l (ltb n 32) _ t) in
      let hm : m < 32 = ltb→lt m 32 (and_r (ltb n 32) _ t) in
      unfold exec in (rw (operand_tab v.r n hn, operand_tab v.r m hm))
  form-goes (Csel d n m c) v mem t =
      let hd : d < 31 = scratch_lt d (and_l (scratch d) _ t) in
      let hn : n < 32 = ltb→lt n 32 (and_l (ltb n 32) _ (and_r (scratch d) _ t)) in
      let hm : m < 32 = ltb→lt m 32 (and_r (ltb n 32) _ (and_r (scratch d) _ t)) in
      unfold exec in (rw (operand_tab v.r n hn, operand_tab v.r m hm, set_tab))
  form-goes (Sxtw d n) v mem t =
      let hd : d < 31 = scratch_lt d (and_l (scratch d) _ t) in
      let hn : n < 32 = ltb→lt n 32 (and_r (scratch d) _ t) in
      unfold exec in (rw (operand_tab v.r n hn, set_tab))
  form-goes (Ldr u n i) v mem t = absurd t
  form-goes (Str u n i) v mem t = absurd t
  form-goes (Movz d h i) v mem t = absurd t
  form-goes (Movk d h i) v mem t = absurd t
  form-goes (AddSp i) v mem t = absurd t
  form-goes (SubSp i) v mem t = absurd t
  form-goes (Blr n) v mem t = absurd t
  form-goes Ret v mem t = absurd t
  form-goes Unreadable v mem t = absurd t

  form-slots : (f : Form) (v : Model) → (form_step f v).slots ≡ v.slots
  unfolding form_step
  form-slots (DataProcessing q d n m) v = refl
  form-slots (OneSource q d n) v = refl
  form-slots (Cmp n m) v = refl
  form-slots (Csel d n m c) v = refl
  form-slots (Sxtw d n) v = refl
  form-slots (Ldr u n i) v = refl
  form-slots (Str u n i) v = refl
  form-slots (Movz d h i) v = refl
  form-slots (Movk d h i) v = refl
  form-slots (AddSp i) v = refl
  form-slots (SubSp i) v = refl
  form-slots (Blr n) v = refl
  form-slots Ret v = refl
  form-slots Unreadable v = refl

  -- register 0 is a constant, any other its slot
  load_goes : (d n : ℕ) (v : Model) (m : List ℕ) → d < 31 → n < 32 → Kept r₀ true v → Slots p m₀ m v.slots → (c : Bool) → eqb n 0 ≡ c
      → Straight (cond c (Writers.movz d 0) (Writers.ldr_x d 0 (reg_off o n)) ∷ []) (real base sp v m) (real base sp (result v d (cond c 0 (get_or v.slots n 0))) m)
  load_goes d n v m hd h κ s true q = unfold Writers.mov_imm64 Writers.movk in (constant_real base sp v m d 0 hd (omega arith))
  load_goes d n v m hd h κ s false q =
      let pn : 1 ≤ n = omega (arith, eqb-false n 0 q) in
      one_form (Ldr d 0 (reg_off o n / 8)) _ _ (omega arith, omega arith, in_offset n h)
      (unfold exec in (rw (slot-address v m n h κ, slot-reaches v m n h s.size, back n, s.holds n pn h, set_tab)))

  call-goes : (b : Bool) (c : Call) (v : Model) (m : List ℕ) → T (fits b c) → In c → Kept r₀ b v → Slots p m₀ m v.slots
      → Goes p m₀ base sp (call_words product o c) v m (call_step c v)
  unfolding fits call_step read
  call-goes b (emit w) v m t h κ s = (m, (real base sp (form_step (decode w) v) m, form-goes (decode w) v m t, refl), rw (form-slots (decode w) v) s)
  call-goes b (mov_imm64 d c) v m t h κ s = (m, constant_real base sp v m d c (scratch_lt d t) h, s)
  call-goes true (load d n) v m t h κ s = (m, load_goes d n v m (scratch_lt d (and_l (scratch d) true t)) h κ s (eqb n 0) refl, s)
  call-goes true (store d n) v m t h κ s =
      let hd : d < 32 = ltb→lt d 32 (and_l (ltb d 32) true t) in (
        Le.store 8 m (p n) (operand v d),
        one_form (Str d 0 (reg_off o n / 8)) _ _ (hd, omega arith, in_offset n h.1)
            (unfold exec in (rw (slot-address v m n h.1 κ, slot-reaches v m n h.1 s.size, back n, operand_tab v.r d hd))),
        slot_stored p m₀ m v.slots apart s n (operand v d) h.0 h.1 (operand-lt v κ.regs d),
      )
  call-goes false (load d n) v m t h κ s = absurd (and_r (scratch d) false t)
  call-goes false (store d n) v m t h κ s = absurd (and_r (ltb d 32) false t)

  -- a list of calls
  pub calls_go : (cs : List Call) (b : Bool) (v : Model) (m : List ℕ) → T (all_fit b cs) → AllIn cs → Kept r₀ b v → Slots p m₀ m v.slots
      → Goes p m₀ base sp (words o cs) v m (calls-run cs v)
  unfolding all_fit calls-run words_in flatten
  calls_go [] b v m t h κ s = (m, refl, s)
  calls_go (c ∷ cs) b v m t h κ s =
      let t1 : T (fits b c) = and_l (fits b c) _ t in
      let g = call-goes b c v m t1 h.0 κ s in
      let r = calls_go cs (keeps b c) (call_step c v) g.0 (and_r (fits b c) _ t) h.1 (call_kept r₀ b c v t1 h.0 κ) g.2 in
      (r.0, straight_append (call_words product o c) (words o cs) _ _ _ g.1 r.1, r.2)
