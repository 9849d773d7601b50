-- The words of each Zbb instruction compute what the ISA says, and their emission agrees with the instruction. Assumes
-- nothing.
use mathlib.Core.Path.{◌≡◌, refl, sym, ap, ◌∙◌}
use mathlib.Core.Bool.{Bool, true, false, cond, not}
use mathlib.Core.List.{List, [], ◌∷◌}
use Prim.Native.Nat.{ℕ, ◌-◌, ◌%◌, ◌^◌, ◌<◌}
use native.Mathlib.Omega.{arith}
use lib.Bits.{bit_and, and_mask, and_le_r, or_lt}
use lib.Dec.{leb, ltb}
use Rattle.word.specs.Word.{add, sub, mul, and64, or64, shl, shr, slt, complement}
use Rattle.word.specs.Counts.{clz, ctz, cpop}
use Rattle.word.proofs.Extend.{by_shifts}
use Rattle.word.proofs.Counting.{clz-le}
use Rattle.word.proofs.Ones.{mask_sequence}
use Rattle.word.proofs.Zeros.{clzw_law, ctz_law, ctzw_law, cpopw_law}
use Rattle.word.proofs.Orc.{orcb_law}
use Rattle.word.proofs.Rotations.{rol_law}
use Rattle.word.proofs.Xnor.{xnor_law}
use Rattle.isa.specs.declared.zbb.Zbb.{Zbb}
use Rattle.isa.specs.Formats.{rd, rs1, rs2}
use Rattle.isa.specs.Zbb.{unaries, find, MaybeZbb}
use Rattle.isa.proofs.ZbbRows.{found_has}
use Rattle.a64.specs.Forms.{decode}
use Rattle.a64_alu.specs.Alu.{op_value, op1_value, holds, holds_even, difference}
use Rattle.a64_alu.proofs.Comparing.{difference-sub, c_law, lt_law}
use Rattle.rv64.specs.declared.decode.Instr.{Instr}
use Rattle.rv64.specs.Zbb.{zbb_value}
use Rattle.rv64.specs.Execute.{read, exec}
use Rattle.rv64.specs.Decode.{zbb_or}
use Rattle.emit_native.specs.Calls.{Call, load, mov_imm64, Emission}
use Rattle.zbb.specs.Words.{zbb_body}
use Rattle.zbb.specs.Emission.{computes, emission}
use Rattle.jit_arm64.specs.Block.{zbb_first}
use Rattle.translation.proofs.Calls.{Model, form_step, call_step, calls-run, scratch, form-fits, written, fits, keeps, all_fit, all_keep, Kept, read-lt}
use Rattle.translation.proofs.Alus.{not-not, not_leb, and31}
use Rattle.translation.proofs.Instrs.{Agrees, Fine, one, two, with_constant, result_agrees}

-- ---- what is left when the calls have computed

swap : (x y : ℕ) (b : Bool) → cond (not b) x y ≡ cond b y x
swap x y true = refl
swap x y false = refl

maxu : (x y : ℕ) → cond (leb y x) x y ≡ cond (ltb x y) y x
maxu x y = ap (λ (b : Bool). cond b x y) (sym (not-not (leb y x))) ∙ swap x y (not (leb y x)) ∙ ap (λ (b : Bool). cond b y x) (not_leb x y)

trailing : (x : ℕ) → x < 2 ^ 64 → difference 64 (clz 64 (and64 (difference x 1) (complement x))) ≡ ctz 64 x
trailing x h =
    ap (λ (n : ℕ). difference 64 (clz 64 (and64 n (complement x)))) (difference-sub x 1 (omega arith))
    ∙ difference-sub 64 (clz 64 (and64 (sub x 1) (complement x))) (omega (arith, clz-le 64 (and64 (sub x 1) (complement x)))) ∙ ctz_law x h

ones-run : (x : ℕ) → x < 2 ^ 64
    → shr (mul (and64 (add (add (and64 (difference x (and64 (shr x 1) 0x5555555555555555)) 0x3333333333333333)
    (and64 (shr (difference x (and64 (shr x 1) 0x5555555555555555)) 2) 0x3333333333333333))
    (shr (add (and64 (difference x (and64 (shr x 1) 0x5555555555555555)) 0x3333333333333333)
    (and64 (shr (difference x (and64 (shr x 1) 0x5555555555555555)) 2) 0x3333333333333333)) 4)) 0x0F0F0F0F0F0F0F0F) 0x0101010101010101) 56
    ≡ cpop 64 x
ones-run x h =
    let e : difference x (and64 (shr x 1) 0x5555555555555555) ≡ sub x (and64 (shr x 1) 0x5555555555555555) =
    difference-sub x (and64 (shr x 1) 0x5555555555555555) (omega (arith, and_le_r (shr x 1) 0x5555555555555555)) in
    ap (λ (a : ℕ). shr (mul (and64 (add (add (and64 a 0x3333333333333333) (and64 (shr a 2) 0x3333333333333333))
    (shr (add (and64 a 0x3333333333333333) (and64 (shr a 2) 0x3333333333333333)) 4)) 0x0F0F0F0F0F0F0F0F) 0x0101010101010101) 56) e
    ∙ mask_sequence x h

and32 : (x : ℕ) → and64 x 0xFFFFFFFF ≡ x % 2 ^ 32
and32 x = and_mask x 32

-- the other count of a word's rotation
back : (y : ℕ) → difference 32 (and64 y 31) % 64 ≡ 32 - y % 32
back y = let e : bit_and y 31 ≡ y % 32 = and_mask y 5 in rw e (omega arith)

-- ---- each row

abbrev Computes : List Call → Zbb → Model → Type 0
Computes cs k v = (calls-run cs v).r 11 ≡ zbb_value k (v.r 9) (v.r 10)

pub zbb_law : (k : Zbb) (v : Model) → v.r 9 < 2 ^ 64 → v.r 10 < 2 ^ 64 → Computes (zbb_body k) k v
unfolding zbb_body zbb_value calls-run call_step form_step op_value op1_value holds holds_even decode
zbb_law Zbb.Andn v hx hy = refl
zbb_law Zbb.Orn v hx hy = refl
zbb_law Zbb.Xnor v hx hy = xnor_law (v.r 9) (v.r 10) hx hy
zbb_law Zbb.Clz v hx hy = refl
zbb_law Zbb.Clzw v hx hy = difference-sub (clz 64 (and64 (v.r 9) 0xFFFFFFFF)) 32 (omega arith) ∙ clzw_law (v.r 9)
zbb_law Zbb.Ctz v hx hy = trailing (v.r 9) hx
zbb_law Zbb.Ctzw v hx hy = trailing (or64 (v.r 9) 0x100000000) (or_lt 64 (v.r 9) 0x100000000 hx (omega arith)) ∙ ctzw_law (v.r 9)
zbb_law Zbb.Cpop v hx hy = ones-run (v.r 9) hx
zbb_law Zbb.Cpopw v hx hy = ones-run (shl (v.r 9) 32) (omega arith) ∙ cpopw_law (v.r 9)
zbb_law Zbb.Max v hx hy = rw (lt_law (v.r 9) (v.r 10) hx hy) (swap (v.r 9) (v.r 10) (slt (v.r 9) (v.r 10)))
zbb_law Zbb.Maxu v hx hy = rw (c_law (v.r 9) (v.r 10) hx hy) (maxu (v.r 9) (v.r 10))
zbb_law Zbb.Min v hx hy = rw (lt_law (v.r 9) (v.r 10) hx hy, not-not)
zbb_law Zbb.Minu v hx hy = rw (c_law (v.r 9) (v.r 10) hx hy, not_leb)
zbb_law Zbb.SextB v hx hy = by_shifts (v.r 9) 8 56 (omega arith) refl
zbb_law Zbb.SextH v hx hy = by_shifts (v.r 9) 16 48 (omega arith) refl
zbb_law Zbb.ZextH v hx hy = and_mask (v.r 9) 16
zbb_law Zbb.Rol v hx hy = rw (difference-sub 0 (v.r 10) hy) (rol_law (v.r 9) (v.r 10) hx hy)
zbb_law Zbb.Rolw v hx hy = rw (and32 (v.r 9), and31 (v.r 10), back (v.r 10))
zbb_law Zbb.Ror v hx hy = refl
zbb_law Zbb.Rorw v hx hy = rw (and32 (v.r 9), and31 (v.r 10), back (v.r 10))
zbb_law Zbb.OrcB v hx hy = orcb_law (v.r 9)
zbb_law Zbb.Rev8 v hx hy = refl

pub zbb_fine : (k : Zbb) → Fine (zbb_body k)
unfolding zbb_body all_fit fits form-fits keeps written all_keep scratch calls-run call_step form_step decode
zbb_fine Zbb.Andn = record { fit = tt; stay = refl; range = omega arith; slots = λ v. refl }
zbb_fine Zbb.Orn = record { fit = tt; stay = refl; range = omega arith; slots = λ v. refl }
zbb_fine Zbb.Xnor = record { fit = tt; stay = refl; range = omega arith; slots = λ v. refl }
zbb_fine Zbb.Clz = record { fit = tt; stay = refl; range = omega arith; slots = λ v. refl }
zbb_fine Zbb.Clzw = record { fit = tt; stay = refl; range = omega arith; slots = λ v. refl }
zbb_fine Zbb.Ctz = record { fit = tt; stay = refl; range = omega arith; slots = λ v. refl }
zbb_fine Zbb.Ctzw = record { fit = tt; stay = refl; range = omega arith; slots = λ v. refl }
zbb_fine Zbb.Cpop = record { fit = tt; stay = refl; range = omega arith; slots = λ v. refl }
zbb_fine Zbb.Cpopw = record { fit = tt; stay = refl; range = omega arith; slots = λ v. refl }
zbb_fine Zbb.Max = record { fit = tt; stay = refl; range = omega arith; slots = λ v. refl }
zbb_fine Zbb.Maxu = record { fit = tt; stay = refl; range = omega arith; slots = λ v. refl }
zbb_fine Zbb.Min = record { fit = tt; stay = refl; range = omega arith; slots = λ v. refl }
zbb_fine Zbb.Minu = record { fit = tt; stay = refl; range = omega arith; slots = λ v. refl }
zbb_fine Zbb.SextB = record { fit = tt; stay = refl; range = omega arith; slots = λ v. refl }
zbb_fine Zbb.SextH = record { fit = tt; stay = refl; range = omega arith; slots = λ v. refl }
zbb_fine Zbb.ZextH = record { fit = tt; stay = refl; range = omega arith; slots = λ v. refl }
zbb_fine Zbb.Rol = record { fit = tt; stay = refl; range = omega arith; slots = λ v. refl }
zbb_fine Zbb.Rolw = record { fit = tt; stay = refl; range = omega arith; slots = λ v. refl }
zbb_fine Zbb.Ror = record { fit = tt; stay = refl; range = omega arith; slots = λ v. refl }
zbb_fine Zbb.Rorw = record { fit = tt; stay = refl; range = omega arith; slots = λ v. refl }
zbb_fine Zbb.OrcB = record { fit = tt; stay = refl; range = omega arith; slots = λ v. refl }
zbb_fine Zbb.Rev8 = record { fit = tt; stay = refl; range = omega arith; slots = λ v. refl }

-- ---- the instruction of a word w

module _ (r₀ : ℕ → ℕ) (pc : ℕ) (v : Model) (κ : Kept r₀ true v) (w : ℕ) where
  register_agrees : (z : Zbb) → Agrees 4 pc v (Instr.Zbb z (rd w) (rs1 w) (rs2 w)) (computes (load 9 (rs1 w) ∷ load 10 (rs2 w) ∷ []) z w)
  register_agrees z =
      result_agrees r₀ 4 pc v κ (load 9 (rs1 w) ∷ load 10 (rs2 w) ∷ []) (zbb_body z) _ (rd w) (zbb_value z (read v.slots (rs1 w)) (read v.slots (rs2 w)))
      (two (rs1 w) (rs2 w) (omega arith) (omega arith)) (zbb_fine z) (omega arith)
      (unfold calls-run call_step in (zbb_law z (calls-run (load 9 (rs1 w) ∷ load 10 (rs2 w) ∷ []) v) (read-lt κ (rs1 w)) (read-lt κ (rs2 w))))
      (unfold exec in refl)

  number_agrees : (z : Zbb) (n : ℕ) → n < 64 → Agrees 4 pc v (Instr.ZbbImm z (rd w) (rs1 w) n) (computes (load 9 (rs1 w) ∷ mov_imm64 10 n ∷ []) z w)
  number_agrees z n h =
      result_agrees r₀ 4 pc v κ (load 9 (rs1 w) ∷ mov_imm64 10 n ∷ []) (zbb_body z) _ (rd w) (zbb_value z (read v.slots (rs1 w)) n)
      (with_constant (rs1 w) n (omega arith) (omega arith)) (zbb_fine z) (omega arith)
      (unfold calls-run call_step in (zbb_law z (calls-run (load 9 (rs1 w) ∷ mov_imm64 10 n ∷ []) v) (read-lt κ (rs1 w)) (omega arith)))
      (unfold exec in refl)

  -- its value does not ask for the second operand
  unary_agrees : (z : Zbb) → ((x y : ℕ) → zbb_value z x y ≡ zbb_value z x 0) → Agrees 4 pc v (Instr.ZbbImm z (rd w) (rs1 w) 0) (computes (load 9 (rs1 w) ∷ []) z w)
  unary_agrees z one_operand =
      result_agrees r₀ 4 pc v κ (load 9 (rs1 w) ∷ []) (zbb_body z) _ (rd w) (zbb_value z (read v.slots (rs1 w)) 0)
      (one (rs1 w) (omega arith)) (zbb_fine z) (omega arith)
      (unfold calls-run call_step in (zbb_law z (calls-run (load 9 (rs1 w) ∷ []) v) (read-lt κ (rs1 w)) (κ.regs 10) ∙ one_operand _ _))
      (unfold exec in refl)

  -- where Zbb stands first in the definition of the ISA and in translation, and the two agree on the others, they agree
  pub zbb_agrees : (i : Instr) (e : Emission) → Agrees 4 pc v i e → Agrees 4 pc v (zbb_or (find w) w i) (zbb_first (find w) w e)
  unfolding zbb_or zbb_first emission unaries zbb_value
  zbb_agrees i e other =
      found_has (λ (f : MaybeZbb). Agrees 4 pc v (zbb_or f w i) (zbb_first f w e)) w register_agrees number_agrees (
        unary_agrees Zbb.Clz (λ x y. refl),
        (
          unary_agrees Zbb.Ctz (λ x y. refl),
          (
            unary_agrees Zbb.Cpop (λ x y. refl),
            (
              unary_agrees Zbb.Clzw (λ x y. refl),
              (
                unary_agrees Zbb.Ctzw (λ x y. refl),
                (
                  unary_agrees Zbb.Cpopw (λ x y. refl),
                  (
                    unary_agrees Zbb.SextB (λ x y. refl),
                    (
                      unary_agrees Zbb.SextH (λ x y. refl),
                      (unary_agrees Zbb.ZextH (λ x y. refl), (unary_agrees Zbb.OrcB (λ x y. refl), (unary_agrees Zbb.Rev8 (λ x y. refl), tt))),
                    ),
                  ),
                ),
              ),
            ),
          ),
        ),
      )
      other
