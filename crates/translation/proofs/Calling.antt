-- The words of a helper's call, and those after it, on the machine. Assumes nothing.
use mathlib.Core.Path.{◌≡◌, refl, ap, ◌∙◌}
use mathlib.Core.Bool.{Bool, true, false}
use mathlib.Core.List.{[], ◌∷◌, ◌++◌, flatten}
use Prim.Native.Nat.{ℕ, ◌+◌, ◌*◌, ◌%◌, ◌^◌, ◌≤◌, ◌<◌}
use native.Mathlib.Omega.{arith}
use lib.Dec.{eqb}
use lib.ListN.{length, length-set}
use lib.Seq.{get_or-set_same, get_or-set_other}
use borrow.Author.Tests.{le-leb, eq-eqb, eqb-true}
use Rattle.word.specs.Word.{wrap, add}
use Rattle.le.specs.Le.{load, store}
use Rattle.a64.specs.declared.Op.TheVariants.{Add}
use Rattle.a64.specs.declared.Form.TheVariants.{DataProcessing, Ldr, Str, AddSp, SubSp}
use Rattle.a64_alu.specs.Alu.{op_value}
use Rattle.a64_emitter.specs.Writers.{add_x, ldr_x, str_x, sub_sp_imm, add_sp_imm}
use Rattle.a64_emitter.specs.Writers as Writers
use Rattle.a64_exec.specs.Exec.{State, reg, with_reg, with_sp, with_mem, reaches, exec, next}
use Rattle.a64_run.specs.declared.run.End.{End}
use Rattle.a64_run.specs.Run as A64
use Rattle.a64_run.proofs.Straight.{Straight, straight_append, one_form}
use Rattle.emit_native.specs.Calls.{words_in, words}
use Rattle.translation.specs.HelperBlock.{lowered, cell, Stack, Returns}
use Rattle.translation.proofs.Constants.{constant_goes}
use Rattle.translation.proofs.Arguments.{restoring}

module _ (o : ℕ) (s : State) (σ : Stack o s) where
  -- a state with SP lowered, and memory where it was
  pub record Lowered (t : State) : Type 0 where
    pub sp : t.sp ≡ lowered s
    pub base : t.base ≡ s.base
    pub size : length t.mem ≡ length s.mem

  -- an access at SP
  cell-reaches : (t : State) → Lowered t → reaches t 31 (lowered s) ≡ true
  unfolding reaches
  cell-reaches t l =
      let i = σ.inside in
      let a : t.base ≤ lowered s = rw l.base i.0 in
      let b : lowered s + 8 ≤ t.base + length t.mem = rw (l.base, l.size) (omega (arith, i.1)) in
      let c : lowered s % 8 ≡ 0 = omega (arith, σ.aligned, σ.small) in
      let d : t.sp % 16 ≡ 0 = rw l.sp (omega (arith, σ.aligned, σ.small)) in
      rw (le-leb t.base (lowered s) a, le-leb (lowered s + 8) (t.base + length t.mem) b, eq-eqb (lowered s % 8) 0 c, eq-eqb (t.sp % 16) 0 d)

  cell-address : (t : State) → Lowered t → wrap (t.sp + 0 * 8) ≡ lowered s
  cell-address t l = omega (arith, l.sp)

  -- ---- up to the call

  -- SP less 16, X30 stored there
  lowers : (t : State) → t.sp ≡ s.sp → exec (SubSp 16) t ≡ next (with_sp t (lowered s))
  unfolding exec
  lowers t hs = rw hs (ap (λ (z : ℕ). next (with_sp t z)) (omega arith))

  stores : (t : State) → Lowered t → exec (Str 30 31 0) t ≡ next (with_mem t (store 8 t.mem (cell s) (reg t 30)))
  unfolding exec
  stores t l = rw (cell-address t l, cell-reaches t l, l.base)

  pub saves : (t : State) → t.sp ≡ s.sp → t.base ≡ s.base → length t.mem ≡ length s.mem
      → Straight (sub_sp_imm 16 ∷ str_x 30 31 0 ∷ []) t (with_mem (with_sp t (lowered s)) (store 8 t.mem (cell s) (reg t 30)))
  saves t hs hb hl =
      straight_append (sub_sp_imm 16 ∷ []) (str_x 30 31 0 ∷ []) _ _ _
      (one_form (SubSp 16) t (with_sp t (lowered s)) (omega arith) (lowers t hs))
      (one_form (Str 30 31 0) (with_sp t (lowered s)) _ (omega arith) (stores (with_sp t (lowered s)) (record { sp = refl; base = hb; size = hl })))

  -- ---- after it

  -- the words that bring X30 and SP back and add the prefix n to X1, from t on; k: how many steps they take with RET
  abbrev pub Resumes : State → ℕ → Type 0
  Resumes t n = (u : State) × Straight (words o (restoring n)) t u × ((k : ℕ) → Returns s t k n (A64.ran End.Returned k u))

  module _ (t : State) (l : Lowered t) (hc : length t.x ≡ 31) (h1 : reg t 1 < 2 ^ 64) (hv : load 8 t.mem (cell s) ≡ reg s 30) where
    abbrev back : State
    back = with_sp (with_reg t 30 (reg s 30)) s.sp

    loads : exec (Ldr 30 31 0) t ≡ next (with_reg t 30 (reg s 30))
    unfolding exec
    loads = rw (cell-address t l, cell-reaches t l, l.base, hv)

    raises : exec (AddSp 16) (with_reg t 30 (reg s 30)) ≡ next back
    unfolding exec
    raises = ap (λ (z : ℕ). next (with_sp (with_reg t 30 (reg s 30)) z)) (omega (arith, l.sp, σ.small))

    backs : Straight (ldr_x 30 31 0 ∷ add_sp_imm 16 ∷ []) t back
    backs =
        straight_append (ldr_x 30 31 0 ∷ []) (add_sp_imm 16 ∷ []) _ _ _
        (one_form (Ldr 30 31 0) t (with_reg t 30 (reg s 30)) (omega arith) loads)
        (one_form (AddSp 16) (with_reg t 30 (reg s 30)) back (omega arith) raises)

    abbrev twelve : ℕ → State
    twelve n = with_reg back 12 n

    abbrev summed : ℕ → State
    summed n = with_reg (twelve n) 1 (add (reg t 1) n)

    -- registers other than X30, X12 and X1
    beside : (k : ℕ) → (k ≡ 30 → ⊥) → reg back k ≡ reg t k
    beside k h = get_or-set_other t.x 30 k (reg s 30) 0 h

    apart : (n k : ℕ) → (k ≡ 1 → ⊥) → (k ≡ 12 → ⊥) → reg (summed n) k ≡ reg back k
    apart n k a b = get_or-set_other (twelve n).x 1 k (add (reg t 1) n) 0 a ∙ get_or-set_other back.x 12 k n 0 b

    count : length back.x ≡ 31
    count = length-set t.x 30 (reg s 30) ∙ hc

    count12 : (n : ℕ) → length (twelve n).x ≡ 31
    count12 n = length-set back.x 12 n ∙ count

    at30 : reg back 30 ≡ reg s 30
    at30 = get_or-set_same t.x 30 (reg s 30) 0 (omega (arith, hc))

    sums : (n : ℕ) → exec (DataProcessing Add 1 1 12) (twelve n) ≡ next (summed n)
    unfolding exec op_value
    sums n =
        let a : reg (twelve n) 1 ≡ reg t 1 = get_or-set_other back.x 12 1 n 0 (λ e. omega arith) ∙ beside 1 (λ e. omega arith) in
        let b : reg (twelve n) 12 ≡ n = get_or-set_same back.x 12 n 0 (omega (arith, count)) in
        rw (a, b)

    adds : (n : ℕ) → n < 2 ^ 64 → Straight (Writers.mov_imm64 12 n ++ (add_x 1 1 12 ∷ [])) back (summed n)
    adds n hn =
        straight_append (Writers.mov_imm64 12 n) (add_x 1 1 12 ∷ []) back (twelve n) (summed n)
        (constant_goes back 12 (omega arith) (omega (arith, count)) n hn)
        (one_form (DataProcessing Add 1 1 12) (twelve n) (summed n) (omega arith) (sums n))

    by : (n : ℕ) → n < 2 ^ 64 → (c : Bool) → eqb n 0 ≡ c → Resumes t n
    unfolding words_in flatten
    by n hn true q = (
      back,
      rw q backs,
      λ k. record {
        end = refl;
        steps = refl;
        x0 = beside 0 (λ e. omega arith);
        x1 = beside 1 (λ e. omega arith) ∙ omega (arith, eqb-true n 0 q);
        sp = refl;
        x30 = at30;
        memory = refl;
        base = refl;
        high = λ k a b. beside k (λ e. omega arith);
      },
    )
    by n hn false q = (
      summed n,
      rw q (straight_append (ldr_x 30 31 0 ∷ add_sp_imm 16 ∷ []) (Writers.mov_imm64 12 n ++ (add_x 1 1 12 ∷ [])) t back (summed n) backs (adds n hn)),
      λ k. record {
        end = refl;
        steps = refl;
        x0 = apart n 0 (λ e. omega arith) (λ e. omega arith) ∙ beside 0 (λ e. omega arith);
        x1 = get_or-set_same (twelve n).x 1 (add (reg t 1) n) 0 (omega (arith, count12 n));
        sp = refl;
        x30 = apart n 30 (λ e. omega arith) (λ e. omega arith) ∙ at30;
        memory = refl;
        base = refl;
        high = λ k a b. apart n k (λ e. omega arith) (λ e. omega arith) ∙ beside k (λ e. omega arith);
      },
    )

    pub resumed : (n : ℕ) → n < 2 ^ 64 → Resumes t n
    resumed n hn = by n hn (eqb n 0) refl
