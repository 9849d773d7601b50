-- A constant's words put it in its register (document 01, rule 8). Assumes nothing.
use mathlib.Core.Path.{◌≡◌, refl, ap, ◌∙◌}
use mathlib.Core.Bool.{Bool, true, false, cond}
use mathlib.Core.List.{[], ◌∷◌, ◌++◌}
use Prim.Native.Nat.{ℕ, ◌+◌, ◌*◌, ◌%◌, ◌^◌, ◌<◌}
use native.Mathlib.Nat.{mul-one}
use native.Mathlib.Omega.{arith}
use lib.Dec.{eqb}
use lib.ListN.{length}
use lib.Seq.{get_or-set_same, set-set}
use borrow.Author.Tests.{eqb-true}
use Rattle.a64.specs.declared.Form.TheVariants.{Movz, Movk}
use Rattle.a64.specs.Forms.{encode}
use Rattle.a64_emitter.specs.Writers.{part, movk, mov_imm64}
use Rattle.a64_exec.specs.Exec.{State, reg, with_reg, exec}
use Rattle.a64_alu.specs.Alu.{insert}
use Rattle.a64_run.proofs.Straight.{Straight, straight_append, one_form}

module _ (s : State) (d : ℕ) (hd : d < 31) (hl : d < length s.x) where
  twice : (x y : ℕ) → with_reg (with_reg s d x) d y ≡ with_reg s d y
  twice x y = simp set-set

  put_get : (x : ℕ) → reg (with_reg s d x) d ≡ x
  put_get x = get_or-set_same s.x d x 0 hl

  -- MOVK of a halfword p that takes x to y, or nothing where p is 0
  upper_by : (h x p y : ℕ) → h < 4 → p < 65536 → insert x h p ≡ y → (p ≡ 0 → x ≡ y) → (c : Bool) → eqb p 0 ≡ c
      → Straight (cond c [] (encode (Movk d h p) ∷ [])) (with_reg s d x) (with_reg s d y)
  upper_by h x p y hh hp e z true q = ap (with_reg s d) (z (eqb-true p 0 q))
  upper_by h x p y hh hp e z false q =
      one_form (Movk d h p) _ _ (omega arith, hh, hp) (unfold exec in (rw (put_get x, e, twice x y)))

  upper-goes : (h x p y : ℕ) → h < 4 → p < 65536 → insert x h p ≡ y → (p ≡ 0 → x ≡ y)
      → Straight (movk d h p) (with_reg s d x) (with_reg s d y)
  unfolding movk
  upper-goes h x p y hh hp e z = upper_by h x p y hh hp e z (eqb p 0) refl

  insert2 : (x p : ℕ) → x < 2 ^ 32 → insert x 2 p ≡ x + p * 2 ^ 32
  unfolding insert
  insert2 x p h = omega arith

  join48 : (v : ℕ) → v % 2 ^ 32 + part v 2 * 2 ^ 32 ≡ v % 2 ^ 48
  join48 v = omega arith

  -- any number of 64 bits
  pub constant_goes : (v : ℕ) → v < 2 ^ 64 → Straight (mov_imm64 d v) s (with_reg s d v)
  unfolding mov_imm64 insert
  constant_goes v hv =
      straight_append (encode (Movz d 0 (v % 65536)) ∷ []) (movk d 1 (part v 1) ++ (movk d 2 (part v 2) ++ movk d 3 (part v 3))) _ _ _
      (one_form (Movz d 0 (v % 65536)) s (with_reg s d (v % 65536)) (omega arith, omega arith, omega arith) (unfold exec in (rw (mul-one (v % 65536)))))
      (straight_append (movk d 1 (part v 1)) _ _ _ _
      (upper-goes 1 (v % 65536) (part v 1) (v % 2 ^ 32) (omega arith) (omega arith) (omega arith) (λ z. omega arith))
      (straight_append (movk d 2 (part v 2)) _ _ _ _
      (upper-goes 2 (v % 2 ^ 32) (part v 2) (v % 2 ^ 48) (omega arith) (omega arith)
      (insert2 (v % 2 ^ 32) (part v 2) (omega arith) ∙ join48 v) (λ z. omega arith))
      (upper-goes 3 (v % 2 ^ 48) (part v 3) v (omega arith) (omega arith) (omega arith) (λ z. omega arith))))
