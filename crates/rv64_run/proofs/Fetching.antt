-- What is fetched is what its encoding stands for, and lies inside the bytes.
use Rattle.std.proofs.Common.{Option, Some, None}
use mathlib.Core.Bool.{Bool, true, false, cond, not}
use mathlib.Core.Path.{◌≡◌, refl, subst}
use mathlib.Core.List.{List}
use Prim.Native.Nat.{ℕ, ◌%◌, ◌≤◌}
use native.Mathlib.Omega.{arith}
use lib.Dec.{ltb, eqb}
use lib.ListN.{length, drop}
use borrow.Author.Tests.{ltb-false}
use Rattle.le.specs.Le.{load}
use Rattle.rv64.specs.declared.decode.Instr.{Instr}
use Rattle.rv64_run.specs.declared.run.Encoding.{Encoding}
use Rattle.rv64.specs.Decode.{decode32}
use Rattle.rvc.specs.Compressed.{decode16}
use Rattle.rv64_run.specs.Run.{Fetched, halfword, fetch}
use Rattle.rv64_run.specs.Parts.{encoding}

unfoldable pub decoded : Bool → Option Encoding → Fetched
decoded e None = None
decoded e (Some (Encoding.Half w)) = Some (decode16 e w, 2)
decoded e (Some (Encoding.Word w)) = Some (decode32 w, 4)

by_tests : (a b c : Bool) (e : Bool) (h w : ℕ)
    → cond a None (cond b (Some (decode16 e h, 2)) (cond c None (Some (decode32 w, 4))))
    ≡ decoded e (cond a None (cond b (Some (Encoding.Half h)) (cond c None (Some (Encoding.Word w)))))
unfolding decoded
by_tests true b c e h w = refl
by_tests false true c e h w = refl
by_tests false false true e h w = refl
by_tests false false false e h w = refl

pub fetched : (e : Bool) (bs : List ℕ) → fetch e bs ≡ decoded e (encoding bs)
unfolding fetch encoding
fetched e bs = by_tests (ltb (length bs) 2) (not (eqb (halfword bs % 4) 3)) (ltb (length bs) 4) e _ _

-- the length of what was fetched
abbrev length_of : {A : Type 0} → Option (A × ℕ) → ℕ
length_of None = 0
length_of (Some p) = p.1

sized : (a b c : Bool) (i₁ i₂ : Instr) {n : ℕ} → (a ≡ false → 2 ≤ n) → (c ≡ false → 4 ≤ n)
    → length_of (cond a None (cond b (Some (i₁, 2)) (cond c None (Some (i₂, 4))))) ≤ n
sized true b c j k f g = omega arith
sized false true c j k f g = f refl
sized false false true j k f g = omega arith
sized false false false j k f g = g refl

pub within : (e : Bool) (bs : List ℕ) {i : Instr} {size : ℕ} → fetch e bs ≡ Some (i, size) → size ≤ length bs
unfolding fetch
within e bs q =
    subst (λ (f : Fetched). length_of f ≤ length bs) q
    (sized (ltb (length bs) 2) (not (eqb (halfword bs % 4) 3)) (ltb (length bs) 4) _ _ (ltb-false _ _) (ltb-false _ _))

-- the bytes from a place on begin with those at the place
pub at_front : (k at : ℕ) (g : List ℕ) → load k (drop at g) 0 ≡ load k g at
unfolding load
at_front k at g = refl
