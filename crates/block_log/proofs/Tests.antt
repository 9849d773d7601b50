-- A statement on a test's answer, from the statement on each answer. Assumes nothing.
use mathlib.Core.Path.{◌≡◌, refl}
use mathlib.Core.Logic.{◌⊎◌, inl, inr}
use mathlib.Core.Bool.{Bool, true, false}
use Prim.Native.Nat.{ℕ, ◌≤◌, ◌<◌}
use native.Mathlib.Omega.{arith}
use lib.Dec.{eqb, ltb}
use borrow.Author.Tests.{eqb-true, eqb-false, ltb-true, ltb-false}

pub by_test : (P : Bool → Type 0) (t : Bool) → (t ≡ true → P true) → (t ≡ false → P false) → P t
by_test P true f g = f refl
by_test P false f g = g refl

pub by_eqb : (P : Bool → Type 0) (a b : ℕ) → (a ≡ b → P true) → ((a ≡ b → ⊥) → P false) → P (eqb a b)
by_eqb P a b f g = by_test P (eqb a b) (λ q. f (eqb-true a b q)) (λ q. g (eqb-false a b q))

pub by_ltb : (P : Bool → Type 0) (a b : ℕ) → (a < b → P true) → (b ≤ a → P false) → P (ltb a b)
by_ltb P a b f g = by_test P (ltb a b) (λ q. f (ltb-true a b q)) (λ q. g (ltb-false a b q))

-- two numbers that differ
pub apart : (a b : ℕ) → (a ≡ b → ⊥) → (a < b) ⊎ (b < a)
apart a b h = by_ltb (λ (t : Bool). (a < b) ⊎ (b < a)) a b inl (λ l. inr (omega arith))
