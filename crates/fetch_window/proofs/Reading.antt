-- What a read says of the bytes, and the indices of PCs. Assumes nothing.
use Prim.Native.Nat.{ℕ, ◌+◌, ◌^◌, ◌<◌, ◌≤◌}
use native.Mathlib.Omega.{arith}
use mathlib.Core.Bool.{Bool, true, false, cond}
use mathlib.Core.List.{List}
use mathlib.Core.Path.{◌≡◌, refl}
use lib.Dec.{leb}
use lib.ListN.{length}
use borrow.Author.Tests.{leb-true, leb-false}
use Rattle.word.specs.Word.{add}
use Rattle.le.specs.Le.{load}
use Rattle.std.specs.Prelude.{Option, Some, None}
use Rattle.fetch_window.specs.Parts.{halfword_at, index}

module _ (bytes : List ℕ) (i : ℕ) where
  found_by : (w : ℕ) (b : Bool) → leb (i + 2) (length bytes) ≡ b → cond b (Some (load 2 bytes i)) None ≡ Some w
      → (i + 2 ≤ length bytes) × (load 2 bytes i ≡ w)
  found_by w true t e = (leb-true (i + 2) (length bytes) t, cc)
  found_by w false t e = absurd (let z : ◌≡◌ {A = ℕ} 0 1 = cc in omega arith)

  pub found : (w : ℕ) → halfword_at bytes i ≡ Some w → (i + 2 ≤ length bytes) × (load 2 bytes i ≡ w)
  unfolding halfword_at
  found w e = found_by w (leb (i + 2) (length bytes)) refl e

  missing_by : (b : Bool) → leb (i + 2) (length bytes) ≡ b → cond b (Some (load 2 bytes i)) None ≡ None → length bytes < i + 2
  missing_by true t e = let z : ◌≡◌ {A = ℕ} 0 1 = cc in omega arith
  missing_by false t e = leb-false (i + 2) (length bytes) t

  pub missing : halfword_at bytes i ≡ None → length bytes < i + 2
  unfolding halfword_at
  missing e = missing_by (leb (i + 2) (length bytes)) refl e

-- a PC that lies i after the start PC
pub index-add : (start i : ℕ) → start < 2 ^ 64 → i < 2 ^ 64 → index start (add start i) ≡ i
index-add start i hs hi = omega arith

-- the PC of the next halfword
pub index-next : (start pc : ℕ) → start < 2 ^ 64 → pc < 2 ^ 64 → index start pc + 2 < 2 ^ 64 → index start (add pc 2) ≡ index start pc + 2
index-next start pc hs hp h = omega arith
