-- Registers as a function, whose updates compute at numerals, and the list of them. Assumes nothing.
use mathlib.Core.Path.{◌≡◌, refl, sym, ap, ◌∙◌, fun_ext}
use mathlib.Core.Bool.{Bool, true, false, cond}
use mathlib.Core.List.{List, [], ◌∷◌}
use Prim.Native.Nat.{ℕ, zero, suc, ◌≤◌, ◌<◌}
use native.Mathlib.Nat.{not-suc-le-zero, le_of_suc-le-suc}
use native.Mathlib.Omega.{arith}
use lib.Dec.{eqb, eqb-zero-suc, eqb-suc-zero, eqb-suc-suc}
use lib.ListN.{length, get_or, set, replicate}
use borrow.Author.Tests.{eqb-true, eqb-false}

-- f with v at k
abbrev pub upd : (ℕ → ℕ) → ℕ → ℕ → ℕ → ℕ
upd f k v = λ j. cond (eqb j k) v (f j)

-- the list of f 0 to f (n - 1)
unfoldable pub tab : ℕ → (ℕ → ℕ) → List ℕ
tab zero f = []
tab (suc n) f = f 0 ∷ tab n (λ k. f (suc k))

pub length_tab : (n : ℕ) (f : ℕ → ℕ) → length (tab n f) ≡ n
unfolding tab
length_tab zero f = refl
length_tab (suc n) f = ap suc (length_tab n (λ k. f (suc k)))

pub getD_tab : (n : ℕ) (f : ℕ → ℕ) (j : ℕ) → j < n → get_or (tab n f) j 0 ≡ f j
unfolding tab
getD_tab zero f j h = absurd (not-suc-le-zero h)
getD_tab (suc n) f zero h = refl
getD_tab (suc n) f (suc j) h = getD_tab n (λ k. f (suc k)) j (le_of_suc-le-suc h)

pub tab_below : (b n : ℕ) (f : ℕ → ℕ) (j : ℕ) → 0 < b → ((k : ℕ) → f k < b) → get_or (tab n f) j 0 < b
unfolding tab
tab_below b zero f j z h = z
tab_below b (suc n) f zero z h = h 0
tab_below b (suc n) f (suc j) z h = tab_below b n (λ k. f (suc k)) j z (λ k. h (suc k))

tab_out : (n : ℕ) (f : ℕ → ℕ) (j : ℕ) → n ≤ j → get_or (tab n f) j 0 ≡ 0
unfolding tab
tab_out zero f j h = refl
tab_out (suc n) f zero h = absurd (not-suc-le-zero h)
tab_out (suc n) f (suc j) h = tab_out n (λ k. f (suc k)) j (le_of_suc-le-suc h)

pub set_tab : (n : ℕ) (f : ℕ → ℕ) (j v : ℕ) → set (tab n f) j v ≡ tab n (upd f j v)
unfolding tab
set_tab zero f j v = refl
set_tab (suc n) f zero v = ap (λ (g : ℕ → ℕ). v ∷ tab n g) (fun_ext (λ k. sym (simp eqb-suc-zero)))
set_tab (suc n) f (suc j) v = ap (λ (l : List ℕ). f 0 ∷ l) (set_tab n (λ k. f (suc k)) j v) ∙ simp (eqb-zero-suc, eqb-suc-suc)

pub tab_getD : (l : List ℕ) → tab (length l) (λ k. get_or l k 0) ≡ l
unfolding tab
tab_getD [] = refl
tab_getD (x ∷ xs) = ap (λ (l : List ℕ). x ∷ l) (tab_getD xs)

-- X0 to X30 as operands: 31 is zero
pub operand_tab : (f : ℕ → ℕ) (k : ℕ) → k < 32 → get_or (tab 31 f) k 0 ≡ cond (eqb k 31) 0 (f k)
operand_tab f k h = by (eqb k 31) refl
  where
    by : (c : Bool) → eqb k 31 ≡ c → get_or (tab 31 f) k 0 ≡ cond c 0 (f k)
    by true q = tab_out 31 f k (omega (arith, eqb-true k 31 q))
    by false q = getD_tab 31 f k (omega (arith, eqb-false k 31 q))

-- a list of zeros
pub zeros_below : (b n i : ℕ) → 0 < b → get_or (replicate n 0) i 0 < b
zeros_below b zero i h = h
zeros_below b (suc n) zero h = h
zeros_below b (suc n) (suc i) h = zeros_below b n i h
