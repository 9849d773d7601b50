-- The library's bytes of a number, as numbers in a list of bytes. Assumes nothing.
use mathlib.Core.Path.{◌≡◌, refl, ◌∙◌}
use mathlib.Core.List.{List}
use Prim.Native.Nat.{ℕ, zero, suc, ◌+◌, ◌-◌, ◌*◌, ◌/◌, ◌^◌, ◌≤◌}
use native.Mathlib.Nat.{pow-suc, div-div-eq-div-mul, div-one, add-zero, mul_comm}
use native.Mathlib.Numerals.{add-one}
use native.Mathlib.Omega.{arith}
use lib.ListN.{length, get_or}
use lib.Seq.{drop-drop}
use borrow.Rule.Slice.PartMut.{put_mid}
use Rattle.std.specs.Int.{bytes_low_first, byte_worth, sum_through}
use Rattle.le.specs.Le.{bytes, load, store}
use Rattle.le.proofs.Laws.{load-add, load_byte}

-- k bytes of n from byte i on
low_first : (k i n : ℕ) → bytes_low_first i k n ≡ bytes k (n / 256 ^ i)
unfolding bytes
low_first zero i n = refl
low_first (suc k) zero n = rw (div-one n) (rw (low_first k 1 n))
low_first (suc k) (suc i) n =
    rw (low_first k (suc (suc i)) n, div-div-eq-div-mul n (256 ^ suc i) 256, pow-suc 256 (suc i))

pub low_bytes : (k v : ℕ) → bytes_low_first 0 k v ≡ bytes k v
low_bytes k v = low_first k 0 v ∙ rw (div-one v)

-- the bytes of v over k of m, as a store
pub put_low : (k at e : ℕ) (m ys zs : List ℕ) (v : ℕ) → e ≡ at + k → ys ≡ zs → zs ≡ bytes_low_first 0 k v → put_mid at (e - at) m ys ≡ store k m at v
unfolding store
put_low k at e m ys zs v h p q =
    let b : ys ≡ bytes k v = p ∙ q ∙ low_bytes k v in
    let d : e - at ≡ k = omega arith in
    rw (b, d, drop-drop k at m)

-- the bytes from at on, each with its worth
pub worths : (k : ℕ) (m : List ℕ) (at : ℕ) → at + suc k ≤ length m
    → load (suc k) m at ≡ sum_through (λ i. byte_worth i (get_or m (at + i) 0)) k
worths zero m at h = rw (load_byte m at (omega arith), add-zero at)
worths (suc k) m at h =
    let e : load (suc k + 1) m at ≡ load (suc k) m at + 256 ^ suc k * load 1 m (at + suc k) = load-add (suc k) 1 m at in
    rw (← add-one (suc k), e, worths k m at (omega arith), load_byte m (at + suc k) (omega arith), mul_comm (256 ^ suc k))
