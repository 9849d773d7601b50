-- Laws of numbers of k bytes in a row: each in its place, one more read or written, and back. Assumes nothing.
use mathlib.Core.Path.{◌≡◌, refl, sym, ap, ◌∙◌}
use mathlib.Core.List.{List, [], ◌∷◌, ◌++◌, append_assoc, append-nil}
use Prim.Native.Nat.{ℕ, zero, suc, ◌+◌, ◌*◌, ◌^◌, ◌≤◌, ◌<◌}
use native.Mathlib.Nat.{mul-zero, mul-suc, add_comm, not-suc-le-zero, le_of_suc-le-suc}
use native.Mathlib.Numerals.{add-one}
use native.Mathlib.Omega.{arith}
use lib.ListN.{length, take, drop, get_or, set, length-append}
use lib.Seq.{drop-drop, drop-nil, take_at, drop_at, drop-append-add, take-suc, take-suc-set, drop-length, length-take-le}
use Rattle.le.specs.Le.{number, bytes, load, store, numbers, all_bytes}
use Rattle.le.specs.Parts.{over}
use Rattle.le.proofs.Laws.{length-bytes, number-bytes}

-- ---- reading

-- number i, and those after it
pub numbers_at : (k n : ℕ) (m : List ℕ) (i : ℕ) → i < n → drop i (numbers k n m) ≡ load k m (k * i) ∷ drop (suc i) (numbers k n m)
unfolding numbers load number
numbers_at k zero m i h = absurd (not-suc-le-zero h)
numbers_at k (suc n) m zero h = rw (mul-zero k)
numbers_at k (suc n) m (suc i) h =
    rw (mul-suc k i, add_comm (k * i) k, ← drop-drop (k * i) k m) (numbers_at k n (drop k m) i (le_of_suc-le-suc h))

-- nothing after the last
pub numbers-over : (k n : ℕ) (m : List ℕ) (i : ℕ) → n ≤ i → drop i (numbers k n m) ≡ []
unfolding numbers
numbers-over k zero m i h = drop-nil i
numbers-over k (suc n) m zero h = absurd (not-suc-le-zero h)
numbers-over k (suc n) m (suc i) h = numbers-over k n (drop k m) i (le_of_suc-le-suc h)

numbers_more : (k n : ℕ) (m : List ℕ) → numbers k (suc n) m ≡ numbers k n m ++ (load k m (k * n) ∷ [])
unfolding numbers load number
numbers_more k zero m = rw (mul-zero k)
numbers_more k (suc n) m =
    rw (mul-suc k n, add_comm (k * n) k, ← drop-drop (k * n) k m) (ap (λ (l : List ℕ). number (take k m) ∷ l) (numbers_more k n (drop k m)))

-- one number more in the array x
pub read_more : (k : ℕ) (x m : List ℕ) (i v : ℕ) → i < length x → take i x ≡ numbers k i m → v ≡ load k m (k * i)
    → take (i + 1) (set x i v) ≡ numbers k (i + 1) m
read_more k x m i v h e q = rw (add-one, take-suc-set x i v h, e, q, numbers_more k i m)

-- ---- writing

pub length-all_bytes : (k : ℕ) (vs : List ℕ) → length (all_bytes k vs) ≡ k * length vs
unfolding all_bytes
length-all_bytes k [] = sym (mul-zero k)
length-all_bytes k (v ∷ vs) =
    rw (length-append (bytes k v) (all_bytes k vs), length-bytes k v, length-all_bytes k vs, mul-suc k (length vs)) (add_comm k (k * length vs))

all_bytes_more : (k : ℕ) (vs : List ℕ) (v : ℕ) → all_bytes k (vs ++ (v ∷ [])) ≡ all_bytes k vs ++ bytes k v
unfolding all_bytes
all_bytes_more k [] v = append-nil (bytes k v)
all_bytes_more k (w ∷ vs) v = rw (all_bytes_more k vs v, append_assoc)

-- a number stored after those that stand at the front
pub over_more : (k : ℕ) (vs m : List ℕ) (v i : ℕ) → i ≡ k * length vs → store k (over k vs m) i v ≡ over k (vs ++ (v ∷ [])) m
unfolding store
over_more k vs m v i h =
    let l : length (all_bytes k vs) ≡ i = length-all_bytes k vs ∙ sym h in
    let d : drop (i + k) (over k vs m) ≡ drop k (drop (k * length vs) m) = rw l at (drop-append-add (all_bytes k vs) (drop (k * length vs) m) k) in
    let n : k * length (vs ++ (v ∷ [])) ≡ k * length vs + k = rw (length-append vs (v ∷ []), add-one) (mul-suc k (length vs)) in
    rw (take_at (all_bytes k vs) (drop (k * length vs) m) i l, d, drop-drop k (k * length vs) m, all_bytes_more k vs v, n) (simp append_assoc)

-- one number more of the array x
pub write_more : (k : ℕ) (x m b b' : List ℕ) (i : ℕ) → i < length x → b ≡ over k (take i x) m → b' ≡ store k b (k * i) (get_or x i 0)
    → b' ≡ over k (take (i + 1) x) m
write_more k x m b b' i h e q =
    let l : k * i ≡ k * length (take i x) = ap (λ (n : ℕ). k * n) (sym (length-take-le i x (omega arith))) in
    rw (q, e, add-one, take-suc x i 0 h) (over_more k (take i x) m (get_or x i 0) (k * i) l)

-- the numbers take all bytes
pub over-all : (k : ℕ) (vs m : List ℕ) → length m ≡ k * length vs → over k vs m ≡ all_bytes k vs
over-all k vs m h = rw (← h, drop-length m) (append-nil (all_bytes k vs))

-- ---- back

-- each number has k bytes
abbrev pub Fit : ℕ → List ℕ → Type 0
Fit k [] = Unit {0}
Fit k (v ∷ vs) = (v < 256 ^ k) × Fit k vs

pub numbers-bytes : (k : ℕ) (vs : List ℕ) → Fit k vs → numbers k (length vs) (all_bytes k vs) ≡ vs
unfolding numbers all_bytes
numbers-bytes k [] h = refl
numbers-bytes k (v ∷ vs) h =
    rw (take_at (bytes k v) (all_bytes k vs) k (length-bytes k v), drop_at (bytes k v) (all_bytes k vs) k (length-bytes k v), number-bytes k v h.0, numbers-bytes k vs h.1)
