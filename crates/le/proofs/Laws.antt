-- Laws of numbers in bytes: a number of a + b bytes is one of a bytes and one of b after it. Assumes nothing.
use mathlib.Core.Path.{◌≡◌, refl, sym, ap, ◌∙◌}
use mathlib.Core.List.{List, [], ◌∷◌, ◌++◌, append_assoc}
use Prim.Native.Nat.{ℕ, zero, suc, ◌+◌, ◌-◌, ◌*◌, ◌/◌, ◌%◌, ◌^◌, ◌≤◌, ◌<◌}
use native.Mathlib.Nat.{zero-add, add-zero, suc-add, add_assoc, mul_assoc, mul_comm, pow-suc, div-div-eq-div-mul, div-one, div-lt_iff_lt-mul, not-suc-le-zero, le_of_suc-le-suc}
use native.Mathlib.Omega.{arith}
use native.Mathlib.Numerals.{add-one, one-add}
use mathlib.Core.Logic.{◌⊎◌, inl, inr}
use lib.ListN.{length, take, drop, get_or, set, length-append, length-take, length-drop, get_or-append}
use lib.Dec.{lit<}
use lib.Arith.{mod-mul, digits_mod, digits_div, lt-one}
use lib.Seq.{drop-drop, take_at, drop_at, drop-append-add, length-take-le, drop-cons, set_split, get_or-take, get_or-drop, get_or-append-add}
use Rattle.le.specs.Le.{Bytes, number, bytes, load, store}

take_none : (k : ℕ) → number (take k []) ≡ 0
unfolding number
take_none zero = refl
take_none (suc k) = refl

number-take : (a b : ℕ) (l : List ℕ) → number (take (a + b) l) ≡ number (take a l) + 256 ^ a * number (take b (drop a l))
unfolding number
number-take zero b l = rw (zero-add b) (omega arith)
number-take (suc a) b [] = rw (take_none (suc a + b), take_none b) (omega arith)
number-take (suc a) b (x ∷ l) =
    rw (suc-add a b, number-take a b l, pow-suc 256 a, mul_comm (256 ^ a) 256, mul_assoc 256 (256 ^ a)) (omega arith)

pow_pos : (k : ℕ) → 0 < 256 ^ k
pow_pos zero = omega arith
pow_pos (suc k) = let e : 0 < 256 ^ k = pow_pos k in rw (pow-suc 256 k) (omega arith)

pub load-add : (a b : ℕ) (m : List ℕ) (i : ℕ) → load (a + b) m i ≡ load a m i + 256 ^ a * load b m (i + a)
unfolding load
load-add a b m i = number-take a b (drop i m) ∙ rw (drop-drop a i m)

pub bytes-add : (a b v : ℕ) → bytes (a + b) v ≡ bytes a v ++ bytes b (v / 256 ^ a)
unfolding bytes
bytes-add zero b v = rw (zero-add b, div-one v)
bytes-add (suc a) b v =
    rw (suc-add a b, pow-suc 256 a, mul_comm (256 ^ a) 256, ← div-div-eq-div-mul v 256 (256 ^ a), bytes-add a b (v / 256))

-- only the low k bytes of a number count
pub bytes_low : (k v : ℕ) → bytes k (v % 256 ^ k) ≡ bytes k v
unfolding bytes
bytes_low zero v = refl
bytes_low (suc k) v =
    let l : v % 256 < 256 = omega arith in
    let z : 0 < 256 ^ k = pow_pos k in
    rw (pow-suc 256 k, mod-mul v z (lit< {m = 0} {n = 256} tt), digits_mod (v / 256 % 256 ^ k) l, digits_div (v / 256 % 256 ^ k) l, bytes_low k (v / 256))

pub length-bytes : (k v : ℕ) → length (bytes k v) ≡ k
unfolding bytes
length-bytes zero v = refl
length-bytes (suc k) v = ap suc (length-bytes k (v / 256))

pub store-add : (a b : ℕ) (m : List ℕ) (i v : ℕ) → i ≤ length m
    → store (a + b) m i v ≡ store b (store a m i v) (i + a) (v / 256 ^ a)
unfolding store
store-add a b m i v h =
    let n : length (take i m) ≡ i = length-take-le i m h in
    let p = take i m ++ bytes a v in
    let l : length p ≡ i + a = length-append (take i m) (bytes a v) ∙ rw (n, length-bytes a v) in
    let r = drop (i + a) m in
    let e : take i m ++ (bytes a v ++ r) ≡ p ++ r = sym (append_assoc (take i m) (bytes a v) r) in
    let d : drop (i + a + b) (p ++ r) ≡ drop b r = rw l at (drop-append-add p r b) in
    rw (e, take_at p r (i + a) l, d, drop-drop b (i + a) m, bytes-add a b v, ← add_assoc i a b) (simp append_assoc)

pub store_low : (k : ℕ) (m : List ℕ) (i v : ℕ) → store k m i (v % 256 ^ k) ≡ store k m i v
unfolding store
store_low k m i v = rw (bytes_low k v)

pub length-store : (k : ℕ) (m : List ℕ) (i v : ℕ) → i + k ≤ length m → length (store k m i v) ≡ length m
unfolding store
length-store k m i v h = simp (length-append, length-take, length-drop, length-bytes) (omega arith)

-- one byte

pub load_byte : (m : List ℕ) (i : ℕ) → i < length m → load 1 m i ≡ get_or m i 0
unfolding load number
load_byte m i h = rw (drop-cons m i 0 h) (omega arith)

pub store_byte : (m : List ℕ) (i v : ℕ) → i < length m → store 1 m i v ≡ set m i (v % 256)
unfolding store bytes
store_byte m i v h = rw (set_split m i (v % 256) h, add-one)

-- ---- a load after a store, and the bytes outside

pub number-bytes : (k v : ℕ) → v < 256 ^ k → number (bytes k v) ≡ v
unfolding number bytes
number-bytes zero v h = rw (lt-one h)
number-bytes (suc k) v h =
    let l : v / 256 < 256 ^ k = (div-lt_iff_lt-mul (lit< {m = 0} {n = 256} tt)).1 (rw (pow-suc 256 k) at h) in
    rw (number-bytes k (v / 256) l) (omega arith)

number_lt : (k : ℕ) (l : List ℕ) → Bytes l → length l ≤ k → number l < 256 ^ k
unfolding number Bytes
number_lt k [] h hk = pow_pos k
number_lt zero (b ∷ bs) h hk = absurd (not-suc-le-zero hk)
number_lt (suc k) (b ∷ bs) h hk =
    let hb : b < 256 = h 0 in
    let ih : number bs < 256 ^ k = number_lt k bs (λ i. h (suc i)) (le_of_suc-le-suc hk) in
    rw (pow-suc 256 k) (omega arith)

-- stored at i and loaded there
pub load_same : (k : ℕ) (m : List ℕ) (i v : ℕ) → i ≤ length m → v < 256 ^ k → load k (store k m i v) i ≡ v
unfolding load store
load_same k m i v h hv =
    rw (drop_at (take i m) (bytes k v ++ drop (i + k) m) i (length-take-le i m h), take_at (bytes k v) (drop (i + k) m) k (length-bytes k v))
    (number-bytes k v hv)

-- each byte outside the k stored is as it was
pub store_below : (k : ℕ) (m : List ℕ) (i v j : ℕ) → i ≤ length m → j < i → get_or (store k m i v) j 0 ≡ get_or m j 0
unfolding store
store_below k m i v j h l =
    get_or-append (take i m) (bytes k v ++ drop (i + k) m) 0 j (rw (length-take-le i m h) l) ∙ get_or-take i m j 0 l

pub store_above : (k : ℕ) (m : List ℕ) (i v j : ℕ) → i ≤ length m → get_or (store k m i v) (i + k + j) 0 ≡ get_or m (i + k + j) 0
unfolding store
store_above k m i v j h =
    let e : i + k + j ≡ length (take i m) + (length (bytes k v) + j) = rw (length-take-le i m h, length-bytes k v) (add_assoc i k j) in
    ap (λ (n : ℕ). get_or (take i m ++ (bytes k v ++ drop (i + k) m)) n 0) e
    ∙ get_or-append-add (take i m) (bytes k v ++ drop (i + k) m) (length (bytes k v) + j) 0
    ∙ get_or-append-add (bytes k v) (drop (i + k) m) j 0
    ∙ get_or-drop (i + k) m j 0

-- a load sees only its own bytes
load_ext : (k : ℕ) (m m' : List ℕ) (i : ℕ) → i + k ≤ length m → i + k ≤ length m'
    → ((t : ℕ) → t < k → get_or m (i + t) 0 ≡ get_or m' (i + t) 0) → load k m i ≡ load k m' i
load_ext zero m m' i h h' e = unfold load number in refl
load_ext (suc k) m m' i h h' e =
    let z : get_or m i 0 ≡ get_or m' i 0 = rw add-zero at (e 0 (omega arith)) in
    let r : load k m (i + 1) ≡ load k m' (i + 1) =
    load_ext k m m' (i + 1) (omega arith) (omega arith)
    (λ t l. let q : i + 1 + t ≡ i + suc t = omega arith in rw q (e (suc t) (omega arith))) in
    rw (← one-add k, load-add 1 k m i, load-add 1 k m' i, load_byte m i (omega arith), load_byte m' i (omega arith), z, r)

-- stored at i, loaded elsewhere
pub load_apart : (k k' : ℕ) (m : List ℕ) (i v j : ℕ) → i + k ≤ length m → j + k' ≤ length m → (j + k' ≤ i) ⊎ (i + k ≤ j)
    → load k' (store k m i v) j ≡ load k' m j
load_apart k k' m i v j hi hj (inl h) =
    load_ext k' (store k m i v) m j (rw (length-store k m i v hi) hj) hj (λ t l. store_below k m i v (j + t) (omega arith) (omega arith))
load_apart k k' m i v j hi hj (inr h) =
    load_ext k' (store k m i v) m j (rw (length-store k m i v hi) hj) hj
    (λ t l. let q : i + k + (j - (i + k) + t) ≡ j + t = omega arith in rw q at (store_above k m i v (j - (i + k) + t) (omega arith)))

pub load-other : (k : ℕ) (m : List ℕ) (i v j : ℕ) → i + k ≤ length m → j + k ≤ length m → (j + k ≤ i) ⊎ (i + k ≤ j)
    → load k (store k m i v) j ≡ load k m j
load-other k = load_apart k k

-- a load of bytes has as many
bytes_drop : (i : ℕ) (m : List ℕ) → Bytes m → Bytes (drop i m)
unfolding Bytes
bytes_drop i m h j = rw (get_or-drop i m j 0) (h (i + j))

bytes_take : (k : ℕ) (l : List ℕ) → Bytes l → Bytes (take k l)
unfolding Bytes
bytes_take zero l h i = omega arith
bytes_take (suc k) [] h i = h i
bytes_take (suc k) (b ∷ bs) h zero = h 0
bytes_take (suc k) (b ∷ bs) h (suc i) = bytes_take k bs (λ j. h (suc j)) i

pub load_lt : (k : ℕ) (m : List ℕ) (i : ℕ) → Bytes m → load k m i < 256 ^ k
unfolding load
load_lt k m i h =
    number_lt k (take k (drop i m)) (bytes_take k (drop i m) (bytes_drop i m h)) (rw (length-take k (drop i m)) (omega arith))
