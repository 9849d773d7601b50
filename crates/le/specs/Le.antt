-- Numbers as bytes, the lowest first, and their place in a list of bytes.
use Rattle.std.specs.Prelude.{List, [], ◌∷◌, ◌++◌, ℕ, zero, suc, ◌+◌, ◌*◌, ◌/◌, ◌%◌, ◌<◌, length, take, drop, get_or}

-- every element is a byte
unfoldable pub Bytes : List ℕ → Type 0
Bytes m = (i : ℕ) → get_or m i 0 < 256

unfoldable pub number : List ℕ → ℕ
number [] = 0
number (b ∷ bs) = b + 256 * number bs

-- k bytes of v
unfoldable pub bytes : ℕ → ℕ → List ℕ
bytes zero v = []
bytes (suc k) v = v % 256 ∷ bytes k (v / 256)

-- the number in the k bytes of m from i on
unfoldable pub load : ℕ → List ℕ → ℕ → ℕ
unfolding number
load k m i = number (take k (drop i m))

-- m with the k bytes of v from i on
unfoldable pub store : ℕ → List ℕ → ℕ → ℕ → List ℕ
unfolding bytes
store k m i v = take i m ++ (bytes k v ++ drop (i + k) m)

-- m with the bytes s over its own from at on
unfoldable pub splice : List ℕ → ℕ → List ℕ → List ℕ
splice m at s = take at m ++ (s ++ drop (at + length s) m)

-- ---- numbers of k bytes in a row

-- the first n numbers of m
unfoldable pub numbers : ℕ → ℕ → List ℕ → List ℕ
unfolding number
numbers k zero m = []
numbers k (suc n) m = number (take k m) ∷ numbers k n (drop k m)

-- the words of a block's bytes
abbrev pub words : List ℕ → List ℕ
words block = numbers 4 (length block / 4) block

-- the bytes of each number
unfoldable pub all_bytes : ℕ → List ℕ → List ℕ
unfolding bytes
all_bytes k [] = []
all_bytes k (v ∷ vs) = bytes k v ++ all_bytes k vs
