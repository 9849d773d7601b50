-- Texts as bytes, and numbers in hexadecimal and decimal digits.
use Rattle.std.specs.Prelude.{ℕ, zero, suc, ◌+◌, ◌/◌, ◌%◌, cond, List, [], ◌∷◌, ◌++◌, ltb}
use Prim.Native.Char.{code}
use Prim.Native.String as S

-- the bytes of a text in ASCII
abbrev pub ascii : S.String → List ℕ
ascii S.[] = []
ascii (S.◌∷◌ c s) = code c ∷ ascii s

-- the digit of a number below 16, in lower case
abbrev pub digit : ℕ → ℕ
digit d = cond (ltb d 10) (48 + d) (87 + d)

-- the k lowest hexadecimal digits of a number
unfoldable pub hex : ℕ → ℕ → List ℕ
hex zero v = []
hex (suc k) v = hex k (v / 16) ++ (digit (v % 16) ∷ [])

-- a number of at most k decimal digits, without leading zeros
unfoldable pub decimal_in : ℕ → ℕ → List ℕ
decimal_in zero v = []
decimal_in (suc k) v = cond (ltb v 10) (digit v ∷ []) (decimal_in k (v / 10) ++ (digit (v % 10) ∷ []))

-- a number below 100,000
abbrev pub decimal : ℕ → List ℕ
decimal v = decimal_in 5 v
