-- Digits of numbers. Assumes nothing.
use mathlib.Core.Path.{◌≡◌, refl}
use mathlib.Core.List.{[], ◌∷◌, ◌++◌, append_assoc, append-nil}
use Prim.Native.Nat.{ℕ, zero, suc, ◌+◌, ◌/◌, ◌%◌, ◌^◌, ◌≤◌, ◌<◌}
use native.Mathlib.Nat.{add-zero, add-suc, div-one, div-div-eq-div-mul, pow-suc, mul_comm}
use native.Mathlib.Omega.{arith}
use mathlib.Core.Bool.{cond}
use lib.Dec.{ltb}
use lib.ListN.{length, length-append}
use borrow.Author.Tests.{lt-ltb, le-ltb}
use Rattle.ascii.specs.Ascii.{digit, hex, decimal_in, decimal}

-- a + b hexadecimal digits
pub hex-add : (a b v : ℕ) → hex (a + b) v ≡ hex a (v / 16 ^ b) ++ hex b v
unfolding hex
hex-add a zero v = rw (add-zero a, div-one v, append-nil)
hex-add a (suc b) v =
    rw (add-suc a b, hex-add a b (v / 16), div-div-eq-div-mul v 16 (16 ^ b), pow-suc 16 b, mul_comm 16 (16 ^ b), append_assoc)

pub hex-length : (k v : ℕ) → length (hex k v) ≡ k
unfolding hex
hex-length zero v = refl
hex-length (suc k) v = rw (length-append (hex k (v / 16)) (digit (v % 16) ∷ []), hex-length k (v / 16)) (omega arith)

-- decimal digits, by how many there are

pub one_digit : (n : ℕ) → n < 10 → decimal n ≡ digit n ∷ []
unfolding decimal_in
one_digit n h = rw (lt-ltb n 10 h)

pub two_digits : (n : ℕ) → 10 ≤ n → n < 100 → decimal n ≡ digit (n / 10) ∷ digit (n % 10) ∷ []
unfolding decimal_in
two_digits n h k = rw (le-ltb n 10 h, lt-ltb (n / 10) 10 (omega arith))

short : (k n : ℕ) → n < 100 → decimal_in (suc (suc k)) n ≡ cond (ltb n 10) (digit n ∷ []) (digit (n / 10) ∷ digit (n % 10) ∷ [])
unfolding decimal_in
short k n h = rw (lt-ltb (n / 10) 10 (omega arith))

tens : (n : ℕ) → n % 100 / 10 ≡ n / 10 % 10
tens n = omega arith

ones : (n : ℕ) → n % 100 % 10 ≡ n % 10
ones n = omega arith

-- two digits more
pub pair_more : (n : ℕ) → 100 ≤ n → n < 10000 → decimal n ≡ decimal (n / 100) ++ (digit (n % 100 / 10) ∷ digit (n % 100 % 10) ∷ [])
unfolding decimal_in
pair_more n h k =
    let q : n / 10 / 10 ≡ n / 100 = div-div-eq-div-mul n 10 10 in
    let l : n / 100 < 100 = omega arith in
    rw (le-ltb n 10 (omega arith), le-ltb (n / 10) 10 (omega arith), q, tens n, ones n, short 1 (n / 100) l, short 3 (n / 100) l, append_assoc)

pub pairs_more : (n : ℕ) → 10000 ≤ n → n < 100000
    → decimal n ≡ decimal (n / 10000) ++ ((digit (n / 100 % 100 / 10) ∷ digit (n / 100 % 100 % 10) ∷ []) ++ (digit (n % 100 / 10) ∷ digit (n % 100 % 10) ∷ []))
unfolding decimal_in
pairs_more n h k =
    let q : n / 10 / 10 ≡ n / 100 = div-div-eq-div-mul n 10 10 in
    let r : n / 100 / 10 ≡ n / 1000 = div-div-eq-div-mul n 100 10 in
    let t : n / 1000 / 10 ≡ n / 10000 = div-div-eq-div-mul n 1000 10 in
    rw (
      le-ltb n 10 (omega arith),
      le-ltb (n / 10) 10 (omega arith),
      q,
      le-ltb (n / 100) 10 (omega arith),
      r,
      le-ltb (n / 1000) 10 (omega arith),
      t,
      lt-ltb (n / 10000) 10 (omega arith),
      tens n,
      ones n,
      tens (n / 100),
      ones (n / 100),
      r,
    )

-- how many digits there are
pub pair_more_length : (n : ℕ) → 100 ≤ n → n < 10000 → length (decimal n) ≡ length (decimal (n / 100)) + 2
pair_more_length n h k = rw (pair_more n h k, length-append (decimal (n / 100)))

pub pairs_more_length : (n : ℕ) → 10000 ≤ n → n < 100000 → length (decimal n) ≡ length (decimal (n / 10000)) + 4
pairs_more_length n h k = rw (pairs_more n h k, length-append (decimal (n / 10000)))
