-- Registers of 64 bits as numbers below 2 ^ 64: the arithmetic that both manuals use (RISC-V Unprivileged ISA,
-- chapters 'RV32I' and 'RV64I' and extension M; Arm Architecture Reference Manual, A64 data processing).
-- proofs/Integers.antt shows what each signed operation is on integers. Definitions only.
use Rattle.std.specs.Prelude.{ℕ, ◌+◌, ◌-◌, ◌*◌, ◌/◌, ◌%◌, ◌^◌, Bool, cond, bit_and, bit_or, bit_xor, nat_le, nat_lt}
use Rattle.std.specs.Bool.{xor}

-- ---- sums and products modulo 2 ^ 64

abbrev pub wrap : ℕ → ℕ
wrap x = x % 2 ^ 64

abbrev pub add : ℕ → ℕ → ℕ
add x y = wrap (x + y)

abbrev pub sub : ℕ → ℕ → ℕ
sub x y = wrap (x + (2 ^ 64 - y))

abbrev pub mul : ℕ → ℕ → ℕ
mul x y = wrap (x * y)

-- ---- bit by bit

abbrev pub and64 : ℕ → ℕ → ℕ
and64 x y = bit_and x y

abbrev pub or64 : ℕ → ℕ → ℕ
or64 x y = bit_or x y

abbrev pub xor64 : ℕ → ℕ → ℕ
xor64 x y = bit_xor x y

abbrev pub complement : ℕ → ℕ
complement x = 2 ^ 64 - 1 - x

-- ---- signs

-- the sign bit
abbrev pub sign : ℕ → Bool
sign x = nat_le (2 ^ 63) x

-- the low k bits, extended by their sign: 2 ^ (k - 1) is added, so that the order of the k bits is that of their signed
-- values, and taken away again at 64 bits
abbrev pub sext : ℕ → ℕ → ℕ
sext k x = wrap ((x + 2 ^ (k - 1)) % 2 ^ k + (2 ^ 64 - 2 ^ (k - 1)))

-- the place of a number in the signed order
abbrev pub bias : ℕ → ℕ
bias x = wrap (x + 2 ^ 63)

-- the signed order
unfoldable pub slt : ℕ → ℕ → Bool
slt x y = nat_lt (bias x) (bias y)

-- ---- shifts by s places, s below 64

abbrev pub shl : ℕ → ℕ → ℕ
shl x s = wrap (x * 2 ^ s)

abbrev pub shr : ℕ → ℕ → ℕ
shr x s = x / 2 ^ s

-- with copies of the sign bit
unfoldable pub asr : ℕ → ℕ → ℕ
asr x s = cond (sign x) (complement (complement x / 2 ^ s)) (x / 2 ^ s)

-- ---- quotients and remainders, rounded toward zero; the divisor 0 gives the quotient 0 and the remainder x

abbrev pub udiv : ℕ → ℕ → ℕ
udiv x y = x / y

-- the signed value without its sign
unfoldable pub magnitude : ℕ → ℕ
magnitude x = cond (sign x) (2 ^ 64 - x) x

-- m, or minus m where s is true
unfoldable pub signed : Bool → ℕ → ℕ
signed s m = cond s (wrap (2 ^ 64 - m)) m

unfoldable pub sdiv : ℕ → ℕ → ℕ
unfolding magnitude signed
sdiv x y = signed (xor (sign x) (sign y)) (magnitude x / magnitude y)

-- with the dividend's sign
unfoldable pub srem : ℕ → ℕ → ℕ
unfolding magnitude signed
srem x y = signed (sign x) (magnitude x % magnitude y)

-- ---- high halves of products

-- extended by its sign to 128 bits
unfoldable pub sext128 : ℕ → ℕ
sext128 x = cond (sign x) (x + 2 ^ 64 * (2 ^ 64 - 1)) x

-- bits 127 to 64
abbrev pub upper : ℕ → ℕ
upper p = p / 2 ^ 64 % 2 ^ 64

-- of two unsigned numbers, of two signed ones, and of a signed and an unsigned one
abbrev pub mulhu : ℕ → ℕ → ℕ
mulhu x y = x * y / 2 ^ 64

unfoldable pub mulh : ℕ → ℕ → ℕ
unfolding sext128
mulh x y = upper (sext128 x * sext128 y)

unfoldable pub mulhsu : ℕ → ℕ → ℕ
unfolding sext128
mulhsu x y = upper (sext128 x * y)
