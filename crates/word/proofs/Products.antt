-- Products from their halves of 32 bits. Assumes nothing.
use Rattle.std.proofs.Common.{◌≡◌, ℕ, ◌+◌, ◌*◌, ◌/◌, ◌%◌, ◌^◌, ◌<◌, ◌≤◌, refl, le_trans, add_assoc, mul_assoc, mul_comm, add-mul, add_comm, mul-le-mul_left, div-add-mod', mul-add, mul_left_comm, arith}
use native.Mathlib.Nat.{add_left_comm}

-- the product of two numbers of 32 bits, at most
pub most : {a b : ℕ} → a < 2 ^ 32 → b < 2 ^ 32 → a * b ≤ 0xFFFFFFFE00000001
most {a} {b} ha hb = le_trans (mul-le-mul_left {n = 4294967295} a (omega arith)) (omega arith)

expand : (P a₀ a₁ b₀ b₁ : ℕ)
    → (a₁ * P + a₀) * (b₁ * P + b₀) ≡ a₁ * b₁ * (P * P) + a₁ * b₀ * P + a₀ * b₁ * P + a₀ * b₀
expand P a₀ a₁ b₀ b₁ =
    simp (mul-add, add-mul, mul_assoc, mul_comm, mul_left_comm, add_assoc, add_comm, add_left_comm) refl

-- a product by its four partial products: t, x, y, z are those of the high, the mixed and the low halves
pub whole : (a b : ℕ) → a * b
    ≡ a / 2 ^ 32 * (b / 2 ^ 32) * 2 ^ 64 + a / 2 ^ 32 * (b % 2 ^ 32) * 2 ^ 32 + a % 2 ^ 32 * (b / 2 ^ 32) * 2 ^ 32
    + a % 2 ^ 32 * (b % 2 ^ 32)
whole a b =
    rw (← expand (2 ^ 32) (a % 2 ^ 32) (a / 2 ^ 32) (b % 2 ^ 32) (b / 2 ^ 32), div-add-mod' a (2 ^ 32), div-add-mod' b (2 ^ 32))

pub high_of : (t x y z : ℕ) → t + (x + z / 2 ^ 32) / 2 ^ 32 + ((x + z / 2 ^ 32) % 2 ^ 32 + y) / 2 ^ 32
    ≡ (t * 2 ^ 64 + x * 2 ^ 32 + y * 2 ^ 32 + z) / 2 ^ 64
high_of t x y z = omega arith
