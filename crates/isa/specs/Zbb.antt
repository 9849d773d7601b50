-- The encodings of Zbb, RV64, from the RISC-V Unprivileged ISA, 'B' Extension for Bit Manipulation, 'Zbb: Basic
-- bit-manipulation'. Definitions only.
use Rattle.std.specs.Prelude.{cond, List, [], ◌∷◌, ℕ, ◌+◌, ◌*◌, ◌/◌, ◌^◌, eqb, Option, Some, None}
use Rattle.isa.specs.Formats.{inst, opcode, funct3}
use Rattle.isa.specs.declared.zbb.Zbb.{Zbb}
use Rattle.isa.specs.declared.zbb.Found.{Found}

-- the bits from k up, funct3 and the opcode, side by side
abbrev pub key : ℕ → ℕ → ℕ
key k w = w / 2 ^ k * 2 ^ 10 + funct3 w * 2 ^ 7 + opcode w

-- a Zbb instruction, or none
abbrev pub MaybeZbb : Type 0
MaybeZbb = Option Found

abbrev pub Rows : Type 0
Rows = List (ℕ × Zbb)

-- make of the row at n, or other where there is none
abbrev pub row : Rows → ℕ → (Zbb → MaybeZbb) → MaybeZbb → MaybeZbb
row [] n make other = other
row ((k, z) ∷ t) n make other = cond (eqb n k) (make z) (row t n make other)

-- funct7_funct3_opcode: with rs2
unfoldable pub registers : Rows
registers =
    (0b0100000_111_0110011, Zbb.Andn)
    ∷ (0b0100000_110_0110011, Zbb.Orn)
    ∷ (0b0100000_100_0110011, Zbb.Xnor)
    ∷ (0b0000101_110_0110011, Zbb.Max)
    ∷ (0b0000101_111_0110011, Zbb.Maxu)
    ∷ (0b0000101_100_0110011, Zbb.Min)
    ∷ (0b0000101_101_0110011, Zbb.Minu)
    ∷ (0b0110000_001_0110011, Zbb.Rol)
    ∷ (0b0110000_101_0110011, Zbb.Ror)
    ∷ (0b0110000_001_0111011, Zbb.Rolw)
    ∷ (0b0110000_101_0111011, Zbb.Rorw)
    ∷ []

-- funct7_funct3_opcode: with shamt[4:0]. RORIW
unfoldable pub word_shifts : Rows
word_shifts =
    (0b0110000_101_0011011, Zbb.Rorw)
    ∷ []

-- funct12_funct3_opcode: with one operand
unfoldable pub unaries : Rows
unaries =
    (0b011000000000_001_0010011, Zbb.Clz)
    ∷ (0b011000000001_001_0010011, Zbb.Ctz)
    ∷ (0b011000000010_001_0010011, Zbb.Cpop)
    ∷ (0b011000000000_001_0011011, Zbb.Clzw)
    ∷ (0b011000000001_001_0011011, Zbb.Ctzw)
    ∷ (0b011000000010_001_0011011, Zbb.Cpopw)
    ∷ (0b011000000100_001_0010011, Zbb.SextB)
    ∷ (0b011000000101_001_0010011, Zbb.SextH)
    ∷ (0b000010000000_100_0111011, Zbb.ZextH)
    ∷ (0b001010000111_101_0010011, Zbb.OrcB)
    ∷ (0b011010111000_101_0010011, Zbb.Rev8)
    ∷ []

-- funct6_funct3_opcode: with shamt[5:0]. RORI
unfoldable pub shifts : Rows
shifts =
    (0b011000_101_0010011, Zbb.Ror)
    ∷ []

unfoldable pub shift_of : ℕ → MaybeZbb
shift_of w = row shifts (key 26 w) (λ (z : Zbb). Some (Found.Number z (inst 25 20 w))) None

unfoldable pub unary_of : ℕ → MaybeZbb
unary_of w = row unaries (key 20 w) (λ (z : Zbb). Some (Found.Unary z)) (shift_of w)

unfoldable pub word_shift_of : ℕ → MaybeZbb
word_shift_of w = row word_shifts (key 25 w) (λ (z : Zbb). Some (Found.Number z (inst 24 20 w))) (unary_of w)

-- the Zbb instruction of a word, or none
unfoldable pub find : ℕ → MaybeZbb
find w = row registers (key 25 w) (λ (z : Zbb). Some (Found.Register z)) (word_shift_of w)
