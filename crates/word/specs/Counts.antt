-- Counts of the k low bits of a number, as both manuals count them: the ISA's HighestSetBit and LowestSetBit (Zbb,
-- CLZ and CTZ) and its loop over the bits (CPOP), Arm's CountLeadingZeroBits. Definitions only.
use Rattle.std.specs.Prelude.{ℕ, zero, suc, ◌+◌, ◌/◌, ◌%◌, ◌^◌, cond, ◌==◌}

-- bit i
abbrev pub bit_at : ℕ → ℕ → ℕ
bit_at i x = x / 2 ^ i % 2

-- the zeros above the highest bit that is set, all k where none is
unfoldable pub clz : ℕ → ℕ → ℕ
clz zero x = 0
clz (suc k) x = cond (bit_at k x == 0) (suc (clz k x)) 0

-- the zeros below the lowest bit that is set, all k where none is
unfoldable pub ctz : ℕ → ℕ → ℕ
ctz zero x = 0
ctz (suc k) x = cond (x % 2 == 0) (suc (ctz k (x / 2))) 0

-- the bits that are set
unfoldable pub cpop : ℕ → ℕ → ℕ
cpop zero x = 0
cpop (suc k) x = bit_at k x + cpop k x
