-- The bytes of a number, and its rotations. Definitions only.
use Rattle.std.specs.Prelude.{ℕ, zero, suc, ◌+◌, ◌-◌, ◌*◌, ◌/◌, ◌%◌, ◌^◌, cond, ◌==◌}
use Rattle.word.specs.Word.{or64, shl, shr}

-- the m low bytes of x in the opposite order (the ISA's REV8, Arm's REV)
unfoldable pub reversed : ℕ → ℕ → ℕ
reversed zero x = 0
reversed (suc m) x = x % 256 * 2 ^ (8 * m) + reversed m (x / 256)

-- the m low bytes of x, each all ones where it is not 0 (the ISA's ORC.B)
unfoldable pub combined : ℕ → ℕ → ℕ
combined zero x = 0
combined (suc m) x = combined m (x / 256) * 256 + cond (x % 256 == 0) 0 255

-- rotations of the 64 bits by s places, s below 64 (the ISA's ROR and ROL, Arm's ROR)
abbrev pub ror : ℕ → ℕ → ℕ
ror x s = or64 (shr x s) (shl x (64 - s))

abbrev pub rol : ℕ → ℕ → ℕ
rol x s = or64 (shl x s) (shr x (64 - s))
