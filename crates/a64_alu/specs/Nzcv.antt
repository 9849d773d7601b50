-- NZCV as a number (document 01): the low four bits, N highest; higher bits are ignored and come out 0. Definitions only.
use Rattle.std.specs.Prelude.{ℕ, ◌+◌, ◌/◌, ◌%◌, cond, ◌==◌}
use Rattle.a64_alu.specs.declared.Flags.{Flags}

abbrev pub flags_of : ℕ → Flags
flags_of x = record { n = (x / 8 % 2 == 1); z = (x / 4 % 2 == 1); c = (x / 2 % 2 == 1); v = (x % 2 == 1) }

abbrev pub nzcv_of : Flags → ℕ
nzcv_of f = cond f.n 8 0 + cond f.z 4 0 + cond f.c 2 0 + cond f.v 1 0
