-- Registers and states as bytes, eight for each number.
use Rattle.std.specs.Prelude.{List, [], ◌∷◌, ◌++◌, ℕ}
use Rattle.le.specs.Le.{load, numbers, all_bytes}
use Rattle.rv64_run.specs.declared.run.Hart.{Hart}
use Rattle.a64_exec.specs.declared.state.A64State.{A64State}
use Rattle.a64_alu.specs.Nzcv.{flags_of, nzcv_of}

-- X0 to X30, SP and NZCV
abbrev pub a64_state : List ℕ → A64State
a64_state m = record { x = numbers 8 31 m; sp = load 8 m 248; flags = flags_of (load 8 m 256) }

abbrev pub a64_bytes : A64State → List ℕ
a64_bytes s = all_bytes 8 (s.x ++ (s.sp ∷ nzcv_of s.flags ∷ []))

-- the 32 registers, and the PC
abbrev pub rv64_hart : List ℕ → ℕ → Hart
rv64_hart m pc = record { x = numbers 8 32 m; pc = pc }
