-- What the functions of this crate promise one another; no operation's contract reaches it.
use Rattle.std.specs.Prelude.{◌≡◌, ℕ, ◌+◌, ◌-◌, ◌%◌, ◌≤◌, true, false, ◌&&◌, length, ◌==◌, nat_le, Option, Some, None}
use Rattle.a64_exec.specs.declared.exec.Machine.{Machine}
use Rattle.a64_exec.specs.Exec.{State, machine, address, reaches}

-- the state of a machine
abbrev pub held : Machine → State
held m = machine m.x.now m.sp m.flags m.base m.memory.now

-- a lies within len bytes from base on, at i
abbrev pub Within : ℕ → ℕ → ℕ → Option ℕ → Type 0
Within a base len (Some i) =
    (nat_le base a ≡ true) × (nat_le (a + 8) (base + len) ≡ true) × ((a % 8 == 0) ≡ true) × (i ≡ a - base) × (i + 8 ≤ len)
Within a base len None = (nat_le base a && nat_le (a + 8) (base + len)) && (a % 8 == 0) ≡ false

-- an access through register n
abbrev pub Reached : State → ℕ → ℕ → Option ℕ → Type 0
Reached s n imm (Some i) = (reaches s n (address s n imm) ≡ true) × (i ≡ address s n imm - s.base) × (i + 8 ≤ length s.mem)
Reached s n imm None = reaches s n (address s n imm) ≡ false
