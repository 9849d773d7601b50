-- FENCE.I ends a block (document 02, No. 3): such a block is the walk's with its own count as the limit. The walk itself,
-- the Rust's or the product's, goes on after FENCE.I.
use Rattle.std.specs.Prelude.{ℕ, zero, suc, ◌+◌, Bool, cond, ◌&&◌, List, ◌==◌}
use Rattle.std.proofs.Math.Option.{Option, none, some}
use Rattle.word.specs.Word.{add}
use Rattle.isa.specs.Formats.{opcode, funct3}
use Rattle.emit_native.specs.declared.Host.{Host}
use Rattle.emit_native.specs.Calls.{Dialect}
use Rattle.jit_arm64.specs.Block.{fetch, size_of, whole_walk}

-- MISC-MEM with funct3 1, whatever its other fields (the ISA, 'Zifencei')
abbrev pub is_fence_i : ℕ → Bool
is_fence_i instr = opcode instr == 0b0001111 && funct3 instr == 0b001

-- the instruction that was fetched, after so many others; rest: the search after it, from its length on
unfoldable pub fence_or : Option ℕ → ℕ → (ℕ → Option ℕ) → Option ℕ
fence_or none before rest = none
fence_or (some instr) before rest = cond (is_fence_i instr) (some (suc before)) (rest (size_of instr))

-- the first FENCE.I among so many instructions from index i on: how many there are from the start up to and with it
unfoldable pub to_fence : List ℕ → ℕ → ℕ → ℕ → ℕ → Option ℕ
to_fence guest start zero before i = none
to_fence guest start (suc left) before i =
    fence_or (fetch (add start i) guest i) before (λ (size : ℕ). to_fence guest start left (suc before) (i + size))

-- from pc on, among as many instructions as the walk counts with this limit: what follows its end is not asked
unfoldable pub fence : Dialect → ℕ → Host → List ℕ → ℕ → ℕ → Option ℕ
fence d most h guest pc limit = to_fence guest pc (whole_walk d most h guest pc limit).count 0 0

-- the limit of a block with this FENCE.I, or with none
unfoldable pub limit_at : Option ℕ → ℕ → ℕ
limit_at none limit = limit
limit_at (some n) limit = n
