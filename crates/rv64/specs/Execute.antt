-- What an instruction does to the 32 registers and the PC, from the RISC-V Unprivileged ISA, chapters 'RV32I', 'RV64I'
-- and 'Zbb'. Definitions only.
use Rattle.std.specs.Prelude.{ℕ, ◌*◌, ◌/◌, Bool, true, false, cond, List, ◌==◌, slice_index, slice_set}
use Rattle.word.specs.Word.{add}
use Rattle.rv64.specs.declared.decode.Instr.{Instr}
use Rattle.rv64.specs.declared.execute.Flow.{Flow}
use Rattle.rv64.specs.Alu.{value, taken}
use Rattle.rv64.specs.Zbb.{zbb_value}

-- register 0 reads as 0, and is never written
unfoldable pub read : List ℕ → ℕ → ℕ
read x n = cond (n == 0) 0 (slice_index x n)

unfoldable pub write : List ℕ → ℕ → ℕ → List ℕ
write x n v = cond (n == 0) x (slice_set x n v)

-- the registers after an instruction, and how the block goes on
pub record Step : Type 0 where
  pub x : List ℕ
  pub flow : Flow

abbrev pub next : List ℕ → ℕ → Step
next x pc = record { x = x; flow = Flow.Next pc }

abbrev pub ended : List ℕ → ℕ → Step
ended x pc = record { x = x; flow = Flow.Ended pc }

-- an instruction of n bytes at pc. JAL and JALR put the address after them in rd; JALR reads rs1 before that, and clears
-- bit 0 of the sum. A jump or a branch ends the block (document 01, rule 5), and so does FENCE.I (document 02, No. 3)
unfoldable pub exec : Instr → ℕ → ℕ → List ℕ → Step
exec (Instr.Op k rd rs1 rs2) n pc x = next (write x rd (value k (read x rs1) (read x rs2))) (add pc n)
exec (Instr.OpImm k rd rs1 imm) n pc x = next (write x rd (value k (read x rs1) imm)) (add pc n)
exec (Instr.Zbb k rd rs1 rs2) n pc x = next (write x rd (zbb_value k (read x rs1) (read x rs2))) (add pc n)
exec (Instr.ZbbImm k rd rs1 imm) n pc x = next (write x rd (zbb_value k (read x rs1) imm)) (add pc n)
exec (Instr.Lui rd imm) n pc x = next (write x rd imm) (add pc n)
exec (Instr.Auipc rd imm) n pc x = next (write x rd (add pc imm)) (add pc n)
exec (Instr.Jal rd imm) n pc x = ended (write x rd (add pc n)) (add pc imm)
exec (Instr.Jalr rd rs1 imm) n pc x = ended (write x rd (add pc n)) (add (read x rs1) imm / 2 * 2)
exec (Instr.Branch k rs1 rs2 imm) n pc x =
    ended x (cond (taken k (read x rs1) (read x rs2)) (add pc imm) (add pc n))
exec Instr.Nop n pc x = next x (add pc n)
exec Instr.FenceI n pc x = ended x (add pc n)
exec Instr.Helper n pc x = record { x = x; flow = Flow.Helper }
exec Instr.Uncovered n pc x = record { x = x; flow = Flow.Uncovered }

-- neither a helper's nor refused
unfoldable pub covered : Instr → Bool
covered (Instr.Op k rd rs1 rs2) = true
covered (Instr.OpImm k rd rs1 imm) = true
covered (Instr.Zbb k rd rs1 rs2) = true
covered (Instr.ZbbImm k rd rs1 imm) = true
covered (Instr.Lui rd imm) = true
covered (Instr.Auipc rd imm) = true
covered (Instr.Jal rd imm) = true
covered (Instr.Jalr rd rs1 imm) = true
covered (Instr.Branch k rs1 rs2 imm) = true
covered Instr.Nop = true
covered Instr.FenceI = true
covered Instr.Helper = false
covered Instr.Uncovered = false
