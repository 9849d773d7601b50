-- What is emitted for a Zbb instruction w: its operands, its body and the store of rd.
use Rattle.std.specs.Prelude.{ℕ, List, [], ◌∷◌, Some, None}
use Rattle.isa.specs.declared.zbb.Zbb.{Zbb}
use Rattle.isa.specs.declared.zbb.Found.{Found}
use Rattle.isa.specs.Zbb.{MaybeZbb}
use Rattle.isa.specs.Formats.{rd, rs1, rs2}
use Rattle.emit_native.specs.Calls.{Call, load, mov_imm64, Emission, continue, none, calls_first, then_store_rd}
use Rattle.zbb.specs.Words.{zbb_body}

-- loads: the calls that bring the operands
abbrev pub computes : List Call → Zbb → ℕ → Emission
computes loads z w = calls_first loads (then_store_rd (rd w) (continue (zbb_body z)))

unfoldable pub emission : MaybeZbb → ℕ → Emission
emission (Some (Found.Register z)) w = computes (load 9 (rs1 w) ∷ load 10 (rs2 w) ∷ []) z w
emission (Some (Found.Number z n)) w = computes (load 9 (rs1 w) ∷ mov_imm64 10 n ∷ []) z w
emission (Some (Found.Unary z)) w = computes (load 9 (rs1 w) ∷ []) z w
emission None w = none []
