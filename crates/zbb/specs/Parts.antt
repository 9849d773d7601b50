-- What the functions of this crate promise one another; no operation's contract reaches it.
use Rattle.std.specs.Prelude.{ℕ, List, [], ◌∷◌}
use Rattle.isa.specs.Formats.{rd, rs1, rs2}
use Rattle.emit_native.specs.Calls.{Call, load, Emission, continue, calls_first, then_store_rd}

-- the operands of an instruction w: both, or one
abbrev pub operands : ℕ → List Call
operands w = load 9 (rs1 w) ∷ load 10 (rs2 w) ∷ []

abbrev pub operand : ℕ → List Call
operand w = load 9 (rs1 w) ∷ []

-- a body between operands and the store of rd
abbrev pub around : List Call → List Call → ℕ → Emission
around loads body w = calls_first loads (then_store_rd (rd w) (continue body))
