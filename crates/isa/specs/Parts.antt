-- What the functions of this crate promise one another; no operation's contract reaches it.
use Rattle.std.specs.Prelude.{ℕ}
use Rattle.isa.specs.declared.decode.Decoded32.{Decoded32}
use Rattle.isa.specs.Formats.{inst, opcode, rd, funct3, rs1, rs2, funct7}

-- ---- fields of a word, beside those of Formats

-- of the atomics
abbrev pub funct5 : ℕ → ℕ
funct5 w = inst 31 27 w

-- the I-type's immediate field, not extended
abbrev pub imm12 : ℕ → ℕ
imm12 w = inst 31 20 w

-- a word's fields
abbrev pub decoded : ℕ → Decoded32
decoded w =
    record {
      opcode = opcode w;
      rd = rd w;
      funct3 = funct3 w;
      rs1 = rs1 w;
      rs2 = rs2 w;
      funct7 = funct7 w;
      funct5 = funct5 w;
      imm12 = imm12 w;
    }
