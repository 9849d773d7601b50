-- What the functions of this crate promise one another; no operation's contract reaches it.
use Rattle.std.specs.Prelude.{ℕ, ◌^◌, ◌<◌, ◌≡◌, List, [], ◌∷◌, ◌++◌, cond, eqb, ltb, Option, Some, None}
use Rattle.le.specs.Le.{bytes}
use Rattle.a64_text.specs.declared.operand.Rest.{Rest}
use Rattle.a64_text.specs.declared.operand.Rest.TheVariants.{Lsl0, Xzr, Shifted, Memory, Condition, Fields}
use Rattle.a64_text.specs.declared.assembly.Assembled.{Assembled}
use Rattle.a64.specs.declared.Form.{Form}
use Rattle.a64.specs.declared.Form.TheVariants.{Unreadable}
use Rattle.a64.specs.Parts.{InRange}
use Rattle.ascii.specs.Ascii.{ascii}
use Rattle.a64_text.specs.Operands.{Operand, X, XSP, Imm, LSL, Mem, Cond}
use Rattle.a64_text.specs.Text.{Syntax}

-- the operand of a register's number: 31 is xzr, 32 is sp
abbrev pub register_operand : ℕ → Operand
register_operand n = cond (eqb n 32) (XSP 31) (X n)

abbrev pub further_register : Option ℕ → List Operand
further_register None = []
further_register (Some n) = register_operand n ∷ []

-- a register's number, where there is one
abbrev pub Register : Option ℕ → Type 0
Register None = Unit {0}
Register (Some n) = n < 33

-- the operands after the registers
abbrev pub rest_operands : Rest → List Operand
rest_operands Rest.None = []
rest_operands Lsl0 = LSL 0 ∷ []
rest_operands Xzr = X 31 ∷ []
rest_operands (Shifted n k) = Imm n ∷ LSL k ∷ []
rest_operands (Memory n k) = Mem n k ∷ []
rest_operands (Condition c) = Cond c ∷ []
rest_operands (Fields a b) = Imm a ∷ Imm b ∷ []

-- their numbers have at most five digits
abbrev pub Small : Rest → Type 0
Small Rest.None = Unit {0}
Small Lsl0 = Unit {0}
Small Xzr = Unit {0}
Small (Shifted n k) = (n < 100000) × (k < 100)
Small (Memory n k) = (n < 100) × (k < 100000)
Small (Condition c) = Unit {0}
Small (Fields a b) = (a < 100) × (b < 100)

-- a mnemonic with a blank after it, as a number: its bytes, of which the lowest is the first
abbrev pub mnemonic_length : ℕ → ℕ
mnemonic_length n = cond (ltb n 0x100000000) 4 (cond (ltb n 0x10000000000) 5 6)

unfoldable pub mnemonic_bytes : ℕ → List ℕ
unfolding bytes
mnemonic_bytes n = bytes (mnemonic_length n) n

-- what the code has for a syntax
pub record Assembles (a : Assembled) (s : Syntax) : Type 0 where
  pub mnemonic : mnemonic_bytes a.mnemonic ≡ ascii s.mnemonic ++ ascii " "
  pub short : a.mnemonic < 2 ^ 48
  pub first : register_operand a.first ≡ s.first
  pub more : further_register a.second ++ (further_register a.third ++ rest_operands a.rest) ≡ s.more
  pub registers : (a.first < 33) × Register a.second × Register a.third
  pub small : Small a.rest

-- a form that has a text, with fields that fit
pub record Readable (f : Form) : Type 0 where
  pub fits : InRange f
  pub form : f ≡ Unreadable → ⊥
