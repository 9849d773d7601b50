-- The operands of the Arm assembler as text, from the Arm Architecture Reference Manual (DDI 0487), C1.2: in lower case, with decimal numbers.
use Rattle.std.specs.Prelude.{ℕ, cond, List, [], ◌∷◌, ◌++◌, eqb, get_or}
use Prim.Native.String.{String}
use Rattle.ascii.specs.Ascii.{ascii, decimal}

pub data Operand : Type 0 where
  -- <Xn>
  X : ℕ → Operand
  -- <Xn|SP>
  XSP : ℕ → Operand
  -- #<imm>
  Imm : ℕ → Operand
  -- LSL #<amount>
  LSL : ℕ → Operand
  -- [<Xn|SP>, #<offset>]
  Mem : ℕ → ℕ → Operand
  -- <cond>
  Cond : ℕ → Operand

-- register n (C1.2.5), where 31 has a name of its own
unfoldable pub register : String → ℕ → List ℕ
register thirty_one n = cond (eqb n 31) (ascii thirty_one) (ascii "x" ++ decimal n)

-- the conditions (C1.2.4), from 0 to 14; 15 is nv
abbrev pub conditions : List String
conditions = "eq" ∷ "ne" ∷ "cs" ∷ "cc" ∷ "mi" ∷ "pl" ∷ "vs" ∷ "vc" ∷ "hi" ∷ "ls" ∷ "ge" ∷ "lt" ∷ "gt" ∷ "le" ∷ "al" ∷ []

abbrev pub condition : ℕ → String
condition c = get_or conditions c "nv"

unfoldable pub operand : Operand → List ℕ
unfolding register
operand (X n) = register "xzr" n
operand (XSP n) = register "sp" n
operand (Imm n) = ascii "#" ++ decimal n
operand (LSL n) = ascii "lsl #" ++ decimal n
operand (Mem n k) = ascii "[" ++ (register "sp" n ++ (ascii ", #" ++ (decimal k ++ ascii "]")))
operand (Cond c) = ascii (condition c)
