-- The unaliased assembler text of each of the 30 forms, every operand written: the table to hold beside the Arm manual (DDI 0487), C6.2.
use Rattle.std.specs.Prelude.{ℕ, ◌*◌, List, [], ◌∷◌, ◌++◌}
use Prim.Native.String.{String}
use Rattle.a64.specs.declared.Op.{Op}
use Rattle.a64.specs.declared.Op.TheVariants.{Add, Sub, And, Orr, Eor, Bic, Orn, Eon, Lslv, Lsrv, Asrv, Rorv, Mul, Smulh, Umulh, Udiv, Sdiv}
use Rattle.a64.specs.declared.Op1.{Op1}
use Rattle.a64.specs.declared.Op1.TheVariants.{Rev, Clz}
use Rattle.a64.specs.declared.Form.{Form}
use Rattle.a64.specs.declared.Form.TheVariants.{DataProcessing, OneSource, Ldr, Str, Movz, Movk, Cmp, Csel, Sxtw, AddSp, SubSp, Blr, Ret, Unreadable}
use Rattle.ascii.specs.Ascii.{ascii}
use Rattle.a64_text.specs.Operands.{Operand, X, XSP, Imm, LSL, Mem, Cond, operand}

-- a mnemonic, its first operand and the others
pub record Syntax : Type 0 where
  pub mnemonic : String
  pub first : Operand
  pub more : List Operand

abbrev pub syntax_of : String → Operand → List Operand → Syntax
syntax_of m o os = record { mnemonic = m; first = o; more = os }

abbrev pub op_syntax : Op → Operand → Operand → Operand → Syntax
op_syntax Add d n m = syntax_of "add" d (n ∷ m ∷ LSL 0 ∷ [])
op_syntax Sub d n m = syntax_of "sub" d (n ∷ m ∷ LSL 0 ∷ [])
op_syntax And d n m = syntax_of "and" d (n ∷ m ∷ LSL 0 ∷ [])
op_syntax Orr d n m = syntax_of "orr" d (n ∷ m ∷ LSL 0 ∷ [])
op_syntax Eor d n m = syntax_of "eor" d (n ∷ m ∷ LSL 0 ∷ [])
op_syntax Bic d n m = syntax_of "bic" d (n ∷ m ∷ LSL 0 ∷ [])
op_syntax Orn d n m = syntax_of "orn" d (n ∷ m ∷ LSL 0 ∷ [])
op_syntax Eon d n m = syntax_of "eon" d (n ∷ m ∷ LSL 0 ∷ [])
op_syntax Lslv d n m = syntax_of "lslv" d (n ∷ m ∷ [])
op_syntax Lsrv d n m = syntax_of "lsrv" d (n ∷ m ∷ [])
op_syntax Asrv d n m = syntax_of "asrv" d (n ∷ m ∷ [])
op_syntax Rorv d n m = syntax_of "rorv" d (n ∷ m ∷ [])
op_syntax Mul d n m = syntax_of "madd" d (n ∷ m ∷ X 31 ∷ [])
op_syntax Smulh d n m = syntax_of "smulh" d (n ∷ m ∷ [])
op_syntax Umulh d n m = syntax_of "umulh" d (n ∷ m ∷ [])
op_syntax Udiv d n m = syntax_of "udiv" d (n ∷ m ∷ [])
op_syntax Sdiv d n m = syntax_of "sdiv" d (n ∷ m ∷ [])

abbrev pub op1_syntax : Op1 → Operand → Operand → Syntax
op1_syntax Rev d n = syntax_of "rev" d (n ∷ [])
op1_syntax Clz d n = syntax_of "clz" d (n ∷ [])

abbrev pub syntax : Form → Syntax
syntax (DataProcessing op rd rn rm) = op_syntax op (X rd) (X rn) (X rm)
syntax (OneSource op rd rn) = op1_syntax op (X rd) (X rn)
syntax (Ldr rt rn imm) = syntax_of "ldr" (X rt) (Mem rn (8 * imm) ∷ [])
syntax (Str rt rn imm) = syntax_of "str" (X rt) (Mem rn (8 * imm) ∷ [])
syntax (Movz rd hw imm) = syntax_of "movz" (X rd) (Imm imm ∷ LSL (16 * hw) ∷ [])
syntax (Movk rd hw imm) = syntax_of "movk" (X rd) (Imm imm ∷ LSL (16 * hw) ∷ [])
syntax (Cmp rn rm) = syntax_of "subs" (X 31) (X rn ∷ X rm ∷ LSL 0 ∷ [])
syntax (Csel rd rn rm c) = syntax_of "csel" (X rd) (X rn ∷ X rm ∷ Cond c ∷ [])
syntax (Sxtw rd rn) = syntax_of "sbfm" (X rd) (X rn ∷ Imm 0 ∷ Imm 31 ∷ [])
syntax (AddSp imm) = syntax_of "add" (XSP 31) (XSP 31 ∷ Imm imm ∷ LSL 0 ∷ [])
syntax (SubSp imm) = syntax_of "sub" (XSP 31) (XSP 31 ∷ Imm imm ∷ LSL 0 ∷ [])
syntax (Blr rn) = syntax_of "blr" (X rn) []
syntax Ret = syntax_of "ret" (X 30) []
-- no form; its word is UDF #0
syntax Unreadable = syntax_of "udf" (Imm 0) []

-- each further operand after a comma and a blank
unfoldable pub further : List Operand → List ℕ
unfolding operand
further [] = []
further (o ∷ os) = ascii ", " ++ (operand o ++ further os)

unfoldable pub text : Syntax → List ℕ
unfolding operand further
text s = ascii s.mnemonic ++ (ascii " " ++ (operand s.first ++ further s.more))
