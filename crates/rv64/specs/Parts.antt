-- What the functions of this crate promise one another; no operation's contract reaches it.
-- Each is by the definitions of what an instruction does.
use Rattle.std.specs.Prelude.{Option, Some, None, ◌≡◌, ℕ, ◌+◌, ◌*◌, ◌<◌, Bool, cond, List, [], ◌∷◌, nat_lt}
use Rattle.word.specs.Word.{add}
use Rattle.isa.specs.declared.zbb.Found.{Found}
use Rattle.isa.specs.Zbb.{find, MaybeZbb}
use Rattle.isa.specs.Formats.{inst, opcode, rd, rs1, rs2, funct3, i_imm}
use Rattle.rv64.specs.declared.alu.Alu.{Alu}
use Rattle.rv64.specs.declared.alu.Cond.{Cond}
use Rattle.rv64.specs.declared.decode.Instr.{Instr}
use Rattle.rv64.specs.declared.execute.Flow.{Flow}
use Rattle.rv64.specs.declared.execute.Effect.{Effect}
use Rattle.rv64.specs.Alu.{value, taken}
use Rattle.rv64.specs.Zbb.{zbb_value}
use Rattle.rv64.specs.Decode.{Table, lookup, itself, imms, shifts, imms32, shifts32, branches, funct10}
use Rattle.rv64.specs.Execute as X
use Rattle.rv64.specs.Execute.{Step, exec, next, read, write}

-- the answer flow and the registers x are those of a step
abbrev pub Does : Step → Flow → List ℕ → Type 0
Does s flow x = (flow ≡ s.flow) × (x ≡ s.x)

-- an effect on the registers x; pc: the address after the instruction
unfoldable pub applied : Effect → ℕ → List ℕ → Step
applied (Effect.Set rd v) pc x = next (write x rd v) pc
applied (Effect.Link rd to) pc x = X.ended (write x rd pc) to
applied (Effect.Ended to) pc x = X.ended x to
applied Effect.Next pc x = next x pc
applied Effect.Helper pc x = record { x = x; flow = Flow.Helper }
applied Effect.Uncovered pc x = record { x = x; flow = Flow.Uncovered }

-- the register that it sets
abbrev pub sets : Effect → ℕ
sets (Effect.Set rd v) = rd
sets (Effect.Link rd to) = rd
sets (Effect.Ended to) = 0
sets Effect.Next = 0
sets Effect.Helper = 0
sets Effect.Uncovered = 0

-- the effect e is that of an instruction of n bytes at pc, on the registers x
abbrev pub Gives : Effect → Instr → ℕ → ℕ → List ℕ → Type 0
Gives e i n pc x = (sets e < 32) × (applied e (add pc n) x ≡ exec i n pc x)

-- what a table's entry at n computes of x and y
abbrev pub computed : Table Alu → ℕ → ℕ → ℕ → Option ℕ → Option ℕ
computed t n x y other = lookup t n (λ (k : Alu). Some (value k x y)) other

unfoldable pub shift_imm : ℕ → ℕ → Option ℕ
shift_imm w x = computed shifts (inst 31 26 w * 8 + funct3 w) x (inst 25 20 w) None

unfoldable pub op_imm : ℕ → ℕ → Option ℕ
op_imm w x = computed imms (funct3 w) x (i_imm w) (shift_imm w x)

unfoldable pub shift_imm_32 : ℕ → ℕ → Option ℕ
shift_imm_32 w x = computed shifts32 (funct10 w) x (inst 24 20 w) None

unfoldable pub op_imm_32 : ℕ → ℕ → Option ℕ
op_imm_32 w x = computed imms32 (funct3 w) x (i_imm w) (shift_imm_32 w x)

-- what a Zbb instruction computes of x and y
unfoldable pub zbb_computed : MaybeZbb → ℕ → ℕ → Option ℕ
zbb_computed (Some (Found.Register z)) x y = Some (zbb_value z x y)
zbb_computed (Some (Found.Number z n)) x y = Some (zbb_value z x n)
zbb_computed (Some (Found.Unary z)) x y = Some (zbb_value z x 0)
zbb_computed None x y = None

-- a computed value in rd
unfoldable pub put : Option ℕ → ℕ → Effect
put (Some v) rd = Effect.Set rd v
put None rd = Effect.Uncovered

-- the effect of a Zbb word on the registers x
unfoldable pub zbb_effect : ℕ → List ℕ → Effect
zbb_effect w x = put (zbb_computed (find w) (read x (rs1 w)) (read x (rs2 w))) (rd w)

-- e, or f where e is uncovered
unfoldable pub or_else : Effect → Effect → Effect
or_else (Effect.Set rd v) f = Effect.Set rd v
or_else (Effect.Link rd to) f = Effect.Link rd to
or_else (Effect.Ended to) f = Effect.Ended to
or_else Effect.Next f = Effect.Next
or_else Effect.Helper f = Effect.Helper
or_else Effect.Uncovered f = f

abbrev pub ended : Bool → ℕ → ℕ → Effect
ended t to pc = Effect.Ended (cond t to pc)

unfoldable pub branched : ℕ → ℕ → ℕ → ℕ → ℕ → Effect
branched n x y to pc = lookup branches n (λ (k : Cond). ended (taken k x y) to pc) Effect.Uncovered

unfoldable pub below : ℕ → ℕ → Effect → Effect
below w n e = cond (nat_lt (funct3 w) n) e Effect.Uncovered

-- pc: the address after the instruction
unfoldable pub fences : ℕ → Table Effect
fences pc =
    (0b000, Effect.Next)
    ∷ (0b001, Effect.Ended pc)
    ∷ []

unfoldable pub fenced : ℕ → ℕ → Effect
fenced n pc = lookup (fences pc) n itself Effect.Uncovered

-- by opcode: LOAD, LOAD-FP, MISC-MEM, STORE, STORE-FP, AMO, SYSTEM
unfoldable pub others : ℕ → ℕ → Table Effect
others w pc =
    (0x03, below w 7 Effect.Helper)
    ∷ (0x07, Effect.Helper)
    ∷ (0x0F, fenced (funct3 w) pc)
    ∷ (0x23, below w 4 Effect.Helper)
    ∷ (0x27, Effect.Helper)
    ∷ (0x2F, Effect.Helper)
    ∷ (0x73, Effect.Uncovered)
    ∷ []

unfoldable pub other : ℕ → ℕ → Effect
other w pc = lookup (others w pc) (opcode w) itself Effect.Uncovered
