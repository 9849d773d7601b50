-- Calls of the emitter, one for each line of the Rust, and the words that each adds.
use Rattle.std.specs.Prelude.{ℕ, ◌+◌, ◌*◌, cond, eqb, Option, Some, None}
use mathlib.Core.List.{List, [], ◌∷◌, ◌++◌, map, flatten}
use Rattle.a64_emitter.specs.Writers.{ldr_x, str_x, movz}
use Rattle.a64_emitter.specs.Writers as Writers
use Rattle.emit_native.specs.declared.EmitFlow.{EmitFlow}
use Rattle.emit_native.specs.declared.EmitFlow.TheVariants.{Continue, Terminate}

-- ---- calls

-- `em.emit(..)`; `em.mov_imm64(rd, val)`; and the emitted load and store of guest register n, `A64Emitter::ldr_x(rt, 0, Self::reg_off(n))`
-- and `A64Emitter::str_x(rt, 0, Self::reg_off(n))`
pub data Call : Type 0 where
  emit : ℕ → Call
  mov_imm64 : ℕ → ℕ → Call
  load : ℕ → ℕ → Call
  store : ℕ → ℕ → Call

-- slot n is at X0 plus the slot offset plus 8 n (document 01, rule 9)
abbrev pub reg_off : ℕ → ℕ → ℕ
reg_off slot_offset n = slot_offset + 8 * n

-- whose translator: the Rust's, or the product's, whose load of register 0 is MOVZ with 0 (document 02, No. 6), and which
-- takes Zbb before the Rust's instructions (No. 7)
pub data Dialect : Type 0 where
  rust : Dialect
  product : Dialect

abbrev pub load_word : Dialect → ℕ → ℕ → ℕ → ℕ
load_word rust slot_offset rt n = ldr_x rt 0 (reg_off slot_offset n)
load_word product slot_offset rt n = cond (eqb n 0) (movz rt 0) (ldr_x rt 0 (reg_off slot_offset n))

-- the words that a call adds
abbrev pub call_words : Dialect → ℕ → Call → List ℕ
call_words d slot_offset (emit w) = w ∷ []
call_words d slot_offset (mov_imm64 rd val) = Writers.mov_imm64 rd val
call_words d slot_offset (load rt n) = load_word d slot_offset rt n ∷ []
call_words d slot_offset (store rt n) = str_x rt 0 (reg_off slot_offset n) ∷ []

-- of several calls: a group for each, and all
abbrev pub groups_in : Dialect → ℕ → List Call → List (List ℕ)
groups_in d slot_offset cs = map (call_words d slot_offset) cs

unfoldable pub words_in : Dialect → ℕ → List Call → List ℕ
words_in d slot_offset cs = flatten (groups_in d slot_offset cs)

-- as the product reads them
abbrev pub groups : ℕ → List Call → List (List ℕ)
groups slot_offset cs = groups_in product slot_offset cs

abbrev pub words : ℕ → List Call → List ℕ
words slot_offset cs = words_in product slot_offset cs

-- `if n != 0 { .. }`
abbrev pub if_not_0 : ℕ → List Call → List Call
if_not_0 n cs = cond (eqb n 0) [] cs

-- ---- the calls that an emitter makes, and what it answers: `None` leaves the calls made before it

-- a flow, or none
abbrev pub Flow : Type 0
Flow = Option EmitFlow

pub record Emission : Type 0 where
  pub calls : List Call
  pub flow : Flow

abbrev pub continue : List Call → Emission
continue cs = record { calls = cs; flow = Some Continue }

abbrev pub terminate : List Call → Emission
terminate cs = record { calls = cs; flow = Some Terminate }

abbrev pub none : List Call → Emission
none cs = record { calls = cs; flow = None }

-- calls in front of a match
abbrev pub calls_first : List Call → Emission → Emission
calls_first cs e = record { calls = cs ++ e.calls; flow = e.flow }

-- `store_rd(em, rd)` after a match, which a `return None` passes by
unfoldable pub store_rd : Flow → ℕ → List Call
store_rd (Some Continue) rd = if_not_0 rd (store 11 rd ∷ [])
store_rd (Some Terminate) rd = []
store_rd None rd = []

abbrev pub then_store_rd : ℕ → Emission → Emission
then_store_rd rd e = record { calls = e.calls ++ store_rd e.flow rd; flow = e.flow }
