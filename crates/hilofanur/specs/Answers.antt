-- What each operation answers over the C boundary, and each lent byte afterwards. Definitions only.
use Rattle.std.specs.Prelude.{Bool, cond, List, ℕ, eqb}
use Rattle.le.specs.Le.{all_bytes}
use Rattle.emit_native.specs.declared.Host.{Host}
use Rattle.translator.specs.Translate as T
use Rattle.code_cache.specs.Place as P
use Rattle.rv64_run.specs.Run as Rv64
use Rattle.a64_run.specs.Run as A64
use Rattle.state_bytes.specs.States.{a64_state, a64_bytes, rv64_hart}
use Rattle.hilofanur.specs.declared.TranslateAnswer.{TranslateAnswer}
use Rattle.hilofanur.specs.declared.PlaceAnswer.{PlaceAnswer}
use Rattle.hilofanur.specs.declared.A64RunAnswer.{A64RunAnswer}
use Rattle.hilofanur.specs.declared.Rv64RunAnswer.{Rv64RunAnswer}
use Rattle.hilofanur.specs.declared.ListAnswer.{ListAnswer}
use Rattle.hilofanur.specs.declared.IndexPlaceAnswer.{IndexPlaceAnswer}
use Rattle.hilofanur.specs.declared.IndexLookupAnswer.{IndexLookupAnswer}
use Rattle.listing.specs.Listing.{Listed}
use Rattle.block_index.specs.Model.{Placed, Found}

-- ---- Translate: the answer, and the output's bytes

pub record TranslateResult : Type 0 where
  pub answer : TranslateAnswer
  pub output : List ℕ

abbrev pub translate_result : TranslateAnswer → List ℕ → TranslateResult
translate_result a output = record { answer = a; output = output }

abbrev pub translate_of : T.Result → TranslateResult
translate_of r =
    let a = r.answer in
    translate_result (record { refusal = a.refusal; length = a.length; count = a.count; end = a.end }) r.output

abbrev pub translate : List ℕ → ℕ → ℕ → Host → List ℕ → TranslateResult
translate guest pc limit host output = translate_of (T.translate host guest pc limit output)

-- what the caller gives, in the order of the boundary
abbrev pub host : Bool → ℕ → ℕ → ℕ → ℕ → Host
host ignore_ebreak slot_offset memory_helper helper32 helper16 =
    record {
      slot_offset = slot_offset;
      memory_helper = memory_helper;
      helper32 = helper32;
      helper16 = helper16;
      ignore_ebreak = ignore_ebreak;
    }

-- ---- Place: the answer, and the store's bytes

pub record PlaceResult : Type 0 where
  pub answer : PlaceAnswer
  pub store : List ℕ

abbrev pub place_result : PlaceAnswer → List ℕ → PlaceResult
place_result a store = record { answer = a; store = store }

abbrev pub place_numbers : P.Answer → PlaceAnswer
place_numbers a = record { refusal = a.refusal; start = a.start; used = a.used }

abbrev pub place_of : P.Outcome → PlaceResult
place_of p = place_result (place_numbers p.answer) p.store

abbrev pub place : List ℕ → ℕ → List ℕ → PlaceResult
place store used code = place_of (P.place store used code)

-- ---- A64 run and A64 run from: the answer, the state's bytes and the memory's

pub record A64Result : Type 0 where
  pub answer : A64RunAnswer
  pub state : List ℕ
  pub memory : List ℕ

abbrev pub a64_result : A64RunAnswer → List ℕ → List ℕ → A64Result
a64_result a state mem = record { answer = a; state = state; memory = mem }

-- a refusal leaves the state's bytes
abbrev pub a64_of : List ℕ → A64.Result → A64Result
a64_of state r =
    a64_result (record { refusal = r.answer.refusal; end = r.answer.end; steps = r.answer.steps })
    (cond (eqb r.answer.refusal 0) (a64_bytes r.answer.state) state) r.memory

abbrev pub a64_run : List ℕ → ℕ → List ℕ → ℕ → List ℕ → ℕ → A64Result
a64_run block address state budget mem base = a64_of state (A64.a64_run block address (a64_state state) budget mem base)

abbrev pub a64_run_from : List ℕ → ℕ → ℕ → List ℕ → ℕ → List ℕ → ℕ → A64Result
a64_run_from block address first state budget mem base = a64_of state (A64.a64_run_from block address first (a64_state state) budget mem base)

-- ---- RV64 run: the answer, and the registers' bytes

pub record Rv64Result : Type 0 where
  pub answer : Rv64RunAnswer
  pub registers : List ℕ

abbrev pub rv64_result : Rv64RunAnswer → List ℕ → Rv64Result
rv64_result a registers = record { answer = a; registers = registers }

-- a refusal leaves the registers' bytes
abbrev pub rv64_of : List ℕ → Rv64.Answer → Rv64Result
rv64_of registers a =
    rv64_result (record { refusal = Rv64.number a.refusal; count = a.count; next_pc = a.hart.pc })
    (cond (eqb (Rv64.number a.refusal) 0) (all_bytes 8 a.hart.x) registers)

abbrev pub rv64_run : List ℕ → ℕ → ℕ → Bool → List ℕ → Rv64Result
rv64_run guest pc limit e registers = rv64_of registers (Rv64.answer guest (rv64_hart registers pc) limit e)

-- ---- List: the answer by the names of the operation

abbrev pub listed : ListAnswer → Listed
listed a = record { refusal = a.refusal; length = a.length; offset = a.offset }

-- ---- the index: the answers by the names of its operations

abbrev pub placed : IndexPlaceAnswer → Placed
placed a = record { refusal = a.refusal; start = a.start }

abbrev pub found : IndexLookupAnswer → Found
found a = record { refusal = a.refusal; start = a.start; length = a.length; count = a.count }
