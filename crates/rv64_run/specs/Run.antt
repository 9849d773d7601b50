-- A block's run by the ISA's definition, and the operation RV64 run of document 01. Definitions only.
use Rattle.std.specs.Prelude.{Bool, cond, not, List, ℕ, zero, suc, ◌+◌, ◌%◌, min, ltb, eqb, length, drop, set, Option, Some, None, Result, Ok, Err}
use Rattle.rules.specs.Limits.{max_instrs}
use Rattle.rules.specs.Refusals as Refusals
use Rattle.le.specs.Le.{load}
use Rattle.rv64.specs.declared.execute.Flow.{Flow}
use Rattle.rv64_run.specs.declared.run.Hart.{Hart}
use Rattle.rv64_run.specs.declared.run.Stop.{Stop}
use Rattle.rv64_run.specs.declared.run.Ran.{Ran}
use Rattle.rules.specs.declared.refusals.Refusal.{Refusal}
use Rattle.rules.specs.declared.refusals.Refused.{Refused}
use Rattle.rv64.specs.declared.decode.Instr.{Instr}
use Rattle.rv64.specs.Decode.{decode32}
use Rattle.rvc.specs.Compressed.{decode16}
use Rattle.rv64.specs.Execute as X

-- ---- fetching, from the bytes at the PC on ('Base Instruction-Length Encoding'; document 01, rule 1)

-- the first two bytes, and the first four
abbrev pub halfword : List ℕ → ℕ
halfword bs = load 2 bs 0

abbrev pub word : List ℕ → ℕ
word bs = load 4 bs 0

-- the instruction and its length in bytes; none where fewer bytes are left than it has
abbrev pub Fetched : Type 0
Fetched = Option (Instr × ℕ)

-- low two bits 11: 32 bits, else 16. A lone last byte is no halfword. e: C.EBREAK does nothing
unfoldable pub fetch : Bool → List ℕ → Fetched
fetch e bs =
    cond (ltb (length bs) 2) None
    (cond (not (eqb (halfword bs % 4) 3)) (Some (decode16 e (halfword bs), 2))
    (cond (ltb (length bs) 4) None (Some (decode32 (word bs), 4))))

-- ---- the run

abbrev pub hart : List ℕ → ℕ → Hart
hart x pc = record { x = x; pc = pc }

-- as a run begins: register 0's entry is read as 0, whatever it is (document 02, No. 6)
abbrev pub start : List ℕ → ℕ → Hart
start x pc = hart (set x 0 0) pc

abbrev pub stopped : Hart → ℕ → Stop → Ran
stopped h n why = record { hart = h; count = n; stop = why }

-- after a step that left the registers x; pc: the step's PC, n: the instructions before it; go: how the run goes on. A
-- helper's instruction and one that is not covered are not counted
unfoldable pub onward : Flow → List ℕ → ℕ → ℕ → (Hart → Ran) → Ran
onward (Flow.Next to) x pc n go = go (hart x to)
onward (Flow.Ended to) x pc n go = stopped (hart x to) (n + 1) Stop.Ended
onward Flow.Helper x pc n go = stopped (hart x pc) n Stop.Helper
onward Flow.Uncovered x pc n go = stopped (hart x pc) n Stop.Uncovered

unfoldable pub step : Fetched → Hart → ℕ → (ℕ → Hart → Ran) → Ran
step None h n go = stopped h n Stop.NotFetched
step (Some (i, size)) h n go =
    onward (X.exec i size h.pc h.x).flow (X.exec i size h.pc h.x).x h.pc n (go size)

-- at most k instructions after n others, one after another, from the bytes at the hart's PC on: inside a block the PC
-- moves by the instruction's size alone, and so does the place in the bytes
unfoldable pub run : Bool → ℕ → ℕ → List ℕ → Hart → Ran
run e zero n bs h = stopped h n Stop.Limit
run e (suc k) n bs h = step (fetch e bs) h n (λ (size : ℕ). run e k (n + 1) (drop size bs))

-- ---- the operation

abbrev pub clamped : ℕ → ℕ
clamped limit = min limit max_instrs

-- document 01's numbers; none: 0
unfoldable pub number : Option Refusal → ℕ
number None = Refusals.accepted
number (Some q) = Refusals.number q

unfoldable pub refusal_first : Fetched → Option Refusal
refusal_first None = Some Refusal.NotFetched
refusal_first (Some (i, size)) = cond (X.covered i) None (Some Refusal.NotCovered)

-- the lowest that applies
unfoldable pub refusal_of : List ℕ → ℕ → ℕ → Bool → Option Refusal
refusal_of guest pc limit e =
    cond (eqb limit 0) (Some Refusal.LimitZero)
    (cond (not (eqb (pc % 2) 0)) (Some Refusal.OddPc) (refusal_first (fetch e guest)))

-- the refusal, or none; the hart after the run, and how many instructions it did
pub record Answer : Type 0 where
  pub refusal : Option Refusal
  pub hart : Hart
  pub count : ℕ

-- the answer of the code: where refused, the registers that it gives back, and every other number 0
abbrev pub numbers : Result Ran (Refused Hart) → Answer
numbers (Ok r) = record { refusal = None; hart = r.hart; count = r.count }
numbers (Err e) = record { refusal = Some e.refusal; hart = hart e.given.x 0; count = 0 }

-- where refused, the registers as they were, and every other number 0
unfoldable pub answer_of : Option Refusal → List ℕ → Ran → Answer
answer_of q x r =
    cond (eqb (number q) 0) (record { refusal = q; hart = r.hart; count = r.count })
    (record { refusal = q; hart = hart x 0; count = 0 })

unfoldable pub answer : List ℕ → Hart → ℕ → Bool → Answer
answer guest h limit e =
    answer_of (refusal_of guest h.pc limit e) h.x (run e (clamped limit) 0 guest (start h.x h.pc))
