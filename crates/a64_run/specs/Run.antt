-- The run of a block's words, and the operation A64 run (document 01). Definitions only.
use Rattle.std.specs.Prelude.{ℕ, zero, suc, ◌+◌, ◌*◌, ◌%◌, ◌^◌, cond, not, Result as RustResult, Ok, Err, List, [], ◌∷◌, length, drop, ◌==◌, nat_lt}
use Rattle.rules.specs.Refusals as Refusals
use Rattle.word.specs.Word.{wrap}
pub use Rattle.le.specs.Le.{words}
use Rattle.a64.specs.Forms.{decode}
use Rattle.a64_exec.specs.declared.state.A64State.{A64State}
use Rattle.a64_exec.specs.declared.exec.Outcome.{Outcome}
use Rattle.a64_run.specs.declared.run.End.{End}
use Rattle.a64_run.specs.declared.run.Ran as Declared
use Rattle.rules.specs.declared.refusals.Refused.{Refused}
use Rattle.a64_exec.specs.Exec.{State, machine, with_reg, After, exec}

pub record Ran : Type 0 where
  pub end : End
  pub steps : ℕ
  pub state : State

abbrev pub ran : End → ℕ → State → Ran
ran e k s = record { end = e; steps = k; state = s }

-- after the word at the address at, of which k were done before: `go` is the run of the words after it
unfoldable pub onward : After → ℕ → ℕ → (State → Ran) → Ran
onward a at k go = by a.outcome a.state
  where
    by : Outcome → State → Ran
    by Outcome.Next s = go s
    by Outcome.Fault s = ran End.Fault k s
    by Outcome.Unreadable s = ran End.Unreadable k s
    by Outcome.Return s = ran End.Returned (suc k) s
    by Outcome.Call s = ran End.Called (suc k) (with_reg s 30 (wrap (at + 4)))

-- words, the address of the first, the budget left, the steps done. Before each word: off the end, spent, then the word
unfoldable pub run : List ℕ → ℕ → ℕ → ℕ → State → Ran
unfolding onward
run [] at budget k s = ran End.OffEnd k s
run (w ∷ ws) at zero k s = ran End.Spent k s
run (w ∷ ws) at (suc budget) k s = onward (exec (decode w) s) at k (run ws (at + 4) budget (suc k))

-- from the word of this number on, counted from 0; address: of word 0. Beyond the last there is none (document 02, No. 5)
abbrev pub from : List ℕ → ℕ → ℕ → ℕ → State → Ran
from block address first budget s = run (drop first (words block)) (address + 4 * first) budget 0 s

-- ---- the operations

abbrev pub end_number : End → ℕ
end_number End.OffEnd = 1
end_number End.Spent = 2
end_number End.Unreadable = 3
end_number End.Fault = 4
end_number End.Returned = 5
end_number End.Called = 6

abbrev pub at_entry : A64State → ℕ → List ℕ → State
at_entry s base mem = machine s.x s.sp s.flags base mem

-- the state without memory
abbrev pub registers : State → A64State
registers s = record { x = s.x; sp = s.sp; flags = s.flags }

-- the refusal, or 0 and document 01's number of the end, the steps done and the state after them
pub record Answer : Type 0 where
  pub refusal : ℕ
  pub end : ℕ
  pub steps : ℕ
  pub state : A64State

-- its answer, and the memory bytes afterwards
pub record Result : Type 0 where
  pub answer : Answer
  pub memory : List ℕ

abbrev pub result : Answer → List ℕ → Result
result a mem = record { answer = a; memory = mem }

abbrev pub accepted : Ran → Result
accepted r =
    result (record { refusal = Refusals.accepted; end = end_number r.end; steps = r.steps; state = registers r.state }) r.state.mem

-- a refusal leaves state and memory
abbrev pub refused : ℕ → A64State → Answer
refused n s = record { refusal = n; end = 0; steps = 0; state = s }

-- the answer of the code
abbrev pub numbers : RustResult Declared.Ran (Refused A64State) → Answer
numbers (Ok r) = record { refusal = Refusals.accepted; end = end_number r.end; steps = r.steps; state = r.state }
numbers (Err e) = refused (Refusals.number e.refusal) e.given

-- the refusals, else the run r
unfoldable pub answered : List ℕ → A64State → List ℕ → ℕ → Ran → Result
answered block s mem base r =
    cond (not (length block % 4 == 0)) (result (refused Refusals.block_length s) mem)
    (cond (nat_lt (2 ^ 64) (base + length mem)) (result (refused Refusals.memory_exceeds_top s) mem)
    (accepted r))

-- A64 run: from word 0
abbrev pub a64_run : List ℕ → ℕ → A64State → ℕ → List ℕ → ℕ → Result
a64_run block address s budget mem base = answered block s mem base (run (words block) address budget 0 (at_entry s base mem))

-- A64 run from: from the word numbered first, as after a call
abbrev pub a64_run_from : List ℕ → ℕ → ℕ → A64State → ℕ → List ℕ → ℕ → Result
a64_run_from block address first s budget mem base = answered block s mem base (from block address first budget (at_entry s base mem))
