-- A run's refusals 4 and 5, from its count and why it stopped.
use Rattle.std.proofs.Common.{Option, Some, None, Ok, Err}
use mathlib.Core.Bool.{Bool, cond}
use mathlib.Core.Path.{◌≡◌, refl, sym, ap, ◌∙◌}
use mathlib.Core.List.{List}
use Prim.Native.Nat.{ℕ, zero, suc, ◌+◌, ◌-◌, ◌%◌, ◌≤◌}
use native.Mathlib.Omega.{arith}
use lib.Dec.{eqb}
use lib.ListN.{drop}
use borrow.Author.Tests.{eq-eqb, ne_eqb}
use Rattle.rv64.specs.declared.decode.Instr.{Instr}
use Rattle.rv64.specs.declared.execute.Flow.{Flow}
use Rattle.rv64_run.specs.declared.run.Hart.{Hart}
use Rattle.rv64_run.specs.declared.run.Stop.{Stop}
use Rattle.rv64_run.specs.declared.run.Ran.{Ran}
use Rattle.rules.specs.declared.refusals.Refusal.{Refusal}
use Rattle.rv64.specs.Execute.{exec, covered}
use Rattle.rv64_run.specs.Run.{Fetched, fetch, run, step, onward, start, clamped, number, refusal_first, refusal_of, answer_of, answer, numbers}
use Rattle.rv64_run.specs.Parts.{at_first}
use Rattle.rv64_run.proofs.Entries.{in_run, run_same}

-- the count never falls

by_flow : (flow : Flow) (x : List ℕ) (pc n : ℕ) (go : Hart → Ran) → ((h : Hart) → n ≤ (go h).count) → n ≤ (onward flow x pc n go).count
unfolding onward
by_flow (Flow.Next to) x pc n go p = p _
by_flow (Flow.Ended to) x pc n go p = omega arith
by_flow Flow.Helper x pc n go p = omega arith
by_flow Flow.Uncovered x pc n go p = omega arith

by_step : (f : Fetched) (h : Hart) (n : ℕ) (go : ℕ → Hart → Ran) → ((size : ℕ) (h : Hart) → n ≤ (go size h).count) → n ≤ (step f h n go).count
unfolding step
by_step None h n go p = omega arith
by_step (Some (i, size)) h n go p = by_flow (exec i size h.pc h.x).flow _ _ n (go size) (p size)

counted : (e : Bool) (k n : ℕ) (bs : List ℕ) (h : Hart) → n ≤ (run e k n bs h).count
unfolding run
counted e zero n bs h = omega arith
counted e (suc k) n bs h =
    by_step (fetch e bs) h n _ (λ size h'. let c = counted e k (n + 1) (drop size bs) h' in omega arith)

-- the refusal by a run's outcome
unfoldable first : ℕ → Stop → Option Refusal
first count stop = cond (eqb count 0) (Some (at_first stop)) None

module _ (h : Hart) (go : ℕ → Hart → Ran) (p : (size : ℕ) (h : Hart) → 1 ≤ (go size h).count) where
  went : (size : ℕ) (h : Hart) → None ≡ first (go size h).count (go size h).stop
  unfolding first
  went size h' = let c = p size h' in rw (ne_eqb (go size h').count 0 (λ q. omega arith))

  by_first : (f : Fetched) → refusal_first f ≡ first (step f h 0 go).count (step f h 0 go).stop
  unfolding refusal_first step onward exec covered first at_first
  by_first None = refl
  by_first (Some (Instr.Op k rd rs1 rs2, size)) = went size _
  by_first (Some (Instr.OpImm k rd rs1 imm, size)) = went size _
  by_first (Some (Instr.Zbb k rd rs1 rs2, size)) = went size _
  by_first (Some (Instr.ZbbImm k rd rs1 imm, size)) = went size _
  by_first (Some (Instr.Lui rd imm, size)) = went size _
  by_first (Some (Instr.Auipc rd imm, size)) = went size _
  by_first (Some (Instr.Jal rd imm, size)) = refl
  by_first (Some (Instr.Jalr rd rs1 imm, size)) = refl
  by_first (Some (Instr.Branch k rs1 rs2 imm, size)) = refl
  by_first (Some (Instr.Nop, size)) = went size _
  by_first (Some (Instr.FenceI, size)) = refl
  by_first (Some (Instr.Helper, size)) = refl
  by_first (Some (Instr.Uncovered, size)) = refl

-- a run that did nothing left the hart as it was
module _ (h : Hart) (go : ℕ → Hart → Ran) (p : (size : ℕ) (h : Hart) → 1 ≤ (go size h).count) where
  done : (size : ℕ) (h' : Hart) → (go size h').count ≡ 0 → ⊥
  done size h' c = let q = p size h' in omega arith

  unmoved-by : (f : Fetched) → (step f h 0 go).count ≡ 0 → (step f h 0 go).hart ≡ h
  unfolding step onward exec
  unmoved-by None c = refl
  unmoved-by (Some (Instr.Op k rd rs1 rs2, size)) c = absurd (done size _ c)
  unmoved-by (Some (Instr.OpImm k rd rs1 imm, size)) c = absurd (done size _ c)
  unmoved-by (Some (Instr.Zbb k rd rs1 rs2, size)) c = absurd (done size _ c)
  unmoved-by (Some (Instr.ZbbImm k rd rs1 imm, size)) c = absurd (done size _ c)
  unmoved-by (Some (Instr.Lui rd imm, size)) c = absurd (done size _ c)
  unmoved-by (Some (Instr.Auipc rd imm, size)) c = absurd (done size _ c)
  unmoved-by (Some (Instr.Jal rd imm, size)) c = absurd (omega arith)
  unmoved-by (Some (Instr.Jalr rd rs1 imm, size)) c = absurd (omega arith)
  unmoved-by (Some (Instr.Branch k rs1 rs2 imm, size)) c = absurd (omega arith)
  unmoved-by (Some (Instr.Nop, size)) c = absurd (done size _ c)
  unmoved-by (Some (Instr.FenceI, size)) c = absurd (omega arith)
  unmoved-by (Some (Instr.Helper, size)) c = refl
  unmoved-by (Some (Instr.Uncovered, size)) c = refl

refused-at_first : (stop : Stop) (h : Hart) (r : Ran) → numbers (Err (record { refusal = at_first stop; given = h })) ≡ answer_of (Some (at_first stop)) h.x r
unfolding at_first answer_of number
refused-at_first Stop.NotFetched h r = refl
refused-at_first Stop.Limit h r = refl
refused-at_first Stop.Ended h r = refl
refused-at_first Stop.Helper h r = refl
refused-at_first Stop.Uncovered h r = refl

module _ (g : List ℕ) (h : Hart) (limit : ℕ) (e : Bool) (q : limit ≡ 0 → ⊥) (p : h.pc % 2 ≡ 0) where
  abbrev begun : Hart
  begun = start h.x h.pc

  by_run : (k : ℕ) → refusal_first (fetch e g) ≡ first (run e (suc k) 0 g begun).count (run e (suc k) 0 g begun).stop
  unfolding run
  by_run k = by_first begun _ (λ size h'. counted e k 1 (drop size g) h') (fetch e g)

  -- the answer by the run r, which register 0's entry passes through, and its outcome
  by_outcome : {r : Ran} → r ≡ run e (clamped limit) 0 g h → (q' : Option Refusal) → first r.count r.stop ≡ q' → answer_of q' h.x (in_run r) ≡ answer g h limit e
  unfolding answer refusal_of
  by_outcome {r} s q' f =
      let k : clamped limit ≡ suc (clamped limit - 1) = omega arith in
      let b : in_run r ≡ run e (clamped limit) 0 g begun = ap (λ (r : Ran). in_run r) s ∙ sym (run_same e (clamped limit) 0 g h.x h.pc) in
      let z : refusal_first (fetch e g) ≡ q' = by_run (clamped limit - 1) ∙ (rw (← k, ← b) f) in
      rw (ne_eqb limit 0 q, eq-eqb (h.pc % 2) 0 p, z, ← b)

  pub answer-at_first : {r : Ran} → r ≡ run e (clamped limit) 0 g h → r.count ≡ 0 → numbers (Err (record { refusal = at_first r.stop; given = h })) ≡ answer g h limit e
  unfolding first
  answer-at_first {r} s c = refused-at_first r.stop h (in_run r) ∙ by_outcome s (Some (at_first r.stop)) (rw (eq-eqb r.count 0 c))

  pub accepted : {r : Ran} → r ≡ run e (clamped limit) 0 g h → (r.count ≡ 0 → ⊥) → numbers (Ok (in_run r)) ≡ answer g h limit e
  unfolding first answer_of number
  accepted {r} s c = by_outcome s None (rw (ne_eqb r.count 0 c))

  unmoved-run : (k : ℕ) → (run e (suc k) 0 g h).count ≡ 0 → (run e (suc k) 0 g h).hart ≡ h
  unfolding run
  unmoved-run k c = unmoved-by h _ (λ size h'. counted e k 1 (drop size g) h') (fetch e g) c

  pub unmoved : {r : Ran} → r ≡ run e (clamped limit) 0 g h → r.count ≡ 0 → r.hart ≡ h
  unmoved {r} s c =
      let k : clamped limit ≡ suc (clamped limit - 1) = omega arith in
      rw (s, k) (unmoved-run (clamped limit - 1) (rw (← k, ← s) c))
