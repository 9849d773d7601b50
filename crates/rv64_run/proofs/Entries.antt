-- Register 0's entry passes through a run, and touches nothing else. Assumes nothing.
use Rattle.std.proofs.Common.{Some, None}
use mathlib.Core.Path.{◌≡◌, refl}
use mathlib.Core.Bool.{Bool, true, false, cond}
use mathlib.Core.List.{List, [], ◌∷◌}
use Prim.Native.Nat.{ℕ, zero, suc, ◌+◌}
use lib.Dec.{eqb}
use lib.ListN.{get_or, set, drop}
use lib.Seq.{get_or-set_other}
use borrow.Author.Tests.{eqb-false}
use Rattle.rv64.specs.declared.decode.Instr.{Instr}
use Rattle.rv64.specs.declared.execute.Flow.{Flow}
use Rattle.rv64.specs.Execute.{Step, read, write, exec}
use Rattle.rv64_run.specs.declared.run.Hart.{Hart}
use Rattle.rv64_run.specs.declared.run.Ran.{Ran}
use Rattle.rv64_run.specs.Run.{Fetched, fetch, start, onward, step, run}

-- a step's and a run's registers with 0 for register 0
abbrev in_step : Step → Step
in_step s = record { x = set s.x 0 0; flow = s.flow }

abbrev pub in_run : Ran → Ran
in_run r = record { hart = start r.hart.x r.hart.pc; count = r.count; stop = r.stop }

set-set : (x : List ℕ) (d w : ℕ) → (d ≡ 0 → ⊥) → set (set x 0 0) d w ≡ set (set x d w) 0 0
set-set [] d w h = refl
set-set (y ∷ x) zero w h = absurd (h refl)
set-set (y ∷ x) (suc d) w h = refl

read_same : (x : List ℕ) (k : ℕ) → read (set x 0 0) k ≡ read x k
unfolding read
read_same x k = by (eqb k 0) refl
  where
    by : (c : Bool) → eqb k 0 ≡ c → cond c 0 (get_or (set x 0 0) k 0) ≡ cond c 0 (get_or x k 0)
    by true q = refl
    by false q = get_or-set_other x 0 k 0 0 (eqb-false k 0 q)

write_same : (x : List ℕ) (d w : ℕ) → write (set x 0 0) d w ≡ set (write x d w) 0 0
unfolding write
write_same x d w = by (eqb d 0) refl
  where
    by : (c : Bool) → eqb d 0 ≡ c → cond c (set x 0 0) (set (set x 0 0) d w) ≡ set (cond c x (set x d w)) 0 0
    by true q = refl
    by false q = set-set x d w (eqb-false d 0 q)

exec_same : (i : Instr) (n pc : ℕ) (x : List ℕ) → exec i n pc (set x 0 0) ≡ in_step (exec i n pc x)
unfolding exec
exec_same (Instr.Op k d a b) n pc x = rw (read_same x a, read_same x b, write_same)
exec_same (Instr.OpImm k d a c) n pc x = rw (read_same x a, write_same)
exec_same (Instr.Zbb k d a b) n pc x = rw (read_same x a, read_same x b, write_same)
exec_same (Instr.ZbbImm k d a c) n pc x = rw (read_same x a, write_same)
exec_same (Instr.Lui d c) n pc x = rw write_same
exec_same (Instr.Auipc d c) n pc x = rw write_same
exec_same (Instr.Jal d c) n pc x = rw write_same
exec_same (Instr.Jalr d a c) n pc x = rw (read_same x a, write_same)
exec_same (Instr.Branch k a b c) n pc x = rw (read_same x a, read_same x b)
exec_same Instr.Nop n pc x = refl
exec_same Instr.FenceI n pc x = refl
exec_same Instr.Helper n pc x = refl
exec_same Instr.Uncovered n pc x = refl

onward_same : (f : Flow) (x : List ℕ) (pc n : ℕ) (go : Hart → Ran) → ((x : List ℕ) (pc : ℕ) → go (start x pc) ≡ in_run (go (record { x = x; pc = pc })))
    → onward f (set x 0 0) pc n go ≡ in_run (onward f x pc n go)
unfolding onward
onward_same (Flow.Next to) x pc n go h = h x to
onward_same (Flow.Ended to) x pc n go h = refl
onward_same Flow.Helper x pc n go h = refl
onward_same Flow.Uncovered x pc n go h = refl

step_same : (f : Fetched) (x : List ℕ) (pc n : ℕ) (go : ℕ → Hart → Ran) → ((size : ℕ) (x : List ℕ) (pc : ℕ) → go size (start x pc) ≡ in_run (go size (record { x = x; pc = pc })))
    → step f (start x pc) n go ≡ in_run (step f (record { x = x; pc = pc }) n go)
unfolding step
step_same None x pc n go h = refl
step_same (Some (i, size)) x pc n go h = rw (exec_same i size pc x) (onward_same (exec i size pc x).flow (exec i size pc x).x pc n (go size) (h size))

pub run_same : (e : Bool) (k n : ℕ) (bs : List ℕ) (x : List ℕ) (pc : ℕ) → run e k n bs (start x pc) ≡ in_run (run e k n bs (record { x = x; pc = pc }))
unfolding run
run_same e zero n bs x pc = refl
run_same e (suc k) n bs x pc = step_same (fetch e bs) x pc n _ (λ size x pc. run_same e k (n + 1) (drop size bs) x pc)
