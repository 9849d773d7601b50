-- What the step of a 16-bit instruction does is what the instruction that it stands for does.
use Rattle.std.proofs.Common.{◌≡◌, ◌<◌, ◌^◌, None, ℕ, ◌+◌, ◌*◌, cond, eqb, List, refl}
use native.Mathlib.Omega as N
use Rattle.word.specs.Word.{add}
use Rattle.isa.specs.Formats.{inst, high_reg, low_reg}
use Rattle.rv64.specs.declared.decode.Instr.{Instr}
use Rattle.rv64.specs.declared.execute.Effect.{Effect}
use Rattle.rv64.specs.Execute.{exec, read}
use Rattle.rv64.specs.Parts as S
use Rattle.rv64.proofs.Tables.{either}
use Rattle.rv64.proofs.Steps.{pick_sets, table}
use Rattle.rvc.specs.Compressed as C

-- sums with 0
pub plus_0 : (v : ℕ) → v < 2 ^ 64 → add v 0 ≡ v
plus_0 v h = omega N.arith

pub plus-0 : (v : ℕ) → v < 2 ^ 64 → add 0 v ≡ v
plus-0 v h = omega N.arith

module _ (w pc : ℕ) (x : List ℕ) where
  -- C.SUB and the others of its group
  pub arith : S.Gives (S.put (S.computed C.ariths (inst 12 12 w * 4 + inst 6 5 w) (read x (high_reg w)) (read x (low_reg w)) None) (high_reg w)) (C.arith w) 2 pc x
  unfolding S.put S.applied exec C.arith
  arith = table w pc x 2 (high_reg w) _ _ (omega N.arith) C.ariths (inst 12 12 w * 4 + inst 6 5 w) (C.reg w) (λ k. refl) _ _ refl

  pub unless : (n : ℕ) (i : Instr) (e : Effect) → S.Gives e i 2 pc x → S.Gives (cond (eqb n 0) Effect.Uncovered e) (C.unless0 n i) 2 pc x
  unfolding C.unless0 S.applied exec
  unless n i e p =
      (pick_sets (eqb n 0) _ _ (omega N.arith) p.0, either (λ (f : Effect). S.applied f (add pc 2) x) (λ (j : Instr). exec j 2 pc x) (eqb n 0) refl p.1)
