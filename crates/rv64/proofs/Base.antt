-- A Zbb word is no instruction of the base ISA, which is therefore asked first. Assumes nothing.
use Rattle.std.specs.Prelude.{Some, None}
use Rattle.std.proofs.Common.{◌≡◌, ℕ, ◌^◌, ◌<◌, List, refl, ap}
use native.Mathlib.Omega as N
use Rattle.isa.specs.declared.zbb.Found.{Found}
use Rattle.isa.specs.Zbb.{MaybeZbb}
use Rattle.isa.specs.Classes.{class_of}
use Rattle.isa.specs.Formats.{rd, rs1, rs2}
use Rattle.isa.specs.Zbb as Z
use Rattle.isa.proofs.ZbbRows.{each_row}
use Rattle.word.specs.Word.{add}
use Rattle.rv64.specs.declared.decode.Instr.{Instr}
use Rattle.rv64.specs.declared.execute.Effect.{Effect}
use Rattle.rv64.specs.declared.execute.Flow.{Flow}
use Rattle.rv64.specs.Decode as D
use Rattle.rv64.specs.Execute.{Step, exec, read}
use Rattle.rv64.specs.Parts as S

pub uncovered : (w : ℕ) → w < 2 ^ 32 → (Z.find w ≡ None → ⊥) → D.base32 w ≡ Instr.Uncovered
unfolding Z.registers Z.word_shifts Z.unaries Z.shifts D.base32 D.by_class class_of D.op D.ops D.op32 D.ops32 D.op_imm D.imms D.shift_imm D.shifts D.op_imm_32 D.imms32 D.shift_imm_32 D.shifts32
uncovered w h =
    each_row w h (D.base32 w ≡ Instr.Uncovered)
    (λ a b c. rw (a, b, c), (λ a b c. rw (a, b, c), (λ a b c. rw (a, b, c), (λ a b c. rw (a, b, c), (λ a b c. rw (a, b, c), (λ a b c. rw (a, b, c), (λ a b c. rw (a, b, c), (λ a b c. rw (a, b, c), (λ a b c. rw (a, b, c), (λ a b c. rw (a, b, c), (λ a b c. rw (a, b, c), tt)))))))))))
    (λ a b c. rw (a, b, c), tt)
    (λ a b c d. rw (a, b, c), (λ a b c d. rw (a, b, c), (λ a b c d. rw (a, b, c), (λ a b c d. rw (a, b, d), (λ a b c d. rw (a, b, d), (λ a b c d. rw (a, b, d), (λ a b c d. rw (a, b, c), (λ a b c d. rw (a, b, c), (λ a b c d. rw (a, b, d), (λ a b c d. rw (a, b, c), (λ a b c d. rw (a, b, c), tt)))))))))))
    (λ a b c. rw (a, b, c), tt)

-- an effect that is not Uncovered stands
pub kept : (e f : Effect) → (e ≡ Effect.Uncovered → ⊥) → e ≡ S.or_else e f
unfolding S.or_else
kept (Effect.Set rd v) f a = refl
kept (Effect.Link rd to) f a = refl
kept (Effect.Ended to) f a = refl
kept Effect.Next f a = refl
kept Effect.Helper f a = refl
kept Effect.Uncovered f a = absurd (a refl)

or_uncovered : (e : Effect) → S.or_else e Effect.Uncovered ≡ e
unfolding S.or_else
or_uncovered (Effect.Set rd v) = refl
or_uncovered (Effect.Link rd to) = refl
or_uncovered (Effect.Ended to) = refl
or_uncovered Effect.Next = refl
or_uncovered Effect.Helper = refl
or_uncovered Effect.Uncovered = refl

module _ (w pc : ℕ) (x : List ℕ) where
  -- what leaves an instruction uncovered is Uncovered
  told : (e : Effect) → (S.applied e (add pc 4) x).flow ≡ Flow.Uncovered → e ≡ Effect.Uncovered
  unfolding S.applied
  told (Effect.Set rd v) q = cc
  told (Effect.Link rd to) q = cc
  told (Effect.Ended to) q = cc
  told Effect.Next q = cc
  told Effect.Helper q = cc
  told Effect.Uncovered q = refl

  told_by : (e : Effect) → S.Gives e (D.base32 w) 4 pc x → D.base32 w ≡ Instr.Uncovered → e ≡ Effect.Uncovered
  unfolding exec
  told_by e g u = told e (ap (λ (s : Step). s.flow) (rw u at g.1))

  abbrev effect : MaybeZbb → Effect
  effect f = S.put (S.zbb_computed f (read x (rs1 w)) (read x (rs2 w))) (rd w)

  by_found : (f : MaybeZbb) (i : Instr) (e : Effect) → ((f ≡ None → ⊥) → e ≡ Effect.Uncovered) → S.Gives e i 4 pc x → S.Gives (S.or_else e (effect f)) (D.zbb_or f w i) 4 pc x
  unfolding S.put S.zbb_computed S.applied S.or_else D.zbb_or exec
  by_found (Some (Found.Register z)) i e u g = rw (u (λ p. let y : ◌≡◌ {A = ℕ} 0 1 = cc in omega N.arith)) (omega N.arith, refl)
  by_found (Some (Found.Number z k)) i e u g = rw (u (λ p. let y : ◌≡◌ {A = ℕ} 0 1 = cc in omega N.arith)) (omega N.arith, refl)
  by_found (Some (Found.Unary z)) i e u g = rw (u (λ p. let y : ◌≡◌ {A = ℕ} 0 1 = cc in omega N.arith)) (omega N.arith, refl)
  by_found None i e u g = rw (or_uncovered e) g

  -- the base ISA's effect, or Zbb's where it has none, is that of the word
  pub base-first : w < 2 ^ 32 → (e : Effect) → S.Gives e (D.base32 w) 4 pc x → S.Gives (S.or_else e (S.zbb_effect w x)) (D.decode32 w) 4 pc x
  unfolding S.zbb_effect D.decode32
  base-first h e g = by_found (Z.find w) (D.base32 w) e (λ n. told_by e g (uncovered w h n)) g
