-- Laws of `run`, and what holds at word i of a run: what is left of it ends as the whole does. Assumes nothing.
use Rattle.std.proofs.Common.{◌≡◌, ℕ, zero, suc, ◌+◌, ◌-◌, ◌*◌, ◌/◌, ◌<◌, ◌≤◌, List, [], ◌∷◌, length, drop, sym, refl, ◌∙◌, add-one, arith}
use Rattle.le.specs.Le.{load}
use Rattle.le.proofs.Lists.{numbers_at, numbers-over}
use Rattle.a64.specs.Forms.{decode}
use Rattle.a64_exec.specs.declared.state.A64State.{A64State}
use Rattle.a64_exec.specs.declared.exec.Outcome.{Outcome}
use Rattle.a64_run.specs.declared.run.End.{End}
use Rattle.a64_exec.specs.Exec.{State, after, exec}
use Rattle.le.specs.Le.{words}
use Rattle.a64_run.specs.Run.{Ran, ran, onward, run, from, a64_run, a64_run_from}

-- one word
run-word : (w : ℕ) (ws : List ℕ) (at budget k : ℕ) (s : State) → 0 < budget
    → run (w ∷ ws) at budget k s ≡ onward (exec (decode w) s) at k (run ws (at + 4) (budget - 1) (suc k))
unfolding run
run-word w ws at zero k s h = absurd (omega arith)
run-word w ws at (suc b) k s h = let e : suc b - 1 ≡ b = omega arith in rw e

run_spent : (w : ℕ) (ws : List ℕ) (at budget k : ℕ) (s : State) → budget ≡ 0 → run (w ∷ ws) at budget k s ≡ ran End.Spent k s
unfolding run
run_spent w ws at budget k s h = rw h

-- from word 0 on
pub from_zero : (block : List ℕ) (address : ℕ) (s : A64State) (budget : ℕ) (mem : List ℕ) (base : ℕ)
    → a64_run_from block address 0 s budget mem base ≡ a64_run block address s budget mem base
from_zero block address s budget mem base = let e : address + 4 * 0 ≡ address = omega arith in rw e

-- what is left of a run at word i, after k steps
abbrev pub rest : List ℕ → ℕ → ℕ → ℕ → ℕ → State → Ran
rest block address budget i k s = run (drop i (words block)) (address + 4 * i) (budget - k) k s

-- the run w of the words from the one numbered first, of which there are n, after k steps, with the state s, of which memory has l bytes
pub record Running (w : Ran) (block : List ℕ) (address first budget n l : ℕ) (s : State) (k : ℕ) : Type 0 where
  pub words_are : n ≡ length block / 4 - first
  pub upto : k ≤ n
  pub unspent : k ≤ budget
  pub size : length s.mem ≡ l
  pub same : rest block address budget (first + k) k s ≡ w

pub start : (block : List ℕ) (address first budget n : ℕ) (s : State) → n ≡ length block / 4 - first
    → Running (from block address first budget s) block address first budget n (length s.mem) s 0
start block address first budget n s e =
    let f : budget - 0 ≡ budget = omega arith in
    let g : first + 0 ≡ first = omega arith in
    record { words_are = e; upto = omega arith; unspent = omega arith; size = refl; same = rw (f, g) }

module _ {w : Ran} {block : List ℕ} {address first budget n l : ℕ} {s : State} {k : ℕ}
    (v : Running w block address first budget n l s k) where
  pub off_end : n ≤ k → ran End.OffEnd n s ≡ w
  unfolding run
  off_end h =
      let a = v.words_are in
      let b = v.upto in
      let e : drop (first + k) (words block) ≡ [] = numbers-over 4 (length block / 4) block (first + k) (omega arith) in
      let g : n ≡ k = omega arith in
      rw g (rw e at v.same)

  word_at : k < n → drop (first + k) (words block) ≡ load 4 block (4 * (first + k)) ∷ drop (suc (first + k)) (words block)
  word_at h = let a = v.words_are in numbers_at 4 (length block / 4) block (first + k) (omega arith)

  pub spent : k < n → k ≡ budget → ran End.Spent k s ≡ w
  spent h e =
      let d = word_at h in
      sym (run_spent (load 4 block (4 * (first + k))) (drop (suc (first + k)) (words block)) (address + 4 * (first + k)) (budget - k) k s (omega arith))
      ∙ rw d at v.same

  -- a word that was executed
  module _ (o : Outcome) (t : State) (h : k < n) (u : k ≡ budget → ⊥)
      (goes : exec (decode (load 4 block (4 * (first + k)))) s ≡ after o t) where
    step_is : onward (after o t) (address + 4 * (first + k)) k
        (run (drop (suc (first + k)) (words block)) (address + 4 * (first + k) + 4) (budget - k - 1) (suc k)) ≡ w
    step_is =
        let d = word_at h in
        let b = v.unspent in
        rw (← goes)
        (sym (run-word (load 4 block (4 * (first + k))) (drop (suc (first + k)) (words block)) (address + 4 * (first + k)) (budget - k) k s (omega arith))
        ∙ rw d at v.same)

    pub ended : (e : Ran) → onward (after o t) (address + 4 * (first + k)) k
        (run (drop (suc (first + k)) (words block)) (address + 4 * (first + k) + 4) (budget - k - 1) (suc k)) ≡ e → e ≡ w
    ended e p = sym p ∙ step_is

    pub onto : o ≡ Outcome.Next → length t.mem ≡ length s.mem → Running w block address first budget n l t (k + 1)
    unfolding onward
    onto e z =
        let a : address + 4 * (first + k) + 4 ≡ address + 4 * (first + (k + 1)) = omega arith in
        let b : budget - k - 1 ≡ budget - (k + 1) = omega arith in
        let f : suc (first + k) ≡ first + (k + 1) = omega arith in
        let g = v.unspent in
        record {
          words_are = v.words_are;
          upto = omega arith;
          unspent = omega arith;
          size = z ∙ v.size;
          same = rw (e, a, b, f, ← add-one k) at step_is;
        }
