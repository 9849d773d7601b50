-- Straight runs: lists of words each of which goes on to the next. Assumes nothing.
use Rattle.std.proofs.Common.{◌≡◌, ℕ, suc, ◌+◌, ◌*◌, ◌^◌, ◌<◌, Bool, true, false, List, [], ◌∷◌, ◌++◌, length, sym, refl, ap, ◌∙◌, true≢false, zero-add, arith}
use Rattle.a64.specs.declared.Form.{Form}
use Rattle.a64.specs.declared.Form.TheVariants.{Unreadable}
use Rattle.a64.specs.Forms.{encode, decode}
use Rattle.a64.specs.Parts.{InRange}
use Rattle.a64.proofs.Coding.{decode-encode, decode-lt}
use Rattle.a64_exec.specs.declared.exec.Outcome.{Outcome}
use Rattle.a64_exec.specs.Exec.{State, After, after, exec, next}
use Rattle.a64_run.specs.Run.{run, onward}

-- from s to t over the words
abbrev pub Straight : List ℕ → State → State → Type 0
Straight [] s t = s ≡ t
Straight (w ∷ ws) s t = (u : State) × (exec (decode w) s ≡ next u) × Straight ws u t

pub straight_append : (ws vs : List ℕ) (s t u : State) → Straight ws s t → Straight vs t u → Straight (ws ++ vs) s u
straight_append [] vs s t u e g = rw e g
straight_append (w ∷ ws) vs s t u g h = (g.0, g.1, straight_append ws vs g.0 t u g.2 h)

-- the word of a form
pub one_form : (f : Form) (s u : State) → InRange f → exec f s ≡ next u → Straight (encode f ∷ []) s u
one_form f s u r e = (u, rw (decode-encode f r) e, refl)

-- the words of a straight list take as many steps as there are, and the run goes on after them
pub straight_run : (ws vs : List ℕ) (at b k : ℕ) (s t : State) → Straight ws s t
    → run (ws ++ vs) at (length ws + b) k s ≡ run vs (at + 4 * length ws) b (length ws + k) t
unfolding run onward
straight_run [] vs at b k s t e = let p : at + 4 * 0 ≡ at = omega arith in rw (e, p, zero-add b, zero-add k)
straight_run (w ∷ ws) vs at b k s t g =
    let p : suc (length ws) + b ≡ suc (length ws + b) = omega arith in
    let q : at + 4 + 4 * length ws ≡ at + 4 * suc (length ws) = omega arith in
    let r : length ws + suc k ≡ suc (length ws) + k = omega arith in
    rw (p, g.1) (straight_run ws vs (at + 4) b (suc k) g.0 t g.2 ∙ rw (q, r))

-- they have 32 bits
goes_on : Outcome → Bool
goes_on Outcome.Next = true
goes_on Outcome.Fault = false
goes_on Outcome.Unreadable = false
goes_on Outcome.Return = false
goes_on Outcome.Call = false

readable : (w : ℕ) (s u : State) → exec (decode w) s ≡ next u → decode w ≡ Unreadable → ⊥
unfolding exec goes_on
readable w s u e z =
    let f : after Outcome.Unreadable s ≡ next u = rw z at e in
    true≢false (sym (ap (λ (a : After). goes_on a.outcome) f))

pub straight_lt : (w : ℕ) (s u : State) → exec (decode w) s ≡ next u → w < 2 ^ 32
straight_lt w s u e = decode-lt w (readable w s u e)
