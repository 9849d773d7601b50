-- A block at its entry: its first words, from a state whose slots are the guest's registers; and what ends it. Assumes nothing.
use mathlib.Core.Path.{◌≡◌, refl, sym, ap, ◌∙◌, subst}
use mathlib.Core.Bool.{Bool, true, false}
use mathlib.Core.Logic.{◌⊎◌, inl, inr}
use mathlib.Core.List.{List, [], ◌∷◌, ◌++◌}
use Prim.Native.Nat.{ℕ, zero, suc, ◌+◌, ◌-◌, ◌*◌, ◌/◌, ◌%◌, ◌^◌, ◌≤◌, ◌<◌, min}
use native.Mathlib.Nat.{not-suc-le-zero, le_of_suc-le-suc}
use native.Mathlib.Omega.{arith}
use lib.Dec.{leb, ltb, T}
use lib.ListN.{length, get_or, set, length-set}
use lib.Seq.{get_or-set_same, get_or-set_other}
use borrow.Author.Tests.{leb-true, leb-false, ltb-true, ltb-false}
use Rattle.rules.specs.Limits.{max_instrs, max_slot_offset}
use Rattle.word.specs.Word.{wrap, add}
use Rattle.le.specs.Le.{Bytes}
use Rattle.le.proofs.Laws.{load_lt}
use Rattle.le.proofs.Lists.{Fit, length-all_bytes, numbers-bytes}
use Rattle.a64.specs.Forms.{decode}
use Rattle.a64_emitter.specs.Emitter.{bytes}
use Rattle.a64_emitter.specs.Writers.{ret}
use Rattle.a64_run.specs.declared.run.End.{End}
use Rattle.a64_exec.specs.Exec.{State, reg, machine, exec}
use Rattle.a64_run.specs.Run as A64
use Rattle.a64_run.proofs.Straight.{Straight, straight_run, straight_lt}
use Rattle.a64_exec.proofs.Slots.{Apart, Slots}
use Rattle.rv64_run.specs.Run as Rv64
use Rattle.emit_native.specs.declared.Host.{Host}
use Rattle.emit_native.specs.Calls.{Call, product, words, reg_off}
use Rattle.jit_arm64.specs.Parts.{fence_walk}
use Rattle.translation.specs.Demand3.{slot, place, Entry}
use Rattle.translation.proofs.Registers.{tab, tab_getD}
use Rattle.translation.proofs.Calls.{Model, model, calls-run, all_fit, AllIn, Kept, real, calls_go}
use Rattle.translation.proofs.Fences.{whole_cut}
use Rattle.translation.proofs.Blocks.{Follow, walk_walks}

-- ---- words and bytes

pub words-bytes : (ws : List ℕ) → Fit 4 ws → A64.words (bytes ws) ≡ ws
words-bytes ws h = let e : length (bytes ws) / 4 ≡ length ws = omega (arith, length-all_bytes 4 ws) in rw e (numbers-bytes 4 ws h)

pub straight_words : (ws vs : List ℕ) (s t : State) → Straight ws s t → Fit 4 vs → Fit 4 (ws ++ vs)
straight_words [] vs s t g h = h
straight_words (w ∷ ws) vs s t g h = (straight_lt w s g.0 g.1, straight_words ws vs g.0 t g.2 h)

-- words that go on, and RET
pub to_return : (ws : List ℕ) (s t : State) → Straight ws s t → (address budget : ℕ) → length ws < budget
    → A64.run (ws ++ (ret ∷ [])) address budget 0 s ≡ A64.ran End.Returned (suc (length ws)) t
unfolding A64.run A64.onward exec decode
to_return ws s t g address budget hl =
    let e : budget ≡ length ws + suc (budget - suc (length ws)) = omega arith in
    let z : length ws + 0 ≡ length ws = omega arith in
    rw e (straight_run ws (ret ∷ []) address (suc (budget - suc (length ws))) 0 s t g ∙ rw z)

-- ---- slots

get_or-past : (l : List ℕ) (i : ℕ) → length l ≤ i → get_or l i 0 ≡ 0
get_or-past [] i h = refl
get_or-past (y ∷ l) zero h = absurd (not-suc-le-zero h)
get_or-past (y ∷ l) (suc i) h = get_or-past l i (le_of_suc-le-suc h)

slots_differ : (r o n k : ℕ) → n < 32 → k < 32 → wrap (r + (o + 8 * n)) ≡ wrap (r + (o + 8 * k)) → n ≡ k
slots_differ r o n k hn hk e =
    by ((r + (o + 8 * n)) / 2 ^ 64) ((r + (o + 8 * k)) / 2 ^ 64) (wrap (r + (o + 8 * n))) (omega arith) (omega (arith, e)) _ refl _ refl
  where
    by : (i j m : ℕ) → r + (o + 8 * n) ≡ 2 ^ 64 * i + m → r + (o + 8 * k) ≡ 2 ^ 64 * j + m → (c : Bool) → ltb i j ≡ c → (d : Bool) → ltb j i ≡ d → n ≡ k
    by i j m p q true f d g = omega (arith, ltb-true i j f)
    by i j m p q false f true g = omega (arith, ltb-true j i g)
    by i j m p q false f false g =
        let e : i ≡ j = omega (arith, ltb-false i j f, ltb-false j i g) in
        omega arith

-- a and b on multiples of 8, a not eight beyond b
beyond : (a b base : ℕ) → a % 8 ≡ 0 → b % 8 ≡ 0 → (a ≡ b → ⊥) → a < b + 8 → base ≤ a → base ≤ b → a - base + 8 ≤ b - base
beyond a b base ha hb ne l p q = omega arith

-- ---- the state at entry

-- on the model, where slot 0 is register 0
abbrev pub entered : State → List ℕ → Model
entered s x = model (reg s) s.flags (set x 0 0)

-- the machine after calls, and its slots
abbrev pub Begun : ℕ → State → List ℕ → List Call → Type 0
Begun o s x cs =
    (m : List ℕ) × Straight (words o cs) s (real s.base s.sp (calls-run cs (entered s x)) m)
    × Slots (place s o) s.mem m (calls-run cs (entered s x)).slots

module _ (o : ℕ) (s : State) (x : List ℕ) (ε : Entry o s x) where
  pub apart : Apart (place s o) (length s.mem)
  apart =
      record {
        inside = λ n hn. omega (arith, ε.inside n hn);
        apart = λ n k hn hk ne. by n k hn hk ne (leb (slot s o k + 8) (slot s o n)) refl;
      }
    where
      by : (n k : ℕ) → n < 32 → k < 32 → (n ≡ k → ⊥) → (c : Bool) → leb (slot s o k + 8) (slot s o n) ≡ c → (place s o k + 8 ≤ place s o n) ⊎ (place s o n + 8 ≤ place s o k)
      by n k hn hk ne true q = inl (omega (arith, leb-true (slot s o k + 8) (slot s o n) q, ε.inside n hn, ε.inside k hk))
      by n k hn hk ne false q =
          let d : slot s o n ≡ slot s o k → ⊥ = λ e. ne (slots_differ (reg s 0) o n k hn hk e) in
          inr (beyond (slot s o n) (slot s o k) s.base (ε.aligned n hn) (ε.aligned k hk) d (leb-false (slot s o k + 8) (slot s o n) q) (ε.inside n hn).0 (ε.inside k hk).0)

  -- but for register 0
  same : (i : ℕ) → 1 ≤ i → get_or (set x 0 0) i 0 ≡ get_or x i 0
  same i h = get_or-set_other x 0 i 0 0 (λ e. omega arith)

  small : (i : ℕ) (c : Bool) → ltb i 32 ≡ c → get_or (set x 0 0) i 0 < 2 ^ 64
  small zero c q = rw (get_or-set_same x 0 0 0 (omega (arith, ε.guest))) (omega arith)
  small (suc i) true q = rw (same (suc i) (omega arith), ε.starts (suc i) (omega arith) (ltb-true (suc i) 32 q)) (load_lt 8 s.mem (place s o (suc i)) ε.bytes)
  small (suc i) false q = rw (same (suc i) (omega arith), get_or-past x (suc i) (omega (arith, ε.guest, ltb-false (suc i) 32 q))) (omega arith)

  count : length (set x 0 0) ≡ 32
  count = length-set x 0 0 ∙ ε.guest

  pub kept : Kept (reg s) true (entered s x)
  kept = record { base = λ t. refl; same = λ k q. refl; count = count; small = λ i. small i (ltb i 32) refl; regs = ε.small }

  entry : real s.base s.sp (entered s x) s.mem ≡ s
  entry =
      let e : tab 31 (reg s) ≡ s.x = subst (λ (n : ℕ). tab n (reg s) ≡ s.x) ε.count (tab_getD s.x) in
      ap (λ (l : List ℕ). machine l s.sp s.flags s.base s.mem) e

  -- calls that leave X1 to X8 and X18 to X30 alone
  pub begins : o ≤ max_slot_offset → o % 8 ≡ 0 → (cs : List Call) → T (all_fit true cs) → AllIn cs → Begun o s x cs
  begins ho h8 cs fit range =
      let g = calls_go (place s o) s.mem s.base s.sp o (reg s) apart ho at even cs true (entered s x) s.mem fit range kept
      (record {
        size = refl;
        count = count;
        holds = λ n pn hn. sym (same n pn ∙ ε.starts n pn hn);
        outside = λ j o. refl;
      })
      in
      (g.0, subst (λ (z : State). Straight (words o cs) z (real s.base s.sp (calls-run cs (entered s x)) g.0)) entry g.1, g.2)
    where
      at : (n : ℕ) → n < 32 → wrap (reg s 0 + reg_off o n / 8 * 8) ≡ s.base + place s o n
      at n hn =
          let e : reg_off o n / 8 * 8 ≡ o + 8 * n = omega arith in
          rw e (omega (arith, (ε.inside n hn).0))

      even : (n : ℕ) → n < 32 → (s.base + place s o n) % 8 ≡ 0
      even n hn = let e : s.base + place s o n ≡ slot s o n = omega (arith, (ε.inside n hn).0) in rw e (ε.aligned n hn)

-- the walk of a block and the guest's run
pub block_walks : (h : Host) (pc limit : ℕ) (guest : List ℕ) → Bytes guest → pc < 2 ^ 64 → pc % 2 ≡ 0 → (r₀ : ℕ → ℕ) (v : Model) → Kept r₀ true v
    → Follow r₀ pc h guest (fence_walk product max_instrs h guest pc limit) v
    (Rv64.run h.ignore_ebreak (Rv64.clamped limit) 0 guest (Rv64.hart v.slots pc))
block_walks h pc limit guest hb hp he r₀ v κ =
    let e : add pc 0 ≡ pc = omega arith in
    rw (whole_cut h guest pc limit max_instrs)
    (rw e at (walk_walks r₀ pc h guest hb hp (min limit max_instrs) 0 0 v (rw e he) κ))
