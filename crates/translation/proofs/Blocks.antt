-- The walk over the guest code does on the model what the ISA's run does. Assumes nothing.
use mathlib.Core.Path.{◌≡◌, refl, sym, ap, ◌∙◌}
use mathlib.Core.Bool.{Bool, true, false, cond, not}
use mathlib.Core.Option.{Option, none, some}
use mathlib.Core.Logic.{◌⊎◌, inl, inr}
use mathlib.Core.List.{List, [], ◌∷◌, ◌++◌, append_assoc, append-nil}
use Prim.Native.Nat.{ℕ, zero, suc, ◌+◌, ◌-◌, ◌*◌, ◌%◌, ◌^◌, ◌<◌}
use native.Mathlib.Omega.{arith}
use lib.Dec.{eqb, leb, ltb, T}
use lib.ListN.{length, drop, length-drop}
use lib.Seq.{drop-drop}
use borrow.Author.Tests.{eqb-true, eq-eqb, leb-true, leb-false, lt-ltb, le-ltb}
use Rattle.word.specs.Word.{add}
use Rattle.le.specs.Le.{Bytes, load}
use Rattle.le.proofs.Laws.{load_lt, load-add}
use Rattle.isa.specs.declared.decode.Decoded32.{Decoded32}
use Rattle.rv64.specs.declared.decode.Instr.{Instr}
use Rattle.rv64.specs.declared.execute.Flow.{Flow}
use Rattle.rv64_run.specs.declared.run.Hart.{Hart}
use Rattle.std.specs.Prelude.{Some, None}
use Rattle.rv64_run.specs.declared.run.Stop as RS
use Rattle.rv64_run.specs.declared.run.Ran.{Ran}
use Rattle.rv64.specs.Execute.{exec}
use Rattle.rv64.specs.Decode as D
use Rattle.rvc.specs.Compressed as C
use Rattle.rv64_run.specs.Run as Rv64
use Rattle.emit_native.specs.declared.EmitFlow.{EmitFlow}
use Rattle.std.specs.Prelude.{Some, None}
use Rattle.emit_native.specs.declared.Host.{Host}
use Rattle.jit_arm64.specs.declared.block.Stop.{Stop}
use Rattle.emit_native.specs.Calls.{Call, mov_imm64, product, Emission}
use Rattle.emit_native.specs.Calls as Calls
use Rattle.isa.specs.Isa.{OPCODE_SYSTEM, OPCODE_LOAD, OPCODE_STORE, OPCODE_LOAD_FP, OPCODE_STORE_FP, OPCODE_AMO}
use Rattle.isa.specs.Decode as Rust
use Rattle.isa.specs.Zbb.{find}
use Rattle.jit_arm64.proofs.Fences.{fence_no_zbb}
use Rattle.instr16.specs.Instr16 as I16
use Rattle.instr32.specs.Instr32 as I32
use Rattle.term_helper.specs.TermHelper as Th
use Rattle.jit_arm64.specs.Block.{Walk, walked, in_front, emit_native, zbb_of, zbb_first, emit_inline, emit_term_helper, helped, step, instr_walk, walk, fetch, fetch_upper}
use Rattle.jit_arm64.specs.Fence.{is_fence_i}
use Rattle.emit_native.proofs.Size.{by}
use Rattle.translation.proofs.Calls.{Model, call_step, calls-run, scratch, fits, all_fit, all_keep, AllIn, Kept, calls-kept, is_true}
use Rattle.translation.proofs.Instrs.{run-append, keep_append, fit_append, in_append, Fine, Matches, nothing}
use Rattle.translation.proofs.Agree32.{fences32, agrees32}
use Rattle.translation.proofs.Agree16.{agrees16}
use Rattle.translation.proofs.Fences.{behind, cut, narrow}
use Rattle.translation.proofs.Helpers.{sort, took, sorts32, sorts16}

-- ---- what an instruction keeps

-- one that the run does not do leaves the registers
abbrev Stays : Flow → List ℕ → List ℕ → Type 0
Stays (Flow.Next to) y x = Unit {0}
Stays (Flow.Ended to) y x = Unit {0}
Stays Flow.Helper y x = y ≡ x
Stays Flow.Uncovered y x = y ≡ x

exec_stays : (i : Instr) (n pc : ℕ) (x : List ℕ) → Stays (exec i n pc x).flow (exec i n pc x).x x
unfolding exec
exec_stays (Instr.Op k d a b) n pc x = tt
exec_stays (Instr.OpImm k d a c) n pc x = tt
exec_stays (Instr.Zbb k d a b) n pc x = tt
exec_stays (Instr.ZbbImm k d a c) n pc x = tt
exec_stays (Instr.Lui d c) n pc x = tt
exec_stays (Instr.Auipc d c) n pc x = tt
exec_stays (Instr.Jal d c) n pc x = tt
exec_stays (Instr.Jalr d a c) n pc x = tt
exec_stays (Instr.Branch k a b c) n pc x = tt
exec_stays Instr.Nop n pc x = tt
exec_stays Instr.FenceI n pc x = tt
exec_stays Instr.Helper n pc x = refl
exec_stays Instr.Uncovered n pc x = refl

-- ---- walks

-- the next PC into X0, unless the last instruction set it
unfoldable pub next_calls : Stop → ℕ → List Call
next_calls Stop.Ended pc = []
next_calls Stop.Helper pc = []
next_calls Stop.Limit pc = mov_imm64 0 pc ∷ []
next_calls Stop.Uncovered pc = mov_imm64 0 pc ∷ []
next_calls Stop.NotFetched pc = mov_imm64 0 pc ∷ []

abbrev pub walk-calls : Walk → List Call
walk-calls w = w.calls ++ next_calls w.stop w.pc

-- the walk, from the model v, ends as the guest's run r
pub record Walks (w : Walk) (v : Model) (r : Ran) : Type 0 where
  pub free : w.stop ≡ Stop.Helper → ⊥
  pub fit : T (all_fit true (walk-calls w))
  pub range : AllIn (walk-calls w)
  pub slots : (calls-run (walk-calls w) v).slots ≡ r.hart.x
  pub next : (calls-run (walk-calls w) v).r 0 ≡ r.hart.pc
  pub count : w.count ≡ r.count

-- the helper's emission for the instruction at a PC, after n others
pub record Taken (host : Host) (guest : List ℕ) (start pc n : ℕ) (h : Emission) : Type 0 where
  pub index : ℕ
  pub instr : ℕ
  pub at : pc ≡ add start index
  pub found : fetch pc guest index ≡ some instr
  pub is : h ≡ emit_term_helper host pc instr n
  pub flow : h.flow ≡ (Some EmitFlow.Terminate)

-- the walk ends in a helper, before whose instruction the guest's run stands
pub record Helps (host : Host) (guest : List ℕ) (start : ℕ) (w : Walk) (v : Model) (r : Ran) : Type 0 where
  pub stop : w.stop ≡ Stop.Helper
  -- the calls before the helper's
  pub front : List Call
  pub helper : Emission
  pub taken : Taken host guest start w.pc r.count helper
  pub calls : w.calls ≡ front ++ helper.calls
  pub fit : T (all_fit true front)
  pub stay : all_keep true front ≡ true
  pub range : AllIn front
  pub slots : (calls-run front v).slots ≡ r.hart.x
  pub pc : w.pc ≡ r.hart.pc
  pub count : w.count ≡ suc r.count
  pub why : r.stop ≡ RS.Stop.Helper

plain : (pc : ℕ) (why : Stop) → next_calls why pc ≡ mov_imm64 0 pc ∷ [] → why ≡ Stop.Helper → ⊥
unfolding next_calls
plain pc why e p = let z : ◌≡◌ {A = ℕ} 0 1 = ap length (rw p at e) in omega arith

-- after calls that leave the slots alone
stop_walks : (cs : List Call) (n pc : ℕ) (why : Stop) (rwhy : RS.Stop) (v : Model) → next_calls why pc ≡ mov_imm64 0 pc ∷ [] → Fine cs → pc < 2 ^ 64
    → Walks (walked cs n why pc) v (Rv64.stopped (Rv64.hart v.slots pc) n rwhy)
stop_walks cs n pc why rwhy v e φ h =
    let to = mov_imm64 0 pc ∷ [] in
    record {
      free = λ p. plain pc why e p;
      fit = rw e (fit_append true cs to φ.fit (rw φ.stay (unfold all_fit fits scratch in tt)));
      range = rw e (in_append cs to φ.range (h, tt));
      slots = rw e (ap (λ (u : Model). u.slots) (run-append cs to v) ∙ unfold calls-run call_step in (φ.slots v));
      next = rw e (ap (λ (u : Model). u.r 0) (run-append cs to v) ∙ unfold calls-run call_step in refl);
      count = refl;
    }

-- ---- the helper's emitter takes the instruction, or makes no call

abbrev Quiet : Emission → Type 0
Quiet h = (h.flow ≡ (Some EmitFlow.Terminate)) ⊎ (h ≡ Calls.none [])

load_quiet : (h : Host) (pc w n : ℕ) (d : Decoded32) (o : Th.Operation) → Quiet (Th.with_load h pc w d n o)
load_quiet h pc w n d None = inr refl
load_quiet h pc w n d (Some k) = inl refl

store_quiet : (h : Host) (pc w n : ℕ) (d : Decoded32) (o : Th.Operation) → Quiet (Th.with_store h pc w d n o)
store_quiet h pc w n d None = inr refl
store_quiet h pc w n d (Some k) = inl refl

quiet_by : (a b c d e f : Bool) (l s k : Emission) → Quiet l → Quiet s → Quiet k
    → Quiet (cond a (Calls.none []) (cond b l (cond c s (cond d k (cond e k (cond f k (Calls.none [])))))))
quiet_by true b c d e f l s k p q r = inr refl
quiet_by false true c d e f l s k p q r = p
quiet_by false false true d e f l s k p q r = q
quiet_by false false false true e f l s k p q r = r
quiet_by false false false false true f l s k p q r = r
quiet_by false false false false false true l s k p q r = r
quiet_by false false false false false false l s k p q r = inr refl

quiet32 : (h : Host) (pc w n : ℕ) (d : Decoded32) → Quiet (Th.emit_native_term_helper32 h pc w d n)
unfolding Th.emit_native_term_helper32 Th.opcode_helper Th.load_helper Th.store_helper
quiet32 h pc w n d =
    let o = d.opcode in
    quiet_by (eqb o OPCODE_SYSTEM) (eqb o OPCODE_LOAD) (eqb o OPCODE_STORE) (eqb o OPCODE_LOAD_FP) (eqb o OPCODE_STORE_FP) (eqb o OPCODE_AMO)
    (Th.with_load h pc w d n (Th.load_op d.funct3)) (Th.with_store h pc w d n (Th.store_op d.funct3)) (Calls.terminate (Th.call_exec h.helper32 pc w n))
    (load_quiet h pc w n d (Th.load_op d.funct3)) (store_quiet h pc w n d (Th.store_op d.funct3)) (inl refl)

quiet16 : (h : Host) (pc w n : ℕ) → Quiet (Th.emit_native_term_helper16 h pc w n)
unfolding Th.emit_native_term_helper16
quiet16 h pc w n = by (Th.supports (Rust.c_op w) (Rust.c_funct3 w))
  where
    by : (b : Bool) → Quiet (cond b (Calls.terminate (Th.call_exec h.helper16 pc w n)) (Calls.none []))
    by true = inl refl
    by false = inr refl

-- 1 for a helper's instruction, else 0
abbrev helps : Flow → ℕ
helps (Flow.Next to) = 0
helps (Flow.Ended to) = 0
helps Flow.Helper = 1
helps Flow.Uncovered = 0

-- the helper's emitter takes what the guest's run leaves to a helper
exec_helps : (i : Instr) (n pc : ℕ) (x : List ℕ) (t : Calls.Flow) → took t ≡ sort i → took t ≡ helps (exec i n pc x).flow
unfolding exec sort
exec_helps (Instr.Op k d a b) n pc x t e = e
exec_helps (Instr.OpImm k d a c) n pc x t e = e
exec_helps (Instr.Zbb k d a b) n pc x t e = e
exec_helps (Instr.ZbbImm k d a c) n pc x t e = e
exec_helps (Instr.Lui d c) n pc x t e = e
exec_helps (Instr.Auipc d c) n pc x t e = e
exec_helps (Instr.Jal d c) n pc x t e = e
exec_helps (Instr.Jalr d a c) n pc x t e = e
exec_helps (Instr.Branch k a b c) n pc x t e = e
exec_helps Instr.Nop n pc x t e = e
exec_helps Instr.FenceI n pc x (Some EmitFlow.Continue) e = absurd (omega arith)
exec_helps Instr.FenceI n pc x (Some EmitFlow.Terminate) e = absurd (omega arith)
exec_helps Instr.FenceI n pc x None e = absurd (omega arith)
exec_helps Instr.Helper n pc x t e = e
exec_helps Instr.Uncovered n pc x t e = e

took_one : (t : Calls.Flow) → took t ≡ 1 → t ≡ (Some EmitFlow.Terminate)
took_one (Some EmitFlow.Continue) e = absurd (omega arith)
took_one (Some EmitFlow.Terminate) e = refl
took_one None e = absurd (omega arith)

-- ---- fetching

short : (i k l : ℕ) → 0 < k → ltb (l - i) k ≡ not (leb (i + k) l)
short i k l h = by (leb (i + k) l) refl
  where
    by : (c : Bool) → leb (i + k) l ≡ c → ltb (l - i) k ≡ not c
    by true q = le-ltb (l - i) k (omega (arith, leb-true (i + k) l q))
    by false q = lt-ltb (l - i) k (omega (arith, leb-false (i + k) l q))

pub word_at : (m : List ℕ) (i : ℕ) → load 2 m (i + 2) * 2 ^ 16 + load 2 m i ≡ load 4 m i
word_at m i = omega (arith, load-add 2 2 m i)

pub wide : (m : List ℕ) (i : ℕ) → eqb (load 2 m i % 4) 3 ≡ true → eqb (load 4 m i % 4) 3 ≡ true
wide m i e = eq-eqb (load 4 m i % 4) 3 (omega (arith, word_at m i, eqb-true (load 2 m i % 4) 3 e))

from-drop : (k : ℕ) (m : List ℕ) (i : ℕ) → load k (drop i m) 0 ≡ load k m i
unfolding load
from-drop k m i = refl

-- ---- the loop

-- calls in front of a walk
front_calls : (cs : List Call) (w : Walk) → walk-calls (in_front cs w) ≡ cs ++ walk-calls w
front_calls cs w = append_assoc cs w.calls (next_calls w.stop w.pc)

module _ (r₀ : ℕ → ℕ) (start : ℕ) (host : Host) (guest : List ℕ) where
  abbrev pub Follow : Walk → Model → Ran → Type 0
  Follow w v r = Walks w v r ⊎ Helps host guest start w v r

  -- the walk and the guest's run from index i on
  abbrev Follows : ℕ → Walk → (Hart → Ran) → Type 0
  Follows i w run = (u : Model) → Kept r₀ true u → Follow w u (run (Rv64.hart u.slots (add start i)))

  -- what the helper's emitter answers for an instruction at a PC after n others, whose flow is f
  record Offer (pc n : ℕ) (f : Flow) (h : Emission) : Type 0 where
    quiet : Quiet h
    agrees : took h.flow ≡ helps f
    taken : h.flow ≡ (Some EmitFlow.Terminate) → Taken host guest start pc n h

  uncovered_walks : (e h : Emission) (size i n : ℕ) (v : Model) (rest : ℕ → ℕ → Walk) → Quiet h → took h.flow ≡ 0 → Fine e.calls
      → Walks (step None e h size start n i rest) v (Rv64.stopped (Rv64.hart v.slots (add start i)) n RS.Stop.Uncovered)
  unfolding step helped next_calls
  uncovered_walks e h size i n v rest (inl p) o φ = absurd (omega (arith, rw p at o))
  uncovered_walks e h size i n v rest (inr p) o φ =
      rw (p, append-nil e.calls) (stop_walks e.calls n (add start i) Stop.Uncovered RS.Stop.Uncovered v refl φ (omega arith))

  helper_walks : (e h : Emission) (size i n : ℕ) (v : Model) (rest : ℕ → ℕ → Walk) → Offer (add start i) n Flow.Helper h → Fine e.calls
      → Helps host guest start (step None e h size start n i rest) v (Rv64.stopped (Rv64.hart v.slots (add start i)) n RS.Stop.Helper)
  unfolding step helped
  helper_walks e h size i n v rest o φ =
      let p : h.flow ≡ (Some EmitFlow.Terminate) = took_one h.flow o.agrees in
      rw p
      (record {
        stop = refl;
        front = e.calls;
        helper = h;
        taken = o.taken p;
        calls = refl;
        fit = φ.fit;
        stay = φ.stay;
        range = φ.range;
        slots = φ.slots v;
        pc = refl;
        count = refl;
        why = refl;
      })

  -- calls in front of a walk
  front_walks : (cs : List Call) (w : Walk) (v : Model) (r : Ran) → T (all_fit true cs) → all_keep true cs ≡ true → AllIn cs
      → Follow w (calls-run cs v) r → Follow (in_front cs w) v r
  front_walks cs w v r f k h (inl y) =
      let q = front_calls cs w in
      inl (record {
        free = y.free;
        fit = rw q (fit_append true cs _ f (rw k y.fit));
        range = rw q (in_append cs _ h y.range);
        slots = rw q (ap (λ (u : Model). u.slots) (run-append cs _ v) ∙ y.slots);
        next = rw q (ap (λ (u : Model). u.r 0) (run-append cs _ v) ∙ y.next);
        count = y.count;
      })
  front_walks cs w v r f k h (inr y) =
      inr (record {
        stop = y.stop;
        front = cs ++ y.front;
        helper = y.helper;
        taken = y.taken;
        calls = ap (λ (l : List Call). cs ++ l) y.calls ∙ sym (append_assoc cs y.front y.helper.calls);
        fit = fit_append true cs _ f (rw k y.fit);
        stay = keep_append true cs y.front ∙ rw k y.stay;
        range = in_append cs _ h y.range;
        slots = ap (λ (u : Model). u.slots) (run-append cs _ v) ∙ y.slots;
        pc = y.pc;
        count = y.count;
        why = y.why;
      })

  step_walks : (f : Flow) (x : List ℕ) (e h : Emission) (size i n : ℕ) (v : Model) (rest : ℕ → ℕ → Walk) (run : Hart → Ran)
      → Offer (add start i) n f h → Matches size (add start i) v x f e → Stays f x v.slots → Kept r₀ true v
      → Follows (i + size) (rest (suc n) (i + size)) run
      → Follow (step e.flow e h size start n i rest) v (Rv64.onward f x (add start i) n run)
  unfolding step Rv64.onward next_calls
  step_walks (Flow.Next to) x e h size i n v rest run o m st κ go =
      let cs = e.calls in
      let stay : all_keep true cs ≡ true = is_true (all_keep true cs) m.stay in
      let κ' : Kept r₀ true (calls-run cs v) = rw stay at (calls-kept r₀ cs true v m.does.fit m.does.range κ) in
      let p : to ≡ add start (i + size) = m.next ∙ omega arith in
      rw (m.flow, p, ← m.does.slots)
      (front_walks cs (rest (suc n) (i + size)) v _ m.does.fit stay m.does.range (go (calls-run cs v) κ'))
  step_walks (Flow.Ended to) x e h size i n v rest run o m st κ go =
      let q = append-nil e.calls in
      rw m.flow
      (inl (record {
        free = λ p. let z : ◌≡◌ {A = ℕ} 0 1 = cc in omega arith;
        fit = rw q m.does.fit;
        range = rw q m.does.range;
        slots = rw q m.does.slots;
        next = rw q m.next;
        count = omega arith;
      }))
  step_walks Flow.Helper x e h size i n v rest run o m st κ go = rw (m.flow, st) (inr (helper_walks e h size i n v rest o m.fine))
  step_walks Flow.Uncovered x e h size i n v rest run o m st κ go =
      rw (m.flow, st) (inl (uncovered_walks e h size i n v rest o.quiet o.agrees m.fine))

  -- FENCE.I, the last of the walk and of the guest's run
  fence_walks : (i n : ℕ) (v : Model)
      → Walks (walked [] (suc n) Stop.Limit (add start (i + 4))) v (Rv64.stopped (Rv64.hart v.slots (add (add start i) 4)) (n + 1) RS.Stop.Ended)
  unfolding next_calls
  fence_walks i n v =
      let p : add (add start i) 4 ≡ add start (i + 4) = omega arith in
      let q : n + 1 ≡ suc n = omega arith in
      rw (p, q) (stop_walks [] (suc n) (add start (i + 4)) Stop.Limit RS.Stop.Ended v refl nothing (omega arith))

  -- what was fetched: nothing, or an instruction of 16 or of 32 bits
  abbrev found : Bool → Bool → Bool → ℕ → ℕ → Option ℕ
  found a b c w u = cond a (cond b (cond c (some u) none) (some w)) none

  -- left: how many instructions follow one of so many bytes
  instr_walks : (a b c : Bool) (w u : ℕ) → eqb (w % 4) 3 ≡ b → (b ≡ true → eqb (u % 4) 3 ≡ true) → (i n : ℕ) → fetch (add start i) guest i ≡ found a b c w u
      → (v : Model) (left : ℕ → ℕ) (run : ℕ → Hart → Ran)
      → w < 2 ^ 16 → u < 2 ^ 32 → Kept r₀ true v
      → ((size : ℕ) → size % 2 ≡ 0 → Follows (i + size) (walk product host guest start (left size) (suc n) (i + size)) (run size))
      → Follow (instr_walk product host (found a b c w u) start n i (walk product host guest start (behind (found a b c w u) left))) v
      (Rv64.step (cond (not a) None (cond (not b) (Some (C.decode16 host.ignore_ebreak w, 2)) (cond (not c) None (Some (D.decode32 u, 4))))) (Rv64.hart v.slots (add start i)) n run)
  unfolding instr_walk behind emit_inline zbb_of zbb_first emit_native emit_term_helper Rv64.step next_calls
  instr_walks false b c w u qw qu i n fe v left run hw hu κ go = inl (stop_walks [] n (add start i) Stop.NotFetched RS.Stop.NotFetched v refl nothing (omega arith))
  instr_walks true false c w u qw qu i n fe v left run hw hu κ go =
      let j = C.decode16 host.ignore_ebreak w in
      let f = narrow w qw in
      rw (qw, f)
      (step_walks _ _ (I16.emit_native_instr16 host.ignore_ebreak (add start i) w) (Th.emit_native_term_helper16 host (add start i) w n) 2 i n v (walk product host guest start (left 2)) (run 2)
      (record {
        quiet = quiet16 host (add start i) w n;
        agrees = exec_helps j 2 (add start i) v.slots (Th.emit_native_term_helper16 host (add start i) w n).flow (sorts16 host (add start i) w n host.ignore_ebreak hw);
        taken = λ t. record { index = i; instr = w; at = refl; found = fe; is = rw qw refl; flow = t };
      })
      (agrees16 r₀ (add start i) v κ w hw host.ignore_ebreak)
      (exec_stays j 2 (add start i) v.slots) κ (go 2 refl))
  instr_walks true true false w u qw qu i n fe v left run hw hu κ go = inl (stop_walks [] n (add start i) Stop.NotFetched RS.Stop.NotFetched v refl nothing (omega arith))
  instr_walks true true true w u qw qu i n fe v left run hw hu κ go =
      let j = D.decode32 u in
      by (is_fence_i u)
      (λ f. let s = fences32 (add start i) u f in rw (qu refl, f, s.instr, fence_no_zbb u f, s.emission) (inl (unfold step walk exec Rv64.onward in (fence_walks i n v))))
      (λ f.
      rw (qu refl, f)
      (step_walks _ _ (zbb_first (find u) u (I32.emit_native_instr (add start i) u (Rust.decode32 u))) (Th.emit_native_term_helper32 host (add start i) u (Rust.decode32 u) n) 4 i n v (walk product host guest start (left 4)) (run 4)
      (record {
        quiet = quiet32 host (add start i) u n (Rust.decode32 u);
        agrees = exec_helps j 4 (add start i) v.slots (Th.emit_native_term_helper32 host (add start i) u (Rust.decode32 u) n).flow (rw f at (sorts32 host (add start i) u n));
        taken = λ t. record { index = i; instr = u; at = refl; found = fe; is = rw (qu refl) refl; flow = t };
      })
      (agrees32 r₀ (add start i) v κ u hu f)
      (exec_stays j 4 (add start i) v.slots) κ (go 4 refl)))

  -- what is fetched at an even PC
  fetched : (i : ℕ) → add start i % 2 ≡ 0
      → fetch (add start i) guest i ≡ found (leb (i + 2) (length guest)) (eqb (load 2 guest i % 4) 3) (leb (i + 4) (length guest)) (load 2 guest i) (load 4 guest i)
  unfolding fetch fetch_upper
  fetched i he = rw (eq-eqb (add start i % 2) 0 he, word_at guest i)

  -- the whole walk, up to the first FENCE.I
  pub walk_walks : Bytes guest → start < 2 ^ 64 → (k n i : ℕ) (v : Model) → add start i % 2 ≡ 0 → Kept r₀ true v
      → Follow (walk product host guest start (cut guest start k i) n i) v (Rv64.run host.ignore_ebreak k n (drop i guest) (Rv64.hart v.slots (add start i)))
  unfolding walk cut Rv64.run Rv64.fetch next_calls
  walk_walks hb hs zero n i v he κ = inl (stop_walks [] n (add start i) Stop.Limit RS.Stop.Limit v refl nothing (omega arith))
  walk_walks hb hs (suc k) n i v he κ =
      let p : n + 1 ≡ suc n = omega arith in
      let l : length (drop i guest) ≡ length guest - i = length-drop i guest in
      rw (fetched i he, from-drop 2 guest i, from-drop 4 guest i, l, short i 2 (length guest) (omega arith), short i 4 (length guest) (omega arith))
      (instr_walks (leb (i + 2) (length guest)) (eqb (load 2 guest i % 4) 3) (leb (i + 4) (length guest)) (load 2 guest i) (load 4 guest i) refl (wide guest i) i n (fetched i he) v
      (λ size. cut guest start k (i + size)) (λ size. Rv64.run host.ignore_ebreak k (n + 1) (drop size (drop i guest))) (load_lt 2 guest i hb) (load_lt 4 guest i hb) κ
      (λ size e u κ'. rw (p, drop-drop size i guest) (walk_walks hb hs k (suc n) (i + size) u (omega (arith, he, e)) κ')))
