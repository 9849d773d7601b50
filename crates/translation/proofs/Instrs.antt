-- The calls of each instruction do to the slots and X0 what the instruction does to the registers and the PC. Assumes
-- nothing.
use mathlib.Core.Path.{◌≡◌, refl, sym, ap, ◌∙◌}
use mathlib.Core.Bool.{Bool, true, false, cond, not, ◌&&◌}
use mathlib.Core.List.{List, [], ◌∷◌, ◌++◌}
use Prim.Native.Nat.{ℕ, ◌-◌, ◌*◌, ◌/◌, ◌^◌, ◌<◌}
use native.Mathlib.Omega.{arith}
use lib.Bits.{bit_and, and_high}
use lib.Dec.{eqb, leb, T}
use lib.ListN.{set}
use borrow.Author.Tests.{eqb-false}
use Rattle.word.specs.Word.{add}
use Rattle.a64.specs.Forms.{decode}
use Rattle.a64_alu.specs.Alu.{op_value, compared, holds, holds_even}
use Rattle.a64_alu.proofs.Comparing.{z_law, c_law, lt_law}
use Rattle.rv64.specs.declared.alu.Alu.{Alu}
use Rattle.rv64.specs.declared.alu.Cond.{Cond}
use Rattle.rv64.specs.declared.decode.Instr.{Instr}
use Rattle.rv64.specs.declared.execute.Flow.{Flow}
use Rattle.rv64.specs.Alu.{value, taken}
use Rattle.rv64.specs.Execute.{read, write, exec}
use Rattle.emit_native.specs.declared.EmitFlow.{EmitFlow}
use Rattle.std.specs.Prelude.{Some, None}
use Rattle.emit_native.specs.Hart.{C_EQ, C_NE, C_CS, C_CC, C_GE, C_LT, not_1}
use Rattle.a64_emitter.specs.Writers.{add_x, and_x, cmp_x, csel_x}
use Rattle.emit_native.specs.Calls.{Call, emit, mov_imm64, load, store, if_not_0, Emission, continue, terminate, none, calls_first, store_rd, then_store_rd}
use Rattle.translation.proofs.Calls.{Model, form_step, call_step, calls-run, scratch, form-fits, written, fits, keeps, all_fit, all_keep, AllIn, Kept, and_l, and_r, read-lt}
use Rattle.translation.proofs.Alus.{body, slliw, srliw, sraiw, Computes, body_law, not-not, not_leb}

-- ---- lists of calls, one after the other

pub run-append : (cs ds : List Call) (v : Model) → calls-run (cs ++ ds) v ≡ calls-run ds (calls-run cs v)
unfolding calls-run
run-append [] ds v = refl
run-append (c ∷ cs) ds v = run-append cs ds (call_step c v)

pub keep_append : (b : Bool) (cs ds : List Call) → all_keep b (cs ++ ds) ≡ all_keep (all_keep b cs) ds
unfolding all_keep
keep_append b [] ds = refl
keep_append b (c ∷ cs) ds = keep_append (keeps b c) cs ds

and_both : (a b : Bool) → T a → T b → T (a && b)
and_both true b s t = t
and_both false b s t = s

pub fit_append : (b : Bool) (cs ds : List Call) → T (all_fit b cs) → T (all_fit (all_keep b cs) ds) → T (all_fit b (cs ++ ds))
unfolding all_fit all_keep
fit_append b [] ds s t = t
fit_append b (c ∷ cs) ds s t =
    and_both (fits b c) _ (and_l (fits b c) _ s) (fit_append (keeps b c) cs ds (and_r (fits b c) _ s) t)

pub in_append : (cs ds : List Call) → AllIn cs → AllIn ds → AllIn (cs ++ ds)
in_append [] ds s t = t
in_append (c ∷ cs) ds s t = (s.0, in_append cs ds s.1 t)

-- calls that write scratch registers other than X0, and no slot
pub record Fine (cs : List Call) : Type 0 where
  pub fit : T (all_fit true cs)
  pub stay : all_keep true cs ≡ true
  pub range : AllIn cs
  pub slots : (v : Model) → (calls-run cs v).slots ≡ v.slots

-- calls that leave the registers rs in the slots
pub record Does (cs : List Call) (v : Model) (rs : List ℕ) : Type 0 where
  pub fit : T (all_fit true cs)
  pub range : AllIn cs
  pub slots : (calls-run cs v).slots ≡ rs

-- ---- agreement of an instruction with an emission

-- goes on to the next instruction
pub record Continues (n pc : ℕ) (v : Model) (x : List ℕ) (to : ℕ) (e : Emission) : Type 0 where
  pub flow : e.flow ≡ (Some EmitFlow.Continue)
  pub does : Does e.calls v x
  pub stay : T (all_keep true e.calls)
  pub next : to ≡ add pc n

-- ends the block, with the next PC in X0
pub record Terminates (v : Model) (x : List ℕ) (to : ℕ) (e : Emission) : Type 0 where
  pub flow : e.flow ≡ (Some EmitFlow.Terminate)
  pub does : Does e.calls v x
  pub next : (calls-run e.calls v).r 0 ≡ to

-- is not inline, and leaves at most scratch words
pub record Leaves (e : Emission) : Type 0 where
  pub flow : e.flow ≡ None
  pub fine : Fine e.calls

abbrev pub Matches : ℕ → ℕ → Model → List ℕ → Flow → Emission → Type 0
Matches n pc v x (Flow.Next to) e = Continues n pc v x to e
Matches n pc v x (Flow.Ended to) e = Terminates v x to e
Matches n pc v x Flow.Helper e = Leaves e
Matches n pc v x Flow.Uncovered e = Leaves e

-- the instruction i of n bytes at pc
abbrev pub Agrees : ℕ → ℕ → Model → Instr → Emission → Type 0
Agrees n pc v i e = Matches n pc v (exec i n pc v.slots).x (exec i n pc v.slots).flow e

-- FENCE.I instead: the guest's run ends after it, where the Rust makes no call and goes on
pub record Fences (i : Instr) (e : Emission) : Type 0 where
  pub instr : i ≡ Instr.FenceI
  pub emission : e ≡ continue []

-- ---- the parts

pub nothing : Fine []
unfolding all_fit all_keep calls-run
nothing = record { fit = tt; stay = refl; range = tt; slots = λ v. refl }

pub one : (a : ℕ) → a < 32 → Fine (load 9 a ∷ [])
unfolding all_fit all_keep fits keeps scratch calls-run call_step
one a ha = record { fit = tt; stay = refl; range = omega arith; slots = λ v. refl }

pub two : (a b : ℕ) → a < 32 → b < 32 → Fine (load 9 a ∷ load 10 b ∷ [])
unfolding all_fit all_keep fits keeps scratch calls-run call_step
two a b ha hb = record { fit = tt; stay = refl; range = omega arith; slots = λ v. refl }

pub with_constant : (a c : ℕ) → a < 32 → c < 2 ^ 64 → Fine (load 9 a ∷ mov_imm64 10 c ∷ [])
unfolding all_fit all_keep fits keeps scratch calls-run call_step
with_constant a c ha hc = record { fit = tt; stay = refl; range = omega arith; slots = λ v. refl }

pub body_fine : (k : Alu) → Fine (body k)
unfolding body all_fit fits form-fits keeps written all_keep scratch calls-run call_step form_step decode
body_fine Alu.Add = record { fit = tt; stay = refl; range = omega arith; slots = λ v. refl }
body_fine Alu.Sub = record { fit = tt; stay = refl; range = omega arith; slots = λ v. refl }
body_fine Alu.Sll = record { fit = tt; stay = refl; range = omega arith; slots = λ v. refl }
body_fine Alu.Slt = record { fit = tt; stay = refl; range = omega arith; slots = λ v. refl }
body_fine Alu.Sltu = record { fit = tt; stay = refl; range = omega arith; slots = λ v. refl }
body_fine Alu.Xor = record { fit = tt; stay = refl; range = omega arith; slots = λ v. refl }
body_fine Alu.Srl = record { fit = tt; stay = refl; range = omega arith; slots = λ v. refl }
body_fine Alu.Sra = record { fit = tt; stay = refl; range = omega arith; slots = λ v. refl }
body_fine Alu.Or = record { fit = tt; stay = refl; range = omega arith; slots = λ v. refl }
body_fine Alu.And = record { fit = tt; stay = refl; range = omega arith; slots = λ v. refl }
body_fine Alu.Mul = record { fit = tt; stay = refl; range = omega arith; slots = λ v. refl }
body_fine Alu.Mulh = record { fit = tt; stay = refl; range = omega arith; slots = λ v. refl }
body_fine Alu.Mulhsu = record { fit = tt; stay = refl; range = omega arith; slots = λ v. refl }
body_fine Alu.Mulhu = record { fit = tt; stay = refl; range = omega arith; slots = λ v. refl }
body_fine Alu.Div = record { fit = tt; stay = refl; range = omega arith; slots = λ v. refl }
body_fine Alu.Divu = record { fit = tt; stay = refl; range = omega arith; slots = λ v. refl }
body_fine Alu.Rem = record { fit = tt; stay = refl; range = omega arith; slots = λ v. refl }
body_fine Alu.Remu = record { fit = tt; stay = refl; range = omega arith; slots = λ v. refl }
body_fine Alu.Addw = record { fit = tt; stay = refl; range = omega arith; slots = λ v. refl }
body_fine Alu.Subw = record { fit = tt; stay = refl; range = omega arith; slots = λ v. refl }
body_fine Alu.Sllw = record { fit = tt; stay = refl; range = omega arith; slots = λ v. refl }
body_fine Alu.Srlw = record { fit = tt; stay = refl; range = omega arith; slots = λ v. refl }
body_fine Alu.Sraw = record { fit = tt; stay = refl; range = omega arith; slots = λ v. refl }
body_fine Alu.Mulw = record { fit = tt; stay = refl; range = omega arith; slots = λ v. refl }
body_fine Alu.Divw = record { fit = tt; stay = refl; range = omega arith; slots = λ v. refl }
body_fine Alu.Divuw = record { fit = tt; stay = refl; range = omega arith; slots = λ v. refl }
body_fine Alu.Remw = record { fit = tt; stay = refl; range = omega arith; slots = λ v. refl }
body_fine Alu.Remuw = record { fit = tt; stay = refl; range = omega arith; slots = λ v. refl }

pub slliw_fine : Fine slliw
unfolding slliw all_fit fits form-fits keeps written all_keep scratch calls-run call_step form_step decode
slliw_fine = record { fit = tt; stay = refl; range = omega arith; slots = λ v. refl }

pub srliw_fine : Fine srliw
unfolding srliw all_fit fits form-fits keeps written all_keep scratch calls-run call_step form_step decode
srliw_fine = record { fit = tt; stay = refl; range = omega arith; slots = λ v. refl }

pub sraiw_fine : Fine sraiw
unfolding sraiw all_fit fits form-fits keeps written all_keep scratch calls-run call_step form_step decode
sraiw_fine = record { fit = tt; stay = refl; range = omega arith; slots = λ v. refl }

-- calls after fine ones
pub calls_first_does : (cs ds : List Call) (v : Model) (rs : List ℕ) → Fine cs → Does ds (calls-run cs v) rs → Does (cs ++ ds) v rs
calls_first_does cs ds v rs φ d =
    record {
      fit = fit_append true cs ds φ.fit (rw φ.stay d.fit);
      range = in_append cs ds φ.range d.range;
      slots = ap (λ (u : Model). u.slots) (run-append cs ds v) ∙ d.slots;
    }

calls_first_stays : (cs ds : List Call) → Fine cs → T (all_keep true ds) → T (all_keep true (cs ++ ds))
calls_first_stays cs ds φ t = rw (keep_append true cs ds, φ.stay) t

-- X11 into the slot of a register that is not 0
keep_does : (c : Bool) (d : ℕ) (v : Model) → d < 32 → eqb d 0 ≡ c
    → Does (cond c [] (store 11 d ∷ [])) v (cond c v.slots (set v.slots d (v.r 11))) × T (all_keep true (cond c [] (store 11 d ∷ [])))
unfolding all_fit all_keep fits keeps calls-run call_step
keep_does true d v h q = (record { fit = tt; range = tt; slots = refl }, tt)
keep_does false d v h q = (record { fit = tt; range = omega (arith, eqb-false d 0 q); slots = refl }, tt)

-- a constant into the slot of a register that is not 0
put_does : (c : Bool) (d x : ℕ) (v : Model) → d < 32 → x < 2 ^ 64 → eqb d 0 ≡ c
    → Does (cond c [] (mov_imm64 11 x ∷ store 11 d ∷ [])) v (cond c v.slots (set v.slots d x))
    × T (all_keep true (cond c [] (mov_imm64 11 x ∷ store 11 d ∷ [])))
unfolding all_fit all_keep fits keeps scratch calls-run call_step
put_does true d x v h l q = (record { fit = tt; range = tt; slots = refl }, tt)
put_does false d x v h l q = (record { fit = tt; range = omega (arith, eqb-false d 0 q); slots = refl }, tt)

-- fine calls that leave w in X11, and the store after them, where the slots are rs
kept_does : (cs : List Call) (d w : ℕ) (v : Model) (rs : List ℕ) → Fine cs → d < 32 → (calls-run cs v).r 11 ≡ w → v.slots ≡ rs
    → Does (cs ++ if_not_0 d (store 11 d ∷ [])) v (write rs d w) × T (all_keep true (cs ++ if_not_0 d (store 11 d ∷ [])))
unfolding write
kept_does cs d w v rs φ hd e q =
    let κ = keep_does (eqb d 0) d (calls-run cs v) hd refl in
    let s : cond (eqb d 0) (calls-run cs v).slots (set (calls-run cs v).slots d ((calls-run cs v).r 11)) ≡ cond (eqb d 0) rs (set rs d w) =
    rw (φ.slots v, e, q) in
    (calls_first_does cs _ v _ φ (rw (← s) κ.0), calls_first_stays cs _ φ κ.1)

-- the branches' conditions
unfoldable pub condition : Cond → ℕ
condition Cond.Eq = C_EQ
condition Cond.Ne = C_NE
condition Cond.Lt = C_LT
condition Cond.Ge = C_GE
condition Cond.Ltu = C_CC
condition Cond.Geu = C_CS

holds_law : (k : Cond) (x y : ℕ) → x < 2 ^ 64 → y < 2 ^ 64 → holds (condition k) (compared x y) ≡ taken k x y
unfolding condition taken holds holds_even
holds_law Cond.Eq x y hx hy = z_law x y hx hy
holds_law Cond.Ne x y hx hy = ap not (z_law x y hx hy)
holds_law Cond.Lt x y hx hy = rw (lt_law x y hx hy, not-not)
holds_law Cond.Ge x y hx hy = ap not (lt_law x y hx hy)
holds_law Cond.Ltu x y hx hy = rw (c_law x y hx hy, not_leb)
holds_law Cond.Geu x y hx hy = c_law x y hx hy ∙ sym (not-not (leb y x)) ∙ ap not (not_leb x y)

-- the two ways of a branch on X9 and X10
abbrev pub fork : ℕ → ℕ → ℕ → List Call
fork k there here = emit (cmp_x 9 10) ∷ mov_imm64 12 there ∷ mov_imm64 13 here ∷ emit (csel_x 0 12 13 k) ∷ []

pub fork_does : (k : Cond) (there here : ℕ) (v : Model) → there < 2 ^ 64 → here < 2 ^ 64 → Does (fork (condition k) there here) v v.slots
unfolding condition all_fit fits form-fits keeps written scratch calls-run call_step form_step decode
fork_does Cond.Eq there here v h l = record { fit = tt; range = omega arith; slots = refl }
fork_does Cond.Ne there here v h l = record { fit = tt; range = omega arith; slots = refl }
fork_does Cond.Lt there here v h l = record { fit = tt; range = omega arith; slots = refl }
fork_does Cond.Ge there here v h l = record { fit = tt; range = omega arith; slots = refl }
fork_does Cond.Ltu there here v h l = record { fit = tt; range = omega arith; slots = refl }
fork_does Cond.Geu there here v h l = record { fit = tt; range = omega arith; slots = refl }

fork_is : (k : Cond) (there here : ℕ) (v : Model)
    → (calls-run (fork (condition k) there here) v).r 0 ≡ cond (holds (condition k) (compared (v.r 9) (v.r 10))) there here
unfolding condition calls-run call_step form_step decode
fork_is Cond.Eq there here v = refl
fork_is Cond.Ne there here v = refl
fork_is Cond.Lt there here v = refl
fork_is Cond.Ge there here v = refl
fork_is Cond.Ltu there here v = refl
fork_is Cond.Geu there here v = refl

pub fork_next : (k : Cond) (there here : ℕ) (v : Model) → v.r 9 < 2 ^ 64 → v.r 10 < 2 ^ 64
    → (calls-run (fork (condition k) there here) v).r 0 ≡ cond (taken k (v.r 9) (v.r 10)) there here
fork_next k there here v hx hy = fork_is k there here v ∙ ap (λ (b : Bool). cond b there here) (holds_law k (v.r 9) (v.r 10) hx hy)

-- the low bit cleared
pub even : (x : ℕ) → x < 2 ^ 64 → bit_and x (2 ^ 64 - 2) ≡ x / 2 * 2
even x h = and_high x 63 1 ∙ omega arith

-- ---- the instructions, from a model v in which X0 is the base of the slots

module _ (r₀ : ℕ → ℕ) (n pc : ℕ) (v : Model) (κ : Kept r₀ true v) where
  -- fine calls after fine ones that leave the result in X11
  pub result_agrees : (pre cs : List Call) (i : Instr) (d w : ℕ) → Fine pre → Fine cs → d < 32 → (calls-run cs (calls-run pre v)).r 11 ≡ w
      → exec i n pc v.slots ≡ record { x = write v.slots d w; flow = Flow.Next (add pc n) }
      → Agrees n pc v i (calls_first pre (then_store_rd d (continue cs)))
  unfolding store_rd
  result_agrees pre cs i d w φ ψ hd e x =
      let k = kept_does cs d w (calls-run pre v) v.slots ψ hd e (φ.slots v) in
      rw x
      (record {
        flow = refl;
        does = calls_first_does pre _ v _ φ k.0;
        stay = calls_first_stays pre _ φ k.1;
        next = refl;
      })

  pub op_agrees : (k : Alu) (d a b : ℕ) → d < 32 → a < 32 → b < 32
      → Agrees n pc v (Instr.Op k d a b) (calls_first (load 9 a ∷ load 10 b ∷ []) (then_store_rd d (continue (body k))))
  op_agrees k d a b hd ha hb =
      result_agrees (load 9 a ∷ load 10 b ∷ []) (body k) (Instr.Op k d a b) d (value k (read v.slots a) (read v.slots b))
      (two a b ha hb) (body_fine k) hd
      (unfold calls-run call_step in (body_law k (calls-run (load 9 a ∷ load 10 b ∷ []) v) (read-lt κ a) (read-lt κ b)))
      (unfold exec in refl)

  -- with a constant for the second operand
  pub imm_agrees : (cs : List Call) (k : Alu) (d a c : ℕ) → Fine cs → ((u : Model) → u.r 9 < 2 ^ 64 → u.r 10 ≡ c → Computes cs k u)
      → d < 32 → a < 32 → c < 2 ^ 64
      → Agrees n pc v (Instr.OpImm k d a c) (calls_first (load 9 a ∷ mov_imm64 10 c ∷ []) (then_store_rd d (continue cs)))
  imm_agrees cs k d a c φ l hd ha hc =
      result_agrees (load 9 a ∷ mov_imm64 10 c ∷ []) cs (Instr.OpImm k d a c) d (value k (read v.slots a) c)
      (with_constant a c ha hc) φ hd
      (unfold calls-run call_step in (l (calls-run (load 9 a ∷ mov_imm64 10 c ∷ []) v) (read-lt κ a) refl))
      (unfold exec in refl)

  pub lui_agrees : (d c : ℕ) → d < 32 → c < 2 ^ 64
      → Agrees n pc v (Instr.Lui d c) (continue (if_not_0 d (mov_imm64 11 c ∷ store 11 d ∷ [])))
  unfolding exec write
  lui_agrees d c hd hc = let p = put_does (eqb d 0) d c v hd hc refl in record { flow = refl; does = p.0; stay = p.1; next = refl }

  pub auipc_agrees : (d c : ℕ) → d < 32
      → Agrees n pc v (Instr.Auipc d c) (continue (if_not_0 d (mov_imm64 11 (add pc c) ∷ store 11 d ∷ [])))
  unfolding exec write
  auipc_agrees d c hd =
      let p = put_does (eqb d 0) d (add pc c) v hd (omega arith) refl in record { flow = refl; does = p.0; stay = p.1; next = refl }

  jal_by : (l t d : ℕ) (c : Bool) → d < 32 → l < 2 ^ 64 → t < 2 ^ 64 → eqb d 0 ≡ c
      → Does (cond c [] (mov_imm64 11 l ∷ store 11 d ∷ []) ++ (mov_imm64 0 t ∷ [])) v (cond c v.slots (set v.slots d l))
      × ((calls-run (cond c [] (mov_imm64 11 l ∷ store 11 d ∷ []) ++ (mov_imm64 0 t ∷ [])) v).r 0 ≡ t)
  unfolding all_fit fits keeps scratch calls-run call_step
  jal_by l t d true hd hl ht q = (record { fit = tt; range = omega arith; slots = refl }, refl)
  jal_by l t d false hd hl ht q = (record { fit = tt; range = omega (arith, eqb-false d 0 q); slots = refl }, refl)

  pub jal_agrees : (d c : ℕ) → d < 32
      → Agrees n pc v (Instr.Jal d c)
      (terminate (if_not_0 d (mov_imm64 11 (add pc n) ∷ store 11 d ∷ []) ++ (mov_imm64 0 (add pc c) ∷ [])))
  unfolding exec write
  jal_agrees d c hd =
      let p = jal_by (add pc n) (add pc c) d (eqb d 0) hd (omega arith) (omega arith) refl in record { flow = refl; does = p.0; next = p.1 }

  abbrev jalr-calls : Bool → ℕ → ℕ → ℕ → ℕ → List Call
  jalr-calls t l d a c =
      load 9 a
      ∷ (cond t [] (mov_imm64 11 l ∷ store 11 d ∷ [])
      ++ (mov_imm64 10 c ∷ emit (add_x 11 9 10) ∷ mov_imm64 12 not_1 ∷ emit (and_x 0 11 12) ∷ []))

  jalr_by : (l d a c : ℕ) (t : Bool) → d < 32 → a < 32 → l < 2 ^ 64 → c < 2 ^ 64 → eqb d 0 ≡ t
      → Does (jalr-calls t l d a c) v (cond t v.slots (set v.slots d l))
      × ((calls-run (jalr-calls t l d a c) v).r 0 ≡ bit_and (add (read v.slots a) c) (2 ^ 64 - 2))
  unfolding all_fit fits form-fits keeps written scratch calls-run call_step form_step op_value decode
  jalr_by l d a c true hd ha hl hc q = (record { fit = tt; range = omega arith; slots = refl }, refl)
  jalr_by l d a c false hd ha hl hc q = (record { fit = tt; range = omega (arith, eqb-false d 0 q); slots = refl }, refl)

  pub jalr_agrees : (d a c : ℕ) → d < 32 → a < 32 → c < 2 ^ 64
      → Agrees n pc v (Instr.Jalr d a c) (terminate (jalr-calls (eqb d 0) (add pc n) d a c))
  unfolding exec write
  jalr_agrees d a c hd ha hc =
      let p = jalr_by (add pc n) d a c (eqb d 0) hd ha (omega arith) hc refl in
      record {
        flow = refl;
        does = p.0;
        next = p.1 ∙ even (add (read v.slots a) c) (omega arith);
      }

  pub branch_agrees : (k : Cond) (a b c : ℕ) → a < 32 → b < 32
      → Agrees n pc v (Instr.Branch k a b c) (terminate (load 9 a ∷ load 10 b ∷ fork (condition k) (add pc c) (add pc n)))
  unfolding exec
  branch_agrees k a b c ha hb =
      record {
        flow = refl;
        does = calls_first_does (load 9 a ∷ load 10 b ∷ []) _ v _ (two a b ha hb)
            (unfold calls-run call_step in (fork_does k (add pc c) (add pc n) (calls-run (load 9 a ∷ load 10 b ∷ []) v) (omega arith) (omega arith)));
        next = unfold calls-run call_step in (fork_next k (add pc c) (add pc n) (calls-run (load 9 a ∷ load 10 b ∷ []) v) (read-lt κ a) (read-lt κ b));
      }

  pub nop_agrees : Agrees n pc v Instr.Nop (continue [])
  unfolding exec all_fit all_keep calls-run
  nop_agrees = record { flow = refl; does = record { fit = tt; range = tt; slots = refl }; stay = tt; next = refl }

  -- leftovers
  pub uncovered_agrees : (cs : List Call) → Fine cs → Agrees n pc v Instr.Uncovered (none cs)
  unfolding exec
  uncovered_agrees cs φ = record { flow = refl; fine = φ }

  pub helper_agrees : Agrees n pc v Instr.Helper (none [])
  unfolding exec
  helper_agrees = record { flow = refl; fine = nothing }
