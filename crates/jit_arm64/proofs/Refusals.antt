-- `compile_native_block` yields no block exactly under refusals 2 to 5 of document 01. Assumes nothing.
use Rattle.std.proofs.Common.{◌≡◌, ℕ, zero, suc, ◌+◌, ◌%◌, ◌^◌, ◌<◌, ◌≤◌, min, Bool, true, false, cond, ◌||◌, eqb, List, refl, ap, ◌∙◌, arith, ne_eqb, eqb-true}
use mathlib.Core.Option.{Option, none, some}
use Rattle.word.specs.Word.{add}
use Rattle.emit_native.specs.declared.Host.{Host}
use Rattle.emit_native.specs.declared.EmitFlow.TheVariants.{Continue, Terminate}
use Rattle.std.specs.Prelude.{Some, None}
use Rattle.emit_native.specs.Calls.{Call, Flow, Dialect, Emission}
use Rattle.emit_native.proofs.Size.{by}
use Rattle.jit_arm64.specs.Block.{Walk, fetch, is_missing, size_of, helped, step, instr_walk, walk, whole_walk, block_of, compile_native_block}
use Rattle.jit_arm64.specs.Parts.{neither, is_uncovered, missed}

-- the walk never counts less than it began with
helped_count : (f : Flow) (cs : List Call) (k pc : ℕ) → k ≤ (helped f cs k pc).count
unfolding helped
helped_count (Some Continue) cs k pc = omega arith
helped_count (Some Terminate) cs k pc = omega arith
helped_count None cs k pc = omega arith

step_count : (f : Flow) (e helper : Emission) (n start k i : ℕ) (rest : ℕ → ℕ → Walk) → ((m j : ℕ) → m ≤ (rest m j).count) → k ≤ (step f e helper n start k i rest).count
unfolding step
step_count (Some Continue) e helper n start k i rest up = omega (arith, up (suc k) (i + n))
step_count (Some Terminate) e helper n start k i rest up = omega arith
step_count None e helper n start k i rest up = helped_count helper.flow _ k _

instr_count : (d : Dialect) (h : Host) (f : Option ℕ) (start k i : ℕ) (rest : ℕ → ℕ → Walk) → ((m j : ℕ) → m ≤ (rest m j).count) → k ≤ (instr_walk d h f start k i rest).count
unfolding instr_walk
instr_count d h none start k i rest up = omega arith
instr_count d h (some instr) start k i rest up = step_count _ _ _ (size_of instr) start k i rest up

pub walk-count : (d : Dialect) (h : Host) (guest : List ℕ) (start left k i : ℕ) → k ≤ (walk d h guest start left k i).count
unfolding walk
walk-count d h guest start zero k i = omega arith
walk-count d h guest start (suc left) k i = instr_count d h _ start k i (walk d h guest start left) (walk-count d h guest start left)

-- nothing is counted where the first instruction is missing or not covered
helped-first : (f : Flow) (cs : List Call) (pc : ℕ) → eqb (helped f cs 0 pc).count 0 ≡ neither None f
unfolding helped neither
helped-first (Some Continue) cs pc = refl
helped-first (Some Terminate) cs pc = refl
helped-first None cs pc = refl

step_first : (f : Flow) (e helper : Emission) (n start : ℕ) (rest : ℕ → ℕ → Walk) → ((m j : ℕ) → m ≤ (rest m j).count)
    → eqb (step f e helper n start 0 0 rest).count 0 ≡ neither f helper.flow
unfolding step neither
step_first (Some Continue) e helper n start rest up = ne_eqb (rest 1 (0 + n)).count 0 (λ q. omega (arith, up 1 (0 + n), q))
step_first (Some Terminate) e helper n start rest up = refl
step_first None e helper n start rest up = helped-first helper.flow _ _

instr_first : (d : Dialect) (h : Host) (f : Option ℕ) (start : ℕ) (rest : ℕ → ℕ → Walk) → ((m j : ℕ) → m ≤ (rest m j).count)
    → eqb (instr_walk d h f start 0 0 rest).count 0 ≡ (is_missing f || is_uncovered d h (add start 0) f)
unfolding instr_walk is_missing is_uncovered
instr_first d h none start rest up = refl
instr_first d h (some instr) start rest up = step_first _ _ _ (size_of instr) start rest up

-- and then the stop says which of the two
helped_why : (f : Flow) (cs : List Call) (pc : ℕ) → missed (helped f cs 0 pc).stop ≡ false
unfolding helped missed
helped_why (Some Continue) cs pc = refl
helped_why (Some Terminate) cs pc = refl
helped_why None cs pc = refl

step_why : (f : Flow) (e helper : Emission) (n start : ℕ) (rest : ℕ → ℕ → Walk) → ((m j : ℕ) → m ≤ (rest m j).count)
    → (step f e helper n start 0 0 rest).count ≡ 0 → missed (step f e helper n start 0 0 rest).stop ≡ false
unfolding step missed
step_why (Some Continue) e helper n start rest up q = absurd (omega (arith, up 1 (0 + n), q))
step_why (Some Terminate) e helper n start rest up q = refl
step_why None e helper n start rest up q = helped_why helper.flow _ _

instr_why : (d : Dialect) (h : Host) (f : Option ℕ) (start : ℕ) (rest : ℕ → ℕ → Walk) → ((m j : ℕ) → m ≤ (rest m j).count)
    → (instr_walk d h f start 0 0 rest).count ≡ 0 → missed (instr_walk d h f start 0 0 rest).stop ≡ is_missing f
unfolding instr_walk is_missing missed
instr_why d h none start rest up q = refl
instr_why d h (some instr) start rest up q = step_why _ _ _ (size_of instr) start rest up q

walk_why : (d : Dialect) (h : Host) (guest : List ℕ) (pc n : ℕ) → (walk d h guest pc (suc n) 0 0).count ≡ 0 → missed (walk d h guest pc (suc n) 0 0).stop ≡ is_missing (fetch (add pc 0) guest 0)
unfolding walk
walk_why d h guest pc n q = instr_why d h _ pc (walk d h guest pc n) (walk-count d h guest pc n) q

pub whole_why : (d : Dialect) (most : ℕ) (h : Host) (guest : List ℕ) (pc limit : ℕ) → pc < 2 ^ 64 → (limit ≡ 0 → ⊥) → (whole_walk d (suc most) h guest pc limit).count ≡ 0
    → missed (whole_walk d (suc most) h guest pc limit).stop ≡ is_missing (fetch pc guest 0)
unfolding whole_walk
whole_why d most h guest pc zero l z q = absurd (z refl)
whole_why d most h guest pc (suc n) l z q =
    let e : min (suc n) (suc most) ≡ suc (min n most) = omega arith in
    let p : add pc 0 ≡ pc = omega arith in
    rw e (walk_why d h guest pc (min n most) (rw e at q)) ∙ ap (λ (x : ℕ). is_missing (fetch x guest 0)) p

-- what is said of the first instruction
abbrev pub first : Dialect → Host → List ℕ → ℕ → Bool
first d h guest pc = is_missing (fetch pc guest 0) || is_uncovered d h pc (fetch pc guest 0)

counted : (d : Dialect) (h : Host) (guest : List ℕ) (pc n : ℕ) → eqb (walk d h guest pc (suc n) 0 0).count 0 ≡ first d h guest (add pc 0)
unfolding walk
counted d h guest pc n = instr_first d h _ pc (walk d h guest pc n) (walk-count d h guest pc n)

none_counted : (d : Dialect) (h : Host) (guest : List ℕ) (pc : ℕ) → eqb (walk d h guest pc 0 0 0).count 0 ≡ true
unfolding walk
none_counted d h guest pc = refl

-- the limit is 0, or the first instruction is refused
by_first : (d : Dialect) (most : ℕ) (h : Host) (guest : List ℕ) (pc limit : ℕ)
    → eqb (whole_walk d (suc most) h guest pc limit).count 0 ≡ (eqb limit 0 || first d h guest (add pc 0))
unfolding whole_walk
by_first d most h guest pc zero =
    let e : min 0 (suc most) ≡ 0 = omega arith in
    rw e (none_counted d h guest pc)
by_first d most h guest pc (suc n) =
    let e : min (suc n) (suc most) ≡ suc (min n most) = omega arith in
    let z : eqb (suc n) 0 ≡ false = ne_eqb (suc n) 0 (λ q. omega arith) in
    rw (e, z) (counted d h guest pc (min n most))

-- an odd PC is not fetched
odd_missing : (pc : ℕ) (guest : List ℕ) → eqb (pc % 2) 1 ≡ true → is_missing (fetch pc guest 0) ≡ true
unfolding fetch is_missing
odd_missing pc guest t =
    let e : eqb (pc % 2) 0 ≡ false = rw (eqb-true (pc % 2) 1 t) in
    rw e

-- the limit is 0 (refusal 2), the PC is odd (3), the first instruction lacks a halfword (4), or it is neither inline
-- nor a helper's (5)
abbrev pub refuses : Dialect → Host → List ℕ → ℕ → ℕ → Bool
refuses d h guest pc limit = eqb limit 0 || (eqb (pc % 2) 1 || first d h guest pc)

none_emitted : (d : Dialect) (most : ℕ) (h : Host) (guest : List ℕ) (pc limit : ℕ) → pc < 2 ^ 64
    → eqb (whole_walk d (suc most) h guest pc limit).count 0 ≡ refuses d h guest pc limit
none_emitted d most h guest pc limit l =
    let e : add pc 0 ≡ pc = omega arith in
    let o : first d h guest pc ≡ (eqb (pc % 2) 1 || first d h guest pc) = by (eqb (pc % 2) 1) (λ t. rw (t, odd_missing pc guest t)) (λ t. rw t) in
    by_first d most h guest pc limit ∙ ap (λ (b : Bool). eqb limit 0 || b) (ap (first d h guest) e ∙ o)

-- no block exactly where one of them applies
pub no_block_is : (d : Dialect) (most : ℕ) (h : Host) (guest : List ℕ) (pc limit : ℕ) → pc < 2 ^ 64
    → compile_native_block d (suc most) h guest pc limit
    ≡ cond (refuses d h guest pc limit) none (some (block_of d h (whole_walk d (suc most) h guest pc limit)))
unfolding compile_native_block
no_block_is d most h guest pc limit l = rw (none_emitted d most h guest pc limit l)
