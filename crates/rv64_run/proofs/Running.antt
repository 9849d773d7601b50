-- What holds of a run after n instructions, at a place in the guest bytes: what is left of it ends as the whole does.
use Rattle.std.proofs.Common.{Option, Some, None}
use mathlib.Core.Bool.{Bool}
use mathlib.Core.Path.{◌≡◌, refl, ap, ◌∙◌}
use mathlib.Core.List.{List}
use Prim.Native.Nat.{ℕ, suc, ◌+◌, ◌-◌, ◌≤◌}
use native.Mathlib.Omega.{arith}
use lib.ListN.{length, length-drop, drop}
use lib.Seq.{drop-drop}
use Rattle.rv64.specs.declared.decode.Instr.{Instr}
use Rattle.rv64.specs.declared.execute.Flow.{Flow}
use Rattle.rv64_run.specs.declared.run.Hart.{Hart}
use Rattle.rv64_run.specs.declared.run.Stop.{Stop}
use Rattle.rv64_run.specs.declared.run.Ran.{Ran}
use Rattle.rv64_run.specs.Run.{Fetched, fetch, run, step, onward, hart, stopped}
use Rattle.rv64_run.specs.Parts.{stepped, after}
use Rattle.rv64_run.proofs.Fetching.{within}

-- how a run goes on after a step at pc that left the registers x
unfoldable pub onto : Option (Flow × ℕ) → List ℕ → ℕ → ℕ → (ℕ → Hart → Ran) → Ran
onto None x pc n go = stopped (hart x pc) n Stop.NotFetched
onto (Some (flow, size)) x pc n go = onward flow x pc n (go size)

by_step : (f : Fetched) (h : Hart) (n : ℕ) (go : ℕ → Hart → Ran) → onto (stepped f h.pc h.x) (after f h.pc h.x) h.pc n go ≡ step f h n go
unfolding onto stepped after step
by_step None h n go = refl
by_step (Some (i, size)) h n go = refl

-- the length of what was fetched
abbrev length_of : Option (Flow × ℕ) → ℕ
length_of None = 0
length_of (Some p) = p.1

stepped-size : (f : Fetched) (bound pc : ℕ) (x : List ℕ) → ((i : Instr) (size : ℕ) → f ≡ Some (i, size) → size ≤ bound) → length_of (stepped f pc x) ≤ bound
unfolding stepped
stepped-size None bound pc x p = omega arith
stepped-size (Some (i, size)) bound pc x p = p i size refl

pub record Running (e : Bool) (g : List ℕ) (limit : ℕ) (h₀ h : Hart) (at n : ℕ) : Type 0 where
  pub upto : n ≤ limit
  pub inside : at ≤ length g
  pub same : run e (limit - n) n (drop at g) h ≡ run e limit 0 g h₀

pub begin : (e : Bool) (g : List ℕ) (limit : ℕ) (h : Hart) → Running e g limit h h 0 0
begin e g limit h =
    let q : limit - 0 ≡ limit = omega arith in record { upto = omega arith; inside = omega arith; same = rw q }

module _ {e : Bool} {g : List ℕ} {limit : ℕ} {h₀ h : Hart} {at n : ℕ} (v : Running e g limit h₀ h at n) where
  pub at_limit : n ≡ limit → stopped h n Stop.Limit ≡ run e limit 0 g h₀
  unfolding run
  at_limit q = let z : limit - n ≡ 0 = omega arith in (rw z at v.same)

  -- one step, after which the registers are x
  module _ {s : Option (Flow × ℕ)} {x : List ℕ} (q : n ≡ limit → ⊥) (a : s ≡ stepped (fetch e (drop at g)) h.pc h.x) (b : x ≡ after (fetch e (drop at g)) h.pc h.x) where
    more : limit - n ≡ suc (limit - (n + 1))
    more = let u = v.upto in omega arith

    pub one : onto s x h.pc n (λ (size : ℕ). run e (limit - (n + 1)) (n + 1) (drop size (drop at g))) ≡ run e limit 0 g h₀
    unfolding run
    one = rw (a, b) (by_step (fetch e (drop at g)) h n _ ∙ (rw more at v.same))

    pub fits : {flow : Flow} {size : ℕ} → s ≡ Some (flow, size) → at + size ≤ length g
    fits {size = size} r =
        let k = stepped-size (fetch e (drop at g)) (length (drop at g)) h.pc h.x (λ i size f. within e (drop at g) f) in
        let m : size ≤ length (drop at g) = rw (← a, ap (λ (o : Option (Flow × ℕ)). length_of o) r) at k in
        let u = v.inside in omega (arith, length-drop at g)

    pub on : {to size : ℕ} → s ≡ Some (Flow.Next to, size) → Running e g limit h₀ (hart x to) (at + size) (n + 1)
    unfolding onto onward
    on {to} {size} r =
        let u = v.upto in record { upto = omega arith; inside = fits r; same = rw (← drop-drop size at g) (rw r at one) }
