-- What is known of an enum where an `if let` was not taken: it is one of the others. Assumes nothing.
use Rattle.std.proofs.Common.{◌≡◌, ℕ, ◌≤◌, Bool, true, false, not, refl, sym, ◌∙◌, true≢false, arith}
use Rattle.emit_native.specs.declared.EmitFlow.{EmitFlow}
use Rattle.emit_native.specs.declared.EmitFlow.TheVariants.{Continue, Terminate}
use Rattle.std.specs.Prelude.{Some, None, is_some}
use Rattle.emit_native.specs.Calls.{Flow}
use Rattle.jit_arm64.specs.declared.block.Stop.{Stop}
use Rattle.jit_arm64.specs.declared.block.Stop.TheVariants.{Limit, Ended, Helper, Uncovered, NotFetched}
use Rattle.jit_arm64.specs.Parts.{sets_next, has_return, helped_count, helped_stop, is_full}

-- neither None nor Terminate
pub goes_on : (f : Flow) → (f ≡ None → ⊥) → (f ≡ Some Terminate → ⊥) → f ≡ Some Continue
goes_on None a b = absurd (a refl)
goes_on (Some Continue) a b = refl
goes_on (Some Terminate) a b = absurd (b refl)

-- not Terminate
pub continues : (f : EmitFlow) → (f ≡ Terminate → ⊥) → f ≡ Continue
continues Continue a = refl
continues Terminate a = absurd (a refl)

-- no flow at all
pub no_flow : (f : Flow) → ((x : EmitFlow) → f ≡ Some x → ⊥) → f ≡ None
no_flow None a = refl
no_flow (Some x) a = absurd (a x refl)

-- not Terminate: a helper's emitter that takes the instruction not
pub not_taken : (f : Flow) → (f ≡ Some Terminate → ⊥) → (helped_count f ≡ 0) × (helped_stop f ≡ Uncovered)
unfolding helped_count helped_stop
not_taken (Some Continue) a = (refl, refl)
not_taken None a = (refl, refl)
not_taken (Some Terminate) a = absurd (a refl)

pub taken_most : (f : Flow) → helped_count f ≤ 1
unfolding helped_count
taken_most (Some Terminate) = omega arith
taken_most (Some Continue) = omega arith
taken_most None = omega arith

-- not Limit: an instruction stopped the walk
pub not_full : (why : Stop) (fence : Bool) (n most : ℕ) → (why ≡ Limit → ⊥) → is_full why fence n most ≡ false
unfolding is_full
not_full Limit fence n most a = absurd (a refl)
not_full Ended fence n most a = refl
not_full Helper fence n most a = refl
not_full Uncovered fence n most a = refl
not_full NotFetched fence n most a = refl

pub taken-not-full : (f : Flow) (fence : Bool) (n most : ℕ) → is_full (helped_stop f) fence n most ≡ false
unfolding helped_stop is_full
taken-not-full (Some Terminate) fence n most = refl
taken-not-full (Some Continue) fence n most = refl
taken-not-full None fence n most = refl

-- neither Helper nor Ended, and not Helper: the end of a block
pub next-set : (why : Stop) → (why ≡ Helper → ⊥) → (why ≡ Ended → ⊥) → sets_next why ≡ true
unfolding sets_next
next-set Limit a b = refl
next-set Uncovered a b = refl
next-set NotFetched a b = refl
next-set Helper a b = absurd (a refl)
next-set Ended a b = absurd (b refl)

pub returned : (why : Stop) → (why ≡ Helper → ⊥) → has_return why ≡ true
unfolding has_return
returned Limit a = refl
returned Ended a = refl
returned Uncovered a = refl
returned NotFetched a = refl
returned Helper a = absurd (a refl)

-- by `is_none`
pub is_refused : (f : Flow) {b : Bool} → is_some f ≡ not b → b ≡ true → f ≡ None
is_refused None e t = refl
is_refused (Some x) {b} e t = absurd (true≢false (e ∙ rw t refl))

pub is_taken : (f : Flow) {b : Bool} → is_some f ≡ not b → b ≡ false → f ≡ None → ⊥
is_taken None {b} e t n = true≢false (sym (e ∙ rw t refl))
is_taken (Some x) e t n = let z : ◌≡◌ {A = Flow} (Some x) None = n in absurd (cc)
