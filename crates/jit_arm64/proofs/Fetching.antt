-- What `fetch` found. Assumes nothing.
use Rattle.std.proofs.Common.{◌≡◌, ℕ, ◌+◌, ◌*◌, ◌%◌, ◌^◌, ◌<◌, sym, refl, ◌∙◌, arith, eq-eqb, ne_eqb}
use Rattle.std.specs.Prelude.{Some, None}
use mathlib.Core.Option.{Option, none, some}
use Rattle.jit_arm64.specs.declared.fetch.Fetched.{Fetched}
use Rattle.jit_arm64.specs.Block.{size_of}
use Rattle.jit_arm64.specs.Fetched.{Read}
use Rattle.jit_arm64.specs.Parts.{fetched, FetchedOf}

-- nothing
pub none_found : FetchedOf none None
unfolding fetched
none_found = record { found = refl; narrow = search }

-- an instruction of 16 bits, and one of 32
pub half-found : (low : ℕ) → (low % 4 ≡ 3 → ⊥) → low < 2 ^ 16 → FetchedOf (some low) (Some (record { size = 2; instr = low }))
unfolding fetched
half-found low e l = record { found = rw (ne_eqb (low % 4) 3 e) refl; narrow = λ n. l }

pub word-found : (upper low : ℕ) → low % 4 ≡ 3 → FetchedOf (some (upper * 2 ^ 16 + low)) (Some (record { size = 4; instr = upper * 2 ^ 16 + low }))
unfolding fetched
word-found upper low e =
    let t : (upper * 2 ^ 16 + low) % 4 ≡ 3 = omega arith in
    record { found = rw (eq-eqb ((upper * 2 ^ 16 + low) % 4) 3 t) refl; narrow = λ n. absurd (n t) }

-- no instruction where a halfword is missing, and only there
pub is_none : (f : Option ℕ) {r : Read} → r ≡ fetched f → r ≡ None → f ≡ none
unfolding fetched
is_none none e q = refl
is_none (some instr) e q = let z : ◌≡◌ {A = Read} (Some (record { size = size_of instr; instr = instr })) None = sym e ∙ q in absurd (cc)

pub is_some : (f : Option ℕ) {r : Read} {x : Fetched} → r ≡ fetched f → r ≡ Some x → (f ≡ some x.instr) × (x.size ≡ size_of x.instr)
unfolding fetched
is_some none {r} {x} e q = let z : ◌≡◌ {A = Read} (Some x) None = sym q ∙ e in absurd (cc)
is_some (some i) {r} {x} e q =
    let z : ◌≡◌ {A = Read} (Some (record { size = size_of i; instr = i })) (Some x) = sym e ∙ q in
    let y : ◌≡◌ {A = Fetched} (record { size = size_of i; instr = i }) x = cc in
    rw (← y) (refl, refl)

-- no Some
pub no_read : (r : Read) → ((x : Fetched) → r ≡ Some x → ⊥) → r ≡ None
no_read None a = refl
no_read (Some x) a = absurd (a x refl)
