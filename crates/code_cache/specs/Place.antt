-- `alloc` of the Rust's code cache, carried over, and document 01's operation Place around it.
use Rattle.std.specs.Prelude.{ℕ, ◌+◌, ◌*◌, ◌/◌, cond, List, length, ltb, Result, Ok, Err}
use Rattle.std.proofs.Math.Option.{Option, none, some}
use Rattle.le.specs.Le.{splice}
use Rattle.rules.specs.Refusals as Refusals
use Rattle.rules.specs.declared.refusals.Refusal.{Refusal}
use Rattle.code_cache.specs.declared.Placed.{Placed}

-- the bytes of a cache, of which the first `used` are taken
pub record Cache : Type 0 where
  pub bytes : List ℕ
  pub used : ℕ

-- `(self.used + 3) & !3`
abbrev pub aligned : Cache → ℕ
aligned c = (c.used + 3) / 4 * 4

-- `aligned.checked_add(code.len())`
abbrev pub end : Cache → List ℕ → ℕ
end c code = aligned c + length code

-- `Some(aligned)`, and the cache as it then is
pub record Allocated : Type 0 where
  pub start : ℕ
  pub cache : Cache

-- nothing where the code would end beyond the cache; else it is copied to the start, and its end is what is used
abbrev pub alloc : Cache → List ℕ → Option Allocated
alloc c code =
    cond (ltb (length c.bytes) (end c code)) none
    (some (record {
      start = aligned c;
      cache = record { bytes = splice c.bytes (aligned c) code; used = end c code };
    }))

-- ---- Place: its answer, and the bytes of the store afterwards

-- the refusal, 0 where the code was placed; where it starts; how much of the store is then used
pub record Answer : Type 0 where
  pub refusal : ℕ
  pub start : ℕ
  pub used : ℕ

abbrev pub refusal : ℕ → Answer
refusal n = record { refusal = n; start = 0; used = 0 }

-- the code's answer as numbers
abbrev pub answer : Result Placed Refusal → Answer
answer (Ok p) = record { refusal = Refusals.accepted; start = p.start; used = p.used }
answer (Err r) = refusal (Refusals.number r)

pub record Outcome : Type 0 where
  pub answer : Answer
  pub store : List ℕ

abbrev pub result : Answer → List ℕ → Outcome
result a store = record { answer = a; store = store }

-- a refusal leaves the store
abbrev pub allocated : List ℕ → Option Allocated → Outcome
allocated store none = result (refusal Refusals.code_exceeds_store) store
allocated store (some a) = result (record { refusal = Refusals.accepted; start = a.start; used = a.cache.used }) a.cache.bytes

unfoldable pub place : List ℕ → ℕ → List ℕ → Outcome
place store used code =
    cond (ltb (length store) used) (result (refusal Refusals.used_exceeds_store) store) (allocated store (alloc (record { bytes = store; used = used }) code))
