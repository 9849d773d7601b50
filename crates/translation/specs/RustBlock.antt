-- Translation's block beside the Rust's (demand 2; document 02, Nos. 3, 6 and 7). Definitions only.
use Rattle.std.specs.Prelude.{◌≡◌, cond, List, map, ℕ, zero, suc, ◌+◌, ◌/◌, ◌%◌, eqb, None}
use Rattle.std.proofs.Math.Option.{Option, none, some}
use Rattle.word.specs.Word.{add}
use Rattle.le.specs.Le.{words}
use Rattle.a64_emitter.specs.Emitter.{bytes}
use Rattle.a64_emitter.specs.Writers.{ldr_x, movz}
use Rattle.emit_native.specs.declared.Host.{Host}
use Rattle.emit_native.specs.Calls.{rust}
use Rattle.jit_arm64.specs.Block.{fetch, size_of, zbb_of, Block, compile_native_block}
use Rattle.jit_arm64.specs.Fence.{fence, limit_at}

-- the Rust's block, at most 64 instructions; up to FENCE.I, where there is one: its count is the limit (document 02,
-- No. 3)
abbrev pub rust_block : Host → List ℕ → ℕ → ℕ → Option Block
rust_block h guest pc limit = compile_native_block rust 64 h guest pc (limit_at (fence rust 64 h guest pc limit) limit)

-- a load from slot 0, LDR of any register with base X0 and the slot offset, is compared as MOVZ with 0 into that
-- register (document 02, No. 6)
abbrev pub without_slot_0 : ℕ → ℕ → ℕ
without_slot_0 offset w = cond (eqb (w / 32) (ldr_x 0 0 offset / 32)) (movz (w % 32) 0) w

-- an instruction that was fetched is none of Zbb's, which the Rust refuses; rest: the same after it, from its length on
abbrev pub Free : Option ℕ → (ℕ → Type 0) → Type 0
Free none rest = Unit {0}
Free (some instr) rest = (zbb_of instr ≡ None) × rest (size_of instr)

-- none of the first n instructions from index i on is Zbb's (document 02, No. 7)
abbrev pub ZbbFree : List ℕ → ℕ → ℕ → ℕ → Type 0
ZbbFree guest start zero i = Unit {0}
ZbbFree guest start (suc n) i = Free (fetch (add start i) guest i) (λ (size : ℕ). ZbbFree guest start n (i + size))

-- the bytes and the count that translation answered
pub record RustBlock (h : Host) (guest : List ℕ) (pc limit : ℕ) (block : List ℕ) (count : ℕ) : Type 0 where
  -- the Rust has a block there
  pub native : Block
  pub is : rust_block h guest pc limit ≡ some native
  -- of the same count
  pub counts : native.count ≡ count
  -- and of the same words, but for each load from slot 0
  pub same : block ≡ bytes (map (without_slot_0 h.slot_offset) (words native.code))
