-- `compile_native_block`: the walk over the guest code, and the end of the block.
use Rattle.std.specs.Prelude.{ℕ, zero, suc, ◌+◌, ◌*◌, ◌%◌, ◌^◌, min, Bool, true, false, cond, List, [], ◌∷◌, ◌++◌, length, ◌==◌, nat_le, Some, None}
use Rattle.std.proofs.Math.Option.{Option, none, some}
use Rattle.word.specs.Word.{add}
use Rattle.le.specs.Le.{load}
use Rattle.emit_native.specs.declared.Host.{Host}
use Rattle.emit_native.specs.declared.EmitFlow.TheVariants.{Continue, Terminate}
use Rattle.jit_arm64.specs.declared.block.Stop.{Stop}
use Rattle.jit_arm64.specs.declared.block.Stop.TheVariants.{Limit, Ended, Helper, Uncovered, NotFetched}
use Rattle.a64_emitter.specs.Writers.{ret}
use Rattle.a64_emitter.specs.Emitter.{bytes}
use Rattle.emit_native.specs.Calls.{Call, Flow, Dialect, rust, product, emit, mov_imm64, words_in, Emission}
use Rattle.isa.specs.declared.zbb.Found.{Found}
use Rattle.isa.specs.Decode.{decode32}
use Rattle.isa.specs.Zbb.{find, MaybeZbb}
use Rattle.instr16.specs.Instr16.{emit_native_instr16}
use Rattle.instr32.specs.Instr32.{emit_native_instr}
use Rattle.term_helper.specs.TermHelper.{emit_native_term_helper16, emit_native_term_helper32}
use Rattle.zbb.specs.Emission.{emission}

-- ---- fetching: the guest bytes hold the halfword at index i where two bytes are left there; i is the PC less the start PC

abbrev pub half : List ℕ → ℕ → ℕ
half guest i = load 2 guest i

-- `(instr16 & 0x3) != 0x3` is a 16-bit instruction
abbrev pub is_32 : ℕ → Bool
is_32 instr = instr % 4 == 3

-- `(upper << 16) | instr16 as u32`, where there is an upper halfword
unfoldable pub fetch_upper : List ℕ → ℕ → Option ℕ
fetch_upper guest i = cond (nat_le (i + 4) (length guest)) (some (half guest (i + 2) * 2 ^ 16 + half guest i)) none

-- `(pc & 0x1) != 0` and an absent halfword end the loop
unfoldable pub fetch : ℕ → List ℕ → ℕ → Option ℕ
fetch pc guest i =
    cond (pc % 2 == 0)
    (cond (nat_le (i + 2) (length guest))
    (cond (is_32 (half guest i)) (fetch_upper guest i) (some (half guest i)))
    none)
    none

unfoldable pub is_missing : Option ℕ → Bool
is_missing none = true
is_missing (some instr) = false

-- ---- one instruction

-- its length in bytes
abbrev pub size_of : ℕ → ℕ
size_of instr = cond (is_32 instr) 4 2

-- the Rust's inline emitter for its width, and the helper's
unfoldable pub emit_native : Host → ℕ → ℕ → Emission
emit_native h pc instr = cond (is_32 instr) (emit_native_instr pc instr (decode32 instr)) (emit_native_instr16 h.ignore_ebreak pc instr)

unfoldable pub emit_term_helper : Host → ℕ → ℕ → ℕ → Emission
emit_term_helper h pc instr emitted =
    cond (is_32 instr) (emit_native_term_helper32 h pc instr (decode32 instr) emitted) (emit_native_term_helper16 h pc instr emitted)

-- the Zbb instruction that it is, of 32 bits
unfoldable pub zbb_of : ℕ → MaybeZbb
zbb_of instr = cond (is_32 instr) (find instr) None

unfoldable pub zbb_first : MaybeZbb → ℕ → Emission → Emission
zbb_first None instr e = e
zbb_first (Some (Found.Register z)) instr e = emission (Some (Found.Register z)) instr
zbb_first (Some (Found.Number z n)) instr e = emission (Some (Found.Number z n)) instr
zbb_first (Some (Found.Unary z)) instr e = emission (Some (Found.Unary z)) instr

-- the product takes Zbb first, and the Rust's emitters after it (document 02, No. 7)
unfoldable pub emit_inline : Dialect → Host → ℕ → ℕ → Emission
emit_inline rust h pc instr = emit_native h pc instr
emit_inline product h pc instr = zbb_first (zbb_of instr) instr (emit_native h pc instr)

-- ---- the loop

-- the calls of the block's instructions, how many there are, why the loop stopped, and the PC then
pub record Walk : Type 0 where
  pub calls : List Call
  pub count : ℕ
  pub stop : Stop
  pub pc : ℕ

abbrev pub walked : List Call → ℕ → Stop → ℕ → Walk
walked cs n s pc = record { calls = cs; count = n; stop = s; pc = pc }

abbrev pub in_front : List Call → Walk → Walk
in_front cs w = walked (cs ++ w.calls) w.count w.stop w.pc

-- the helper's emitter took the instruction, or it is not covered
unfoldable pub helped : Flow → List Call → ℕ → ℕ → Walk
helped (Some Terminate) cs emitted pc = walked cs (suc emitted) Helper pc
helped (Some Continue) cs emitted pc = walked cs emitted Uncovered pc
helped None cs emitted pc = walked cs emitted Uncovered pc

-- an instruction of n bytes, by the inline emitter's flow; where it answers None, the helper's words follow
-- rest: how the loop goes on, from the count and the index after the instruction
unfoldable pub step : Flow → Emission → Emission → ℕ → ℕ → ℕ → ℕ → (ℕ → ℕ → Walk) → Walk
step (Some Continue) e helper n start emitted i rest = in_front e.calls (rest (suc emitted) (i + n))
step (Some Terminate) e helper n start emitted i rest = walked e.calls (suc emitted) Ended (add start (i + n))
step None e helper n start emitted i rest = helped helper.flow (e.calls ++ helper.calls) emitted (add start i)

-- the instruction that was fetched, or none. d: whose inline emitter
unfoldable pub instr_walk : Dialect → Host → Option ℕ → ℕ → ℕ → ℕ → (ℕ → ℕ → Walk) → Walk
instr_walk d h none start emitted i rest = walked [] emitted NotFetched (add start i)
instr_walk d h (some instr) start emitted i rest =
    let e = emit_inline d h (add start i) instr in
    step e.flow e (emit_term_helper h (add start i) instr emitted) (size_of instr) start emitted i rest

-- left: how many instructions the limit leaves
unfoldable pub walk : Dialect → Host → List ℕ → ℕ → ℕ → ℕ → ℕ → Walk
walk d h guest start zero emitted i = walked [] emitted Limit (add start i)
walk d h guest start (suc left) emitted i = instr_walk d h (fetch (add start i) guest i) start emitted i (walk d h guest start left)

-- ---- the block

-- the count into X1, RET; and the same after the next PC into X0
abbrev pub return_calls : ℕ → List Call
return_calls count = mov_imm64 1 count ∷ emit ret ∷ []

abbrev pub next_calls : ℕ → ℕ → List Call
next_calls pc count = mov_imm64 0 pc ∷ return_calls count

-- `if !helper_terminator { if !terminated { .. } .. }`
unfoldable pub end_calls : Stop → ℕ → ℕ → List Call
end_calls Helper pc count = []
end_calls Ended pc count = return_calls count
end_calls Limit pc count = next_calls pc count
end_calls Uncovered pc count = next_calls pc count
end_calls NotFetched pc count = next_calls pc count

abbrev pub block_calls : Walk → List Call
block_calls w = w.calls ++ end_calls w.stop w.pc w.count

-- most: how many instructions a block may have. The Rust's is 64, `max_steps.min(64)`
unfoldable pub whole_walk : Dialect → ℕ → Host → List ℕ → ℕ → ℕ → Walk
whole_walk d most h guest pc limit = walk d h guest pc (min limit most) 0 0

-- the code, its count of instructions, and why the loop stopped
pub record Block : Type 0 where
  pub code : List ℕ
  pub count : ℕ
  pub stop : Stop

-- d: whose inline emitter, and how its calls are read; the Rust's is rust
abbrev pub block_of : Dialect → Host → Walk → Block
block_of d h w = record { code = bytes (words_in d h.slot_offset (block_calls w)); count = w.count; stop = w.stop }

-- no block where nothing was emitted
unfoldable pub compile_native_block : Dialect → ℕ → Host → List ℕ → ℕ → ℕ → Option Block
compile_native_block d most h guest pc limit =
    let w = whole_walk d most h guest pc limit in
    cond (w.count == 0) none (some (block_of d h w))
