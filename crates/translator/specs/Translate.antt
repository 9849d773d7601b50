-- Operation Translate of document 01: its refusals in their order, the answer and the output bytes.
use Rattle.std.specs.Prelude.{ℕ, ◌%◌, Bool, cond, not, ◌||◌, List, ◌++◌, length, drop, eqb, ltb}
use Rattle.std.proofs.Math.Option.{Option, none, some}
use Rattle.rules.specs.Limits.{max_instrs, max_slot_offset}
use Rattle.rules.specs.Refusals as Refusals
use Rattle.emit_native.specs.declared.Host.{Host}
use Rattle.emit_native.specs.Calls.{product}
use Rattle.jit_arm64.specs.declared.block.Stop.{Stop}
use Rattle.jit_arm64.specs.declared.block.Stop.TheVariants.{Limit, Ended, Helper, Uncovered, NotFetched}
use Rattle.jit_arm64.specs.Block.{fetch, is_missing, Block, compile_native_block}
use Rattle.jit_arm64.specs.Fence.{fence, limit_at}
use Rattle.translator.specs.declared.EndKind.{EndKind}

-- the refusal, 0 where the block was written; its length in bytes, its count of instructions, and its end kind's number
pub record Answer : Type 0 where
  pub refusal : ℕ
  pub length : ℕ
  pub count : ℕ
  pub end : ℕ

-- the answer, and the output bytes then
pub record Result : Type 0 where
  pub answer : Answer
  pub output : List ℕ

abbrev pub result : Answer → List ℕ → Result
result a output = record { answer = a; output = output }

-- a refusal leaves the output
abbrev pub refused : ℕ → List ℕ → Result
refused n output = result (record { refusal = n; length = 0; count = 0; end = 0 }) output

-- how a block ends (document 02, No. 3): by FENCE.I, by a helper, or otherwise
unfoldable pub end_kind : Option ℕ → Stop → EndKind
end_kind (some n) stop = EndKind.Drop
end_kind none Helper = EndKind.Helper
end_kind none Limit = EndKind.Plain
end_kind none Ended = EndKind.Plain
end_kind none Uncovered = EndKind.Plain
end_kind none NotFetched = EndKind.Plain

-- document 02's numbers
unfoldable pub end_number : EndKind → ℕ
end_number EndKind.Plain = 1
end_number EndKind.Helper = 2
end_number EndKind.Drop = 3

-- the block at the front of the output
abbrev pub accepted : Block → EndKind → List ℕ → Result
accepted b k output =
    result (record { refusal = Refusals.accepted; length = length b.code; count = b.count; end = end_number k })
    (b.code ++ drop (length b.code) output)

-- a slot offset that is no multiple of 8 or is above 32,512
abbrev pub bad_slot_offset : ℕ → Bool
bad_slot_offset n = not (eqb (n % 8) 0) || ltb max_slot_offset n

-- why there is no block, the lowest that applies: else the first instruction is neither inline nor a helper's
unfoldable pub no_block : List ℕ → ℕ → ℕ → ℕ
no_block guest pc limit =
    cond (eqb limit 0) Refusals.limit_zero
    (cond (eqb (pc % 2) 1) Refusals.odd_pc
    (cond (is_missing (fetch pc guest 0)) Refusals.not_fetched
    Refusals.not_covered))

-- f: the FENCE.I that ends the block, or none
unfoldable pub of_block : Option Block → ℕ → Option ℕ → List ℕ → Result
of_block none why f output = refused why output
of_block (some b) why f output =
    cond (ltb (length output) (length b.code)) (refused Refusals.output_short output) (accepted b (end_kind f b.stop) output)

unfoldable pub translate : Host → List ℕ → ℕ → ℕ → List ℕ → Result
translate h guest pc limit output =
    let f = fence product max_instrs h guest pc limit in
    cond (bad_slot_offset h.slot_offset) (refused Refusals.slot_offset output)
    (of_block (compile_native_block product max_instrs h guest pc (limit_at f limit)) (no_block guest pc limit) f output)
