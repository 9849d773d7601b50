-- How long a block may be (document 02, No. 7). Definitions only.
use Rattle.std.specs.Prelude.{◌≡◌, ◌++◌, ℕ, ◌*◌, ◌≤◌, ◌<◌, min, length}
use Rattle.rules.specs.Limits.{max_instrs, most_words, longest}
use Rattle.rules.specs.Refusals.{output_short}
use Rattle.emit_native.specs.declared.Host.{Host}
use Rattle.emit_native.specs.Calls.{product, words}
use Rattle.jit_arm64.specs.Block.{emit_inline, emit_term_helper}

-- the bytes of a block at this limit, at most
abbrev pub most_bytes : ℕ → ℕ
most_bytes limit = 4 * longest (min limit max_instrs)

-- the refusal and the length that translation answered, with so much output
pub record Size (h : Host) (limit room refusal block : ℕ) : Type 0 where
  -- an instruction has at most 40 words, inline or, after n others, with a helper's call
  pub inline : (pc instr : ℕ) → length (words h.slot_offset (emit_inline product h pc instr).calls) ≤ most_words
  pub helper : (pc instr n : ℕ) → n < max_instrs
      → length (words h.slot_offset ((emit_inline product h pc instr).calls ++ (emit_term_helper h pc instr n).calls)) ≤ most_words
  -- a block has 40 times the limit, as clamped, and 6
  pub within : block ≤ most_bytes limit
  -- with so much output refusal 6 does not occur
  pub suffices : most_bytes limit ≤ room → refusal ≡ output_short → ⊥
