-- The Rust's emitters refuse every Zbb instruction: the product takes none of these encodings from the Rust. Assumes
-- nothing.
use Rattle.std.proofs.Common.{◌≡◌, ℕ, ◌/◌, ◌%◌, ◌^◌, ◌<◌, [], arith}
use Rattle.isa.specs.Zbb.{registers, word_shifts, unaries, shifts, find}
use Rattle.isa.specs.Decode.{decode32}
use Rattle.isa.proofs.ZbbRows.{each_row, opcode_of}
use Rattle.std.specs.Prelude.{None}
use Rattle.emit_native.specs.declared.Host.{Host}
use Rattle.emit_native.specs.Calls.{none, store_rd}
use Rattle.instr32.specs.Instr32 as I32
use Rattle.term_helper.specs.TermHelper.{opcode_helper, emit_native_term_helper32}

-- imm[11:6] of a shift
hi : (w : ℕ) → w / 2 ^ 20 % 4096 / 2 ^ 6 % 64 ≡ w / 2 ^ 26 % 64
hi w = omega arith

-- the inline one, though not without words in front
pub rust_refuses : (pc w : ℕ) → w < 2 ^ 32 → (find w ≡ None → ⊥) → (I32.emit_native_instr pc w (decode32 w)).flow ≡ None
unfolding registers word_shifts unaries shifts I32.emit_native_instr I32.op I32.op_arm I32.op_32 I32.op_32_arm I32.op_imm I32.op_imm_arm I32.op_imm_32 I32.op_imm_32_arm store_rd
rust_refuses pc w hw h =
    each_row w hw ((I32.emit_native_instr pc w (decode32 w)).flow ≡ None)
    ((λ a b c. rw (a, b, c)), ((λ a b c. rw (a, b, c)), ((λ a b c. rw (a, b, c)), ((λ a b c. rw (a, b, c)), ((λ a b c. rw (a, b, c)), ((λ a b c. rw (a, b, c)), ((λ a b c. rw (a, b, c)), ((λ a b c. rw (a, b, c)), ((λ a b c. rw (a, b, c)), ((λ a b c. rw (a, b, c)), ((λ a b c. rw (a, b, c)), tt)))))))))))
    ((λ a b c. rw (a, b, c)), tt)
    ((λ a b c d. rw (hi w, a, b, c)), ((λ a b c d. rw (hi w, a, b, c)), ((λ a b c d. rw (hi w, a, b, c)), ((λ a b c d. rw (a, b, d)), ((λ a b c d. rw (a, b, d)), ((λ a b c d. rw (a, b, d)), ((λ a b c d. rw (hi w, a, b, c)), ((λ a b c d. rw (hi w, a, b, c)), ((λ a b c d. rw (a, b, d)), ((λ a b c d. rw (hi w, a, b, c)), ((λ a b c d. rw (hi w, a, b, c)), tt)))))))))))
    ((λ a b c. rw (hi w, a, b, c)), tt)
    h

-- the helper's, with none
pub rust_helps_none : (h : Host) (pc w k : ℕ) → (find w ≡ None → ⊥) → emit_native_term_helper32 h pc w (decode32 w) k ≡ none []
unfolding emit_native_term_helper32 opcode_helper
rust_helps_none h pc w k = opcode_of w _ (λ e. rw e) (λ e. rw e) (λ e. rw e) (λ e. rw e)
