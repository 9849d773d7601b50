-- What the functions of this crate promise one another; no operation's contract reaches it.
use Rattle.std.specs.Prelude.{ℕ, ◌≤◌, ◌≡◌, true, false, cond, [], ltb}
use Rattle.std.proofs.Math.Option.{Option}
use Rattle.rules.specs.Refusals as Refusals
use Rattle.jit_arm64.specs.declared.block.Walked.{Walked}
use Rattle.translator.specs.Translate.{Answer, refused, end_kind, end_number}

-- the answer for a block of so many bytes, which FENCE.I f ended, with so much room
abbrev pub answer_of : Option ℕ → Walked → ℕ → ℕ → Answer
answer_of f r length room =
    cond (ltb room length) (refused Refusals.output_short []).answer
    (record { refusal = Refusals.accepted; length = length; count = r.n; end = end_number (end_kind f r.stop) })

-- how much of the room the short emitter's words may take: all, or nothing where they are no block
pub record RoomOf (r : Walked) (room k : ℕ) : Type 0 where
  pub within : k ≤ room
  pub full : (r.full ≡ true → k ≡ 0)
  pub none : (r.n ≡ 0 → k ≡ 0)
  pub all : (r.full ≡ false → (r.n ≡ 0 → ⊥) → k ≡ room)
