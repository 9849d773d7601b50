-- What the functions of this crate promise one another; no operation's contract reaches it.
use Rattle.std.specs.Prelude.{ℕ, ◌<◌, Bool, false, cond, not, List, [], ◌∷◌, take, eqb, Some, None}
use Rattle.rules.specs.Limits.{instr_words}
use Rattle.isa.specs.declared.decode.Decoded32.{Decoded32}
use Rattle.a64_emitter.specs.Parts.{emitted_in}
use Rattle.emit_native.specs.declared.InstrEmitter.{InstrEmitter}
use Rattle.emit_native.specs.declared.EmitFlow.TheVariants.{Continue, Terminate}
use Rattle.emit_native.specs.declared.Emitted.{Emitted}
use Rattle.emit_native.specs.Calls.{Call, Flow, emit, call_words, product, Emission, store_rd}

-- the registers of an instruction
abbrev pub InRange : Decoded32 → Type 0
InRange d = (d.rd < 32) × (d.rs1 < 32) × (d.rs2 < 32)

-- ---- an instruction's emitter: the words that it holds, its slot offset, and which array was lent to it

pub record Held : Type 0 where
  pub words : List ℕ
  pub slot_offset : ℕ
  pub lent : ℕ

unfoldable pub held : InstrEmitter → Held
held e = record { words = take e.len e.words.now; slot_offset = e.slot_offset; lent = e.words.ghost_name }

-- of a new one
abbrev pub nothing : ℕ → ℕ → Held
nothing lent slot_offset = record { words = []; slot_offset = slot_offset; lent = lent }

-- with the slots at an offset
abbrev pub at_slots : ℕ → Held → Held
at_slots slot_offset h = record { words = h.words; slot_offset = slot_offset; lent = h.lent }

-- after calls, each of which adds its words, or none where they do not fit
abbrev pub after : Held → List Call → Held
after h [] = h
after h (c ∷ cs) =
    after (record { words = emitted_in instr_words h.words (call_words product h.slot_offset c); slot_offset = h.slot_offset; lent = h.lent }) cs

-- the call that a test asks for
abbrev pub emit_if : Bool → ℕ → List Call
emit_if test w = cond test (emit w ∷ []) []

-- ---- what an emitter answers: what its emitter then holds, and the flow

pub record Answer : Type 0 where
  pub held : Held
  pub flow : Flow

unfoldable pub answer : Emitted → Answer
answer r = record { held = held r.em; flow = r.flow }

-- an emission, from h on
abbrev pub emitted : Held → Emission → Answer
emitted h e = record { held = after h e.calls; flow = e.flow }

-- whether `store_rd` writes a word: a `return None` passes it by, and register 0 has none
unfoldable pub stores : Flow → ℕ → Bool
stores (Some Continue) rd = not (eqb rd 0)
stores (Some Terminate) rd = false
stores None rd = false

-- an answer, with `store_rd` after it
abbrev pub stored : Answer → ℕ → Answer
stored a rd = record { held = after a.held (store_rd a.flow rd); flow = a.flow }
