-- Emitters that call one another. Assumes nothing.
use Prim.Native.Nat.{ℕ}
use mathlib.Core.Path.{◌≡◌, refl}
use mathlib.Core.Bool.{Bool, true, false}
use mathlib.Core.List.{List, [], ◌∷◌, ◌++◌}
use lib.Dec.{eqb}
use Rattle.std.specs.Prelude.{Option, Some, None}
use Rattle.rules.specs.Limits.{instr_words}
use Rattle.a64_emitter.specs.Writers.{str_x}
use Rattle.a64_emitter.specs.Parts.{emitted_in, emitted_if, in_turn}
use Rattle.a64_emitter.proofs.Emission.{emitted-none}
use Rattle.emit_native.specs.declared.EmitFlow.TheVariants.{Continue, Terminate}
use Rattle.emit_native.specs.Calls.{Call, Flow, groups, reg_off, store_rd, Emission, calls_first, then_store_rd}
use Rattle.emit_native.specs.Parts.{Held, after, emit_if, emitted, stores, stored}
use Rattle.emit_native.proofs.Size.{by}

-- calls after calls
pub after_append : (h : Held) (cs ds : List Call) → after h (cs ++ ds) ≡ after (after h cs) ds
after_append h [] ds = refl
after_append h (c ∷ cs) ds = after_append (after h (c ∷ [])) cs ds

-- calls, and then what a match answers
pub first : (h : Held) (cs : List Call) (e : Emission) → emitted (after h cs) e ≡ emitted h (calls_first cs e)
first h cs e = rw (after_append h cs e.calls) refl

-- and `store_rd` after the match
pub then : (h : Held) (cs : List Call) (e : Emission) (rd : ℕ) → stored (emitted (after h cs) e) rd ≡ emitted h (calls_first cs (then_store_rd rd e))
then h cs e rd = rw (after_append h cs (e.calls ++ store_rd e.flow rd), after_append (after h cs) e.calls (store_rd e.flow rd)) refl

-- a call that a test asks for
pub asked : (h : Held) (test : Bool) (w : ℕ) → record { words = emitted_in instr_words h.words (emitted_if test w); slot_offset = h.slot_offset; lent = h.lent } ≡ after h (emit_if test w)
unfolding emitted_if
asked h true w = refl
asked h false w = rw (emitted-none instr_words h.words) refl

-- what is then held, by groups
pub after_is : (h : Held) (cs : List Call) → after h cs ≡ record { words = in_turn instr_words h.words (groups h.slot_offset cs); slot_offset = h.slot_offset; lent = h.lent }
after_is h [] = refl
after_is h (c ∷ cs) = after_is (after h (c ∷ [])) cs

-- the store after a match, by its test
pub asked_store : (h : Held) (f : Flow) (rd : ℕ)
    → after h (emit_if (stores f rd) (str_x 11 0 (reg_off h.slot_offset rd))) ≡ after h (store_rd f rd)
unfolding stores store_rd
asked_store h (Some Continue) rd = by (eqb rd 0) (λ t. rw t refl) (λ t. rw t refl)
asked_store h (Some Terminate) rd = refl
asked_store h None rd = refl
