-- What the functions of this crate promise one another; no operation's contract reaches it.
use Rattle.std.specs.Prelude.{◌≡◌, ℕ, ◌+◌, ◌*◌, ◌%◌, ◌^◌, ◌<◌, ◌≤◌, Bool, true, false, not, List, length, take, ◌==◌, ◌≢◌, Some, None, IfSome}
use Rattle.std.proofs.Math.Option.{Option, none, some}
use Rattle.word.specs.Word.{add}
use Rattle.rules.specs.Limits.{inline_words, end_words, max_words, max_instrs}
use Rattle.a64_emitter.specs.Parts.{block_words}
use Rattle.jit_arm64.specs.Fetched.{Read}
use Rattle.emit_native.specs.declared.Host.{Host}
use Rattle.emit_native.specs.declared.EmitFlow.TheVariants.{Continue, Terminate}
use Rattle.emit_native.specs.declared.Emitted.{Emitted}
use Rattle.emit_native.specs.Parts.{Held, Answer, held}
use Rattle.emit_native.specs.Calls.{Call, Flow, Dialect, product, words}
use Rattle.jit_arm64.specs.declared.block.Stop.{Stop}
use Rattle.jit_arm64.specs.declared.block.Stop.TheVariants.{Limit, Ended, Helper, Uncovered, NotFetched}
use Rattle.jit_arm64.specs.declared.block.Walked.{Walked}
use Rattle.jit_arm64.specs.declared.block.NativeBlock.{NativeBlock}
use Rattle.jit_arm64.specs.Block.{size_of, emit_inline, emit_term_helper, Walk, in_front, walk, whole_walk, block_calls}
use Rattle.jit_arm64.specs.Fence.{to_fence, fence, limit_at}

-- what was fetched, with its length in bytes, as the code has it
unfoldable pub fetched : Option ℕ → Read
fetched none = None
fetched (some instr) = Some (record { size = size_of instr; instr = instr })

-- where the low two bits are not 11, the number has 16 bits
abbrev pub Narrow : ℕ → Type 0
Narrow instr = (instr % 4 ≢ 3) → instr < 2 ^ 16

pub record FetchedOf (f : Option ℕ) (r : Read) : Type 0 where
  pub found : r ≡ fetched f
  pub narrow : IfSome r (λ x. Narrow x.instr)

-- the words of calls alone in the emitter of an array that is lent, and with the flow
abbrev pub alone : ℕ → ℕ → List Call → Held
alone lent slot_offset cs = record { words = words slot_offset cs; slot_offset = slot_offset; lent = lent }

pub record Compiled (lent slot_offset : ℕ) (cs : List Call) (f : Flow) (r : Emitted) : Type 0 where
  pub holds : held r.em ≡ alone lent slot_offset cs
  pub flow : r.flow ≡ f

-- the answer where an instruction is not inline, of an emitter that holds h
abbrev pub unfit : Held → Answer
unfit h = record { held = h; flow = None }

-- ---- the walk and the block

-- a walk with the limit that FENCE.I leaves
abbrev pub fence_walk : Dialect → ℕ → Host → List ℕ → ℕ → ℕ → Walk
fence_walk d most h guest pc limit = whole_walk d most h guest pc (limit_at (fence d most h guest pc limit) limit)

unfoldable pub is_fenced : Option ℕ → Bool
is_fenced none = false
is_fenced (some n) = true

-- the words that the end of a block may take
unfoldable pub end_room : Stop → ℕ
end_room Helper = 0
end_room Ended = 2
end_room Limit = end_words
end_room Uncovered = end_words
end_room NotFetched = end_words

-- whether the end sets the next PC, and whether there is one
unfoldable pub sets_next : Stop → Bool
sets_next Helper = false
sets_next Ended = false
sets_next Limit = true
sets_next Uncovered = true
sets_next NotFetched = true

unfoldable pub has_return : Stop → Bool
has_return Helper = false
has_return Ended = true
has_return Limit = true
has_return Uncovered = true
has_return NotFetched = true

-- by the flow of a helper's emitter: how many instructions it counts, and why the walk stops there
unfoldable pub helped_count : Flow → ℕ
helped_count (Some Terminate) = 1
helped_count (Some Continue) = 0
helped_count None = 0

unfoldable pub helped_stop : Flow → Stop
helped_stop (Some Terminate) = Helper
helped_stop (Some Continue) = Uncovered
helped_stop None = Uncovered

-- whether a walk stopped for want of room: neither an instruction nor the limit did that
unfoldable pub is_full : Stop → Bool → ℕ → ℕ → Bool
is_full Limit false n most = not (n == most)
is_full Limit true n most = false
is_full Ended f n most = false
is_full Helper f n most = false
is_full Uncovered f n most = false
is_full NotFetched f n most = false

-- len words of l are those of n instructions, and the next is at index i; there is room for the block's end
pub record Walking (h : Host) (guest : List ℕ) (start limit : ℕ) (l : List ℕ) (len i n : ℕ) : Type 0 where
  pub calls : List Call
  pub holds : take len l ≡ words h.slot_offset calls
  pub fits : start < 2 ^ 64
  pub upto : n ≤ limit
  pub near : i ≤ 4 * n
  pub few : len ≤ inline_words * n
  pub room : len + end_words ≤ length l
  -- at every limit: the walk from here on, and the search for FENCE.I
  pub same : (k : ℕ) → in_front calls (walk product h guest start k n i) ≡ walk product h guest start (n + k) 0 0
  pub clear : (k : ℕ) → to_fence guest start k n i ≡ to_fence guest start (n + k) 0 0

-- the walk stopped with so many words of l because there was no room for one more instruction and the end
pub record Partly (h : Host) (guest : List ℕ) (start limit : ℕ) (l : List ℕ) (r : Walked) : Type 0 where
  pub here : Walking h guest start limit l r.len r.i r.n
  pub some : 0 < r.n

-- l holds the words of the walk w, which FENCE.I f ended, and has room for the block's end
pub record Walks (slot_offset start : ℕ) (w : Walk) (f : Option ℕ) (l : List ℕ) (r : Walked) : Type 0 where
  pub holds : take r.len l ≡ words slot_offset w.calls
  pub count : r.n ≡ w.count
  pub stop : r.stop ≡ w.stop
  pub pc : add start r.i ≡ w.pc
  pub fence : r.fence ≡ is_fenced f
  pub few : r.n ≤ max_instrs
  pub room : r.len + end_room r.stop ≤ length l

-- the walk from instruction k on, in an array that is then l: to its end, or as far as there is room
pub record Onward (h : Host) (guest : List ℕ) (start limit k : ℕ) (l : List ℕ) (r : Walked) : Type 0 where
  pub more : k ≤ r.n
  pub whole : r.full ≡ false → Walks h.slot_offset start (fence_walk product max_instrs h guest start limit) (fence product max_instrs h guest start limit) l r
  pub part : r.full ≡ true → Partly h guest start limit l r
  pub never : max_words ≤ length l → r.full ≡ false

-- the block's words ws
pub record BlockOf (h : Host) (guest : List ℕ) (start limit : ℕ) (ws : List ℕ) (r : Walked) : Type 0 where
  pub holds : ws ≡ words h.slot_offset (block_calls (fence_walk product max_instrs h guest start limit))
  pub count : r.n ≡ (fence_walk product max_instrs h guest start limit).count
  pub stop : r.stop ≡ (fence_walk product max_instrs h guest start limit).stop
  pub fence : r.fence ≡ is_fenced (fence product max_instrs h guest start limit)

-- in the short emitter, or as far as there is room in it
pub record ShortOf {n : ℕ} (h : Host) (guest : List ℕ) (start limit : ℕ) (r : NativeBlock n) : Type 0 where
  pub whole : r.done.full ≡ false → BlockOf h guest start limit (block_words r.em) r.done
  pub part : r.done.full ≡ true → Partly h guest start limit r.em.words r.done

-- in the long one
pub record LongOf {n : ℕ} (h : Host) (guest : List ℕ) (start limit : ℕ) (r : NativeBlock n) : Type 0 where
  pub whole : BlockOf h guest start limit (block_words r.em) r.done
  pub some : 0 < r.done.n

-- ---- the first instruction

-- neither inline nor a helper's, by the flows of the two emitters
unfoldable pub neither : Flow → Flow → Bool
neither (Some Continue) f = false
neither (Some Terminate) f = false
neither None (Some Terminate) = false
neither None (Some Continue) = true
neither None None = true

unfoldable pub is_uncovered : Dialect → Host → ℕ → Option ℕ → Bool
is_uncovered d h pc none = false
is_uncovered d h pc (some instr) = neither (emit_inline d h pc instr).flow (emit_term_helper h pc instr 0).flow

-- a walk that counted nothing stopped because the first instruction lacks a halfword
unfoldable pub missed : Stop → Bool
missed NotFetched = true
missed Limit = false
missed Ended = false
missed Helper = false
missed Uncovered = false
