-- What holds of the loop after n instructions: what is left of the walk ends as the whole does. Assumes nothing.
use Rattle.std.proofs.Common.{◌≡◌, ℕ, suc, ◌+◌, ◌-◌, ◌^◌, ◌<◌, ◌≤◌, min, Bool, true, false, cond, List, [], ◌++◌, length, take, sym, refl, ap, ◌∙◌, true≢false, append_assoc, append-nil, arith}
use mathlib.Core.Option.{none, some}
use mathlib.Core.List.{flatten}
use Rattle.rules.specs.Limits.{inline_words, instr_words, end_words, max_instrs}
use Rattle.word.specs.Word.{add}
use Rattle.a64_emitter.specs.Parts.{Added}
use Rattle.emit_native.specs.declared.EmitFlow.TheVariants.{Continue, Terminate}
use Rattle.std.specs.Prelude.{Some, None}
use Rattle.emit_native.specs.declared.Emitted.{Emitted}
use Rattle.emit_native.specs.Parts.{held}
use Rattle.emit_native.specs.declared.Host.{Host}
use Rattle.emit_native.specs.Calls.{Call, Flow, product, words_in, words, Emission}
use Rattle.emit_native.proofs.Size.{by}
use Rattle.fetch_window.specs.Parts.{index}
use Rattle.fetch_window.proofs.Reading.{index-add}
use Rattle.jit_arm64.specs.declared.block.Stop.{Stop}
use Rattle.jit_arm64.specs.declared.block.Stop.TheVariants.{Limit, Ended, Helper, Uncovered, NotFetched}
use Rattle.jit_arm64.specs.declared.block.Walked.{Walked}
use Rattle.jit_arm64.specs.Block.{is_32, size_of, emit_inline, emit_term_helper, fetch, walked, in_front, helped, step, instr_walk, walk, whole_walk}
use Rattle.jit_arm64.specs.Fence.{is_fence_i, fence_or, to_fence, fence}
use Rattle.jit_arm64.specs.Parts.{Compiled, fence_walk, is_fenced, end_room, helped_count, helped_stop, Walking, Walks, Onward}
use Rattle.jit_arm64.proofs.Emitting.{Appended, put, words_are, words_append, words_size, Apart, inline-size, inline-apart, helped-size, uncovered_size}
use Rattle.jit_arm64.proofs.Refusals.{walk-count}
use Rattle.jit_arm64.proofs.Fences.{fence-goes-on, unfenced, fenced}

pub begin : (h : Host) (guest : List ℕ) (start limit : ℕ) (l : List ℕ) → end_words ≤ length l → start < 2 ^ 64 → {len i n : ℕ} → len ≡ 0 → i ≡ 0 → n ≡ 0
    → Walking h guest start limit l len i n
unfolding words_in flatten
begin h guest start limit l room fits a b c =
    rw (a, b, c)
    (record { calls = []; holds = refl; fits = fits; upto = omega arith; near = omega arith; few = omega arith; room = omega arith; same = λ k. let z : 0 + k ≡ k = omega arith in rw z; clear = λ k. let z : 0 + k ≡ k = omega arith in rw z })

-- the same words in front of another array
pub moved : {h : Host} {guest : List ℕ} {start limit : ℕ} {l : List ℕ} {len i n : ℕ} → Walking h guest start limit l len i n → (l' : List ℕ) → take len l' ≡ take len l
    → len + end_words ≤ length l' → Walking h guest start limit l' len i n
moved v l' e room =
    record { calls = v.calls; holds = e ∙ v.holds; fits = v.fits; upto = v.upto; near = v.near; few = v.few; room = room; same = v.same; clear = v.clear }

-- a helper's emitter that did not take the instruction
not-helped : (f : Flow) (cs : List Call) (n pc : ℕ) → (f ≡ Some Terminate → ⊥) → helped f cs n pc ≡ walked cs n Uncovered pc
unfolding helped
not-helped (Some Continue) cs n pc other = refl
not-helped None cs n pc other = refl
not-helped (Some Terminate) cs n pc other = absurd (other refl)

-- a walk that ended, and one for which there was no room
done : {h : Host} {guest : List ℕ} {start limit k : ℕ} {l : List ℕ} {r : Walked} → k ≤ r.n → r.full ≡ false
    → Walks h.slot_offset start (fence_walk product max_instrs h guest start limit) (fence product max_instrs h guest start limit) l r → Onward h guest start limit k l r
done more e w = record { more = more; whole = λ _. w; part = λ f. absurd (true≢false (sym f ∙ e)); never = λ _. e }

module _ {h : Host} {guest : List ℕ} {start limit k₀ : ℕ} {l : List ℕ} {len i n : ℕ} (small : limit ≤ max_instrs)
    (v : Walking h guest start limit l len i n) (more : k₀ ≤ n) where
  abbrev Done : List ℕ → ℕ → ℕ → ℕ → Stop → Bool → Type 0
  Done l' len' i' n' why b = Onward h guest start limit k₀ l' (record { len = len'; i = i'; n = n'; stop = why; fence = b; full = false })

  -- k instructions are left
  whole : (k : ℕ) → limit ≡ n + k → walk product h guest start (n + k) 0 0 ≡ whole_walk product max_instrs h guest start limit
  unfolding whole_walk
  whole k e =
      let m : min limit max_instrs ≡ n + k = omega arith in
      rw m refl

  -- the walk ends with the calls cs; no FENCE.I is among its instructions
  ended : (cs : List Call) {l' : List ℕ} {len' : ℕ} (i' n' : ℕ) (why : Stop)
      → in_front v.calls (walked cs n' why (add start i')) ≡ whole_walk product max_instrs h guest start limit → to_fence guest start n' 0 0 ≡ none
      → take len' l' ≡ words h.slot_offset (v.calls ++ cs) → n ≤ n' → n' ≤ max_instrs → length l' ≡ length l → len' + end_room why ≤ length l → Done l' len' i' n' why false
  unfolding is_fenced
  ended cs {l'} i' n' why e clear holds up few same room =
      let u = unfenced product h guest start limit (sym e) clear in
      done (omega arith) refl
      (rw (u.0, u.1) (record { holds = holds; count = refl; stop = refl; pc = refl; fence = refl; few = few; room = rw same room }))

  bare : take len l ≡ words h.slot_offset (v.calls ++ [])
  bare = v.holds ∙ ap (words h.slot_offset) (sym (append-nil v.calls))

  -- none so far
  none_yet : to_fence guest start n 0 0 ≡ none
  unfolding to_fence
  none_yet = let z : n + 0 ≡ n = omega arith in rw z at (sym (v.clear 0))

  pub at_limit : n ≡ limit → Done l len i n Limit false
  unfolding walk end_room
  at_limit q =
      let u = v.room in
      ended [] i n Limit (v.same 0 ∙ whole 0 (omega arith)) none_yet bare (omega arith) (omega arith) refl (omega arith)

  -- no room for one more instruction and the end: never in the long emitter
  pub filled : inline_words + end_words ≤ length l → (n ≡ limit → ⊥) → length l < len + (inline_words + end_words) → (why : Stop) (b : Bool)
      → Onward h guest start limit k₀ l (record { len = len; i = i; n = n; stop = why; fence = b; full = true })
  filled z q f why b =
      let u = v.upto in
      let w = v.few in
      record {
        more = more;
        whole = λ e. absurd (true≢false e);
        part = λ _. record { here = v; some = omega arith };
        never = λ g. absurd (omega arith);
      }

  -- what was fetched at the PC, with room for an instruction
  module _ (q : n ≡ limit → ⊥) (wide : len + (inline_words + end_words) ≤ length l) {pc : ℕ} (at : pc ≡ add start i) where
    here : index start pc ≡ i
    here =
        let u = v.upto in
        let near = v.near in
        rw at (index-add start i v.fits (omega arith))

    left : limit ≡ n + suc (limit - suc n)
    left = let u = v.upto in omega arith

    one : (k : ℕ) → in_front v.calls (instr_walk product h (fetch pc guest (index start pc)) start n i (walk product h guest start k)) ≡ walk product h guest start (n + suc k) 0 0
    unfolding walk
    one k = rw (here, at) (v.same (suc k))

    pub not_fetched : fetch pc guest (index start pc) ≡ none → Done l len i n NotFetched false
    unfolding instr_walk end_room
    not_fetched z =
        let u = v.upto in
        ended [] i n NotFetched (rw z at (one (limit - suc n) ∙ whole _ left)) none_yet bare (omega arith) (omega arith) refl (omega arith)

    -- an instruction
    module _ {instr size : ℕ} (found : fetch pc guest (index start pc) ≡ some instr) (size_is : size ≡ size_of instr) where
      abbrev e : Emission
      e = emit_inline product h pc instr

      abbrev helper : Emission
      helper = emit_term_helper h pc instr n

      pub size_4 : size ≤ 4
      size_4 = by (is_32 instr) (λ t. rw (size_is, t) (omega arith)) (λ t. rw (size_is, t) (omega arith))

      stepped : (f : Flow) → e.flow ≡ f → (k : ℕ)
          → in_front v.calls (step f e helper size start n i (walk product h guest start k)) ≡ walk product h guest start (n + suc k) 0 0
      unfolding instr_walk
      stepped f t k = rw (← t, size_is, at) (rw found at (one k))

      -- the same at the limit
      ends : (f : Flow) → e.flow ≡ f
          → in_front v.calls (step f e helper size start n i (walk product h guest start (limit - suc n))) ≡ whole_walk product max_instrs h guest start limit
      ends f t = stepped f t (limit - suc n) ∙ whole _ left

      -- the search for FENCE.I at this instruction
      searched : (k : ℕ) → cond (is_fence_i instr) (some (suc n)) (to_fence guest start k (suc n) (i + size)) ≡ to_fence guest start (n + suc k) 0 0
      unfolding to_fence fence_or
      searched k =
          let f : fence_or (fetch pc guest (index start pc)) n (λ (j : ℕ). to_fence guest start k (suc n) (i + j)) ≡ to_fence guest start (n + suc k) 0 0 = rw (here, at) (v.clear (suc k)) in
          rw size_is (rw found at f)

      next : n + 1 ≡ suc n
      next = omega arith

      -- FENCE.I is the Rust's instruction of that number
      found_at : e.flow ≡ Some Continue → is_fence_i instr ≡ true → fence product max_instrs h guest start limit ≡ some (suc n)
      unfolding fence step
      found_at f q' =
          let w = walk product h guest start (limit - suc n) (suc n) (i + size) in
          let c : w.count ≡ n + suc (w.count - suc n) = omega (arith, walk-count product h guest start (limit - suc n) (suc n) (i + size)) in
          rw (← ends (Some Continue) f) (ap (λ (m : ℕ). to_fence guest start m 0 0) c ∙ sym (searched (w.count - suc n)) ∙ rw q' refl)

      -- an instruction after which the Rust does not go on is no FENCE.I
      none_here : (e.flow ≡ Some Continue → ⊥) → to_fence guest start (n + 1) 0 0 ≡ none
      unfolding to_fence
      none_here other =
          by (is_fence_i instr)
          (λ y. absurd (other (ap (λ (x : Emission). x.flow) (fence-goes-on product h pc instr y))))
          (λ y. rw y at (sym (searched 0)))

      -- its words cs, appended
      module _ (cs : List Call) {l' : List ℕ} {len' : ℕ} {ws : List ℕ} (alone : ws ≡ words h.slot_offset cs) (same : length l' ≡ length l) (added : Added l len l' len' ws) where
        appended : length (words h.slot_offset cs) ≤ instr_words → Appended l len l' len' (words h.slot_offset cs)
        appended few = put (omega arith) same (rw alone at added)

        with : length (words h.slot_offset cs) ≤ instr_words → take len' l' ≡ words h.slot_offset (v.calls ++ cs)
        with few = (appended few).holds ∙ ap (λ (us : List ℕ). us ++ words h.slot_offset cs) v.holds ∙ sym (words_append h.slot_offset v.calls cs)

      -- inline words
      module _ {lent : ℕ} {out : Emitted} (c : Compiled lent h.slot_offset e.calls e.flow out) {l' : List ℕ} {len' : ℕ} (same : length l' ≡ length l) (added : Added l len l' len' (held out.em).words) where
        few : length (words h.slot_offset e.calls) ≤ inline_words
        few = omega (arith, words_size h.slot_offset e.calls, inline-size h.slot_offset h pc instr)

        pub on : out.flow ≡ Some Continue → is_fence_i instr ≡ false → Walking h guest start limit l' len' (i + size) (n + 1)
        unfolding step
        on t q' =
            let u = v.upto in
            let f = v.near in
            let m = v.few in
            let k = size_4 in
            let w = few in
            let a = appended e.calls (words_are c) same added (omega arith) in
            let p = a.len in
            let s : (j : ℕ) → suc n + j ≡ n + suc j = λ j. omega arith in
            record {
              calls = v.calls ++ e.calls;
              holds = with e.calls (words_are c) same added (omega arith);
              fits = v.fits;
              upto = omega arith;
              near = omega arith;
              few = omega arith;
              room = let g = same in omega arith;
              same = λ j. rw (append_assoc, next, s j) (stepped (Some Continue) (sym c.flow ∙ t) j);
              clear = λ j. rw (next, s j) (rw q' at (searched j));
            }

        pub by_end : out.flow ≡ Some Terminate → Done l' len' (i + size) (n + 1) Ended false
        unfolding step end_room
        by_end t =
            let u = v.upto in
            let m = v.room in
            let w = few in
            let a = appended e.calls (words_are c) same added (omega arith) in
            let p = a.len in
            let f : e.flow ≡ Some Terminate = sym c.flow ∙ t in
            ended e.calls (i + size) (n + 1) Ended (rw next (ends (Some Terminate) f)) (none_here (λ z. let y : ◌≡◌ {A = ℕ} 0 1 = cc in omega arith)) (with e.calls (words_are c) same added (omega arith))
            (omega arith) (omega arith) same (omega arith)

        -- FENCE.I: the walk at its own count as the limit
        pub by_fence : out.flow ≡ Some Continue → is_fence_i instr ≡ true → Done l' len' (i + size) (n + 1) Limit true
        unfolding step walk end_room is_fenced
        by_fence t q' =
            let u = v.upto in
            let m = v.room in
            let w = few in
            let a = appended e.calls (words_are c) same added (omega arith) in
            let p = a.len in
            let f : e.flow ≡ Some Continue = sym c.flow ∙ t in
            let g = found_at f q' in
            let one_more : suc n ≡ n + suc 0 = omega arith in
            let x = fenced product h guest start limit (omega arith) g (ap (λ (j : ℕ). walk product h guest start j 0 0) one_more ∙ sym (stepped (Some Continue) f 0)) in
            done (omega arith) refl
            (rw (x, g)
            (record { holds = with e.calls (words_are c) same added (omega arith) ∙ rw (append-nil e.calls) refl; count = next; stop = refl; pc = refl; fence = refl; few = omega arith; room = let z = same in omega arith }))

      -- what the inline emitter left, and the helper's words
      module _ {lent first : ℕ} {out left : Emitted} (i₀ : Compiled first h.slot_offset e.calls e.flow left) (none : left.flow ≡ None)
          (c : Compiled lent h.slot_offset (e.calls ++ helper.calls) helper.flow out) {l' : List ℕ} {len' : ℕ} (same : length l' ≡ length l) (added : Added l len l' len' (held out.em).words) where
        abbrev both : List Call
        both = e.calls ++ helper.calls

        not-inline : e.flow ≡ None
        not-inline = sym i₀.flow ∙ none

        apart : Apart h.slot_offset e helper
        apart = let u = v.upto in inline-apart h.slot_offset h pc instr n (omega arith)

        by_helper : out.flow ≡ Some Terminate → Done l' len' i (n + 1) Helper false
        unfolding step helped end_room
        by_helper t =
            let k = v.upto in
            let m = v.room in
            let w : length (words h.slot_offset both) ≤ instr_words =
            omega (arith, words_size h.slot_offset both, helped-size h.slot_offset e helper (inline-size h.slot_offset h pc instr) apart) in
            let a = appended both (words_are c) same added w in
            let p = a.len in
            ended both i (n + 1) Helper (rw next (rw (sym c.flow ∙ t) at (ends None not-inline))) (none_here (λ z. let q : e.flow ≡ None = not-inline in let y : ◌≡◌ {A = ℕ} 0 1 = cc in omega arith)) (with both (words_are c) same added w) (omega arith) (omega arith) same (omega arith)

        uncovered : (out.flow ≡ Some Terminate → ⊥) → Done l' len' i n Uncovered false
        unfolding step end_room
        uncovered t =
            let k = v.upto in
            let m = v.room in
            let other : helper.flow ≡ Some Terminate → ⊥ = λ u. t (c.flow ∙ u) in
            let w : length (words h.slot_offset both) ≤ inline_words =
            omega (arith, words_size h.slot_offset both, uncovered_size h.slot_offset e helper (inline-size h.slot_offset h pc instr) apart other) in
            let a = appended both (words_are c) same added (omega arith) in
            let p = a.len in
            ended both i n Uncovered (rw (not-helped helper.flow both n (add start i) other) at (ends None not-inline)) none_yet (with both (words_are c) same added (omega arith))
            (omega arith) (omega arith) same (omega arith)

        -- by the flow that the helper's emitter answers
        pub helped-on : (f : Flow) → out.flow ≡ f → Done l' len' i (n + helped_count f) (helped_stop f) false
        unfolding helped_count helped_stop
        helped-on (Some Terminate) t = by_helper t
        helped-on (Some Continue) t = let z : n + 0 ≡ n = omega arith in rw z (uncovered (λ u. let y : ◌≡◌ {A = ℕ} 0 1 = cc in omega arith))
        helped-on None t = let z : n + 0 ≡ n = omega arith in rw z (uncovered (λ u. let y : ◌≡◌ {A = ℕ} 0 1 = cc in omega arith))
