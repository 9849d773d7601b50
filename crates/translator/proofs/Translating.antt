-- Translate by its parts: which refusal, and the answer. Assumes nothing.
use Prim.Native.Nat.{ℕ, ◌-◌, ◌*◌, ◌%◌, ◌^◌, ◌≤◌, ◌<◌, min}
use native.Mathlib.Omega.{arith}
use mathlib.Core.Path.{◌≡◌, refl, sym, ap, ◌∙◌}
use mathlib.Core.Bool.{Bool, true, false, true≢false}
use mathlib.Core.List.{List, [], ◌∷◌, ◌++◌, append-nil}
use mathlib.Core.Option.{Option, none, some}
use lib.Dec.{eqb, ltb}
use lib.ListN.{length, take, drop, length-take}
use lib.Seq.{take-length, drop-length}
use borrow.Author.Tests.{le-ltb, lt-ltb, le-leb, lt-leb, eq-eqb, ne_eqb, ltb-true, ltb-false}
use Rattle.rules.specs.Limits.{max_instrs, max_slot_offset}
use Rattle.rules.specs.Refusals as Refusals
use Rattle.a64_emitter.specs.Emitter.{bytes}
use Rattle.a64_emitter.specs.Parts.{written, Written}
use Rattle.a64_emitter.proofs.Emission.{length-bytes}
use Rattle.emit_native.specs.declared.Host.{Host}
use Rattle.emit_native.specs.Calls.{product}
use Rattle.emit_native.proofs.Size.{by}
use Rattle.jit_arm64.specs.declared.block.Walked.{Walked}
use Rattle.jit_arm64.specs.declared.block.Stop.{Stop}
use Rattle.jit_arm64.specs.Block.{fetch, is_missing, block_of, compile_native_block}
use Rattle.jit_arm64.specs.Fence.{fence, limit_at}
use Rattle.jit_arm64.specs.Parts.{BlockOf, fence_walk, is_fenced, missed}
use Rattle.translator.specs.declared.EndKind.{EndKind}
use Rattle.translator.specs.Parts.{answer_of}
use Rattle.translator.specs.Translate.{Answer, result, refused, end_kind, end_number, bad_slot_offset, no_block, of_block, translate}
use Rattle.jit_arm64.proofs.Refusals.{refuses}
use Rattle.jit_arm64.proofs.Fences.{no_block_with_fence, none_why, clamped-walk, clamped-fence}

module _ (h : Host) (guest : List ℕ) (pc limit : ℕ) where
  abbrev pub Refused : ℕ → List ℕ → Type 0
  Refused n out = refused n out ≡ translate h guest pc limit out

  pub no_slots : (out : List ℕ) → bad_slot_offset h.slot_offset ≡ true → Refused Refusals.slot_offset out
  unfolding translate
  no_slots out e = rw e refl

  module _ (hp : pc < 2 ^ 64) (good : bad_slot_offset h.slot_offset ≡ false) where
    -- no block
    stopped : (n : ℕ) (out : List ℕ) → refuses product h guest pc limit ≡ true → no_block guest pc limit ≡ n → Refused n out
    unfolding translate of_block
    stopped n out t e = rw (good, no_block_with_fence product (max_instrs - 1) h guest pc limit hp, t, e) refl

    pub no_limit : (out : List ℕ) → limit ≡ 0 → Refused Refusals.limit_zero out
    unfolding no_block
    no_limit out e = stopped Refusals.limit_zero out (rw (eq-eqb limit 0 e) refl) (rw (eq-eqb limit 0 e) refl)

    module _ (a : limit ≡ 0 → ⊥) where
      pub odd : (out : List ℕ) → pc % 2 ≡ 1 → Refused Refusals.odd_pc out
      unfolding no_block
      odd out e =
          stopped Refusals.odd_pc out (rw (ne_eqb limit 0 a, eq-eqb (pc % 2) 1 e) refl) (rw (ne_eqb limit 0 a, eq-eqb (pc % 2) 1 e) refl)

      -- the walk counted nothing: its stop says why there is no block
      module _ (b : pc % 2 ≡ 1 → ⊥) {ws : List ℕ} {r : Walked} (v : BlockOf h guest pc limit ws r) (none_counted : r.n ≡ 0) where
        why : missed r.stop ≡ is_missing (fetch pc guest 0)
        why = rw v.stop (none_why product (max_instrs - 1) h guest pc limit hp a (sym v.count ∙ none_counted))

        nothing : (n : ℕ) (out : List ℕ) → no_block guest pc limit ≡ n → Refused n out
        unfolding translate of_block compile_native_block
        nothing n out e = rw (good, eq-eqb (fence_walk product max_instrs h guest pc limit).count 0 (sym v.count ∙ none_counted), e) refl

        pub not_fetched : (out : List ℕ) → missed r.stop ≡ true → Refused Refusals.not_fetched out
        unfolding no_block
        not_fetched out e = nothing Refusals.not_fetched out (rw (ne_eqb limit 0 a, ne_eqb (pc % 2) 1 b, ← why, e) refl)

        pub not_covered : (out : List ℕ) → missed r.stop ≡ false → Refused Refusals.not_covered out
        unfolding no_block
        not_covered out e = nothing Refusals.not_covered out (rw (ne_eqb limit 0 a, ne_eqb (pc % 2) 1 b, ← why, e) refl)

-- a block's words, written to the output where they fit
module _ {h : Host} {guest : List ℕ} {pc limit : ℕ} (good : bad_slot_offset h.slot_offset ≡ false) {ws : List ℕ} {r : Walked} (v : BlockOf h guest pc limit ws r)
    (counted : r.n ≡ 0 → ⊥) {out : List ℕ} {len : ℕ} {out' : List ℕ} (w : Written ws out len out') where
  code_is : bytes ws ≡ (block_of product h (fence_walk product max_instrs h guest pc limit)).code
  code_is = ap bytes v.holds

  found : compile_native_block product max_instrs h guest pc (limit_at (fence product max_instrs h guest pc limit) limit) ≡ some (block_of product h (fence_walk product max_instrs h guest pc limit))
  unfolding compile_native_block
  found = rw (ne_eqb (fence_walk product max_instrs h guest pc limit).count 0 (λ q. counted (v.count ∙ q))) refl

  too_short : length out < len → refused Refusals.output_short out' ≡ translate h guest pc limit out
  unfolding translate of_block written
  too_short l =
      let k : length out < length (bytes ws) = rw w.count at l in
      let o : out' ≡ out = w.content ∙ rw (lt-leb (length (bytes ws)) (length out) k) refl in
      rw (good, found, ← code_is, lt-ltb (length out) (length (bytes ws)) k, o) refl

  is_accepted : len ≤ length out
      → result (record { refusal = 0; length = len; count = r.n; end = end_number (end_kind (fence product max_instrs h guest pc limit) r.stop) }) out' ≡ translate h guest pc limit out
  unfolding translate of_block written
  is_accepted l =
      let k : length (bytes ws) ≤ length out = rw w.count at l in
      rw (w.content, le-leb (length (bytes ws)) (length out) k, good, found, w.count, v.count, v.stop, ← code_is, le-ltb (length out) (length (bytes ws)) k) refl

  pub answered : {a : Answer} → ((f : Option ℕ) → r.fence ≡ is_fenced f → a ≡ answer_of f r len (length out)) → result a out' ≡ translate h guest pc limit out
  answered is =
      let e = is (fence product max_instrs h guest pc limit) v.fence in
      by (ltb (length out) len) (λ t. rw (e, t) (too_short (ltb-true (length out) len t))) (λ t. rw (e, t) (is_accepted (ltb-false (length out) len t)))

-- the limit may be clamped before
pub clamped-block : {h : Host} {guest : List ℕ} {pc limit most : ℕ} {ws : List ℕ} {r : Walked} → most ≡ min limit max_instrs → BlockOf h guest pc most ws r → BlockOf h guest pc limit ws r
clamped-block {h} {guest} {pc} {limit} {most} e v =
    let w = clamped-walk product h guest pc limit in
    let f = clamped-fence product h guest pc limit in
    let u = rw e at v in
    record { holds = u.holds ∙ rw w refl; count = u.count ∙ rw w refl; stop = u.stop ∙ rw w refl; fence = u.fence ∙ rw f refl }

-- a block's bytes are few
pub few_bytes : (m : ℕ) (ws : List ℕ) (len : ℕ) (out : List ℕ) (n : ℕ) (out' : List ℕ) → length ws ≡ m → Written (take len ws) out n out' → n ≤ 4 * m
few_bytes m ws len out n out' e w = omega (arith, w.count, length-bytes (take len ws), length-take len ws)

-- ---- the slot offset

pub no_multiple : (n : ℕ) → (n % 8 ≡ 0 → ⊥) → bad_slot_offset n ≡ true
no_multiple n h = rw (ne_eqb (n % 8) 0 h) refl

pub too_far : (n : ℕ) → n % 8 ≡ 0 → max_slot_offset < n → bad_slot_offset n ≡ true
too_far n e h = rw (eq-eqb (n % 8) 0 e, lt-ltb max_slot_offset n h) refl

pub near : (n : ℕ) → n % 8 ≡ 0 → n ≤ max_slot_offset → bad_slot_offset n ≡ false
near n e h = rw (eq-eqb (n % 8) 0 e, le-ltb max_slot_offset n h) refl

pub at_most : (n : ℕ) → bad_slot_offset n ≡ false → n ≤ max_slot_offset
at_most n h =
    by (ltb max_slot_offset n)
    (λ t. by (eqb (n % 8) 0) (λ u. none (rw (t, u) at h)) (λ u. none (rw u at h)))
    (λ t. ltb-false max_slot_offset n t)
  where
    none : true ≡ false → n ≤ max_slot_offset
    none y = let z : ◌≡◌ {A = ℕ} 0 1 = cc in absurd (omega arith)

-- ---- the end kind

pub is_drop : (f : Option ℕ) (why : Stop) {b : Bool} → b ≡ true → b ≡ is_fenced f → EndKind.Drop ≡ end_kind f why
unfolding end_kind is_fenced
is_drop none why e q = absurd (true≢false (sym e ∙ q))
is_drop (some n) why e q = refl

pub is_helper : (f : Option ℕ) {why : Stop} {b : Bool} → b ≡ false → why ≡ Stop.Helper → b ≡ is_fenced f → EndKind.Helper ≡ end_kind f why
unfolding end_kind is_fenced
is_helper none e h q = rw h refl
is_helper (some n) e h q = absurd (true≢false (sym q ∙ e))

pub is_plain : (f : Option ℕ) (why : Stop) {b : Bool} → b ≡ false → (why ≡ Stop.Helper → ⊥) → b ≡ is_fenced f → EndKind.Plain ≡ end_kind f why
unfolding end_kind is_fenced
is_plain none Stop.Limit e o q = refl
is_plain none Stop.Ended e o q = refl
is_plain none Stop.Uncovered e o q = refl
is_plain none Stop.NotFetched e o q = refl
is_plain none Stop.Helper e o q = absurd (o refl)
is_plain (some n) why e o q = absurd (true≢false (sym q ∙ e))

-- ---- why there is no block

pub no_halfword : {why : Stop} → why ≡ Stop.NotFetched → missed why ≡ true
unfolding missed
no_halfword e = rw e refl

pub other-stop : (why : Stop) → (why ≡ Stop.NotFetched → ⊥) → missed why ≡ false
unfolding missed
other-stop Stop.Limit o = refl
other-stop Stop.Ended o = refl
other-stop Stop.Helper o = refl
other-stop Stop.Uncovered o = refl
other-stop Stop.NotFetched o = absurd (o refl)

-- ---- the output, of which the first k bytes were lent

empty : (l : List ℕ) → length l ≡ 0 → l ≡ []
empty [] e = refl
empty (x ∷ l) e = absurd (omega (arith, e))

-- none of it
pub untouched : (k : ℕ) (out d : List ℕ) → k ≡ 0 → length d ≡ length (take (k - 0) (drop 0 out)) → d ++ drop (k - 0) (drop 0 out) ≡ out
untouched k out d z e =
    let n : length d ≡ 0 = e ∙ rw z refl in
    rw (empty d n, z) refl

-- or all
pub all_lent : (k : ℕ) (out : List ℕ) → k ≡ length out → (take (k - 0) (drop 0 out) ≡ out) × ((d : List ℕ) → d ++ drop (k - 0) (drop 0 out) ≡ d)
all_lent k out e = let z : k - 0 ≡ length out = omega arith in (rw z (take-length out), λ d. rw (z, drop-length out) (append-nil d))
