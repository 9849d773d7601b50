-- Demands 2 and 3, and document 02, No. 5, for what translation answers. Assumes nothing.
use mathlib.Core.Path.{◌≡◌, refl, sym, ap, ◌∙◌}
use mathlib.Core.Logic.{inl, inr}
use mathlib.Core.Option.{Option, none, some}
use mathlib.Core.Bool.{Bool, true, false, cond, not, ◌||◌, true≢false}
use mathlib.Core.List.{List, [], ◌∷◌, ◌++◌}
use Prim.Native.Nat.{ℕ, ◌-◌, ◌%◌, ◌^◌, ◌≤◌, ◌<◌}
use native.Mathlib.Omega.{arith}
use lib.Dec.{eqb, ltb}
use lib.ListN.{length, take, drop}
use borrow.Author.Tests.{eqb-true, eqb-false, ltb-true, ltb-false}
use Rattle.rules.specs.Limits.{max_instrs, max_slot_offset}
use Rattle.le.specs.Le.{Bytes}
use Rattle.emit_native.specs.declared.Host.{Host}
use Rattle.a64_emitter.specs.Emitter.{bytes}
use Rattle.emit_native.specs.Calls.{rust, product}
use Rattle.jit_arm64.specs.declared.block.Stop.{Stop}
use Rattle.jit_arm64.specs.Block.{fetch, is_missing, Walk, block_of, compile_native_block}
use Rattle.jit_arm64.specs.Fence.{fence, limit_at}
use Rattle.jit_arm64.specs.Parts.{fence_walk}
use Rattle.translator.specs.Translate.{Result, end_kind, end_number, refused, accepted, bad_slot_offset, no_block, of_block, translate}
use Rattle.jit_arm64.proofs.Refusals.{first, refuses}
use Rattle.jit_arm64.proofs.Fences.{no_block_with_fence}
use Rattle.translation.specs.Demand3.{HelperFree, Demand3}
use Rattle.translation.specs.HelperBlock.{HelperEnded, HelperBlock}
use Rattle.translation.specs.RustBlock.{ZbbFree, RustBlock}
use Rattle.translation.specs.Size.{most_bytes, Size}
use Rattle.translation.proofs.Fences.{whole_ends}
use Rattle.translation.proofs.Whole.{demand3}
use Rattle.translation.proofs.Called.{helper-block}
use Rattle.translation.proofs.Loads.{as_rust}
use Rattle.translation.proofs.RustWalks.{rust-walk}
use Rattle.translation.proofs.Sizes.{inline-few, helper-few, block-few}

offset_by : (o : ℕ) (a b : Bool) → eqb (o % 8) 0 ≡ a → ltb max_slot_offset o ≡ b → (not a || b) ≡ false → (o % 8 ≡ 0) × (o ≤ max_slot_offset)
offset_by o true false p q h = (eqb-true (o % 8) 0 p, ltb-false max_slot_offset o q)
offset_by o true true p q h = absurd (true≢false h)
offset_by o false b p q h = absurd (true≢false h)

second : (a b c : Bool) → (a || (b || c)) ≡ false → b ≡ false
second true b c h = absurd (true≢false h)
second false true c h = absurd (true≢false h)
second false false c h = refl

front : (xs ys : List ℕ) → take (length xs) (xs ++ ys) ≡ xs
front [] ys = refl
front (x ∷ xs) ys = ap (λ (l : List ℕ). x ∷ l) (front xs ys)

some-refusal : (guest : List ℕ) (pc limit : ℕ) → 1 ≤ no_block guest pc limit
unfolding no_block
some-refusal guest pc limit = by (eqb limit 0) (eqb (pc % 2) 1) (is_missing (fetch pc guest 0))
  where
    by : (a b c : Bool) → 1 ≤ cond a 2 (cond b 3 (cond c 4 5))
    by true b c = omega arith
    by false true c = omega arith
    by false false true = omega arith
    by false false false = omega arith

few_refusals : (guest : List ℕ) (pc limit : ℕ) → no_block guest pc limit ≤ 5
unfolding no_block
few_refusals guest pc limit = by (eqb limit 0) (eqb (pc % 2) 1) (is_missing (fetch pc guest 0))
  where
    by : (a b c : Bool) → cond a 2 (cond b 3 (cond c 4 5)) ≤ 5
    by true b c = omega arith
    by false true c = omega arith
    by false false true = omega arith
    by false false false = omega arith

-- kind 1 or 3: no helper ended the block
plain_or_drop : (f : Option ℕ) (why : Stop) → ((m : ℕ) → f ≡ some m → why ≡ Stop.Limit)
    → HelperFree (end_number (end_kind f why)) → why ≡ Stop.Helper → ⊥
unfolding end_number end_kind
plain_or_drop none why at (inl p) e = omega (arith, rw e at p)
plain_or_drop none why at (inr p) e = omega (arith, rw e at p)
plain_or_drop (some m) why at p e = let x : Stop.Limit ≡ Stop.Helper = sym (at m refl) ∙ e in let z : ◌≡◌ {A = ℕ} 0 1 = cc in omega arith

-- kind 2: a helper ended it
helper_only : (f : Option ℕ) (why : Stop) → HelperEnded (end_number (end_kind f why)) → why ≡ Stop.Helper
unfolding end_number end_kind
helper_only none Stop.Helper p = refl
helper_only none Stop.Limit p = absurd (omega arith)
helper_only none Stop.Ended p = absurd (omega arith)
helper_only none Stop.Uncovered p = absurd (omega arith)
helper_only none Stop.NotFetched p = absurd (omega arith)
helper_only (some m) why p = absurd (omega arith)

module _ (h : Host) (pc limit : ℕ) (guest out : List ℕ) (hb : Bytes guest) (hp : pc < 2 ^ 64) where
  abbrev f : Option ℕ
  f = fence product max_instrs h guest pc limit

  abbrev W : Walk
  W = fence_walk product max_instrs h guest pc limit

  -- what is known where nothing is refused
  record Accepted : Type 0 where
    offset : bad_slot_offset h.slot_offset ≡ false
    block : refuses product h guest pc limit ≡ false
    is : translate h guest pc limit out ≡ accepted (block_of product h W) (end_kind f W.stop) out

  block_is : compile_native_block product max_instrs h guest pc (limit_at f limit)
      ≡ cond (refuses product h guest pc limit) none (some (block_of product h W))
  block_is = no_block_with_fence product (max_instrs - 1) h guest pc limit hp

  counts_some : compile_native_block product max_instrs h guest pc (limit_at f limit) ≡ some (block_of product h W) → eqb W.count 0 ≡ false
  unfolding compile_native_block
  counts_some q = some_by (eqb W.count 0) q
    where
      some_by : (b : Bool) → cond b none (some (block_of product h W)) ≡ some (block_of product h W) → b ≡ false
      some_by true y = let z : ◌≡◌ {A = ℕ} 0 1 = cc in absurd (omega arith)
      some_by false y = refl

  rust_is : fence_walk rust max_instrs h guest pc limit ≡ W → eqb W.count 0 ≡ false
      → compile_native_block rust max_instrs h guest pc (limit_at (fence rust max_instrs h guest pc limit) limit) ≡ some (block_of rust h W)
  unfolding compile_native_block
  rust_is w n = rw (w, n) refl

  -- no refusal's
  abbrev Unrefused : Result → Type 0
  Unrefused r = (n : ℕ) → 1 ≤ n → r ≡ refused n out → ⊥

  by : (a t s : Bool) → bad_slot_offset h.slot_offset ≡ a → refuses product h guest pc limit ≡ t
      → ltb (length out) (length (block_of product h W).code) ≡ s → Unrefused (translate h guest pc limit out)
      → Accepted
  unfolding translate of_block
  by true t s p q r z = absurd (z 1 (omega arith) (rw p refl))
  by false true s p q r z =
      absurd (z (no_block guest pc limit) (some-refusal guest pc limit) (rw (p, block_is, q) refl))
  by false false true p q r z = absurd (z 6 (omega arith) (rw (p, block_is, q, r) refl))
  by false false false p q r z = record { offset = p; block = q; is = rw (p, block_is, q, r) refl }

  unrefused : (r : Result) → (r.answer.end ≡ 0 → ⊥) → Unrefused r
  unrefused r z n l e = z (ap (λ (r : Result). r.answer.end) e)

  some_end : (n : ℕ) → HelperFree n → n ≡ 0 → ⊥
  unfolding end_number
  some_end n (inl p) z = omega arith
  some_end n (inr p) z = omega arith

  helper-end : (n : ℕ) → HelperEnded n → n ≡ 0 → ⊥
  unfolding end_number
  helper-end n p z = omega arith

  -- the block that translation answers
  module _ (r : Result) (e : r ≡ translate h guest pc limit out) (z : Unrefused r) where
    a : Accepted
    a = by _ _ _ refl refl refl (rw e at z)

    offset : (h.slot_offset % 8 ≡ 0) × (h.slot_offset ≤ max_slot_offset)
    offset = offset_by h.slot_offset _ _ refl refl a.offset

    even : pc % 2 ≡ 0
    even = omega (arith, eqb-false (pc % 2) 1 (second (eqb limit 0) (eqb (pc % 2) 1) (first product h guest pc) a.block))

    r_is : r ≡ accepted (block_of product h W) (end_kind f W.stop) out
    r_is = e ∙ a.is

    code : take r.answer.length r.output ≡ (block_of product h W).code
    code = rw r_is (front (block_of product h W).code (drop (length (block_of product h W).code) out))

  -- how long the block is, and that so much output is enough
  abbrev Bounded : Result → Type 0
  Bounded r = (r.answer.length ≤ most_bytes limit) × (most_bytes limit ≤ length out → r.answer.refusal ≡ 6 → ⊥)

  bounded : (a t s : Bool) → bad_slot_offset h.slot_offset ≡ a → refuses product h guest pc limit ≡ t
      → ltb (length out) (length (block_of product h W).code) ≡ s → Bounded (translate h guest pc limit out)
  unfolding translate of_block
  bounded true t s p q r = rw p (omega arith, λ l e. omega arith)
  bounded false true s p q r = rw (p, block_is, q) (omega arith, λ l e. omega (arith, e, few_refusals guest pc limit))
  bounded false false true p q r =
      rw (p, block_is, q, r) (omega arith, λ l e. omega (arith, l, ltb-true (length out) (length (block_of product h W).code) r, block-few h guest pc limit))
  bounded false false false p q r = rw (p, block_is, q, r) (block-few h guest pc limit, λ l e. omega arith)

  pub translated_size : (r : Result) → r ≡ translate h guest pc limit out → Size h limit (length out) r.answer.refusal r.answer.length
  translated_size r e =
      let b = bounded _ _ _ refl refl refl in
      record {
        inline = λ pc instr. omega (arith, inline-few h pc instr);
        helper = λ pc instr n l. omega (arith, helper-few h pc instr n l);
        within = rw e b.0;
        suffices = rw e b.1;
      }

  -- demand 3 for what translation answers, where the end kind is plain or drop
  pub translated : (r : Result) → r ≡ translate h guest pc limit out → HelperFree r.answer.end
      → Demand3 guest pc limit h.ignore_ebreak h.slot_offset (take r.answer.length r.output) r.answer.count
  translated r e k =
      let z = unrefused r (some_end r.answer.end k) in
      let g : W.stop ≡ Stop.Helper → ⊥ = plain_or_drop f W.stop (λ m e. (whole_ends h guest pc limit max_instrs m e).0) (rw (r_is r e z) at k) in
      rw (code r e z, r_is r e z) (demand3 h pc limit guest hb hp (even r e z) (offset r e z).1 (offset r e z).0 g)

  -- document 02, No. 5, where it is helper
  pub translated_helper : h.memory_helper < 2 ^ 64 → h.helper32 < 2 ^ 64 → h.helper16 < 2 ^ 64 → length guest < 2 ^ 64
      → (r : Result) → r ≡ translate h guest pc limit out → HelperEnded r.answer.end
      → HelperBlock h guest pc limit (take r.answer.length r.output) r.answer.count
  translated_helper hm h32 h16 hl r e k =
      let z = unrefused r (helper-end r.answer.end k) in
      let g : W.stop ≡ Stop.Helper = helper_only f W.stop (rw (r_is r e z) at k) in
      rw (code r e z, r_is r e z) (helper-block h hm h32 h16 pc limit guest hb hl hp (even r e z) (offset r e z).1 (offset r e z).0 g)

  -- demand 2
  pub translated_rust : h.memory_helper < 2 ^ 64 → h.helper32 < 2 ^ 64 → h.helper16 < 2 ^ 64 → length guest < 2 ^ 64
      → (r : Result) → r ≡ translate h guest pc limit out → r.answer.refusal ≡ 0 → ZbbFree guest pc r.answer.count 0
      → RustBlock h guest pc limit (take r.answer.length r.output) r.answer.count
  translated_rust hm h32 h16 hl r e k free =
      let z : Unrefused r = λ n l q. omega (arith, ap (λ (r : Result). r.answer.refusal) q) in
      let o = offset r e z in
      let c : r.answer.count ≡ W.count = ap (λ (r : Result). r.answer.count) (r_is r e z) in
      let w : fence_walk rust max_instrs h guest pc limit ≡ W = rust-walk max_instrs h guest pc limit (rw c at free) in
      record {
        native = block_of rust h W;
        is = rust_is w (counts_some (block_is ∙ rw (a r e z).block refl));
        counts = sym c;
        same = code r e z ∙ ap bytes (as_rust h hm h32 h16 pc limit guest hb hl hp (even r e z) o.1 o.0);
      }
