-- Where none of the instructions that the product counts is Zbb's, its walk is the Rust's. Assumes nothing.
use mathlib.Core.Path.{◌≡◌, refl, sym, ap, ◌∙◌}
use mathlib.Core.List.{List}
use mathlib.Core.Option.{Option, none, some}
use Prim.Native.Nat.{ℕ, zero, suc, ◌+◌, ◌-◌, ◌≤◌, min}
use native.Mathlib.Omega.{arith}
use Rattle.word.specs.Word.{add}
use Rattle.isa.specs.declared.zbb.Found.{Found}
use Rattle.isa.specs.Zbb.{MaybeZbb}
use Rattle.emit_native.specs.declared.EmitFlow.{EmitFlow}
use Rattle.std.specs.Prelude.{Some, None}
use Rattle.emit_native.specs.Calls as Calls
use Rattle.emit_native.specs.declared.Host.{Host}
use Rattle.emit_native.specs.Calls.{Dialect, rust, product, store_rd, Emission}
use Rattle.emit_native.proofs.Size.{by}
use Rattle.zbb.specs.Emission.{emission}
use Rattle.jit_arm64.specs.Block.{Walk, in_front, fetch, size_of, emit_native, zbb_of, zbb_first, emit_inline, emit_term_helper, step, instr_walk, walk, whole_walk}
use Rattle.jit_arm64.specs.Fence.{is_fence_i, fence_or, to_fence, fence, limit_at}
use Rattle.jit_arm64.specs.Parts.{fence_walk}
use Rattle.jit_arm64.proofs.Refusals.{walk-count}
use Rattle.translation.specs.RustBlock.{Free, ZbbFree}
use Rattle.translation.proofs.Fences.{never, whole_ends}
use Rattle.translation.proofs.Whole.{walk_most}

module _ (h : Host) (guest : List ℕ) (start : ℕ) where
  -- ---- the two walks with the same limit

  module _ (k n : ℕ)
      (same : (j : ℕ) → ZbbFree guest start ((walk product h guest start k (suc n) j).count - suc n) j → walk rust h guest start k (suc n) j ≡ walk product h guest start k (suc n) j) where
    step_same : (f : Calls.Flow) (e helper : Emission) (size i : ℕ)
        → ((m : ℕ) → (step f e helper size start n i (walk product h guest start k)).count - n ≡ suc m → ZbbFree guest start m (i + size))
        → step f e helper size start n i (walk rust h guest start k) ≡ step f e helper size start n i (walk product h guest start k)
    unfolding step
    step_same (Some EmitFlow.Continue) e helper size i free =
        let w = walk product h guest start k (suc n) (i + size) in
        ap (in_front e.calls) (same (i + size) (free (w.count - suc n) (omega (arith, walk-count product h guest start k (suc n) (i + size)))))
    step_same (Some EmitFlow.Terminate) e helper size i free = refl
    step_same None e helper size i free = refl

    -- a Zbb instruction would be counted
    counted : (c : ℕ) {f : MaybeZbb} → suc n ≤ c → ((f ≡ None) → ⊥) → ((m : ℕ) → c - n ≡ suc m → f ≡ None) → ⊥
    counted c l other free = other (free (c - suc n) (omega arith))

    zbb_same : (e helper : Emission) (instr size i : ℕ) (f : MaybeZbb)
        → ((m : ℕ) → (step (zbb_first f instr e).flow (zbb_first f instr e) helper size start n i (walk product h guest start k)).count - n ≡ suc m
        → (f ≡ None) × ZbbFree guest start m (i + size))
        → step e.flow e helper size start n i (walk rust h guest start k)
        ≡ step (zbb_first f instr e).flow (zbb_first f instr e) helper size start n i (walk product h guest start k)
    unfolding zbb_first emission store_rd step
    zbb_same e helper instr size i None free = step_same e.flow e helper size i (λ m c. (free m c).1)
    zbb_same e helper instr size i (Some (Found.Register z)) free =
        absurd (counted _ (walk-count product h guest start k (suc n) (i + size)) (λ q. let y : ◌≡◌ {A = ℕ} 0 1 = cc in omega arith) (λ m c. (free m c).0))
    zbb_same e helper instr size i (Some (Found.Number z v)) free =
        absurd (counted _ (walk-count product h guest start k (suc n) (i + size)) (λ q. let y : ◌≡◌ {A = ℕ} 0 1 = cc in omega arith) (λ m c. (free m c).0))
    zbb_same e helper instr size i (Some (Found.Unary z)) free =
        absurd (counted _ (walk-count product h guest start k (suc n) (i + size)) (λ q. let y : ◌≡◌ {A = ℕ} 0 1 = cc in omega arith) (λ m c. (free m c).0))

    instr_same : (o : Option ℕ) (i : ℕ)
        → ((m : ℕ) → (instr_walk product h o start n i (walk product h guest start k)).count - n ≡ suc m → Free o (λ (size : ℕ). ZbbFree guest start m (i + size)))
        → instr_walk rust h o start n i (walk rust h guest start k) ≡ instr_walk product h o start n i (walk product h guest start k)
    unfolding instr_walk emit_inline
    instr_same none i free = refl
    instr_same (some instr) i free =
        zbb_same (emit_native h (add start i) instr) (emit_term_helper h (add start i) instr n) instr (size_of instr) i (zbb_of instr) free

  walk_same : (k n i : ℕ) → ZbbFree guest start ((walk product h guest start k n i).count - n) i → walk rust h guest start k n i ≡ walk product h guest start k n i
  unfolding walk
  walk_same zero n i free = refl
  walk_same (suc k) n i free = instr_same k n (λ j. walk_same k (suc n) j) (fetch (add start i) guest i) i (λ m c. rw c at free)

  -- from the start
  start_same : (k : ℕ) → ZbbFree guest start (walk product h guest start k 0 0).count 0 → walk rust h guest start k 0 0 ≡ walk product h guest start k 0 0
  start_same k free = let z : (walk product h guest start k 0 0).count - 0 ≡ (walk product h guest start k 0 0).count = omega arith in walk_same k 0 0 (rw z free)

  -- ---- a walk with a lower limit counts no more

  module _ (d : Dialect) where
    step_more : (k l n : ℕ) → ((j : ℕ) → (walk d h guest start k (suc n) j).count ≤ (walk d h guest start l (suc n) j).count)
        → (f : Calls.Flow) (e helper : Emission) (size i : ℕ)
        → (step f e helper size start n i (walk d h guest start k)).count ≤ (step f e helper size start n i (walk d h guest start l)).count
    unfolding step
    step_more k l n more (Some EmitFlow.Continue) e helper size i = more (i + size)
    step_more k l n more (Some EmitFlow.Terminate) e helper size i = omega arith
    step_more k l n more None e helper size i = omega arith

    instr_more : (k l n : ℕ) → ((j : ℕ) → (walk d h guest start k (suc n) j).count ≤ (walk d h guest start l (suc n) j).count)
        → (o : Option ℕ) (i : ℕ) → (instr_walk d h o start n i (walk d h guest start k)).count ≤ (instr_walk d h o start n i (walk d h guest start l)).count
    unfolding instr_walk
    instr_more k l n more none i = omega arith
    instr_more k l n more (some instr) i = step_more k l n more _ _ _ (size_of instr) i

    walk_more : (k l n i : ℕ) → k ≤ l → (walk d h guest start k n i).count ≤ (walk d h guest start l n i).count
    unfolding walk
    walk_more zero l n i e = walk-count d h guest start l n i
    walk_more (suc k) zero n i e = absurd (omega arith)
    walk_more (suc k) (suc l) n i e = instr_more k l n (λ j. walk_more k l (suc n) j (omega arith)) (fetch (add start i) guest i) i

  -- ---- the first FENCE.I is the same among fewer instructions, where they reach it

  module _ (n m : ℕ) where
    or_within : (o : Option ℕ) (b : ℕ) (rest : ℕ → Option ℕ) → ((size : ℕ) → rest size ≡ some m → m ≤ suc n + b) → fence_or o n rest ≡ some m → m ≤ n + suc b
    unfolding fence_or
    or_within none b rest on e = never m e
    or_within (some instr) b rest on e =
        by (is_fence_i instr) (λ t. let z : some (suc n) ≡ some m = rw t at e in let y : suc n ≡ m = cc in omega arith) (λ t. omega (arith, on (size_of instr) (rw t at e)))

    or_above : (o : Option ℕ) (rest : ℕ → Option ℕ) → ((size : ℕ) → rest size ≡ some m → suc (suc n) ≤ m) → fence_or o n rest ≡ some m → suc n ≤ m
    unfolding fence_or
    or_above none rest on e = never m e
    or_above (some instr) rest on e =
        by (is_fence_i instr) (λ t. let z : some (suc n) ≡ some m = rw t at e in let y : suc n ≡ m = cc in omega arith) (λ t. omega (arith, on (size_of instr) (rw t at e)))

    or_fewer : (o : Option ℕ) (rest less : ℕ → Option ℕ) → ((size : ℕ) → rest size ≡ some m → less size ≡ some m) → fence_or o n rest ≡ some m → fence_or o n less ≡ some m
    unfolding fence_or
    or_fewer none rest less on e = e
    or_fewer (some instr) rest less on e = by (is_fence_i instr) (λ t. rw t (rw t at e)) (λ t. rw t (on (size_of instr) (rw t at e)))

  -- it is one of them, after the first n
  within : (b n i m : ℕ) → to_fence guest start b n i ≡ some m → m ≤ n + b
  unfolding to_fence
  within zero n i m e = never m e
  within (suc b) n i m e = or_within n m (fetch (add start i) guest i) b _ (λ size q. within b (suc n) (i + size) m q) e

  above : (b n i m : ℕ) → to_fence guest start b n i ≡ some m → suc n ≤ m
  unfolding to_fence
  above zero n i m e = never m e
  above (suc b) n i m e = or_above n m (fetch (add start i) guest i) _ (λ size q. above b (suc n) (i + size) m q) e

  fewer : (b a n i m : ℕ) → to_fence guest start b n i ≡ some m → m ≤ n + a → to_fence guest start a n i ≡ some m
  unfolding to_fence
  fewer zero a n i m e l = never m e
  fewer (suc b) zero n i m e l = absurd (omega (arith, above (suc b) n i m e))
  fewer (suc b) (suc a) n i m e l = or_fewer n m (fetch (add start i) guest i) _ _ (λ size q. fewer b a (suc n) (i + size) m q (omega arith)) e

-- ---- the walk at the limit that FENCE.I leaves

module _ (most : ℕ) (h : Host) (guest : List ℕ) (start limit : ℕ) where
  abbrev whole : Dialect → Walk
  whole d = whole_walk d most h guest start limit

  abbrev Same : Type 0
  Same = fence_walk rust most h guest start limit ≡ fence_walk product most h guest start limit

  fence_is : (d : Dialect) → fence d most h guest start limit ≡ to_fence guest start (whole d).count 0 0
  unfolding fence
  fence_is d = refl

  -- there is none
  unfenced : fence product most h guest start limit ≡ none → ZbbFree guest start (fence_walk product most h guest start limit).count 0 → Same
  unfolding fence limit_at whole_walk
  unfenced e free =
      let w : walk rust h guest start (min limit most) 0 0 ≡ walk product h guest start (min limit most) 0 0 =
      start_same h guest start (min limit most) (rw e at free) in
      rw (w, e) w

  fenced : (m : ℕ) → fence product most h guest start limit ≡ some m → ZbbFree guest start (fence_walk product most h guest start limit).count 0 → Same
  unfolding limit_at whole_walk
  fenced m e free =
      let w : walk rust h guest start (min m most) 0 0 ≡ walk product h guest start (min m most) 0 0 = start_same h guest start (min m most) (rw e at free) in
      let n : (walk product h guest start (min m most) 0 0).count ≡ m = rw e at (whole_ends h guest start limit most m e).1 in
      let p : m ≤ min limit most = omega (arith, within h guest start (whole product).count 0 0 m (sym (fence_is product) ∙ e), walk_most h guest start (min limit most) 0 0) in
      let r : m ≤ (whole rust).count =
      omega (arith, walk_more h guest start rust (min m most) (min limit most) 0 0 (omega arith), ap (λ (x : Walk). x.count) w, n) in
      let f : fence rust most h guest start limit ≡ some m =
      fence_is rust ∙ fewer h guest start (whole product).count (whole rust).count 0 0 m (sym (fence_is product) ∙ e) (omega arith) in
      rw (f, e) w

  by_fence : (f : Option ℕ) → fence product most h guest start limit ≡ f → ZbbFree guest start (fence_walk product most h guest start limit).count 0 → Same
  by_fence none e free = unfenced e free
  by_fence (some m) e free = fenced m e free

  pub rust-walk : ZbbFree guest start (fence_walk product most h guest start limit).count 0 → Same
  rust-walk free = by_fence (fence product most h guest start limit) refl free
