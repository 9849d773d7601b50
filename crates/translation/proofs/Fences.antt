-- A walk at the limit that FENCE.I leaves is the walk that its first FENCE.I stops. Assumes nothing.
use mathlib.Core.Path.{◌≡◌, refl, ap}
use mathlib.Core.Bool.{true, false, cond, true≢false}
use mathlib.Core.List.{List, ◌++◌}
use mathlib.Core.Option.{Option, none, some}
use Prim.Native.Nat.{ℕ, zero, suc, ◌+◌, ◌%◌, ◌≤◌, min}
use native.Mathlib.Omega.{arith}
use lib.Dec.{eqb}
use Rattle.word.specs.Word.{add}
use Rattle.emit_native.specs.declared.EmitFlow.{EmitFlow}
use Rattle.std.specs.Prelude.{Some, None}
use Rattle.emit_native.specs.Calls as Calls
use Rattle.emit_native.specs.declared.Host.{Host}
use Rattle.emit_native.specs.Calls.{Call, product, Emission}
use Rattle.emit_native.proofs.Size.{by}
use Rattle.jit_arm64.specs.Block.{Walk, in_front, size_of, emit_term_helper, helped, step, instr_walk, walk, whole_walk, fetch}
use Rattle.jit_arm64.specs.Fence.{is_fence_i, fence_or, to_fence, fence, limit_at}
use Rattle.jit_arm64.specs.Parts.{fence_walk}
use Rattle.jit_arm64.specs.declared.block.Stop.{Stop}
use Rattle.jit_arm64.proofs.Refusals.{walk-count}
use Rattle.jit_arm64.proofs.Fences.{fence_wide, fence-goes-on}

-- how many instructions are left after the one that was fetched; rest: from its length on
unfoldable pub behind : Option ℕ → (ℕ → ℕ) → ℕ
behind none rest = 0
behind (some instr) rest = cond (is_fence_i instr) 0 (rest (size_of instr))

-- of so many instructions from index i on, those up to and with the first FENCE.I
unfoldable pub cut : List ℕ → ℕ → ℕ → ℕ → ℕ
cut guest start zero i = 0
cut guest start (suc left) i = suc (behind (fetch (add start i) guest i) (λ (size : ℕ). cut guest start left (i + size)))

-- no FENCE.I has 16 bits
pub narrow : (w : ℕ) → eqb (w % 4) 3 ≡ false → is_fence_i w ≡ false
narrow w h = by (is_fence_i w) (λ f. absurd (true≢false (rw (fence_wide w f) at h))) (λ f. f)

pub never : {A : Type 0} (m : ℕ) → ◌≡◌ {A = Option ℕ} none (some m) → A
never m e = let z : ◌≡◌ {A = ℕ} 0 1 = cc in absurd (omega arith)

pub helped_most : (f : Calls.Flow) (cs : List Call) (n pc : ℕ) → (helped f cs n pc).count ≤ suc n
unfolding helped
helped_most (Some EmitFlow.Continue) cs n pc = omega arith
helped_most (Some EmitFlow.Terminate) cs n pc = omega arith
helped_most None cs n pc = omega arith

module _ (h : Host) (guest : List ℕ) (start limit most : ℕ) where
  -- the FENCE.I o leaves so many instructions after n others; that walk w is the one with `to` left, and its limit
  -- ends it
  record Left (o : Option ℕ) (n : ℕ) (w : ℕ → Walk) (to : ℕ) : Type 0 where
    left : ℕ
    is : min (limit_at o limit) most ≡ n + left
    same : w left ≡ w to
    ends : (m : ℕ) → o ≡ some m → ((w left).stop ≡ Stop.Limit) × ((w left).count ≡ m)

  -- the search after an instruction that is no FENCE.I, and the search from one that was fetched
  after : ℕ → ℕ → ℕ → Option ℕ
  after zero n j = none
  after (suc m) n j = to_fence guest start m (suc n) j

  seek : ℕ → Option ℕ → ℕ → ℕ → Option ℕ
  seek zero f n i = none
  seek (suc m) f n i = fence_or f n (λ (size : ℕ). to_fence guest start m (suc n) (i + size))

  few : (m n j : ℕ) → m ≤ 1 → after m n j ≡ none
  unfolding after to_fence
  few zero n j l = refl
  few (suc m) n j l = let e : m ≡ 0 = omega arith in rw e refl

  seek_is : (m n i : ℕ) → to_fence guest start m n i ≡ seek m (fetch (add start i) guest i) n i
  unfolding to_fence seek
  seek_is zero n i = refl
  seek_is (suc m) n i = refl

  unlike : (m instr n i : ℕ) → is_fence_i instr ≡ false → seek m (some instr) n i ≡ after m n (i + size_of instr)
  unfolding after seek fence_or
  unlike zero instr n i f = refl
  unlike (suc m) instr n i f = rw f refl

  module _ (k n : ℕ) (hk : min limit most ≡ suc n + k)
      (go : (j m : ℕ) → (walk product h guest start k (suc n) j).count ≡ suc n + m
      → Left (to_fence guest start m (suc n) j) (suc n) (λ (l : ℕ). walk product h guest start l (suc n) j) (cut guest start k j)) where
    step_cut : (f : Calls.Flow) (e helper : Emission) (size i m : ℕ) → (step f e helper size start n i (walk product h guest start k)).count ≡ n + m
        → Left (after m n (i + size)) (suc n) (λ (l : ℕ). step f e helper size start n i (walk product h guest start l)) (cut guest start k (i + size))
    unfolding step after limit_at
    step_cut (Some EmitFlow.Continue) e helper size i zero c = absurd (omega (arith, walk-count product h guest start k (suc n) (i + size), c))
    step_cut (Some EmitFlow.Continue) e helper size i (suc m) c =
        let y = go (i + size) m (omega (arith, c)) in
        record { left = y.left; is = y.is; same = ap (in_front e.calls) y.same; ends = y.ends }
    step_cut (Some EmitFlow.Terminate) e helper size i m c =
        rw (few m n (i + size) (omega (arith, c))) (record { left = k; is = hk; same = refl; ends = λ j. never j })
    step_cut None e helper size i m c =
        let l = helped_most helper.flow (e.calls ++ helper.calls) n (add start i) in
        rw (few m n (i + size) (omega (arith, c, l))) (record { left = k; is = hk; same = refl; ends = λ j. never j })

    fence_cut : (instr i m : ℕ) → is_fence_i instr ≡ true → (instr_walk product h (some instr) start n i (walk product h guest start k)).count ≡ n + m
        → Left (seek m (some instr) n i) (suc n) (λ (l : ℕ). instr_walk product h (some instr) start n i (walk product h guest start l)) 0
    unfolding instr_walk step walk seek fence_or limit_at
    fence_cut instr i zero f c =
        absurd (omega (arith, walk-count product h guest start k (suc n) (i + size_of instr), rw (fence-goes-on product h (add start i) instr f) at c))
    fence_cut instr i (suc m) f c = rw f (record { left = 0; is = omega (arith, hk); same = refl; ends = λ j e. rw (fence-goes-on product h (add start i) instr f) (refl, cc) })

    instr_cut : (f : Option ℕ) (i m : ℕ) → (instr_walk product h f start n i (walk product h guest start k)).count ≡ n + m
        → Left (seek m f n i) (suc n) (λ (l : ℕ). instr_walk product h f start n i (walk product h guest start l)) (behind f (λ (size : ℕ). cut guest start k (i + size)))
    unfolding instr_walk behind seek fence_or limit_at
    instr_cut none i zero c = record { left = k; is = hk; same = refl; ends = λ j. never j }
    instr_cut none i (suc m) c = record { left = k; is = hk; same = refl; ends = λ j. never j }
    instr_cut (some instr) i m c =
        by (is_fence_i instr) (λ f. rw f (fence_cut instr i m f c))
        (λ f. rw (unlike m instr n i f, f) (step_cut _ _ (emit_term_helper h (add start i) instr n) (size_of instr) i m c))

  walk_cut : (k n i m : ℕ) → min limit most ≡ n + k → (walk product h guest start k n i).count ≡ n + m
      → Left (to_fence guest start m n i) n (λ (l : ℕ). walk product h guest start l n i) (cut guest start k i)
  unfolding walk cut to_fence limit_at
  walk_cut zero n i m hk c = let e : m ≡ 0 = omega (arith, c) in rw e (record { left = 0; is = hk; same = refl; ends = λ j. never j })
  walk_cut (suc k) n i m hk c =
      let y = instr_cut k n (omega (arith, hk)) (λ j p. walk_cut k (suc n) j p (omega (arith, hk))) (fetch (add start i) guest i) i m c in
      rw (seek_is m n i) (record { left = suc y.left; is = omega (arith, y.is); same = y.same; ends = y.ends })

  abbrev k : ℕ
  k = min limit most

  abbrev o : Option ℕ
  o = to_fence guest start (walk product h guest start k 0 0).count 0 0

  at_start : Left o 0 (λ (l : ℕ). walk product h guest start l 0 0) (cut guest start k 0)
  at_start = walk_cut k 0 0 (walk product h guest start k 0 0).count (omega arith) (omega arith)

  left_is : min (limit_at o limit) most ≡ at_start.left
  left_is = omega (arith, at_start.is)

  pub whole_cut : fence_walk product most h guest start limit ≡ walk product h guest start (cut guest start k 0) 0 0
  unfolding whole_walk fence
  whole_cut = rw left_is at_start.same

  -- the block that FENCE.I ends has its own count as its limit
  pub whole_ends : (m : ℕ) → fence product most h guest start limit ≡ some m
      → ((fence_walk product most h guest start limit).stop ≡ Stop.Limit)
      × ((fence_walk product most h guest start limit).count ≡ m)
  unfolding whole_walk fence
  whole_ends m e = rw left_is (at_start.ends m e)
