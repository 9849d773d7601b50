-- FENCE.I in a walk: where it is the last instruction, and where there is none. Assumes nothing.
use Rattle.std.specs.Prelude.{None}
use Rattle.std.proofs.Common.{◌≡◌, ℕ, zero, suc, ◌+◌, ◌%◌, ◌^◌, ◌<◌, ◌≤◌, min, Bool, true, false, cond, ◌&&◌, eqb, List, [], sym, refl, ap, ◌∙◌, true≢false, arith, eq-eqb, ne_eqb, eqb-true}
use mathlib.Core.Option.{Option, none, some}
use Rattle.rules.specs.Limits.{max_instrs}
use Rattle.word.specs.Word.{add}
use Rattle.isa.specs.Formats.{funct3}
use Rattle.isa.specs.Zbb.{find}
use Rattle.isa.proofs.ZbbRows.{no_zbb}
use Rattle.emit_native.specs.declared.Host.{Host}
use Rattle.emit_native.specs.Calls.{Dialect, rust, product, continue}
use Rattle.emit_native.proofs.Size.{by}
use Rattle.instr32.specs.Instr32.{misc_mem, emit_native_instr}
use Rattle.jit_arm64.specs.Block.{fetch, is_missing, is_32, size_of, emit_native, zbb_of, zbb_first, emit_inline, Walk, walk, whole_walk, block_of, compile_native_block}
use Rattle.jit_arm64.specs.Fence.{is_fence_i, fence_or, to_fence, fence, limit_at}
use Rattle.jit_arm64.specs.Parts.{fence_walk, missed}
use Rattle.jit_arm64.proofs.Refusals.{refuses, no_block_is, whole_why}

pub fence-fields : (instr : ℕ) → is_fence_i instr ≡ true → (instr % 128 ≡ 0x0F) × (funct3 instr ≡ 1)
fence-fields instr = opcode_by (eqb (instr % 128) 0x0F) refl
  where
    opcode_by : (c : Bool) → eqb (instr % 128) 0x0F ≡ c → (c && eqb (funct3 instr) 1) ≡ true → (instr % 128 ≡ 0x0F) × (funct3 instr ≡ 1)
    opcode_by true q t = (eqb-true (instr % 128) 0x0F q, eqb-true (funct3 instr) 1 t)
    opcode_by false q t = absurd (true≢false (sym t))

-- it has 32 bits
pub fence_wide : (instr : ℕ) → is_fence_i instr ≡ true → is_32 instr ≡ true
fence_wide instr t = eq-eqb (instr % 4) 3 (omega (arith, (fence-fields instr t).0))

-- it is no Zbb instruction
pub fence_no_zbb : (instr : ℕ) → is_fence_i instr ≡ true → find instr ≡ None
fence_no_zbb instr t =
    let f = fence-fields instr t in
    no_zbb instr (λ e. omega arith) (λ e. omega arith) (λ e. omega arith) (λ e. omega arith)

-- it is inline, and the walk goes on after it
rust-goes-on : (h : Host) (pc instr : ℕ) → is_fence_i instr ≡ true → emit_native h pc instr ≡ continue []
unfolding emit_native emit_native_instr misc_mem
rust-goes-on h pc instr t =
    let f = fence-fields instr t in
    rw (fence_wide instr t, f.0, f.1) refl

pub fence-goes-on : (d : Dialect) (h : Host) (pc instr : ℕ) → is_fence_i instr ≡ true → emit_inline d h pc instr ≡ continue []
unfolding emit_inline zbb_of zbb_first
fence-goes-on rust h pc instr t = rust-goes-on h pc instr t
fence-goes-on product h pc instr t =
    rw (fence_wide instr t, fence_no_zbb instr t) (rust-goes-on h pc instr t)

module _ (d : Dialect) (h : Host) (guest : List ℕ) (start limit : ℕ) where
  -- none among the instructions of the Rust's walk
  pub unfenced : {w : Walk} → whole_walk d max_instrs h guest start limit ≡ w → to_fence guest start w.count 0 0 ≡ none
      → (fence_walk d max_instrs h guest start limit ≡ w) × (fence d max_instrs h guest start limit ≡ none)
  unfolding fence limit_at
  unfenced e f =
      let g : to_fence guest start (whole_walk d max_instrs h guest start limit).count 0 0 ≡ none = rw e f in
      (rw g e, g)

  -- it is instruction n
  pub fenced : {w : Walk} {n : ℕ} → n ≤ max_instrs → fence d max_instrs h guest start limit ≡ some n → walk d h guest start n 0 0 ≡ w
      → fence_walk d max_instrs h guest start limit ≡ w
  unfolding whole_walk limit_at
  fenced {w} {n} l f e =
      let m : min n max_instrs ≡ n = omega arith in
      rw (f, m) e

  whole : whole_walk d max_instrs h guest start (min limit max_instrs) ≡ whole_walk d max_instrs h guest start limit
  unfolding whole_walk
  whole =
      let m : min (min limit max_instrs) max_instrs ≡ min limit max_instrs = omega arith in
      rw m

  by_fence : (f : Option ℕ) → whole_walk d max_instrs h guest start (limit_at f (min limit max_instrs)) ≡ whole_walk d max_instrs h guest start (limit_at f limit)
  unfolding limit_at
  by_fence none = whole
  by_fence (some n) = refl

  -- the limit may be clamped before
  pub clamped-fence : fence d max_instrs h guest start (min limit max_instrs) ≡ fence d max_instrs h guest start limit
  unfolding fence
  clamped-fence = ap (λ (w : Walk). to_fence guest start w.count 0 0) whole

  pub clamped-walk : fence_walk d max_instrs h guest start (min limit max_instrs) ≡ fence_walk d max_instrs h guest start limit
  clamped-walk = rw clamped-fence (by_fence (fence d max_instrs h guest start limit))

-- ---- no block exactly under refusals 2 to 5 of document 01

or_positive : (f : Option ℕ) (n m : ℕ) (rest : ℕ → Option ℕ) → ((size : ℕ) → rest size ≡ some m → eqb m 0 ≡ false) → fence_or f n rest ≡ some m → eqb m 0 ≡ false
unfolding fence_or
or_positive none n m rest on e = let z : ◌≡◌ {A = ℕ} 0 1 = cc in absurd (omega arith)
or_positive (some instr) n m rest on e =
    by (is_fence_i instr)
    (λ t. let z : some (suc n) ≡ some m = rw t at e in let y : suc n ≡ m = cc in ne_eqb m 0 (λ q. omega arith))
    (λ t. on (size_of instr) (rw t at e))

positive : (guest : List ℕ) (start k n i m : ℕ) → to_fence guest start k n i ≡ some m → eqb m 0 ≡ false
unfolding to_fence
positive guest start zero n i m e = let z : ◌≡◌ {A = ℕ} 0 1 = cc in absurd (omega arith)
positive guest start (suc k) n i m e =
    or_positive (fetch (add start i) guest i) n m _ (λ size q. positive guest start k (suc n) (i + size) m q) e

module _ (d : Dialect) (most : ℕ) (h : Host) (guest : List ℕ) (pc : ℕ) where
  -- no FENCE.I where the limit is 0
  at_zero : fence d most h guest pc 0 ≡ none
  unfolding fence whole_walk walk to_fence
  at_zero = let z : min 0 most ≡ 0 = omega arith in rw z refl

  by_limit : (limit : ℕ) (f : Option ℕ) → fence d most h guest pc (suc limit) ≡ f → eqb (limit_at f (suc limit)) 0 ≡ eqb (suc limit) 0
  unfolding limit_at fence
  by_limit limit none e = refl
  by_limit limit (some m) e = positive guest pc _ 0 0 m e ∙ sym (ne_eqb (suc limit) 0 (λ q. omega arith))

  same_zero : (limit : ℕ) → eqb (limit_at (fence d most h guest pc limit) limit) 0 ≡ eqb limit 0
  unfolding limit_at
  same_zero zero = rw at_zero refl
  same_zero (suc limit) = by_limit limit _ refl

pub no_block_with_fence : (d : Dialect) (most : ℕ) (h : Host) (guest : List ℕ) (pc limit : ℕ) → pc < 2 ^ 64
    → compile_native_block d (suc most) h guest pc (limit_at (fence d (suc most) h guest pc limit) limit)
    ≡ cond (refuses d h guest pc limit) none (some (block_of d h (fence_walk d (suc most) h guest pc limit)))
no_block_with_fence d most h guest pc limit l =
    no_block_is d most h guest pc (limit_at (fence d (suc most) h guest pc limit) limit) l ∙ rw (same_zero d (suc most) h guest pc limit) refl

-- where nothing was counted, the stop says why
pub none_why : (d : Dialect) (most : ℕ) (h : Host) (guest : List ℕ) (pc limit : ℕ) → pc < 2 ^ 64 → (limit ≡ 0 → ⊥) → (fence_walk d (suc most) h guest pc limit).count ≡ 0
    → missed (fence_walk d (suc most) h guest pc limit).stop ≡ is_missing (fetch pc guest 0)
none_why d most h guest pc limit l z q =
    whole_why d most h guest pc (limit_at (fence d (suc most) h guest pc limit) limit) l
    (λ e. let t : eqb limit 0 ≡ true = sym (same_zero d (suc most) h guest pc limit) ∙ eq-eqb _ 0 e in z (eqb-true limit 0 t)) q
