-- The model's blocks after a placing: no two have one key or share a byte, and each is aligned. Assumes nothing.
use mathlib.Core.Path.{◌≡◌, refl}
use mathlib.Core.Bool.{Bool, false, cond}
use mathlib.Core.List.{List, [], ◌∷◌}
use Prim.Native.Nat.{ℕ, zero, suc, ◌+◌, ◌-◌, ◌%◌}
use native.Mathlib.Omega.{arith}
use lib.Dec.{ltb}
use lib.ListN.{length, take}
use Rattle.block_log.proofs.Tests.{by_test}
use Rattle.rules.specs.Limits.{index_entries}
use Rattle.block_index.specs.Model.{Block, last_end, start, overlap, same_key, without, with_room, placed}
use Rattle.block_index.specs.History.{All, Never, Aligned}

-- of the list with its oldest, and of that without it
room : (Q : List Block → Type 0) (entries : ℕ) (bs : List Block) → Q bs → Q (take (length bs - 1) bs)
    → Q (with_room entries bs)
room Q entries bs a b =
    by_test (λ (t : Bool). Q (cond t bs (take (length bs - 1) bs))) (ltb (length bs) entries) (λ q. a) (λ q. b)

module _ (P : Block → Type 0) where
  pub all_without : (test : Block → Bool) (bs : List Block) → All P bs → All P (without test bs)
  all_without test [] a = tt
  all_without test (b ∷ bs) a =
      by_test (λ (t : Bool). All P (cond t (without test bs) (b ∷ without test bs))) (test b)
      (λ q. all_without test bs a.1) (λ q. (a.0, all_without test bs a.1))

  all_take : (n : ℕ) (bs : List Block) → All P bs → All P (take n bs)
  all_take zero bs a = tt
  all_take (suc n) [] a = tt
  all_take (suc n) (b ∷ bs) a = (a.0, all_take n bs a.1)

  pub all_room : (entries : ℕ) (bs : List Block) → All P bs → All P (with_room entries bs)
  all_room entries bs a = room (All P) entries bs a (all_take (length bs - 1) bs a)

none_left : (test : Block → Bool) (bs : List Block) → All (λ c. test c ≡ false) (without test bs)
none_left test [] = tt
none_left test (b ∷ bs) =
    by_test (λ (t : Bool). test b ≡ t → All (λ c. test c ≡ false) (cond t (without test bs) (b ∷ without test bs)))
    (test b) (λ p q. none_left test bs) (λ p q. (q, none_left test bs)) refl

module _ (r : Block → Block → Bool) where
  pair_without : (test : Block → Bool) (bs : List Block) → Never r bs → Never r (without test bs)
  pair_without test [] a = tt
  pair_without test (b ∷ bs) a =
      by_test (λ (t : Bool). Never r (cond t (without test bs) (b ∷ without test bs))) (test b)
      (λ q. pair_without test bs a.1)
      (λ q. (all_without (λ c. r b c ≡ false) test bs a.0, pair_without test bs a.1))

  pair_take : (n : ℕ) (bs : List Block) → Never r bs → Never r (take n bs)
  pair_take zero bs a = tt
  pair_take (suc n) [] a = tt
  pair_take (suc n) (b ∷ bs) a = (all_take (λ c. r b c ≡ false) n bs a.0, pair_take n bs a.1)

  pair_room : (entries : ℕ) (bs : List Block) → Never r bs → Never r (with_room entries bs)
  pair_room entries bs a = room (Never r) entries bs a (pair_take (length bs - 1) bs a)

keys-placed : (entries : ℕ) (bs : List Block) (b : Block) → Never same_key bs → Never same_key (placed entries bs b)
keys-placed entries bs b a =
    let kept = without (overlap b) (without (same_key b) bs) in (
      all_room (λ c. same_key b c ≡ false) entries kept
          (all_without (λ c. same_key b c ≡ false) (overlap b) (without (same_key b) bs) (none_left (same_key b) bs)),
      pair_room same_key entries kept
          (pair_without same_key (overlap b) (without (same_key b) bs) (pair_without same_key (same_key b) bs a)),
    )

bytes-placed : (entries : ℕ) (bs : List Block) (b : Block) → Never overlap bs → Never overlap (placed entries bs b)
bytes-placed entries bs b a =
    let kept = without (overlap b) (without (same_key b) bs) in (
      all_room (λ c. overlap b c ≡ false) entries kept (none_left (overlap b) (without (same_key b) bs)),
      pair_room overlap entries kept
          (pair_without overlap (overlap b) (without (same_key b) bs) (pair_without overlap (same_key b) bs a)),
    )

-- ---- starts and lengths

last_aligned : (bs : List Block) → All Aligned bs → last_end bs % 4 ≡ 0
last_aligned [] a = refl
last_aligned (b ∷ bs) a = omega arith

pub start-aligned : (size : ℕ) (bs : List Block) (n : ℕ) → All Aligned bs → start size bs n % 4 ≡ 0
start-aligned size bs n a =
    by_test (λ (t : Bool). cond t 0 (last_end bs) % 4 ≡ 0) (ltb size (last_end bs + n)) (λ q. refl)
    (λ q. last_aligned bs a)

-- ---- after a placing

pub record Distinct (bs : List Block) : Type 0 where
  pub keys : Never same_key bs
  pub apart : Never overlap bs
  pub aligned : All Aligned bs

pub distinct_placed : (bs : List Block) (b : Block) → Aligned b → Distinct bs → Distinct (placed index_entries bs b)
distinct_placed bs b w d =
    let rest = without (same_key b) bs in
    record {
      keys = keys-placed index_entries bs b d.keys;
      apart = bytes-placed index_entries bs b d.apart;
      aligned = (
        w,
        all_room Aligned index_entries (without (overlap b) rest)
            (all_without Aligned (overlap b) rest (all_without Aligned (same_key b) bs d.aligned)),
      );
    }
