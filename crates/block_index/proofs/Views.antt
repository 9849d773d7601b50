-- The blocks of the model in the list of what was placed, and what the operations make of both. Assumes nothing.
use mathlib.Core.Path.{◌≡◌, refl, ap}
use mathlib.Core.Bool.{Bool, true, false, cond, ◌&&◌, ◌||◌, and-true, and-false}
use mathlib.Core.List.{List, [], ◌∷◌, map}
use Prim.Native.Nat.{ℕ, zero, suc, ◌-◌, ◌^◌, ◌≤◌, ◌<◌}
use native.Mathlib.Omega.{arith}
use lib.Dec.{eqb}
use lib.Seq.{take-nil}
use lib.ListN.{length, take, length-map}
use borrow.Author.Tests.{eq-eqb, ne_eqb}
use Rattle.block_log.specs.declared.Entry.{Entry}
use Rattle.block_log.specs.Log.{bucket, entry_at, walk}
use Rattle.block_log.proofs.Laws.{Fits, tomb}
use Rattle.block_log.proofs.Tests.{by_test}
use Rattle.rules.specs.Refusals as Refusals
use Rattle.block_index.specs.Model as Model
use Rattle.block_index.specs.Model.{Block, end, overlap, without}
use Rattle.block_index.specs.Index.{block_at, found_at, reinserted}
use Rattle.block_index.specs.History.{All, Holds}
use Rattle.block_index.proofs.Chains.{Rows, head, Reinserts, reinsert_none, reinsert_one, walk_step, sweep}

abbrev pub entry_of : Block → Entry
entry_of b = record { space = b.space; pc = b.pc; start = b.start; length = length b.code; count = b.count }

pub record Fine (size : ℕ) (store : List ℕ) (b : Block) : Type 0 where
  pub space : b.space < 2 ^ 64
  pub pc : b.pc < 2 ^ 64
  pub count : b.count < 2 ^ 8
  pub some : 0 < length b.code
  pub inside : end b ≤ size
  pub holds : Holds store b

-- the entries with a length are the blocks
pub data Views (size : ℕ) (store : List ℕ) : List Entry → List Block → Type 0 where
  none : Views size store [] []
  dead : {x : Entry} {xs : List Entry} {bs : List Block} → x.length ≡ 0 → Views size store xs bs → Views size store (x ∷ xs) bs
  live : {xs : List Entry} {b : Block} {bs : List Block} → Fine size store b → Views size store xs bs → Views size store (entry_of b ∷ xs) (b ∷ bs)

found_at_is : (m : List ℕ) (n : ℕ) (b : Block) → entry_at m (suc n) ≡ entry_of b → found_at m (suc n) ≡ Model.found b
found_at_is m n b h =
    rw (ne_eqb (suc n) 0 (λ e. omega arith))
    (ap (λ (e : Entry). record { refusal = Refusals.accepted; start = e.start; length = e.length; count = e.count }) h)

abbrev pub having : List Entry → List Entry
having [] = []
having (x ∷ xs) = cond (eqb x.length 0) (having xs) (x ∷ having xs)

module _ {size : ℕ} {store : List ℕ} where
  pub all_fine : (P : Block → Type 0) → ((b : Block) → Fine size store b → P b) → {es : List Entry} {bs : List Block}
      → Views size store es bs → All P bs
  all_fine P p none = tt
  all_fine P p (dead z v) = all_fine P p v
  all_fine P p (live {b = b} f v) = (p b f, all_fine P p v)

  pub fewer : {es : List Entry} {bs : List Block} → Views size store es bs → length bs ≤ length es
  fewer none = omega arith
  fewer (dead z v) = omega (arith, fewer v)
  fewer (live f v) = omega (arith, fewer v)

  pub together : {es : List Entry} {bs : List Block} → Views size store es bs → Views size store (map entry_of bs) bs
  together none = none
  together (dead z v) = together v
  together (live f v) = live f (together v)

  -- the entries that have a block, as they stand
  pub lives : {es : List Entry} {bs : List Block} → Views size store es bs → having es ≡ map entry_of bs
  lives none = refl
  lives (dead {x = x} z v) = rw (eq-eqb x.length 0 z) (lives v)
  lives (live {b = b} f v) = rw (ne_eqb (length b.code) 0 (λ e. omega (arith, f.some)))
      (ap (λ (xs : List Entry). entry_of b ∷ xs) (lives v))

  -- ---- lookup

  pub finds : (m : List ℕ) (space pc : ℕ) {es : List Entry} {bs : List Block} → Views size store es bs → Rows m es
      → found_at m (walk m (block_at m space pc) (length es) (head (bucket space pc) es)) ≡ Model.lookup bs space pc
  unfolding walk
  finds m space pc none r = refl
  finds m space pc (dead {x = x} {xs = xs} z v) r =
      rw (
        walk_step m space pc x xs r,
        eq-eqb x.length 0 z,
        and-false (eqb x.space space && eqb x.pc pc),
      )
      (finds m space pc v r.2)
  finds m space pc (live {xs = xs} {b = b} {bs = bs} f v) r =
      rw (
        walk_step m space pc (entry_of b) xs r,
        ne_eqb (length b.code) 0 (λ e. omega (arith, f.some)),
        and-true (eqb b.space space && eqb b.pc pc),
      )
      (by_test (λ (t : Bool). found_at m
      (cond t (suc (length xs)) (walk m (block_at m space pc) (length xs) (head (bucket space pc) xs)))
      ≡ cond t (Model.found b) (Model.lookup bs space pc))
      (Model.has_key space pc b) (λ q. found_at_is m (length xs) b r.0) (λ q. finds m space pc v r.2))

  -- ---- the reinserting

  pub fits : {b : Block} → size < 2 ^ 64 → Fine size store b → Fits (entry_of b)
  fits {b} h f = omega arith

  pub reinserts : (m n : List ℕ) {es : List Entry} {bs : List Block} → Reinserts m n 0 [] → size < 2 ^ 64
      → Views size store es bs
      → Rows m es → length es ≤ 1023 → Reinserts m (reinserted n (length es) 1) (length es) (map entry_of bs)
  reinserts m n g h none r i = unfold reinserted in g
  reinserts m n g h (dead {x = x} {xs = xs} {bs = bs} z v) r i =
      reinsert_none m n x xs (map entry_of bs) r i (reinserts m n g h v r.2 (omega arith)) z
  reinserts m n g h (live {xs = xs} {b = b} {bs = bs} f v) r i =
      reinsert_one m n (entry_of b) xs (map entry_of bs) r i (reinserts m n g h v r.2 (omega arith)) f.some
      (rw (length-map bs entry_of) (fewer v)) (fits h f)

-- ---- the sweep

module _ {size : ℕ} {store store' : List ℕ} (b : Block) (keeps : (c : Block) → overlap b c ≡ false → Fine size store c → Fine size store' c) where
  abbrev stay : List Block → List Block
  stay bs = without (overlap b) (without (Model.same_key b) bs)

  module _ (xs : List Entry) where
    stays_live : (c : Block) (bs : List Block) → Fine size store c
        → ((room : ℕ) → Views size store' (sweep (entry_of b) room xs) (take room (stay bs)))
        → (key over : Bool) (room : ℕ) → overlap b c ≡ over
        → Views size store'
        (cond (eqb room 0 || (key || over)) (tomb (entry_of c) ∷ sweep (entry_of b) room xs)
        (entry_of c ∷ sweep (entry_of b) (room - 1) xs))
        (take room (without (overlap b) (cond key (without (Model.same_key b) bs) (c ∷ without (Model.same_key b) bs))))
    stays_live c bs f v key over zero q = dead refl (v zero)
    stays_live c bs f v true over (suc room) q = rw (ne_eqb (suc room) 0 (λ e. omega arith)) (dead refl (v (suc room)))
    stays_live c bs f v false true (suc room) q = rw (q, ne_eqb (suc room) 0 (λ e. omega arith))
        (dead refl (v (suc room)))
    stays_live c bs f v false false (suc room) q =
        let i : suc room - 1 ≡ room = omega arith in
        rw (q, ne_eqb (suc room) 0 (λ e. omega arith), i) (live (keeps c q f) (v room))

  pub stays : (room : ℕ) {es : List Entry} {bs : List Block} → Views size store es bs
      → Views size store' (sweep (entry_of b) room es) (take room (stay bs))
  stays room none = rw (take-nil {A = Block} room) none
  stays room (dead {x = x} z v) = rw (eq-eqb x.length 0 z) (dead z (stays room v))
  stays room (live {xs = xs} {b = c} {bs = bs} f v) =
      rw (ne_eqb (length c.code) 0 (λ e. omega (arith, f.some)))
      (stays_live xs c bs f (λ r. stays r v) (Model.same_key b c) (overlap b c) room refl)
