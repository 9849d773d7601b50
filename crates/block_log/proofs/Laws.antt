-- What stands at each cell and slot after a change of the log. Assumes nothing.
use mathlib.Core.Path.{◌≡◌, refl, sym, ap, ◌∙◌}
use mathlib.Core.Logic.{◌⊎◌, inl, inr, ⊎_map}
use mathlib.Core.Bool.{Bool, cond}
use mathlib.Core.List.{List, [], ◌∷◌}
use Prim.Native.Nat.{ℕ, zero, suc, ◌+◌, ◌*◌, ◌%◌, ◌^◌, ◌≤◌, ◌<◌}
use native.Mathlib.Omega.{arith}
use lib.Dec.{eqb}
use borrow.Author.Tests.{eq-eqb, ne_eqb}
use lib.ListN.{length, drop, get_or, get_or-append}
use Rattle.le.specs.Le.{bytes, load, store}
use Rattle.le.proofs.Laws.{load-add, load_byte, load_same, load_apart, length-store, length-bytes}
use Rattle.block_log.specs.declared.Entry.{Entry}
use Rattle.block_log.proofs.Tests.{by_eqb, apart}
use Rattle.block_log.proofs.Walks.{walk-le}
use Rattle.block_log.specs.Log.{index_bytes, bucket, cell, used, set_cell, emptied, at, space_at, pc_at, next_at, entry_at, put, set_next, previous, unlinked, dropped, fresh, pushed}

-- ---- changes of the bytes from lo up to hi

pub record Within (m m' : List ℕ) (lo hi : ℕ) : Type 0 where
  pub long : length m' ≡ length m
  pub loads : (k j : ℕ) → j + k ≤ length m → (j + k ≤ lo) ⊎ (hi ≤ j) → load k m' j ≡ load k m j

-- numbers one after the other, each by its offset, its bytes' count and its value
abbrev Numbers : Type 0
Numbers = List (ℕ × ℕ × ℕ)

abbrev stores : List ℕ → Numbers → List ℕ
stores m [] = m
stores m (f ∷ fs) = stores (store f.1 m f.0 f.2) fs

abbrev Loads : List ℕ → Numbers → Type 0
Loads m [] = Unit {0}
Loads m (f ∷ fs) = (load f.1 m f.0 ≡ f.2) × Loads m fs

abbrev Row : ℕ → ℕ → Numbers → Type 0
Row lo hi [] = Unit {0}
Row lo hi (f ∷ fs) = (lo ≤ f.0) × (f.0 + f.1 ≤ hi) × (f.2 < 256 ^ f.1) × Row (f.0 + f.1) hi fs

row : (m : List ℕ) (lo hi : ℕ) (fs : Numbers) → hi ≤ length m → Row lo hi fs → Within m (stores m fs) lo hi × Loads (stores m fs) fs
row m lo hi [] h a = (record { long = refl; loads = λ n i g o. refl }, tt)
row m lo hi (f ∷ fs) h a =
    let l = length-store f.1 m f.0 f.2 (omega arith) in
    let r = row (store f.1 m f.0 f.2) (f.0 + f.1) hi fs (rw l h) a.3 in (
      record {
        long = r.0.long ∙ l;
        loads = λ n i g o.
            r.0.loads n i (rw l g) (⊎_map (λ (c : i + n ≤ lo). omega arith) (λ (c : hi ≤ i). c) o)
            ∙ load_apart f.1 n m f.0 f.2 i (omega arith) g (⊎_map (λ (c : i + n ≤ lo). omega arith) (λ (c : hi ≤ i). omega arith) o);
      },
      (r.0.loads f.1 f.0 (rw l (omega arith)) (inl (omega arith)) ∙ load_same f.1 m f.0 f.2 (omega arith) a.2, r.1),
    )

getD_zeros : (k i : ℕ) → get_or (bytes k 0) i 0 ≡ 0
unfolding bytes
getD_zeros zero i = refl
getD_zeros (suc k) zero = refl
getD_zeros (suc k) (suc i) = getD_zeros k i

-- ---- cells and slots elsewhere

pub record Same (m m' : List ℕ) (q : ℕ) : Type 0 where
  pub entry : entry_at m' q ≡ entry_at m q
  pub next : next_at m' q ≡ next_at m q

pub both : {m m' m'' : List ℕ} {q : ℕ} → Same m m' q → Same m' m'' q → Same m m'' q
both s t = record { entry = t.entry ∙ s.entry; next = t.next ∙ s.next }

module _ (m m' : List ℕ) (lo hi : ℕ) (l : length m ≡ index_bytes) (w : Within m m' lo hi) where
  pub cell-within : (b : ℕ) → b ≤ 2048 → (2 * b + 2 ≤ lo) ⊎ (hi ≤ 2 * b) → cell m' b ≡ cell m b
  cell-within b h o = ap (λ (x : ℕ). x % 1024) (w.loads 2 (2 * b) (omega arith) o)

  pub same_within : (q : ℕ) → q ≤ 1023 → (at q + 35 ≤ lo) ⊎ (hi ≤ at q) → Same m m' q
  same_within q h o =
      let s : (k j : ℕ) → (at q ≤ j) × (j + k ≤ at q + 35) → load k m' j ≡ load k m j = λ k j g.
      w.loads k j (omega arith) (⊎_map (λ (i : at q + 35 ≤ lo). omega arith) (λ (i : hi ≤ at q). omega arith) o) in
      record {
        entry = rw (s 8 (at q) (omega arith), s 8 (at q + 8) (omega arith), s 8 (at q + 16) (omega arith), s 8 (at q + 24) (omega arith), s 1 (at q + 34) (omega arith));
        next = rw (s 2 (at q + 32) (omega arith));
      }

-- ---- the changes

pub bucket-lt : (space pc : ℕ) → bucket space pc < 2048
unfolding bucket
bucket-lt space pc = omega arith

-- an entry whose block is dropped
abbrev pub tomb : Entry → Entry
tomb e = record { space = e.space; pc = e.pc; start = e.start; length = 0; count = e.count }

-- the cell c or the slot v leads to slot n
record Leads (m : List ℕ) (c v n : ℕ) (m' : List ℕ) : Type 0 where
  long : length m' ≡ index_bytes
  cells : (b : ℕ) → b ≤ 2048 → cell m' b ≡ cond (eqb b c) n (cell m b)
  entries : (q : ℕ) → q ≤ 1023 → entry_at m' q ≡ entry_at m q
  nexts : (q : ℕ) → q ≤ 1023 → next_at m' q ≡ cond (eqb q v) n (next_at m q)

-- the block at slot p is dropped, and what led there leads on
pub record Drops (m : List ℕ) (p c v : ℕ) (m' : List ℕ) : Type 0 where
  pub long : length m' ≡ index_bytes
  pub cells : (b : ℕ) → b ≤ 2048 → cell m' b ≡ cond (eqb b c) (next_at m p) (cell m b)
  pub entry : entry_at m' p ≡ tomb (entry_at m p)
  pub entries : (q : ℕ) → q ≤ 1023 → (q ≡ p → ⊥) → entry_at m' q ≡ entry_at m q
  pub nexts : (q : ℕ) → q ≤ 1023 → next_at m' q ≡ cond (eqb q v) (next_at m p) (next_at m q)

module _ (m : List ℕ) (l : length m ≡ index_bytes) (n : ℕ) (h : n ≤ 1023) where
  lead_cell : (c : ℕ) → c < 2048 → Leads m c 1024 n (set_cell m c n)
  lead_cell c g =
      let r = row m (2 * c) (2 * c + 2) ((2 * c, 2, n) ∷ []) (omega arith) (omega arith) in
      let w = r.0 in
      let s : (q : ℕ) → q ≤ 1023 → Same m (set_cell m c n) q = λ q i.
      same_within m (set_cell m c n) (2 * c) (2 * c + 2) l w q i (inr (omega arith)) in
      record {
        long = w.long ∙ l;
        cells = λ b i.
            by_eqb (λ (t : Bool). cell (set_cell m c n) b ≡ cond t n (cell m b)) b c
            (λ e. rw (e, r.1.0) (omega arith))
            (λ e. cell-within m (set_cell m c n) (2 * c) (2 * c + 2) l w b i
            (⊎_map (λ (a : b < c). omega arith) (λ (a : c < b). omega arith) (apart b c e)));
        entries = λ q i. (s q i).entry;
        nexts = λ q i. rw (ne_eqb q 1024 (λ e. omega arith)) (s q i).next;
      }

  lead_slot : (v : ℕ) → v ≤ 1023 → Leads m 2049 v n (set_next m v n)
  lead_slot v g =
      let r = row m (at v + 32) (at v + 34) ((at v + 32, 2, n) ∷ []) (omega arith) (omega arith) in
      let w = r.0 in
      let s = w.loads in
      let there : entry_at (set_next m v n) v ≡ entry_at m v =
      rw (
        s 8 (at v) (omega arith) (inl (omega arith)),
        s 8 (at v + 8) (omega arith) (inl (omega arith)),
        s 8 (at v + 16) (omega arith) (inl (omega arith)),
        s 8 (at v + 24) (omega arith) (inl (omega arith)),
        s 1 (at v + 34) (omega arith) (inr (omega arith)),
      ) in
      let other : (q : ℕ) → q ≤ 1023 → (q ≡ v → ⊥) → Same m (set_next m v n) q = λ q i e.
      same_within m (set_next m v n) (at v + 32) (at v + 34) l w q i
      (⊎_map (λ (a : q < v). omega arith) (λ (a : v < q). omega arith) (apart q v e)) in
      record {
        long = w.long ∙ l;
        cells = λ b i.
            rw (ne_eqb b 2049 (λ e. omega arith))
            (cell-within m (set_next m v n) (at v + 32) (at v + 34) l w b i (inl (omega arith)));
        entries = λ q i.
            by_eqb (λ (t : Bool). entry_at (set_next m v n) q ≡ entry_at m q) q v (λ e. rw e there)
            (λ e. (other q i e).entry);
        nexts = λ q i.
            by_eqb (λ (t : Bool). next_at (set_next m v n) q ≡ cond t n (next_at m q)) q v
            (λ e. rw (e, r.1.0) (omega arith)) (λ e. (other q i e).next);
      }

module _ (m : List ℕ) (b p : ℕ) where
  pub unlinked_head : cell m b ≡ p → unlinked m b p ≡ set_cell m b (next_at m p)
  unfolding unlinked
  unlinked_head e = rw (eq-eqb (cell m b) p e)

  pub unlinked_later : (cell m b ≡ p → ⊥) → unlinked m b p ≡ set_next m (previous m (cell m b) p) (next_at m p)
  unfolding unlinked
  unlinked_later e = rw (ne_eqb (cell m b) p e)

module _ (m : List ℕ) (l : length m ≡ index_bytes) (p : ℕ) (h : p ≤ 1023) where
  -- the length of slot p, after what led there
  drops : (m₁ : List ℕ) (c v : ℕ) → Leads m c v (next_at m p) m₁ → Drops m p c v (store 8 m₁ (at p + 24) 0)
  drops m₁ c v k =
      let m₂ = store 8 m₁ (at p + 24) 0 in
      let r = row m₁ (at p + 24) (at p + 32) ((at p + 24, 8, 0) ∷ []) (rw k.long (omega arith)) (omega arith) in
      let w = r.0 in
      let s = w.loads in
      let f : (j i : ℕ) → i + j ≤ index_bytes → i + j ≤ length m₁ = λ j i g. rw k.long g in
      let other : (q : ℕ) → q ≤ 1023 → (q ≡ p → ⊥) → Same m₁ m₂ q = λ q i e.
      same_within m₁ m₂ (at p + 24) (at p + 32) k.long w q i
      (⊎_map (λ (a : q < p). omega arith) (λ (a : p < q). omega arith) (apart q p e)) in
      let there : entry_at m₂ p ≡ tomb (entry_at m₁ p) =
      rw (
        s 8 (at p) (f 8 (at p) (omega arith)) (inl (omega arith)),
        s 8 (at p + 8) (f 8 (at p + 8) (omega arith)) (inl (omega arith)),
        s 8 (at p + 16) (f 8 (at p + 16) (omega arith)) (inl (omega arith)),
        r.1.0,
        s 1 (at p + 34) (f 1 (at p + 34) (omega arith)) (inr (omega arith)),
      ) in
      let next : (q : ℕ) → q ≤ 1023 → next_at m₂ q ≡ next_at m₁ q = λ q i.
      by_eqb (λ (t : Bool). next_at m₂ q ≡ next_at m₁ q) q p
      (λ e. rw (e, s 2 (at p + 32) (f 2 (at p + 32) (omega arith)) (inr (omega arith)))) (λ e. (other q i e).next) in
      record {
        long = w.long ∙ k.long;
        cells = λ b i. cell-within m₁ m₂ (at p + 24) (at p + 32) k.long w b i (inl (omega arith)) ∙ k.cells b i;
        entry = there ∙ ap tomb (k.entries p h);
        entries = λ q i e. (other q i e).entry ∙ k.entries q i;
        nexts = λ q i. next q i ∙ k.nexts q i;
      }

  abbrev b : ℕ
  b = bucket (space_at m p) (pc_at m p)

  pub drops_head : cell m b ≡ p → Drops m p b 1024 (dropped m p)
  unfolding dropped
  drops_head e =
      rw (unlinked_head m b p e)
      (drops (set_cell m b (next_at m p)) b 1024
      (lead_cell m l (next_at m p) (omega arith) b (bucket-lt (space_at m p) (pc_at m p))))

  pub drops_later : (cell m b ≡ p → ⊥) → Drops m p 2049 (previous m (cell m b) p) (dropped m p)
  unfolding dropped
  drops_later e =
      let v = previous m (cell m b) p in
      rw (unlinked_later m b p e)
      (drops (set_next m v (next_at m p)) 2049 v
      (lead_slot m l (next_at m p) (omega arith) v (walk-le m (λ q. eqb (next_at m q) p) 1023 (cell m b))))

module _ (m : List ℕ) (l : length m ≡ index_bytes) where
  -- the empty log
  pub emptied-within : Within m (emptied m) 0 4098
  unfolding store
  emptied-within = record { long = length-store 4098 m 0 0 (omega arith); loads = λ k j g o. load_apart 4098 k m 0 0 j (omega arith) g o }

  pub emptied-cell : (b : ℕ) → b ≤ 2048 → cell (emptied m) b ≡ 0
  emptied-cell b h =
      let z : (i : ℕ) → i < 4098 → load 1 (emptied m) i ≡ 0 = λ i g.
      load_byte (emptied m) i (rw (emptied-within.long, l) (omega arith)) ∙ get_or-append (bytes 4098 0) (drop 4098 m) 0 i (rw (length-bytes 4098 0) g) ∙ getD_zeros 4098 i in
      rw (load-add 1 1 (emptied m) (2 * b), z (2 * b) (omega arith), z (2 * b + 1) (omega arith))

-- its numbers have their fields' widths
pub record Fits (e : Entry) : Type 0 where
  pub space : e.space < 2 ^ 64
  pub pc : e.pc < 2 ^ 64
  pub start : e.start < 2 ^ 64
  pub length : e.length < 2 ^ 64
  pub count : e.count < 2 ^ 8

pub record Pushes (m : List ℕ) (e : Entry) (m' : List ℕ) : Type 0 where
  pub long : length m' ≡ index_bytes
  pub last : used m' ≡ fresh m
  pub cells : (b : ℕ) → b < 2048 → cell m' b ≡ cond (eqb (bucket e.space e.pc) b) (fresh m) (cell m b)
  pub entry : entry_at m' (fresh m) ≡ e
  pub next : next_at m' (fresh m) ≡ cell m (bucket e.space e.pc)
  pub slots : (q : ℕ) → 0 < q → q ≤ 1023 → (q < fresh m) ⊎ (fresh m < q) → Same m m' q

pub pushes : (m : List ℕ) (e : Entry) → length m ≡ index_bytes → Fits e → Pushes m e (pushed m e)
unfolding pushed
pushes m e l f =
    let p = fresh m in
    let b = bucket e.space e.pc in
    let h = bucket-lt e.space e.pc in
    let m₁ = put m p e (cell m b) in
    let m₂ = store 2 m₁ (2 * b) p in
    let m₃ = pushed m e in
    let r =
    row m (at p) (at p + 35)
    ((at p, 8, e.space) ∷ (at p + 8, 8, e.pc) ∷ (at p + 16, 8, e.start) ∷ (at p + 24, 8, e.length) ∷ (at p + 32, 2, cell m b) ∷ (at p + 34, 1, e.count) ∷ [])
    (omega arith) (omega arith) in
    let n = r.1.1.1.1 in
    let l₁ : length m₁ ≡ index_bytes = r.0.long ∙ l in
    let s = row m₁ (2 * b) (2 * b + 2) ((2 * b, 2, p) ∷ []) (omega arith) (omega arith) in
    let l₂ : length m₂ ≡ index_bytes = s.0.long ∙ l₁ in
    let t = row m₂ 4096 4098 ((4096, 2, p) ∷ []) (omega arith) (omega arith) in
    let here : (q : ℕ) → 0 < q → q ≤ 1023 → Same m₁ m₃ q = λ q z i.
    both (same_within m₁ m₂ (2 * b) (2 * b + 2) l₁ s.0 q i (inr (omega arith))) (same_within m₂ m₃ 4096 4098 l₂ t.0 q i (inr (omega arith))) in
    let first : cell m₃ b ≡ p = rw (t.0.loads 2 (2 * b) (omega arith) (inl (omega arith)), s.1.0) (omega arith) in
    let other : (c : ℕ) → c < 2048 → (c < b) ⊎ (b < c) → cell m₃ c ≡ cell m c = λ c g o.
    cell-within m₂ m₃ 4096 4098 l₂ t.0 c (omega arith) (inl (omega arith))
    ∙ cell-within m₁ m₂ (2 * b) (2 * b + 2) l₁ s.0 c (omega arith) (⊎_map (λ (q : c < b). omega arith) (λ (q : b < c). omega arith) o)
    ∙ cell-within m m₁ (at p) (at p + 35) l r.0 c (omega arith) (inl (omega arith)) in
    record {
      long = t.0.long ∙ l₂;
      last = rw t.1.0 (omega arith);
      cells = λ c g.
          by_eqb (λ (u : Bool). cell m₃ c ≡ cond u p (cell m c)) b c (λ q. ap (cell m₃) (sym q) ∙ first)
          (λ q. other c g (apart c b (λ e. q (sym e))));
      entry = (here p (omega arith) (omega arith)).entry ∙ rw (r.1.0, r.1.1.0, r.1.1.1.0, n.0, n.1.1.0);
      next = (here p (omega arith) (omega arith)).next ∙ rw n.1.0 (omega arith);
      slots = λ q z g o.
          both (same_within m m₁ (at p) (at p + 35) l r.0 q g (⊎_map (λ (i : q < p). omega arith) (λ (i : p < q). omega arith) o)) (here q z g);
    }
