-- The bytes of an index as the list of what was placed, the newest first, and what the operations make of that list. Assumes nothing.
use mathlib.Core.Path.{◌≡◌, refl, sym, ap, subst⁻¹, ◌∙◌}
use mathlib.Core.Logic.{◌⊎◌, inl, inr}
use mathlib.Core.Bool.{Bool, true, false, cond, not, ◌&&◌, ◌||◌, true≢false, and-true}
use mathlib.Core.List.{List, [], ◌∷◌, ◌++◌}
use Prim.Native.Nat.{ℕ, zero, suc, ◌+◌, ◌-◌, ◌≤◌, ◌<◌}
use native.Mathlib.Omega.{arith}
use native.Mathlib.Nat.{add-zero}
use native.Mathlib.Numerals.{one-add}
use lib.Dec.{eqb, ltb}
use lib.ListN.{length, length-append}
use lib.Seq.{append_snoc}
use borrow.Author.Tests.{eq-eqb, ne_eqb, eqb-true}
use Rattle.block_log.specs.declared.Entry.{Entry}
use Rattle.block_log.specs.Log.{index_bytes, bucket, cell, used, emptied, next_at, entry_at, walk, previous, dropped, fresh, pushed}
use Rattle.block_log.proofs.Laws.{Same, both, Fits, same_within, tomb, Drops, drops_head, drops_later, emptied-within, emptied-cell, bucket-lt, pushes}
use Rattle.block_log.proofs.Tests.{by_test, by_eqb}
use Rattle.block_log.proofs.Walks.{walk-le, walk_past, walk_up, walk_here}
use Rattle.block_index.specs.Index.{block_at, swept, reinserted_at, reinserted}

-- ---- the list

-- whether an entry is in a bucket's chain
abbrev pub linked : ℕ → Entry → Bool
linked b e = not (eqb e.length 0) && eqb (bucket e.space e.pc) b

-- the head of a bucket's chain
abbrev pub head : ℕ → List Entry → ℕ
head b [] = 0
head b (e ∷ es) = cond (linked b e) (suc (length es)) (head b es)

-- each slot has its entry, and one with a block the next slot of its chain
abbrev pub Rows : List ℕ → List Entry → Type 0
Rows m [] = Unit {0}
Rows m (e ∷ es) =
    (entry_at m (suc (length es)) ≡ e)
    × (0 < e.length → next_at m (suc (length es)) ≡ head (bucket e.space e.pc) es)
    × Rows m es

pub record Lists (m : List ℕ) (es : List Entry) : Type 0 where
  pub long : length m ≡ index_bytes
  pub last : used m ≡ length es
  pub cells : (b : ℕ) → b < 2048 → cell m b ≡ head b es
  pub rows : Rows m es

pub head_le : (b : ℕ) (es : List Entry) → head b es ≤ length es
head_le b [] = omega arith
head_le b (e ∷ es) =
    let h = head_le b es in
    by_test (λ (t : Bool). cond t (suc (length es)) (head b es) ≤ suc (length es)) (linked b e) (λ q. omega arith)
    (λ q. omega arith)

linked_is : (b : ℕ) (e : Entry) → linked b e ≡ true → (0 < e.length) × (bucket e.space e.pc ≡ b)
linked_is b e =
    by_eqb (λ (t : Bool). (not t && eqb (bucket e.space e.pc) b) ≡ true
    → (0 < e.length) × (bucket e.space e.pc ≡ b)) e.length 0
    (λ z q. absurd (true≢false (sym q))) (λ z q. (omega arith, eqb-true (bucket e.space e.pc) b q))

linked_live : (b : ℕ) (e : Entry) → 0 < e.length → linked b e ≡ eqb (bucket e.space e.pc) b
linked_live b e z = rw (ne_eqb e.length 0 (λ q. omega arith))

rows_same : (m m' : List ℕ) (es : List Entry) → ((q : ℕ) → 0 < q → q ≤ length es → Same m m' q) → Rows m es → Rows m' es
rows_same m m' [] s r = tt
rows_same m m' (e ∷ es) s r =
    let t = s (suc (length es)) (omega arith) (omega arith) in
    (t.entry ∙ r.0, λ z. t.next ∙ r.1 z, rows_same m m' es (λ q a b. s q a (omega arith)) r.2)

rows_at : (m : List ℕ) (ts es : List Entry) → Rows m (ts ++ es) → Rows m es
rows_at m [] es r = r
rows_at m (t ∷ ts) es r = rows_at m ts es r.2

-- ---- emptied and pushed

pub empties : (m : List ℕ) → length m ≡ index_bytes → Lists (emptied m) []
empties m l =
    record { long = (emptied-within m l).long ∙ l; last = emptied-cell m l 2048 (omega arith); cells = λ b h. emptied-cell m l b (omega arith); rows = tt }

pub pushing : (m : List ℕ) (es : List Entry) (e : Entry) → Lists m es → length es < 1023 → 0 < e.length → Fits e
    → Lists (pushed m e) (e ∷ es)
pushing m es e g h z f =
    let r = pushes m e g.long f in
    let p : fresh m ≡ suc (length es) = omega (arith, g.last) in
    let c = bucket e.space e.pc in
    record {
      long = r.long;
      last = r.last ∙ p;
      cells = λ b i. r.cells b i ∙ rw (p, g.cells b i, linked_live b e z);
      rows = (
        rw p at r.entry,
        λ q. (rw p at r.next) ∙ g.cells c (bucket-lt e.space e.pc),
        rows_same m (pushed m e) es (λ q a i. r.slots q a (omega arith) (inl (omega arith))) g.rows,
      );
    }

-- ---- the walk along a chain

module _ (m : List ℕ) (b : ℕ) (x : Entry) (xs : List Entry) (r : Rows m (x ∷ xs)) where
  next_is : linked b x ≡ true → next_at m (suc (length xs)) ≡ head b xs
  next_is q = let k = linked_is b x q in r.1 k.0 ∙ ap (λ (c : ℕ). head c xs) k.1

  chain_step : (test : ℕ → Bool) → let w = walk m test (length xs) (head b xs) in
      walk m test (suc (length xs)) (head b (x ∷ xs))
      ≡ cond (linked b x) (cond (test (suc (length xs))) (suc (length xs)) w) w
  chain_step test =
      let n = length xs in
      let w = walk m test n (head b xs) in
      by_test (λ (t : Bool). walk m test (suc n) (cond t (suc n) (head b xs))
      ≡ cond t (cond (test (suc n)) (suc n) w) w) (linked b x)
      (λ q. walk_here m test n ∙ rw (next_is q)) (λ q. walk_past m test n (head b xs) (head_le b xs))

abbrev pub has : ℕ → ℕ → Entry → Bool
has space pc x = eqb x.space space && eqb x.pc pc && not (eqb x.length 0)

module _ (m : List ℕ) (space pc : ℕ) where
  abbrev test : ℕ → Bool
  test = block_at m space pc

  -- what is not in the key's chain is not its block
  other : (x : Entry) → linked (bucket space pc) x ≡ false → has space pc x ≡ false
  other x h =
      let some = not (eqb x.length 0) in
      by_eqb (λ (t : Bool). (t && eqb x.pc pc && some) ≡ false) x.space space
      (λ q. by_eqb (λ (t : Bool). (t && some) ≡ false) x.pc pc
      (λ r. sym (and-true some) ∙ (rw (q, r, eq-eqb (bucket space pc) (bucket space pc) refl) at h)) (λ r. refl))
      (λ q. refl)

  pub walk_step : (x : Entry) (xs : List Entry) → Rows m (x ∷ xs)
      → walk m test (suc (length xs)) (head (bucket space pc) (x ∷ xs))
      ≡ cond (has space pc x) (suc (length xs)) (walk m test (length xs) (head (bucket space pc) xs))
  walk_step x xs r =
      let n = length xs in
      let w = walk m test n (head (bucket space pc) xs) in
      chain_step m (bucket space pc) x xs r test
      ∙ by_test (λ (t : Bool). cond t (cond (test (suc n)) (suc n) w) w ≡ cond (has space pc x) (suc n) w)
      (linked (bucket space pc) x)
      (λ q. ap (λ (y : Entry). cond (has space pc y) (suc n) w) r.0) (λ q. rw (other x q))

-- ---- a block dropped

-- slot v leads to p in the chain with this head, at slot k or below; or p is the head, and v is above k
abbrev Led : List ℕ → ℕ → ℕ → ℕ → ℕ → Type 0
Led m p v k h = ((h ≡ p → ⊥) × (v ≡ walk m (λ q. eqb (next_at m q) p) k h)) ⊎ ((h ≡ p) × (k < v))

module _ (m : List ℕ) (p v k h : ℕ) where
  abbrev before : ℕ → Bool
  before q = eqb (next_at m q) p

  -- from a slot of the chain on to the next, and past a slot of another
  led_on : p ≤ k → next_at m (suc k) ≡ h → Led m p v (suc k) (suc k) → Led m p v k h × (eqb (suc k) v ≡ eqb h p)
  led_on l e (inr a) = absurd (omega arith)
  led_on l e (inl a) =
      let i = walk-le m before k h in
      by_eqb (λ (t : Bool). v ≡ cond t (suc k) (walk m before k h) → Led m p v k h × (eqb (suc k) v ≡ t)) h p
      (λ q w. (inr (q, omega arith), eq-eqb (suc k) v (sym w)))
      (λ q w. (inl (q, w), ne_eqb (suc k) v (λ z. omega arith)))
      (a.1 ∙ walk_here m before k ∙ rw e)

  led_past : h ≤ k → Led m p v (suc k) h → Led m p v k h × (eqb (suc k) v ≡ false)
  led_past l (inl a) =
      let i = walk-le m before k h in
      let w : v ≡ walk m before k h = a.1 ∙ walk_past m before k h l in
      (inl (a.0, w), ne_eqb (suc k) v (λ z. omega arith))
  led_past l (inr a) = (inr (a.0, omega arith), ne_eqb (suc k) v (λ z. omega arith))

module _ (x : Entry) (xs : List Entry) (z : 0 < x.length) where
  abbrev p : ℕ
  p = suc (length xs)

  abbrev b : ℕ
  b = bucket x.space x.pc

  abbrev with_x : List Entry → List Entry
  with_x ts = ts ++ (x ∷ xs)

  abbrev without-x : List Entry → List Entry
  without-x ts = ts ++ (tomb x ∷ xs)

  -- where what led to a slot leads once x is dropped
  abbrev on : ℕ → ℕ
  on q = cond (eqb q p) (head b xs) q

  long : (ts : List Entry) → length (with_x ts) ≡ length ts + p
  long ts = length-append ts (x ∷ xs)

  same_long : (ts : List Entry) → length (without-x ts) ≡ length (with_x ts)
  same_long ts = length-append ts (tomb x ∷ xs) ∙ sym (long ts)

  below : (c : ℕ) → head c xs ≡ p → ⊥
  below c e = omega (arith, head_le c xs)

  above : (ts : List Entry) → suc (length (with_x ts)) ≡ p → ⊥
  above ts e = omega (arith, long ts)

  -- p is the head of no other chain
  head_at : (c : ℕ) (ts : List Entry) → head c (with_x ts) ≡ p → b ≡ c
  head_at c [] =
      by_test (λ (t : Bool). cond t p (head c xs) ≡ p → b ≡ c) (linked c x) (λ q e. (linked_is c x q).1)
      (λ q e. absurd (below c e))
  head_at c (t ∷ ts) =
      let i = head_at c ts in
      by_test (λ (u : Bool). cond u (suc (length (with_x ts))) (head c (with_x ts)) ≡ p → b ≡ c) (linked c t)
      (λ q e. absurd (above ts e)) (λ q e. i e)

  head_self : head b (x ∷ xs) ≡ p
  head_self = rw (linked_live b x z, eq-eqb b b refl)

  head_on : (c : ℕ) (ts : List Entry) → head c (without-x ts) ≡ on (head c (with_x ts))
  head_on c [] =
      by_test (λ (t : Bool). head c xs ≡ on (cond t p (head c xs))) (linked c x)
      (λ q. rw (eq-eqb p p refl, (linked_is c x q).1)) (λ q. rw (ne_eqb (head c xs) p (below c)))
  head_on c (t ∷ ts) =
      let i = head_on c ts in
      let n = length (with_x ts) in
      rw (same_long ts)
      (by_test (λ (u : Bool). cond u (suc n) (head c (without-x ts)) ≡ on (cond u (suc n) (head c (with_x ts))))
      (linked c t)
      (λ q. rw (ne_eqb (suc n) p (above ts))) (λ q. i))

  module _ (m m' : List ℕ) (c v : ℕ) (d : Drops m p c v m') (n : next_at m p ≡ head b xs) where
    -- what the slot of an entry led to, and whether that is p
    row_led : (t : Entry) (ts : List Entry) → Rows m (t ∷ with_x ts)
        → Led m p v (suc (length (with_x ts))) (head b (t ∷ with_x ts))
        → Led m p v (length (with_x ts)) (head b (with_x ts))
        × (0 < t.length → eqb (suc (length (with_x ts))) v ≡ eqb (head (bucket t.space t.pc) (with_x ts)) p)
    row_led t ts r =
        let n = length (with_x ts) in
        let h = head b (with_x ts) in
        let g = head (bucket t.space t.pc) (with_x ts) in
        by_test (λ (u : Bool). Led m p v (suc n) (cond u (suc n) h)
        → Led m p v n h × (0 < t.length → eqb (suc n) v ≡ eqb g p)) (linked b t)
        (λ q l.
        let k = led_on m p v n h (omega (arith, long ts)) (next_is m b t (with_x ts) r q) l in
        (k.0, λ y. k.1 ∙ rw (linked_is b t q).1))
        (λ q l.
        let k = led_past m p v n h (head_le b (with_x ts)) l in (
          k.0,
          λ y. k.1 ∙ sym
              (ne_eqb g p (λ e. true≢false
              (sym (linked_live b t y ∙ eq-eqb (bucket t.space t.pc) b
              (sym (head_at (bucket t.space t.pc) ts e))) ∙ q))),
        ))

    rows_on : (ts : List Entry) → length (with_x ts) ≤ 1023 → Rows m (with_x ts)
        → Led m p v (length (with_x ts)) (head b (with_x ts)) → Rows m' (without-x ts)
    rows_on [] h r (inl a) = absurd (a.0 head_self)
    rows_on [] h r (inr a) = (
      d.entry ∙ ap tomb r.0,
      λ y. absurd (omega arith),
      rows_same m m' xs (λ q i j. record {
        entry = d.entries q (omega arith) (λ e. omega arith);
        next = d.nexts q (omega arith) ∙ rw (ne_eqb q v (λ e. omega arith));
      }) r.2,
    )
    rows_on (t ∷ ts) h r l =
        let k = row_led t ts r l in
        let q = suc (length (with_x ts)) in
        let i = rows_on ts (omega arith) r.2 k.0 in
        rw (same_long ts) (
          d.entries q h (above ts) ∙ r.0,
          λ y. d.nexts q h ∙ rw (k.1 y, n, r.1 y) (sym (head_on (bucket t.space t.pc) ts)),
          i,
        )

    relinked : (ts : List Entry) → Lists m (with_x ts) → length (with_x ts) ≤ 1023
        → ((a : ℕ) → a < 2048 → eqb a c ≡ eqb (head a (with_x ts)) p) → eqb 2048 c ≡ false
        → Led m p v (length (with_x ts)) (head b (with_x ts)) → Lists m' (without-x ts)
    relinked ts g h e u l =
        record {
          long = d.long;
          last = d.cells 2048 (omega arith) ∙ rw u (g.last ∙ sym (same_long ts));
          cells = λ a i. d.cells a (omega arith) ∙ rw (e a i, n, g.cells a i) (sym (head_on a ts));
          rows = rows_on ts h g.rows l;
        }

  pub dropping : (m : List ℕ) (ts : List Entry) → Lists m (with_x ts) → Lists (dropped m p) (without-x ts)
  dropping m ts g =
      let r = rows_at m ts (x ∷ xs) g.rows in
      let k = length (with_x ts) in
      let f = head b (with_x ts) in
      let i : k ≤ 1023 = omega (arith, g.last) in
      let j : p ≤ 1023 = omega (arith, long ts) in
      let s : bucket (entry_at m p).space (entry_at m p).pc ≡ b =
      ap (λ (y : Entry). bucket y.space y.pc) r.0 in
      let c : cell m (bucket (entry_at m p).space (entry_at m p).pc) ≡ f =
      rw s (g.cells b (bucket-lt x.space x.pc)) in
      let w : ℕ → ℕ = λ q. walk m (λ o. eqb (next_at m o) p) q f in
      let u : 1023 ≡ 1023 - k + k = omega arith in
      let led : previous m (cell m (bucket (entry_at m p).space (entry_at m p).pc)) p ≡ w k =
      ap (λ (q : ℕ). previous m q p) c ∙ ap w u ∙ walk_up m (λ o. eqb (next_at m o) p) (1023 - k) k f
      (head_le b (with_x ts)) in
      by_eqb (λ (t : Bool). Lists (dropped m p) (without-x ts)) f p
      (λ e.
      relinked m (dropped m p) b 1024 (rw s at (drops_head m g.long p j (c ∙ e))) (r.1 z) ts g i
      (λ a q. by_eqb (λ (t : Bool). t ≡ eqb (head a (with_x ts)) p) a b
      (λ o. sym (eq-eqb (head a (with_x ts)) p (rw o e)))
      (λ o. sym (ne_eqb (head a (with_x ts)) p (λ y. o (sym (head_at a ts y))))))
      (ne_eqb 2048 b (λ o. omega (arith, bucket-lt x.space x.pc))) (inr (e, omega arith)))
      (λ e.
      relinked m (dropped m p) 2049 (previous m (cell m (bucket (entry_at m p).space (entry_at m p).pc)) p)
      (drops_later m g.long p j (λ y. e (sym c ∙ y))) (r.1 z) ts g i
      (λ a q. rw (ne_eqb a 2049 (λ o. omega arith))
      (sym (ne_eqb (head a (with_x ts)) p (λ y. e (ap (λ (o : ℕ). head o (with_x ts)) (head_at a ts y) ∙ y)))))
      (ne_eqb 2048 2049 (λ o. omega arith)) (inl (e, led)))

-- ---- the sweep

abbrev evicted : Entry → ℕ → Entry → Bool
evicted e room x =
    eqb room 0
    || (eqb x.space e.space && eqb x.pc e.pc
    || ltb x.start (e.start + e.length) && ltb e.start (x.start + x.length))

abbrev pub sweep : Entry → ℕ → List Entry → List Entry
sweep e room [] = []
sweep e room (x ∷ xs) =
    cond (eqb x.length 0) (x ∷ sweep e room xs)
    (cond (evicted e room x) (tomb x ∷ sweep e room xs) (x ∷ sweep e (room - 1) xs))

sweeps : (m : List ℕ) (e : Entry) (room : ℕ) (ts es : List Entry) → Lists m (ts ++ es)
    → Lists (swept m e room (length es)) (ts ++ sweep e room es)
unfolding swept
sweeps m e room ts [] g = g
sweeps m e room ts (x ∷ xs) g =
    let p = suc (length xs) in
    let next : Bool → Bool → List ℕ = λ a b.
    swept (cond a m (cond b (dropped m p) m)) e (cond a room (cond b room (room - 1))) (length xs) in
    let here : swept m e room p ≡ next (eqb x.length 0) (evicted e room x) =
    ap (λ (y : Entry). next (eqb y.length 0) (evicted e room y)) (rows_at m ts (x ∷ xs) g.rows).0 in
    let again : (n : List ℕ) (k : ℕ) (y : Entry) → Lists n (ts ++ (y ∷ xs))
    → Lists (swept n e k (length xs)) (ts ++ (y ∷ sweep e k xs)) = λ n k y f.
    rw (append_snoc ts y (sweep e k xs)) at (sweeps n e k (ts ++ (y ∷ [])) xs (rw (append_snoc ts y xs) f)) in
    subst⁻¹ (λ (n : List ℕ). Lists n (ts ++ sweep e room (x ∷ xs))) here
    (by_eqb (λ (a : Bool). Lists (next a (evicted e room x))
    (ts ++ cond a (x ∷ sweep e room xs)
    (cond (evicted e room x) (tomb x ∷ sweep e room xs) (x ∷ sweep e (room - 1) xs))))
    x.length 0 (λ q. again m room x g)
    (λ q. by_test (λ (b : Bool). Lists (next false b)
    (ts ++ cond b (tomb x ∷ sweep e room xs) (x ∷ sweep e (room - 1) xs))) (evicted e room x)
    (λ o. again (dropped m p) room (tomb x) (dropping x xs (omega arith) m ts g)) (λ o. again m (room - 1) x g)))

pub sweeping : (m : List ℕ) (e : Entry) (room : ℕ) (es : List Entry) → Lists m es → Lists (swept m e room (used m)) (sweep e room es)
sweeping m e room es g = rw g.last (sweeps m e room [] es g)

-- ---- the reinserting

reinserted_more : (m : List ℕ) (k p : ℕ) → reinserted m (suc k) p ≡ reinserted_at (reinserted m k p) (p + k)
unfolding reinserted
reinserted_more m zero p = rw (add-zero p)
reinserted_more m (suc k) p = let e : p + 1 + k ≡ p + suc k =
    omega arith in rw (← e) (reinserted_more (reinserted_at m p) k (p + 1))

-- the log, with the slots after the first k as they were
pub record Reinserts (m m' : List ℕ) (k : ℕ) (es : List Entry) : Type 0 where
  pub lists : Lists m' es
  pub above : (q : ℕ) → k < q → q ≤ 1023 → Same m m' q

pub reinserted-from : (m : List ℕ) → length m ≡ index_bytes → Reinserts m (emptied m) 0 []
reinserted-from m l =
    record {
      lists = empties m l;
      above = λ q a b. same_within m (emptied m) 0 4098 l (emptied-within m l) q b
          (inr (omega arith));
    }

-- one slot more, without a block or with one
module _ (m n : List ℕ) (x : Entry) (xs es : List Entry) (r : Rows m (x ∷ xs)) (i : length xs < 1023)
    (s : Reinserts m (reinserted n (length xs) 1) (length xs) es) where
  reinserted-next : reinserted n (suc (length xs)) 1 ≡ cond (eqb x.length 0) (reinserted n (length xs) 1)
      (pushed (reinserted n (length xs) 1) x)
  reinserted-next =
      reinserted_more n (length xs) 1
      ∙ rw (one-add (length xs))
      (ap (λ (e : Entry). cond (eqb e.length 0) (reinserted n (length xs) 1) (pushed (reinserted n (length xs) 1) e))
      ((s.above (suc (length xs)) (omega arith) i).entry ∙ r.0))

  pub reinsert_none : x.length ≡ 0 → Reinserts m (reinserted n (suc (length xs)) 1) (suc (length xs)) es
  reinsert_none z =
      rw (reinserted-next, eq-eqb x.length 0 z) record
      { lists = s.lists; above = λ q a b. s.above q (omega arith) b }

  pub reinsert_one : 0 < x.length → length es ≤ length xs → Fits x
      → Reinserts m (reinserted n (suc (length xs)) 1) (suc (length xs)) (x ∷ es)
  reinsert_one z h f =
      rw (reinserted-next, ne_eqb x.length 0 (λ e. omega arith)) record {
        lists = pushing (reinserted n (length xs) 1) es x s.lists (omega arith) z f;
        above = λ q a b.
            both (s.above q (omega arith) b)
            ((pushes (reinserted n (length xs) 1) x s.lists.long f).slots q (omega arith) b
            (inr (omega (arith, s.lists.last))));
      }
