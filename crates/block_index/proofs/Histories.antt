-- The promises over several calls: after each, the index's bytes and the store have the blocks of the model. Assumes nothing.
use mathlib.Core.Path.{◌≡◌, refl, sym, ap, ◌∙◌}
use mathlib.Core.Bool.{Bool, false, cond, ◌&&◌, true≢false}
use mathlib.Core.List.{List, [], ◌∷◌, map}
use Prim.Native.Nat.{ℕ, suc, ◌+◌, ◌-◌, ◌*◌, ◌^◌, ◌≤◌, ◌<◌}
use native.Mathlib.Omega.{arith}
use lib.Dec.{ltb}
use lib.ListN.{length, take, drop, length-map, length-take}
use lib.Seq.{take_all}
use borrow.Author.Tests.{ne_eqb, le-ltb}
use Rattle.le.specs.Le.{splice}
use Rattle.le.proofs.Splices.{length-splice, splice_there, splice-after, splice-before}
use Rattle.rules.specs.Limits.{index_entries}
use Rattle.rules.specs.Refusals as Refusals
use Rattle.block_log.specs.declared.Entry.{Entry}
use Rattle.block_log.specs.Log.{index_bytes, bucket, cell, used, emptied, walk}
use Rattle.block_log.proofs.Laws.{bucket-lt}
use Rattle.block_log.proofs.Tests.{by_test, by_ltb}
use Rattle.block_log.proofs.Walks.{walk_up}
use Rattle.block_index.specs.Model.{Placed}
use Rattle.block_index.specs.Model.{Found}
use Rattle.block_index.specs.Model as Model
use Rattle.block_index.specs.Model.{Block, end, overlap, without, with_room}
use Rattle.block_index.specs.Index as Index
use Rattle.block_index.specs.Index.{last_end, start_for, compacted, Result, result, placed_at}
use Rattle.block_index.specs.History as History
use Rattle.block_index.specs.History.{Call, State, Reached, All, Kept, Looks, Places, after_call, blocks_call}
use Rattle.block_index.specs.History.Reached.{begun, called}
use Rattle.block_index.proofs.Steps.{accepted}
use Rattle.block_index.proofs.Chains.{Lists, empties, pushing, head, head_le, sweep, sweeping, reinserted-from}
use Rattle.block_index.proofs.Keys.{Distinct, distinct_placed, start-aligned}
use Rattle.block_index.proofs.Views.{entry_of, Fine, Views, all_fine, together, finds, fits, reinserts, stays}
use Rattle.block_index.proofs.Views.Views.{none, dead, live}

-- ---- the store

-- a block that the new one does not overlap is still there
kept : (size : ℕ) (store : List ℕ) (b : Block) → length store ≡ size → end b ≤ size
    → (c : Block) → overlap b c ≡ false → Fine size store c → Fine size (splice store b.start b.code) c
kept size store b l h c o f =
    let n = length c.code in
    let There : Type 0 = take n (drop c.start (splice store b.start b.code))
    ≡ take n (drop c.start store) in
    let there : There =
    by_ltb (λ (t : Bool). (t && ltb b.start (end c)) ≡ false → There) c.start (end b)
    (λ p. by_ltb (λ (t : Bool). t ≡ false → There) b.start (end c) (λ q e. absurd (true≢false e))
    (λ q e. splice-before store b.start b.code (omega arith) c.start n q))
    (λ p e. ap (take n) (splice-after store b.start b.code (omega arith) c.start p)) o in
    record { space = f.space; pc = f.pc; count = f.count; some = f.some; inside = f.inside; holds = there ∙ f.holds }

-- ---- the model's lists

without-le : (test : Block → Bool) (bs : List Block) → length (without test bs) ≤ length bs
without-le test [] = omega arith
without-le test (b ∷ bs) =
    let h = without-le test bs in
    by_test (λ (t : Bool). length (cond t (without test bs) (b ∷ without test bs)) ≤ suc (length bs)) (test b) (λ q. omega arith) (λ q. omega arith)

roomy : (entries : ℕ) (bs : List Block) → 1 ≤ entries → length bs ≤ entries
    → with_room entries bs ≡ take (entries - 1) bs
roomy entries bs z h =
    by_ltb (λ (t : Bool). cond t bs (take (length bs - 1) bs) ≡ take (entries - 1) bs) (length bs) entries
    (λ l. sym (take_all (entries - 1) bs (omega arith)))
    (λ l. let e : length bs - 1 ≡ entries - 1 = omega arith in rw e)

-- ---- what holds after each call

-- the newest slot has a block
abbrev pub Top : List Entry → Type 0
Top [] = Unit {0}
Top (x ∷ xs) = 0 < x.length

pub record Good (entries size : ℕ) (m store : List ℕ) (bs : List Block) : Type 0 where
  pub es : List Entry
  pub lists : Lists m es
  pub views : Views size store es bs
  pub top : Top es
  pub few : length bs ≤ entries
  pub long : length store ≡ size
  pub small : size < 2 ^ 64

-- the last block's end
ends : {size : ℕ} {store : List ℕ} {es : List Entry} {bs : List Block} (m : List ℕ) (bound : ℕ)
    → Model.last_end bs ≤ bound → Views size store es bs → Top es → Lists m es
    → last_end m bound ≡ Model.last_end bs
ends m bound h none t g = rw g.last
ends m bound h (dead z v) t g = absurd (omega arith)
ends m bound h (live {xs = xs} {b = b} f v) t g =
    rw (g.last, ne_eqb (suc (length xs)) 0 (λ e. omega arith))
    (ap (λ (e : Entry). cond (ltb bound (e.start + e.length)) 0 (e.start + e.length)) g.rows.0
    ∙ rw (le-ltb bound (end b) h))

pub last_is : {entries size : ℕ} {m store : List ℕ} {bs : List Block} (bound : ℕ) → Model.last_end bs ≤ bound
    → Good entries size m store bs
    → last_end m bound ≡ Model.last_end bs
last_is {m = m} bound h g = ends m bound h g.views g.top g.lists

last_le : {size : ℕ} {store : List ℕ} {es : List Entry} {bs : List Block} → Views size store es bs → Top es
    → Model.last_end bs ≤ size
last_le none t = omega arith
last_le (dead z v) t = absurd (omega arith)
last_le (live f v) t = f.inside

fitting : (size : ℕ) (bs : List Block) (n : ℕ) → n ≤ size → Model.start size bs n + n ≤ size
fitting size bs n h =
    by_ltb (λ (t : Bool). cond t 0 (Model.last_end bs) + n ≤ size) size (Model.last_end bs + n) (λ l. omega arith)
    (λ l. l)

-- a log with room for one slot more
abbrev Roomy : ℕ → List ℕ → List ℕ → List Block → Type 0
Roomy size m store bs = (es : List Entry) × Lists m es × Views size store es bs × (length es < 1023)

compacts : (most size : ℕ) (m store : List ℕ) (es : List Entry) (bs : List Block) → most < 1023 → size < 2 ^ 64
    → length bs < 1023 → Lists m es → Views size store es bs → Roomy size (compacted most m) store bs
compacts most size m store es bs s h k g v =
    by_ltb (λ (t : Bool). Roomy size (cond t (Index.reinserted (emptied m) (used m) 1) m) store bs) most (used m)
    (λ q. (
      map entry_of bs,
      rw g.last
          (reinserts m (emptied m) (reinserted-from m g.long) h v g.rows (omega (arith, g.last))).lists,
      together v,
      rw (length-map bs entry_of) k,
    ))
    (λ q. (es, g, v, omega (arith, g.last)))

slack-lt : (entries room : ℕ) → Index.slack entries room < 1023
slack-lt entries room =
    by_ltb (λ (t : Bool). cond t (2 * (entries - room) + 62) 1022 < 1023) (entries - room) 480 (λ q. omega arith)
    (λ q. omega arith)

-- ---- placing

abbrev outcome : Bool → List ℕ → List ℕ → ℕ → ℕ → ℕ → List ℕ → Result
outcome refused m store space pc count code =
    cond refused (result (record { refusal = Refusals.code_length; start = 0 }) m store)
    (placed_at m store space pc count code (start_for m (length store) (length code)))

place_is : (m store : List ℕ) (space pc count : ℕ) (code : List ℕ)
    → Index.place m store space pc count code ≡ outcome (Model.refused (length store) (length code)) m store space pc count code
unfolding Index.place
place_is m store space pc count code = refl

-- an entry more, wherever it starts
module _ {entries size : ℕ} {m store : List ℕ} {bs : List Block} (some : (1 ≤ entries) × (entries ≤ 1023))
    (g : Good entries size m store bs) (new : Block)
    (fit : (new.space < 2 ^ 64) × (new.pc < 2 ^ 64) × (new.count < 2 ^ 8)) where
  pub inserting : 0 < length new.code → end new ≤ size
      → Good entries size (Index.placed entries m (entry_of new)) (splice store new.start new.code)
      (Model.placed entries bs new)
  inserting a f =
      let store' = splice store new.start new.code in
      let key = Model.has_key new.space new.pc in
      let kept_bs = without (overlap new) (without key bs) in
      let n : length kept_bs ≤ entries =
      omega (arith, without-le (overlap new) (without key bs), without-le key bs, g.few) in
      let fine : Fine size store' new =
      record {
        space = fit.0;
        pc = fit.1;
        count = fit.2;
        some = a;
        inside = f;
        holds = splice_there store new.start new.code (rw g.long f);
      } in
      let v : Views size store' (sweep (entry_of new) (entries - 1) g.es) (take (entries - 1) kept_bs) =
      stays new (kept size store new g.long f) (entries - 1) g.views in
      let room = Index.room_left m (entry_of new) (entries - 1) (used m) in
      let most = Index.slack entries room in
      let c = compacts most size (Index.swept m (entry_of new) (entries - 1) (used m)) store'
      (sweep (entry_of new) (entries - 1) g.es) (take (entries - 1) kept_bs) (slack-lt entries room) g.small
      (rw (length-take (entries - 1) kept_bs) (omega arith))
      (sweeping m (entry_of new) (entries - 1) g.es g.lists) v in
      rw (roomy entries kept_bs some.0 n) record {
        es = entry_of new ∷ c.0;
        lists = pushing (compacted most (Index.swept m (entry_of new) (entries - 1) (used m))) c.0 (entry_of new)
            c.1 c.3 a (fits g.small fine);
        views = live fine c.2;
        top = a;
        few = rw (length-take (entries - 1) kept_bs) (omega arith);
        long = length-splice store new.start new.code (rw g.long f) ∙ g.long;
        small = g.small;
      }

-- a store changed where no block is, as by another hart
pub elsewhere : {size : ℕ} {store : List ℕ} {es : List Entry} {bs : List Block} (b : Block) → length store ≡ size
    → end b ≤ size
    → All (λ c. overlap b c ≡ false) bs → Views size store es bs → Views size (splice store b.start b.code) es bs
elsewhere b l h a none = none
elsewhere b l h a (dead z v) = dead z (elsewhere b l h a v)
elsewhere {size = size} {store = store} b l h a (live {b = c} f v) =
    live (kept size store b l h c a.0 f) (elsewhere b l h a.1 v)

module _ {size : ℕ} {m store : List ℕ} {bs : List Block} (g : Good index_entries size m store bs)
    (space pc count : ℕ) (code : List ℕ)
    (fit : (space < 2 ^ 64) × (pc < 2 ^ 64) × (count < 2 ^ 8)) where
  abbrev new : Block
  new = Model.block size bs space pc count code

  start_is : start_for m (length store) (length code) ≡ new.start
  start_is = rw (g.long, last_is size (last_le g.views g.top) g)

  placing : 0 < length code → length code ≤ size
      → Good index_entries size (Index.placed index_entries m (entry_of new)) (splice store new.start code)
      (Model.placed index_entries bs new)
  placing a b = inserting (omega arith, omega arith) g new fit a (fitting size bs (length code) b)

  record Step (r : Result) (refused : Bool) : Type 0 where
    good : Good index_entries size r.index r.store (cond refused bs (Model.placed index_entries bs new))
    answer : r.answer ≡ cond refused (record { refusal = Refusals.code_length; start = 0 }) (record { refusal = Refusals.accepted; start = new.start })

  step : Step (Index.place m store space pc count code) (Model.refused size (length code))
  step =
      let e : Model.refused (length store) (length code) ≡ Model.refused size (length code) = rw g.long in
      rw (place_is m store space pc count code, e)
      (by_test (λ (t : Bool). Step (outcome t m store space pc count code) t) (Model.refused size (length code)) (λ q. record { good = g; answer = refl })
      (λ q.
      let a = accepted size (length code) q in
      rw start_is record { good = placing a.0 a.1; answer = refl }))

-- ---- histories

pub blank : {entries size : ℕ} (m store : List ℕ) → length m ≡ index_bytes → length store ≡ size → size < 2 ^ 64
    → Good entries size (emptied m) store []
blank m store l k h = record { es = []; lists = empties m l; views = none; top = tt; few = omega arith; long = k; small = h }

call : (size : ℕ) (s : State) (bs : List Block) (c : Call) → History.Fits c
    → Good index_entries size s.index s.store bs
    → Good index_entries size (after_call s c).index (after_call s c).store (blocks_call size bs c)
call size s bs Call.empty f g = blank s.index s.store g.lists.long g.long g.small
call size s bs (Call.place space pc count code) f g = (step g space pc count code f).good
call size s bs (Call.lookup space pc) f g = g

good : {size : ℕ} {s : State} {bs : List Block} → Reached size s bs → Good index_entries size s.index s.store bs
good (begun index store l k h) = blank index store l k h
good (called {s = s} {bs = bs} r c f) = call _ s bs c f (good r)

lookup_is : (m : List ℕ) (space pc k : ℕ) → k ≡ 1023
    → Index.lookup m space pc ≡ Index.found_at m (walk m (Index.block_at m space pc) k (cell m (bucket space pc)))
unfolding Index.lookup
lookup_is m space pc k e =
    ap (λ (i : ℕ). Index.found_at m (walk m (Index.block_at m space pc) i (cell m (bucket space pc)))) (sym e)

pub looking : {entries size : ℕ} {m store : List ℕ} {bs : List Block} (space pc : ℕ) → Good entries size m store bs
    → Index.lookup m space pc ≡ Model.lookup bs space pc
looking {m = m} space pc g =
    let n = length g.es in
    rw (
      lookup_is m space pc (1023 - n + n) (omega (arith, g.lists.last)),
      g.lists.cells (bucket space pc) (bucket-lt space pc),
      walk_up m (Index.block_at m space pc) (1023 - n) n (head (bucket space pc) g.es)
          (head_le (bucket space pc) g.es),
    )
    (finds m space pc g.views g.lists.rows)

-- no two blocks have one key or share a byte, and each is aligned
distinct_call : (size : ℕ) (bs : List Block) (c : Call) → Distinct bs → Distinct (blocks_call size bs c)
distinct_call size bs Call.empty d = record { keys = tt; apart = tt; aligned = tt }
distinct_call size bs (Call.place space pc count code) d =
    let new = Model.block size bs space pc count code in
    by_test (λ (t : Bool). Model.refused size (length code) ≡ t → Distinct (cond t bs (Model.placed index_entries bs new)))
    (Model.refused size (length code)) (λ p q. d)
    (λ p q. distinct_placed bs new
    (start-aligned size bs (length code) d.aligned, (accepted size (length code) q).2) d) refl
distinct_call size bs (Call.lookup space pc) d = d

distinct : {size : ℕ} {s : State} {bs : List Block} → Reached size s bs → Distinct bs
distinct (begun index store l k h) = record { keys = tt; apart = tt; aligned = tt }
distinct (called {bs = bs} r c f) = distinct_call _ bs c (distinct r)

all-kept : {size : ℕ} {s : State} {bs : List Block} → Reached size s bs → Kept s.store bs
all-kept {s = s} r =
    let g = good r in
    let d = distinct r in
    record {
      few = g.few;
      keys = d.keys;
      apart = d.apart;
      aligned = d.aligned;
      inside = all_fine (λ b. end b ≤ length s.store) (λ b f. rw g.long f.inside) g.views;
      code = all_fine (History.Holds s.store) (λ b f. f.holds) g.views;
    }

pub looks : (index : List ℕ) (space pc : ℕ) (r : Found) → r ≡ Index.lookup index space pc → Looks index space pc r
looks index space pc r e =
    record {
      bytes = e;
      history = λ h q. e ∙ rw q (looking space pc (good h));
      kept = λ h q. all-kept h;
    }

pub places : (index store : List ℕ) (space pc count : ℕ) (code : List ℕ) (r : Placed) (index' store' : List ℕ)
    → space < 2 ^ 64 → pc < 2 ^ 64 → count < 2 ^ 8
    → Index.result r index' store' ≡ Index.place index store space pc count code
    → Places index store space pc count code r index' store'
places index store space pc count code r index' store' a b c e =
    record {
      bytes = e;
      history = λ h p q. ap (λ (x : Result). x.answer) e ∙ rw (p, q) (step (good h) space pc count code (a, b, c)).answer;
      kept = λ h p q.
          rw (ap (λ (x : Result). x.store) e, p, q) (all-kept (called h (Call.place space pc count code) (a, b, c)));
    }
