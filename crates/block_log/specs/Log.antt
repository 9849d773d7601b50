-- The bytes of an index: a log of slots, each with what an entry holds, in the order of placing, and for each bucket of
-- the hash a chain through those of its slots that have a block, the newest first. Numbers are little-endian.
--
-- Bytes 0 to 4,095 are 2,048 cells of 2 bytes: cell b is the head of bucket b's chain. The cell after them is the last
-- slot used; it stands in the room of slot 0, which holds no block. Slot p, 1 to 1,023, has 40 bytes at 4,096 + 40 p:
-- space, PC, start and length of 8 bytes each, the next slot of its bucket's chain in 2, the count; 5 are not used. A
-- length of 0 is a tombstone: the block was dropped, and the slot is in no chain. Slot 0 is no slot, so that a chain
-- ends there. A slot's number is taken modulo 1,024, so that any bytes are a log.
use Rattle.std.specs.Prelude.{ℕ, zero, suc, ◌+◌, ◌-◌, ◌*◌, ◌%◌, Bool, cond, List, ◌++◌, eqb, drop}
use Rattle.le.specs.Le.{bytes, load, store}
use Rattle.fnv1a.specs.Fnv1a.{fnv1a}
use Rattle.block_log.specs.declared.Entry.{Entry}

abbrev pub buckets : ℕ
buckets = 2048

-- with slot 0
abbrev pub slots : ℕ
slots = 1024

abbrev pub slot_bytes : ℕ
slot_bytes = 40

abbrev pub index_bytes : ℕ
index_bytes = 2 * buckets + slot_bytes * slots

-- ---- cells

-- document 02, No. 2: 32-bit FNV-1a over the key's 16 little-endian bytes, space first
unfoldable pub bucket : ℕ → ℕ → ℕ
bucket space pc = fnv1a (bytes 8 space ++ bytes 8 pc) % buckets

abbrev pub cell : List ℕ → ℕ → ℕ
cell m b = load 2 m (2 * b) % slots

abbrev pub used : List ℕ → ℕ
used m = cell m buckets

abbrev pub set_cell : List ℕ → ℕ → ℕ → List ℕ
set_cell m b p = store 2 m (2 * b) p

-- no slot used, no slot in a chain
abbrev pub emptied : List ℕ → List ℕ
emptied m = bytes (2 * buckets + 2) 0 ++ drop (2 * buckets + 2) m

-- ---- slots

abbrev pub at : ℕ → ℕ
at p = 2 * buckets + slot_bytes * p

abbrev pub space_at : List ℕ → ℕ → ℕ
space_at m p = load 8 m (at p)

abbrev pub pc_at : List ℕ → ℕ → ℕ
pc_at m p = load 8 m (at p + 8)

abbrev pub start_at : List ℕ → ℕ → ℕ
start_at m p = load 8 m (at p + 16)

abbrev pub length_at : List ℕ → ℕ → ℕ
length_at m p = load 8 m (at p + 24)

abbrev pub next_at : List ℕ → ℕ → ℕ
next_at m p = load 2 m (at p + 32) % slots

abbrev pub count_at : List ℕ → ℕ → ℕ
count_at m p = load 1 m (at p + 34)

abbrev pub entry_at : List ℕ → ℕ → Entry
entry_at m p =
    record { space = space_at m p; pc = pc_at m p; start = start_at m p; length = length_at m p; count = count_at m p }

unfoldable pub put : List ℕ → ℕ → Entry → ℕ → List ℕ
put m p e next =
    store 1
    (store 2
    (store 8 (store 8 (store 8 (store 8 m (at p) e.space) (at p + 8) e.pc) (at p + 16) e.start) (at p + 24) e.length)
    (at p + 32)
    next)
    (at p + 34)
    e.count

abbrev pub set_next : List ℕ → ℕ → ℕ → List ℕ
set_next m p next = store 2 m (at p + 32) next

abbrev pub tombstone : List ℕ → ℕ → Bool
tombstone m p = eqb (length_at m p) 0

-- ---- chains

-- the first slot of a chain that passes a test, 0 where none does: the chain goes on from slot p at slot k or below,
-- and its slots' numbers fall
unfoldable pub walk : List ℕ → (ℕ → Bool) → ℕ → ℕ → ℕ
walk m test zero p = 0
walk m test (suc k) p = cond (eqb p (suc k)) (cond (test p) p (walk m test k (next_at m p))) (walk m test k p)

-- the slot before p in the chain with this head
abbrev pub previous : List ℕ → ℕ → ℕ → ℕ
previous m head p = walk m (λ q. eqb (next_at m q) p) (slots - 1) head

-- slot p out of bucket b's chain: the cell or the slot that led to it leads to the next one. Where the chain does not
-- have p, slot 0's next is written, which no walk reads
unfoldable pub unlinked : List ℕ → ℕ → ℕ → List ℕ
unlinked m b p =
    cond (eqb (cell m b) p) (set_cell m b (next_at m p)) (set_next m (previous m (cell m b) p) (next_at m p))

-- the block at a slot is dropped
unfoldable pub dropped : List ℕ → ℕ → List ℕ
dropped m p = store 8 (unlinked m (bucket (space_at m p) (pc_at m p)) p) (at p + 24) 0

-- ---- the log

-- the slot after the last one used
abbrev pub fresh : List ℕ → ℕ
fresh m = used m % (slots - 1) + 1

-- an entry after the last slot used, the head of its bucket's chain
unfoldable pub pushed : List ℕ → Entry → List ℕ
unfolding bucket put
pushed m e =
    let p = fresh m in
    let b = bucket e.space e.pc in
    set_cell (set_cell (put m p e (cell m b)) b p) buckets p
