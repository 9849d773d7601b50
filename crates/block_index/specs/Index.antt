-- What each operation of the index does to its bytes and the store's, for any bytes. specs/Log.antt of block_log has the layout.
use Rattle.std.specs.Prelude.{ℕ, zero, suc, ◌+◌, ◌-◌, ◌*◌, Bool, cond, not, ◌&&◌, ◌||◌, List, eqb, ltb, length}
use Rattle.le.specs.Le.{splice}
use Rattle.rules.specs.Limits.{index_entries}
use Rattle.rules.specs.Refusals as Refusals
use Rattle.block_log.specs.declared.Entry.{Entry}
use Rattle.block_log.specs.Log.{slots, bucket, cell, used, emptied, space_at, pc_at, start_at, length_at, count_at, entry_at, tombstone, walk, dropped, pushed}
use Rattle.block_index.specs.Model as Model
use Rattle.block_index.specs.Model.{Placed}
use Rattle.block_index.specs.Model.{Found}

-- ---- lookup

abbrev pub key_at : List ℕ → ℕ → ℕ → ℕ → Bool
key_at m space pc p = eqb (space_at m p) space && eqb (pc_at m p) pc

-- whether the block under a key stands at a slot; a tombstone is no block, in whatever chain
abbrev pub block_at : List ℕ → ℕ → ℕ → ℕ → Bool
block_at m space pc p = key_at m space pc p && not (tombstone m p)

-- the slot of the block under a key, 0 where there is none
abbrev pub slot_of : List ℕ → ℕ → ℕ → ℕ
slot_of m space pc = walk m (block_at m space pc) (slots - 1) (cell m (bucket space pc))

abbrev pub found_at : List ℕ → ℕ → Found
found_at m p =
    cond (eqb p 0) Model.no_block
    (record { refusal = Refusals.accepted; start = start_at m p; length = length_at m p; count = count_at m p })

unfoldable pub lookup : List ℕ → ℕ → ℕ → Found
unfolding walk
lookup m space pc = found_at m (slot_of m space pc)

-- ---- placing

-- where the last block placed ends, 0 where there is none that ends at the bound or before
abbrev pub last_end : List ℕ → ℕ → ℕ
last_end m bound =
    let e = start_at m (used m) + length_at m (used m) in
    cond (eqb (used m) 0) 0 (cond (ltb bound e) 0 e)

-- where a block of n bytes goes
abbrev pub start_for : List ℕ → ℕ → ℕ → ℕ
start_for m size n = Model.start_after size (last_end m size) n

-- whether the block at a slot shares a byte with those from start up to end
abbrev pub overlap_at : List ℕ → ℕ → ℕ → ℕ → Bool
overlap_at m start end p = ltb (start_at m p) end && ltb start (start_at m p + length_at m p)

-- whether a new block evicts the one at a slot: it has its key or shares a byte
abbrev pub evicts : List ℕ → Entry → ℕ → Bool
evicts m e p = key_at m e.space e.pc p || overlap_at m e.start (e.start + e.length) p

-- a slot without the block that is evicted, or for which there is no room, and for how many others there is room then
abbrev pub swept_at : List ℕ → Entry → ℕ → ℕ → List ℕ
swept_at m e room p = cond (tombstone m p) m (cond (eqb room 0 || evicts m e p) (dropped m p) m)

abbrev pub room_at : List ℕ → Entry → ℕ → ℕ → ℕ
room_at m e room p = cond (tombstone m p) room (cond (eqb room 0 || evicts m e p) room (room - 1))

-- slots k to 1 without the blocks that are evicted
unfoldable pub swept : List ℕ → Entry → ℕ → ℕ → List ℕ
swept m e room zero = m
swept m e room (suc k) = swept (swept_at m e room (suc k)) e (room_at m e room (suc k)) k

-- for how many others there is room then
unfoldable pub room_left : List ℕ → Entry → ℕ → ℕ → ℕ
room_left m e room zero = room
room_left m e room (suc k) = room_left (swept_at m e room (suc k)) e (room_at m e room (suc k)) k

-- the slots that may be used before the blocks move together: twice the blocks, and a few
abbrev pub slack : ℕ → ℕ → ℕ
slack entries room = cond (ltb (entries - room) 480) (2 * (entries - room) + 62) 1022

-- the block of a slot, pushed again
abbrev pub reinserted_at : List ℕ → ℕ → List ℕ
reinserted_at m p = cond (tombstone m p) m (pushed m (entry_at m p))

-- those of the k slots from p on
unfoldable pub reinserted : List ℕ → ℕ → ℕ → List ℕ
unfolding pushed
reinserted m zero p = m
reinserted m (suc k) p = reinserted (reinserted_at m p) k (p + 1)

-- a log with more than so many slots used moves together
abbrev pub compacted : ℕ → List ℕ → List ℕ
compacted most m = cond (ltb most (used m)) (reinserted (emptied m) (used m) 1) m

-- the new block after those that stay
abbrev pub placed : ℕ → List ℕ → Entry → List ℕ
placed entries m e =
    pushed (compacted (slack entries (room_left m e (entries - 1) (used m))) (swept m e (entries - 1) (used m))) e

-- the operation's answer, the index and the store afterwards
pub record Result : Type 0 where
  pub answer : Placed
  pub index : List ℕ
  pub store : List ℕ

abbrev pub result : Placed → List ℕ → List ℕ → Result
result a m store = record { answer = a; index = m; store = store }

abbrev pub placed_at : List ℕ → List ℕ → ℕ → ℕ → ℕ → List ℕ → ℕ → Result
placed_at m store space pc count code at =
    result (record { refusal = Refusals.accepted; start = at })
    (placed index_entries m (record { space = space; pc = pc; start = at; length = length code; count = count }))
    (splice store at code)

unfoldable pub place : List ℕ → List ℕ → ℕ → ℕ → ℕ → List ℕ → Result
unfolding swept room_left reinserted
place m store space pc count code =
    cond (Model.refused (length store) (length code)) (result (record { refusal = Refusals.code_length; start = 0 }) m store)
    (placed_at m store space pc count code (start_for m (length store) (length code)))
