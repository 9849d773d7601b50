-- What the operations promise over several calls (document 02, No. 2): from the empty index on, where only these calls
-- change it and its store and each gets the last state.
use Rattle.std.specs.Prelude.{ℕ, ◌%◌, ◌^◌, ◌≤◌, ◌<◌, ◌≡◌, Bool, false, cond, List, [], ◌∷◌, length, take, drop}
use Rattle.rules.specs.Limits.{index_entries}
use Rattle.block_log.specs.Log.{index_bytes, emptied}
use Rattle.block_index.specs.Model as Model
use Rattle.block_index.specs.Model.{Block}
use Rattle.block_index.specs.Index as Index
use Rattle.block_index.specs.Model.{Placed}
use Rattle.block_index.specs.Model.{Found}

-- a call, refused or not
pub data Call : Type 0 where
  empty : Call
  place : (space pc count : ℕ) (code : List ℕ) → Call
  lookup : (space pc : ℕ) → Call

-- its numbers have the boundary's widths
abbrev pub Fits : Call → Type 0
Fits empty = Unit {0}
Fits (place space pc count code) = (space < 2 ^ 64) × (pc < 2 ^ 64) × (count < 2 ^ 8)
Fits (lookup space pc) = Unit {0}

-- ---- the bytes

pub record State : Type 0 where
  pub index : List ℕ
  pub store : List ℕ

abbrev pub after_call : State → Call → State
after_call s empty = record { index = emptied s.index; store = s.store }
after_call s (place space pc count code) =
    let r = Index.place s.index s.store space pc count code in
    record { index = r.index; store = r.store }
after_call s (lookup space pc) = s

-- ---- the model

abbrev pub blocks_call : ℕ → List Block → Call → List Block
blocks_call size bs empty = []
blocks_call size bs (place space pc count code) =
    cond (Model.refused size (length code)) bs (Model.placed index_entries bs (Model.block size bs space pc count code))
blocks_call size bs (lookup space pc) = bs

-- ---- histories

-- the states that calls lead to, with the model's blocks: an index of any bytes, emptied, with its store; and what a
-- call makes of the last state
pub data Reached (size : ℕ) : State → List Block → Type 0 where
  begun : (index store : List ℕ) → length index ≡ index_bytes → length store ≡ size → size < 2 ^ 64
      → Reached size (record { index = emptied index; store = store }) []
  called : {s : State} {bs : List Block} → Reached size s bs → (c : Call) → Fits c
      → Reached size (after_call s c) (blocks_call size bs c)

-- ---- the blocks

-- of every element
abbrev pub All : {A : Type 0} → (A → Type 0) → List A → Type 0
All P [] = Unit {0}
All P (x ∷ xs) = P x × All P xs

-- of no block and an older one
abbrev pub Never : (Block → Block → Bool) → List Block → Type 0
Never test [] = Unit {0}
Never test (b ∷ bs) = All (λ c. test b c ≡ false) bs × Never test bs

-- the store has a block's code
abbrev pub Holds : List ℕ → Block → Type 0
Holds store b = take (length b.code) (drop b.start store) ≡ b.code

-- a block of whole words, at a whole word
abbrev pub Aligned : Block → Type 0
Aligned b = (b.start % 4 ≡ 0) × (length b.code % 4 ≡ 0)

-- what holds of the blocks and the store after any calls
pub record Kept (store : List ℕ) (bs : List Block) : Type 0 where
  pub few : length bs ≤ index_entries
  -- no two under one key
  pub keys : Never Model.same_key bs
  -- no two share a byte
  pub apart : Never Model.overlap bs
  pub aligned : All Aligned bs
  pub inside : All (λ b. Model.end b ≤ length store) bs
  pub code : All (Holds store) bs

-- ---- promises

-- of a lookup in an index, and its answer
pub record Looks (index : List ℕ) (space pc : ℕ) (r : Found) : Type 0 where
  -- for any bytes
  pub bytes : r ≡ Index.lookup index space pc
  -- after any calls: the block that was placed last under the key and not dropped
  pub history : {size : ℕ} {s : State} {bs : List Block} → Reached size s bs → index ≡ s.index
      → r ≡ Model.lookup bs space pc
  -- whose code the store has, as every block's
  pub kept : {size : ℕ} {s : State} {bs : List Block} → Reached size s bs → index ≡ s.index → Kept s.store bs

-- of a placing in an index and a store, its answer, and both afterwards
pub record Places (index store : List ℕ) (space pc count : ℕ) (code : List ℕ) (r : Placed) (index' store' : List ℕ) : Type 0 where
  -- for any bytes
  pub bytes : Index.result r index' store' ≡ Index.place index store space pc count code
  -- after any calls: where the block is, or its refusal
  pub history : {size : ℕ} {s : State} {bs : List Block} → Reached size s bs → index ≡ s.index → store ≡ s.store
      → r ≡ Model.place size bs (length code)
  -- the store has the code of every block that is not dropped, and the new one's
  pub kept : {size : ℕ} {s : State} {bs : List Block} → Reached size s bs → index ≡ s.index → store ≡ s.store
      → Kept store' (blocks_call size bs (place space pc count code))
