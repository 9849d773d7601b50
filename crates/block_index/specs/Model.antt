-- The index as document 02, No. 2, has it: the blocks that were placed and not dropped, the newest first. Nothing of its bytes.
use Rattle.std.specs.Prelude.{ℕ, ◌+◌, ◌-◌, ◌%◌, Bool, cond, not, ◌&&◌, ◌||◌, List, [], ◌∷◌, eqb, ltb, length, take, Result, Ok, Err}
use Rattle.rules.specs.Refusals as Refusals
use Rattle.rules.specs.declared.refusals.Refusal.{Refusal}
use Rattle.block_log.specs.declared.Entry.{Entry}

-- the refusal, 0 where the code was placed; where it starts
pub record Placed : Type 0 where
  pub refusal : ℕ
  pub start : ℕ

-- the refusal, 0 where the block was found; where its code starts, its length, its count of guest instructions
pub record Found : Type 0 where
  pub refusal : ℕ
  pub start : ℕ
  pub length : ℕ
  pub count : ℕ

-- the code's answers as numbers
abbrev pub place_answer : Result ℕ Refusal → Placed
place_answer (Ok start) = record { refusal = Refusals.accepted; start = start }
place_answer (Err r) = record { refusal = Refusals.number r; start = 0 }

abbrev pub lookup_answer : Result Entry Refusal → Found
lookup_answer (Ok e) = record { refusal = Refusals.accepted; start = e.start; length = e.length; count = e.count }
lookup_answer (Err r) = record { refusal = Refusals.number r; start = 0; length = 0; count = 0 }

-- a block under its key, space and PC; where its code starts in the store; its count of guest instructions
pub record Block : Type 0 where
  pub space : ℕ
  pub pc : ℕ
  pub start : ℕ
  pub count : ℕ
  pub code : List ℕ

abbrev pub end : Block → ℕ
end b = b.start + length b.code

-- ---- placing

-- refusal 15, for a store of `size` bytes
abbrev pub refused : ℕ → ℕ → Bool
refused size n = eqb n 0 || (not (eqb (n % 4) 0) || ltb size n)

-- where the last block placed ends, 0 where the index is empty
abbrev pub last_end : List Block → ℕ
last_end [] = 0
last_end (last ∷ older) = end last

-- the rule: after the last block, or to the front where the rest is too short
abbrev pub start_after : ℕ → ℕ → ℕ → ℕ
start_after size last n = cond (ltb size (last + n)) 0 last

-- where a new block of n bytes goes. This is chosen before anything is dropped
abbrev pub start : ℕ → List Block → ℕ → ℕ
start size bs n = start_after size (last_end bs) n

abbrev pub has_key : ℕ → ℕ → Block → Bool
has_key space pc b = eqb b.space space && eqb b.pc pc

abbrev pub same_key : Block → Block → Bool
same_key a b = has_key a.space a.pc b

-- whether two blocks share a byte
abbrev pub overlap : Block → Block → Bool
overlap a b = ltb b.start (end a) && ltb a.start (end b)

-- the blocks of which a test is false
abbrev pub without : (Block → Bool) → List Block → List Block
without test [] = []
without test (b ∷ bs) = cond (test b) (without test bs) (b ∷ without test bs)

-- without the oldest, if there are as many as the index has entries
abbrev pub with_room : ℕ → List Block → List Block
with_room entries bs = cond (ltb (length bs) entries) bs (take (length bs - 1) bs)

-- dropped are the block under the same key, then every one that the new one overlaps, then the oldest if the index is still
-- full, and no other
abbrev pub placed : ℕ → List Block → Block → List Block
placed entries bs b = b ∷ with_room entries (without (overlap b) (without (same_key b) bs))

-- the new block of a placing
abbrev pub block : ℕ → List Block → ℕ → ℕ → ℕ → List ℕ → Block
block size bs space pc count code =
    record { space = space; pc = pc; start = start size bs (length code); count = count; code = code }

-- what placing answers
abbrev pub place : ℕ → List Block → ℕ → Placed
place size bs n =
    cond (refused size n) (record { refusal = Refusals.code_length; start = 0 }) (record { refusal = Refusals.accepted; start = start size bs n })

-- ---- lookup

abbrev pub no_block : Found
no_block = record { refusal = Refusals.no_block; start = 0; length = 0; count = 0 }

abbrev pub found : Block → Found
found b = record { refusal = Refusals.accepted; start = b.start; length = length b.code; count = b.count }

-- what a lookup answers
abbrev pub lookup : List Block → ℕ → ℕ → Found
lookup [] space pc = no_block
lookup (b ∷ bs) space pc = cond (has_key space pc b) (found b) (lookup bs space pc)
