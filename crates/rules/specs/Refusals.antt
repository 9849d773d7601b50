-- The refusals by number, document 01's and those of its requests: the one table. The definitions and the code name them; tools/numbers holds the header and the crate to it.
use Rattle.std.specs.Prelude.{ℕ}
use Rattle.rules.specs.declared.refusals.Refusal.{Refusal}

abbrev pub accepted : ℕ
accepted = 0

-- slot offset not a multiple of 8 or above 32,512
abbrev pub slot_offset : ℕ
slot_offset = 1

-- limit 0
abbrev pub limit_zero : ℕ
limit_zero = 2

-- odd PC
abbrev pub odd_pc : ℕ
odd_pc = 3

-- the first instruction lacks a halfword
abbrev pub not_fetched : ℕ
not_fetched = 4

-- the first instruction is neither inline nor helper (RV64 run: not inline)
abbrev pub not_covered : ℕ
not_covered = 5

-- the output is shorter than the block's bytes
abbrev pub output_short : ℕ
output_short = 6

-- used exceeds the store
abbrev pub used_exceeds_store : ℕ
used_exceeds_store = 7

-- the start plus the code length exceeds the store
abbrev pub code_exceeds_store : ℕ
code_exceeds_store = 8

-- 9 is free, and stays so: document 02, No. 6

-- block length not a multiple of 4
abbrev pub block_length : ℕ
block_length = 10

-- memory base plus memory length exceeds 2^64
abbrev pub memory_exceeds_top : ℕ
memory_exceeds_top = 11

-- block length not a multiple of 4 or above 2^32
abbrev pub listing_length : ℕ
listing_length = 12

-- a word outside the forms
abbrev pub outside_forms : ℕ
outside_forms = 13

-- the output is shorter than the listing
abbrev pub listing_short : ℕ
listing_short = 14

-- the code's length is zero, not a multiple of 4 or beyond the store
abbrev pub code_length : ℕ
code_length = 15

-- no block under this key
abbrev pub no_block : ℕ
no_block = 16

-- of a refusal of the code
abbrev pub number : Refusal → ℕ
number Refusal.SlotOffset = slot_offset
number Refusal.LimitZero = limit_zero
number Refusal.OddPc = odd_pc
number Refusal.NotFetched = not_fetched
number Refusal.NotCovered = not_covered
number Refusal.OutputShort = output_short
number Refusal.UsedExceedsStore = used_exceeds_store
number Refusal.CodeExceedsStore = code_exceeds_store
number Refusal.BlockLength = block_length
number Refusal.MemoryExceedsTop = memory_exceeds_top
number Refusal.ListingLength = listing_length
number Refusal.OutsideForms = outside_forms
number Refusal.ListingShort = listing_short
number Refusal.CodeLength = code_length
number Refusal.NoBlock = no_block
