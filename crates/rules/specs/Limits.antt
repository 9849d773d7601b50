-- Limits of a block (document 01), and what follows from them.
use Rattle.std.specs.Prelude.{ℕ, ◌+◌, ◌-◌, ◌*◌}

-- rule 1: the most instructions of a block
abbrev pub max_instrs : ℕ
max_instrs = 64

-- the most words of an instruction inline, of one that a helper ends, and of the end of a block
abbrev pub inline_words : ℕ
inline_words = 30

abbrev pub helper_words : ℕ
helper_words = 30

abbrev pub end_words : ℕ
end_words = 6

-- of any one of them
abbrev pub instr_words : ℕ
instr_words = helper_words

-- what document 02, No. 7, allows an instruction, and with it a block of n instructions
abbrev pub most_words : ℕ
most_words = 40

abbrev pub longest : ℕ → ℕ
longest n = most_words * n + end_words

-- any block
abbrev pub max_words : ℕ
max_words = longest max_instrs

-- of a block in the short emitter: room for so many instructions and an end
abbrev pub short_instrs : ℕ
short_instrs = 8

abbrev pub short_words : ℕ
short_words = short_instrs * inline_words + end_words

-- refusal 1: the greatest slot offset. Slot 31 is then at the greatest offset of LDR and STR, 4,095 times 8
abbrev pub max_slot_offset : ℕ
max_slot_offset = 8 * (4095 - 31)

-- the most bytes of a line of a listing: `subs xzr, x30, x30, lsl #0` after two numbers of eight digits
abbrev pub longest_line : ℕ
longest_line = 45

-- the entries of an index (document 02, No. 2)
abbrev pub index_entries : ℕ
index_entries = 512
