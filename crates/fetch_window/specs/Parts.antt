-- What the functions of this crate promise one another; no operation's contract reaches it.
-- The fetch window. Document 01, Translate: "guest bytes (little-endian halfwords, the first at the start PC; a lone last
-- byte is no halfword)"; rule 1: "PC sums pass from the top of 64 bits to zero".
use Rattle.std.specs.Prelude.{ℕ, ◌+◌, cond, List, leb, length, Option, Some, None}
use Rattle.word.specs.Word.{sub}
use Rattle.le.specs.Le.{load}

-- what is read, or none
abbrev pub Read : Type 0
Read = Option ℕ

-- where two bytes are left at index i
unfoldable pub halfword_at : List ℕ → ℕ → Read
halfword_at bytes i = cond (leb (i + 2) (length bytes)) (Some (load 2 bytes i)) None

-- the index of a PC
abbrev pub index : ℕ → ℕ → ℕ
index start pc = sub pc start

abbrev pub read_u16 : List ℕ → ℕ → ℕ → Read
read_u16 bytes start pc = halfword_at bytes (index start pc)
