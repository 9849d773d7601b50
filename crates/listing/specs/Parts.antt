-- What the functions of this crate promise one another; no operation's contract reaches it.
use Rattle.std.specs.Prelude.{ℕ, ◌+◌, ◌^◌, ◌≤◌, ◌≡◌, false, cond, List, [], ◌∷◌, length}
use Rattle.a64.specs.declared.Form.{Form}
use Rattle.a64.specs.Forms.{decode}
use Rattle.listing.specs.Listing.{Line, block_lines, is_outside, any_outside}

abbrev pub line_of : ℕ → ℕ → Line
line_of at w = record { offset = at; word = w; form = decode w }

-- 1 for a form that is none of the 30, else 0
abbrev pub outside : Form → ℕ
outside f = cond (is_outside f) 1 0

unfoldable pub outside_count : List Line → ℕ
outside_count [] = 0
outside_count (l ∷ ls) = outside l.form + outside_count ls

-- a block that is listed where the output is long enough
pub record Listable (block : List ℕ) : Type 0 where
  pub short : length block ≤ 2 ^ 32
  pub inside : any_outside (block_lines block) ≡ false
