-- Document 02's line, by computation. Assumes nothing.
use mathlib.Core.Path.{◌≡◌, refl}
use mathlib.Core.List.{◌∷◌, []}
use Rattle.le.specs.Le.{numbers, number}
use Rattle.ascii.specs.Ascii.{ascii, hex, decimal_in}
use Rattle.a64.specs.Forms.{decode}
use Rattle.a64_text.specs.Operands.{register, operand}
use Rattle.a64_text.specs.Text.{further, text}
use Rattle.listing.specs.Listing.{lines, block_lines, line, listing}

-- MOVZ X0 with 4,098
sample : listing (block_lines (0x40 ∷ 0x00 ∷ 0x82 ∷ 0xd2 ∷ [])) ≡ ascii "00000000 d2820040 movz x0, #4098, lsl #0\n"
unfolding numbers number decode hex decimal_in register operand further text lines line listing
sample = refl
