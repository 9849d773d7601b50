-- No line is longer than the longest. Assumes nothing.
use mathlib.Core.Path.{◌≡◌, refl, ap}
use mathlib.Core.Bool.{false}
use mathlib.Core.List.{List, [], ◌∷◌}
use Prim.Native.Nat.{ℕ, zero, suc, ◌+◌, ◌*◌, ◌/◌, ◌≤◌}
use native.Mathlib.Omega.{arith}
use lib.ListN.{length, drop, length-append}
use Rattle.rules.specs.Limits.{longest_line}
use Rattle.le.specs.Le.{numbers, words}
use Rattle.a64.specs.Forms.{decode}
use Rattle.a64_text.proofs.Longest.{longest}
use Rattle.listing.specs.Listing.{lines, block_lines, line, listing, is_outside, any_outside}
use Rattle.listing.specs.Parts.{line_of}
use Rattle.listing.proofs.Lines.{readable, both_false, line-length}

pub line_bound : (at w : ℕ) → is_outside (decode w) ≡ false → length (line (line_of at w)) ≤ longest_line
line_bound at w h = rw (line-length (line_of at w)) (omega (arith, longest (decode w) (readable w h)))

length-numbers : (n : ℕ) (m : List ℕ) → length (numbers 4 n m) ≡ n
unfolding numbers
length-numbers zero m = refl
length-numbers (suc n) m = ap suc (length-numbers n (drop 4 m))

lines_bound : (at : ℕ) (ws : List ℕ) → any_outside (lines at ws) ≡ false → length (listing (lines at ws)) ≤ longest_line * length ws
unfolding lines any_outside listing
lines_bound at [] h = omega arith
lines_bound at (w ∷ ws) h =
    let b = both_false (is_outside (decode w)) (any_outside (lines (at + 4) ws)) h in
    rw (length-append (line (line_of at w)) (listing (lines (at + 4) ws)))
    (omega (arith, lines_bound (at + 4) ws b.1, line_bound at w b.0))

pub listing_bound : (block : List ℕ) → any_outside (block_lines block) ≡ false
    → length (listing (block_lines block)) ≤ longest_line * (length block / 4)
listing_bound block h = rw (length-numbers (length block / 4) block) at (lines_bound 0 (words block) h)
