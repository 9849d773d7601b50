use native.Mathlib.Omega.{arith}
use mathlib.Core.Path.{ap}
use lib.ListN.{length, length-append}
use Rattle.ascii.proofs.Writing.{then}
use Rattle.ascii.proofs.Numbers.{hex-length}
use Rattle.a64.specs.declared.Form.{Form}
use Rattle.a64_text.specs.Text.{syntax, text}
use Rattle.listing.specs.Listing.{line}
use Rattle.listing.proofs.Lines.{readable}
use Rattle.listing.proofs.put_line.Goals as goal

pub hex8-requires : goal.hex8-requires
unfolding line
hex8-requires c = omega (arith, simp length-append at c.requires.0, hex-length 8 c.args.offset, hex-length 8 c.args.w)

pub byte-requires : goal.byte-requires
unfolding line
byte-requires c = omega (arith, simp length-append at c.requires.0, hex-length 8 c.args.offset, hex-length 8 c.args.w)

pub hex8-requires-2 : goal.hex8-requires-2
unfolding line
hex8-requires-2 c = omega (arith, simp length-append at c.requires.0, hex-length 8 c.args.offset, hex-length 8 c.args.w)

pub byte-requires-2 : goal.byte-requires-2
unfolding line
byte-requires-2 c = omega (arith, simp length-append at c.requires.0, hex-length 8 c.args.offset, hex-length 8 c.args.w)

pub put_text-requires : goal.put_text-requires
unfolding line
put_text-requires c = rw c.decode_readable.ensures (omega (arith, simp length-append at c.requires.0, hex-length 8 c.args.offset, hex-length 8 c.args.w), readable _ c.requires.1)

pub byte-requires-3 : goal.byte-requires-3
unfolding line
byte-requires-3 c = omega (arith, simp length-append at c.requires.0, hex-length 8 c.args.offset, hex-length 8 c.args.w, ap (λ (f : Form). length (text (syntax f))) c.decode_readable.ensures)

pub returns : goal.returns
unfolding line
returns c = then c.hex8.ensures (then c.byte.ensures (then c.hex8-2.ensures (then c.byte-2.ensures (then (rw c.decode_readable.ensures at c.put_text.ensures) c.byte-3.ensures))))
