use Prim.Native.Nat.{◌+◌}
use native.Mathlib.Omega.{arith}
use lib.ListN.{length}
use borrow.Author.Tests.{le-leb, lt-leb}
use Rattle.fetch_window.specs.Parts.{halfword_at}
use Rattle.fetch_window.proofs.halfword_at.Goals as goal

pub returns-then-n-lt2 : goal.returns-then-n-lt2
unfolding halfword_at
returns-then-n-lt2 c = let a = c.args in rw (lt-leb (a.i + 2) (length a.bytes.now) (omega arith))

pub returns-then-n-i : goal.returns-then-n-i
unfolding halfword_at
returns-then-n-i c = let a = c.args in rw (lt-leb (a.i + 2) (length a.bytes.now) (omega arith))

pub returns : goal.returns
unfolding halfword_at
returns c = let a = c.args in rw (c.load.ensures, le-leb (a.i + 2) (length a.bytes.now) (omega arith))
